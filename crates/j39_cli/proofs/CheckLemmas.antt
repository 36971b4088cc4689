-- Values that are checked one after the other.
use Rattle.std.proofs.Common.{◌≡◌, ◌++◌, ◌∷◌, [], List, Result, Ok, Err, IsErr, IsErrAnd, subst, sym}
use Rattle.j39_cli.specs.Answer.{AreChecked, Check, IsRead}
use Rattle.j39_cli.specs.declared.task.ParseFault.{ParseFault}

module _ {T U : Type 0} (Next : Result U ParseFault → Type 0) (xs ys : List Check) where
  -- the first ones are right, and others are checked behind them
  pub passed : (First : Result T ParseFault → Type 0) (x : T) (r : Result U ParseFault) → AreChecked xs First (Ok x)
      → (First (Ok x) → AreChecked ys Next r) → AreChecked (xs ++ ys) Next r
  passed First x r read next = go xs read
    where
      go : (zs : List Check) → AreChecked zs First (Ok x) → AreChecked (zs ++ ys) Next r
      go [] here = next here
      go (c ∷ cs) here = record { in_range = λ is. go cs (here.in_range is); wrong = λ no. absurd (here.wrong no) }

  -- one of the first is wrong, or what comes behind them is
  pub failed : (First : Result T ParseFault → Type 0) (e : ParseFault) → AreChecked xs First (Err e) → (First (Err e) → AreChecked ys Next (Err e))
      → AreChecked (xs ++ ys) Next (Err e)
  failed First e read next = go xs read
    where
      go : (zs : List Check) → AreChecked zs First (Err e) → AreChecked (zs ++ ys) Next (Err e)
      go [] here = next here
      go (c ∷ cs) here = record { in_range = λ is. go cs (here.in_range is); wrong = here.wrong }

  -- a `?` hands on which
  pub stopped : (Is : T → Type 0) (e : ParseFault) (r : Result U ParseFault) → AreChecked xs (IsRead Is) (Err e)
      → IsErr r × IsErrAnd r (λ f. f ≡ e) → AreChecked (xs ++ ys) Next r
  stopped Is e (Ok x) read is = absurd (cc (is.0))
  stopped Is e (Err f) read is =
      subst (λ (g : ParseFault). AreChecked (xs ++ ys) Next (Err g)) (sym is.1) (failed (IsRead Is) e read (λ no. absurd no))
