-- A newline, or one behind a CR.
use Rattle.std.proofs.Common.{Bor, ◌≡◌, ◌∷◌, [], ℕ, List, Option, Some, None, ap, ap₂, inl, inr, refl}
use Rattle.std.specs.Prelude.{IfSome}
use Rattle.j39_log.specs.FrameLine.{EndsAt}
use Rattle.j39_log.proofs.fast.reader.after_end.Goals as goal

behind : (end : ℕ) (rest : List ℕ) (found : Option (Bor (List ℕ))) → end ≡ 13 → IfSome found (λ later. rest ≡ 10 ∷ later.now) → IfSome found (λ later. EndsAt (end ∷ rest) later.now)
behind end rest None e h = tt
behind end rest (Some later) e h = record { flag = []; cr = 13 ∷ []; text_is = ap₂ (λ x xs. x ∷ xs) e h; flag_is = inl refl; cr_is = inr refl }

pub returns-in-10 : goal.returns-in-10
returns-in-10 c = record { flag = []; cr = []; text_is = ap (λ x. x ∷ c.args.rest.now) c.in-10.is; flag_is = inl refl; cr_is = inl refl }

pub returns-in-13 : goal.returns-in-13
returns-in-13 c = behind c.args.end c.args.rest.now c.after_newline.result c.in-13.is c.after_newline.ensures
