-- When a frame is due.
use Rattle.j39_transfers.proofs.Common.{[], ◌+◌, ◌<◌, ◌∙◌, ◌∷◌, ◌≡◌, ◌≤◌, ◌||◌, ap, arith, Bool, due_in, false, find, goes, has_some, inl, inr, is_due, List, list_any, min, None, of, Option, refl, said, Some, soonest, sooner, sym, Transfer, TransfersRecord, true, turn, urgency, urgency_in, ◌⊎◌, ℕ}
use Rattle.j39_transport.specs.Sending.{send_step, sends_packet, ticks_in}
use Rattle.j39_transfers.specs.Transfers.{frame_by, frame_of}
use Rattle.j39_transfers.proofs.TurnLemmas.{first_due}

-- ---- one of them

due_before : (now later d : ℕ) (x : Transfer) → due_in now x ≡ Some d → now ≤ later → later < now + d → is_due later x ≡ false
unfolding send_step ticks_in sends_packet
due_before now later d x e l m = grind (arith, e, l, m)

due_then : (now d : ℕ) (x : Transfer) → due_in now x ≡ Some d → is_due (now + d) x ≡ true
unfolding send_step ticks_in sends_packet
due_then now d x e = grind (arith, e)

due_never : (now later : ℕ) (x : Transfer) → due_in now x ≡ None → is_due later x ≡ false
unfolding send_step ticks_in sends_packet
due_never now later x e = grind (arith, e)

-- ---- all of them

abbrev any_due : ℕ → List Transfer → Bool
any_due now = list_any (is_due now)

sooner_below : (a b : Option ℕ) (d : ℕ) → sooner a b ≡ Some d → ((a ≡ None) ⊎ ((m : ℕ) × (a ≡ Some m) × (d ≤ m))) × ((b ≡ None) ⊎ ((m : ℕ) × (b ≡ Some m) × (d ≤ m)))
sooner_below None None d e = absurd (cc)
sooner_below None (Some n) d e = (inl refl, inr (n, refl, (let h : n ≡ d = cc in omega (arith, h))))
sooner_below (Some m) None d e = (inr (m, refl, (let h : m ≡ d = cc in omega (arith, h))), inl refl)
sooner_below (Some m) (Some n) d e = let h : min m n ≡ d = cc in (inr (m, refl, omega (arith, h)), inr (n, refl, omega (arith, h)))

quiet_one : (now later d : ℕ) (x : Transfer) → (due_in now x ≡ None) ⊎ ((m : ℕ) × (due_in now x ≡ Some m) × (d ≤ m)) → now ≤ later → later < now + d → is_due later x ≡ false
quiet_one now later d x (inl e) l m = due_never now later x e
quiet_one now later d x (inr h) l m = let k = h.2 in due_before now later h.0 x h.1 l (omega (arith, m, k))

quiet_all : (now later d : ℕ) (xs : List Transfer) → (soonest now xs ≡ None) ⊎ ((m : ℕ) × (soonest now xs ≡ Some m) × (d ≤ m)) → now ≤ later → later < now + d → any_due later xs ≡ false
quiet_all now later d [] h l m = refl
quiet_all now later d (x ∷ xs) (inl e) l m =
    let p = both_none (due_in now x) (soonest now xs) e in
    (λ i. due_never now later x p.0 i || any_due later xs) ∙ quiet_all now later d xs (inl p.1) l m
  where
    both_none : (a b : Option ℕ) → sooner a b ≡ None → (a ≡ None) × (b ≡ None)
    both_none None None e = (refl, refl)
    both_none None (Some n) e = absurd (cc)
    both_none (Some n) None e = absurd (cc)
    both_none (Some n) (Some k) e = absurd (cc)
quiet_all now later d (x ∷ xs) (inr h) l m =
    let s = sooner_below (due_in now x) (soonest now xs) h.0 h.1 in
    let k = h.2 in
    let m2 : later < now + h.0 = omega (arith, m, k) in
    (λ i. quiet_one now later h.0 x s.0 l m2 i || any_due later xs) ∙ quiet_all now later h.0 xs s.1 l m2

sooner_is : (a b : Option ℕ) (d : ℕ) → sooner a b ≡ Some d → (a ≡ Some d) ⊎ (b ≡ Some d)
sooner_is a b d e = grind (arith, e)

loud : (now d : ℕ) (xs : List Transfer) → soonest now xs ≡ Some d → any_due (now + d) xs ≡ true
loud now d [] e = absurd (cc)
loud now d (x ∷ xs) e = go (loud now d xs) (sooner_is (due_in now x) (soonest now xs) d e)
  where
    go : (soonest now xs ≡ Some d → any_due (now + d) xs ≡ true) → (due_in now x ≡ Some d) ⊎ (soonest now xs ≡ Some d)
        → (is_due (now + d) x || any_due (now + d) xs) ≡ true
    go f (inl h) = let k = due_then now d x h in grind (arith, k)
    go f (inr h) = let k = f h in grind (arith, k)

-- ---- the one whose turn it is

no_urgency : (now : ℕ) (xs : List Transfer) → any_due now xs ≡ false → urgency now xs ≡ None
no_urgency now [] e = refl
no_urgency now (x ∷ xs) e = let h = no_urgency now xs in grind (arith, h, e)

none_goes : (now : ℕ) (xs : List Transfer) → find (goes now None) xs ≡ None
none_goes now [] = refl
none_goes now (x ∷ xs) = let h = none_goes now xs in grind (arith, h)

quiet : (now : ℕ) (xs : List Transfer) → any_due now xs ≡ false → turn now xs ≡ None
quiet now xs e = ap (λ (u : Option ℕ). find (goes now u) xs) (no_urgency now xs e) ∙ none_goes now xs

some_urgency : (now : ℕ) (xs : List Transfer) → any_due now xs ≡ true → has_some (urgency now xs) ≡ true
some_urgency now [] e = absurd (cc)
some_urgency now (x ∷ xs) e = let h = some_urgency now xs in grind (arith, h, e)

attained : (now m : ℕ) (xs : List Transfer) → urgency now xs ≡ Some m → has_some (find (goes now (Some m)) xs) ≡ true
attained now m [] e = absurd (cc)
attained now m (x ∷ xs) e = go (attained now m xs) (sooner_is (urgency_in now x) (urgency now xs) m e)
  where
    go : (urgency now xs ≡ Some m → has_some (find (goes now (Some m)) xs) ≡ true) → (urgency_in now x ≡ Some m) ⊎ (urgency now xs ≡ Some m)
        → has_some (find (goes now (Some m)) (x ∷ xs)) ≡ true
    go f (inl h) = grind (arith, h)
    go f (inr h) = let k = f h in grind (arith, k)

found : (now : ℕ) (xs : List Transfer) → any_due now xs ≡ true → has_some (turn now xs) ≡ true
found now xs e = go (urgency now xs) refl (some_urgency now xs e)
  where
    go : (u : Option ℕ) → urgency now xs ≡ u → has_some u ≡ true → has_some (find (goes now u) xs) ≡ true
    go None i h = absurd (cc)
    go (Some m) i h = attained now m xs i

its_any : (now a : ℕ) (xs : List Transfer) (x : Transfer) → of a xs ≡ Some x → is_due now x ≡ true → any_due now xs ≡ true
its_any now a [] x e d = absurd (cc)
its_any now a (z ∷ xs) x e d = let h = its_any now a xs x in grind (arith, h, e, d)

pub none_due : (now a : ℕ) (xs : List Transfer) (x : Transfer) → turn now xs ≡ None → of a xs ≡ Some x → is_due now x ≡ false
none_due now a xs x e o = go (is_due now x) refl
  where
    go : (b : Bool) → is_due now x ≡ b → b ≡ false
    go false d = refl
    go true d = absurd (let f = sym (ap has_some e) ∙ found now xs (its_any now a xs x o d) in cc)

pub none_before : (s : TransfersRecord) (now later d : ℕ) → soonest now s.running ≡ Some d → now ≤ later → later < now + d → said later s ≡ None
none_before s now later d e l m = ap (frame_by later) (quiet later s.running (quiet_all now later d s.running (inr (d, e, omega arith)) l m))

pub none_ever : (s : TransfersRecord) (now later : ℕ) → soonest now s.running ≡ None → now ≤ later → said later s ≡ None
none_ever s now later e l = ap (frame_by later) (quiet later s.running (quiet_all now later (later + 1) s.running (inl e) l (omega arith)))

pub one_then : (s : TransfersRecord) (now d : ℕ) → soonest now s.running ≡ Some d → has_some (said (now + d) s) ≡ true
one_then s now d e = go (turn (now + d) s.running) refl (found (now + d) s.running (loud now d s.running e))
  where
    says : (t : ℕ) (x : Transfer) → is_due t x ≡ true → has_some (frame_of t x) ≡ true
    says t x i = grind (arith, i)

    go : (o : Option Transfer) → turn (now + d) s.running ≡ o → has_some o ≡ true → has_some (frame_by (now + d) o) ≡ true
    go None i h = absurd (cc)
    go (Some y) i h = says (now + d) y (first_due (now + d) s.running y i)
