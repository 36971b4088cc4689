-- A claimed address was claimed by a frame that was taken.
use Rattle.j39_node.proofs.Common.{[], if◌then◌else◌, ◌++◌, ◌+◌, ◌∙◌, ◌∷◌, ◌≡◌, ◌≤◌, Address, address_after, Again, ap, AreAnswered, arith, At, Bool, Call, claim_address, claim_from, claim_of, Claimed, claimed, ClaimedSince, content, false, FrameRecord, Hear, is_claim, is_held, is_lost, is_smaller, IsTrue, List, Lost, moment, NeverBack, NoneUnclaims, NotClaimed, older, passed_in, refl, Some, step, subst, sym, TakeFrame, true, unclaimed, Who, ℕ, not_both, leb-true, claims_anew}
use Rattle.j39_node.specs.Since.{unclaims}
use Rattle.j39_node.proofs.SoundLemmas.{FrameCase, frame_case, same_age, address_cases}
use Rattle.j39_node.proofs.SoundLemmas.FrameCase.{claims}
use Rattle.j39_node.proofs.KindLemmas.{claims_it}

-- one call later
one_later : (w : Who) (H : List Call) (call : Call) (e d : ℕ) → ClaimedSince w H e → unclaims w call ≡ false → d ≡ e + step H (moment (call ∷ H))
    → ClaimedSince w (call ∷ H) d
one_later w H call e d h f g = record {
  later = call ∷ h.later;
  earlier = h.earlier;
  at = h.at;
  claim = h.claim;
  is = ap (λ G. call ∷ G) h.is;
  claims = h.claims;
  stays = (f, h.stays);
  passed = g ∙ (ap (λ (n : ℕ). n + step H (moment (call ∷ H))) h.passed
      ∙ ap (λ (G : List Call). passed_in h.later (At h.at (TakeFrame (Some h.claim)) ∷ h.earlier) + step G (moment (call ∷ G))) h.is);
}

-- the address that was claimed before
record Before (s d : ℕ) (a : Address) : Type 0 where
  pub elapsed : ℕ
  pub was : a ≡ Claimed elapsed
  pub is : d ≡ elapsed + s

before : (s d : ℕ) (a : Address) → older s a ≡ Claimed d → Before s d a
before s d (Claimed n) e = record { elapsed = n; was = refl; is = (let z : n + s ≡ d = cc in sym z) }
before s d a e = absurd (cc)

not_driven : (b : Bool) (s d : ℕ) (a : Address) → (if b then Lost else older s a) ≡ Claimed d → (b ≡ false) × (older s a ≡ Claimed d)
not_driven b s d a e = (grind (arith, e), grind (arith, e))

-- a call that only lets time pass
passes : (w : Who) (H : List Call) (call : Call) (d : ℕ) → ((n : ℕ) → address_after w H ≡ Claimed n → ClaimedSince w H n) → unclaims w call ≡ false
    → older (step H (moment (call ∷ H))) (address_after w H) ≡ Claimed d → ClaimedSince w (call ∷ H) d
passes w H call d h f e =
    let b = before (step H (moment (call ∷ H))) d (address_after w H) e in
    one_later w H call b.elapsed d (h b.elapsed b.was) f b.is

not_claimed : (a : Address) (d : ℕ) → unclaimed a ≡ Claimed d → ⊥
not_claimed a d e = grind (arith, e)

-- the first claim
begins : (w : Who) (H : List Call) (now : ℕ) (f : FrameRecord) → AreAnswered w H → FrameCase w H now f → is_claim f ≡ true → address_after w H ≡ NotClaimed
    → ClaimedSince w (At now (TakeFrame (Some f)) ∷ H) 0
begins w H now f right (claims o e) k a = record {
  later = [];
  earlier = H;
  at = now;
  claim = f;
  is = refl;
  claims = ap content e ∙ ap (λ (x : Address). claim_from w (claim_address w x)) a;
  stays = tt;
  passed = refl;
}
begins w H now f right case k a = absurd (not_both _ (claims_it w H now f right case) k)

taken : (w : Who) (H : List Call) (now d : ℕ) (f : FrameRecord) → AreAnswered w H → FrameCase w H now f
    → ((n : ℕ) → address_after w H ≡ Claimed n → ClaimedSince w H n)
    → (b : Bool) (a : Address) → is_claim f ≡ b → address_after w H ≡ a
    → (if b then claimed (older (step H now) a) else older (step H now) a) ≡ Claimed d → ClaimedSince w (At now (TakeFrame (Some f)) ∷ H) d
taken w H now d f right case h false a k i e =
    passes w H (At now (TakeFrame (Some f))) d h refl (ap (older (step H now)) i ∙ e)
taken w H now d f right case h true NotClaimed k i e =
    let z : 0 ≡ d = cc in subst (ClaimedSince w (At now (TakeFrame (Some f)) ∷ H)) z (begins w H now f right case k i)
taken w H now d f right case h true Lost k i e = absurd (cc)
taken w H now d f right case h true (Claimed n) k i e =
    let z : n + step H now ≡ d = cc in one_later w H (At now (TakeFrame (Some f))) n d (h n i) refl (sym z)

pub claimed_since : (w : Who) (H : List Call) (d : ℕ) → AreAnswered w H → address_after w H ≡ Claimed d → ClaimedSince w H d
claimed_since w [] d right e = absurd (cc)
claimed_since w (At when (Hear f) ∷ H) d right e =
    let n = not_driven (is_smaller w (claim_of f)) (step H when) d (address_after w H) e in
    passes w H (At when (Hear f)) d (λ k i. claimed_since w H k right.0 i) n.0 n.1
claimed_since w (At now (TakeFrame (Some f)) ∷ H) d right e =
    taken w H now d f right.0 (frame_case w H now f right.1) (λ k i. claimed_since w H k right.0 i) (is_claim f) (address_after w H) refl refl e
claimed_since w (At now Again ∷ H) d right e = absurd (not_claimed (older (step H now) (address_after w H)) d e)
claimed_since w (call ∷ H) d right e =
    passes w H call d (λ k i. claimed_since w H k right.0 i) refl (let z = same_age (moment H) (address_after w H) in cc)

pub held_cases : (s : ℕ) (a : Address) → is_held (older s a) ≡ true → (e : ℕ) × (a ≡ Claimed e) × (250000 ≤ e + s)
held_cases s (Claimed n) h = (n, refl, leb-true 250000 (n + s) h)
held_cases s a h = absurd (cc)

-- ---- an address that is claimed is held in time

-- it is lost, or was claimed so long ago
pub data Stands (a : Address) (p : ℕ) : Type 0 where
  gone : a ≡ Lost → Stands a p
  stands : (e : ℕ) → a ≡ Claimed e → p ≤ e → Stands a p

ages : (a b : Address) (s p : ℕ) → Stands a p → b ≡ older s a → Stands b (p + s)
ages a b s p (gone e) f = gone (f ∙ ap (older s) e)
ages a b s p (stands e g l) f = stands (e + s) (f ∙ ap (older s) g) (omega (arith, l))

claims_again : (a : Address) (p : ℕ) → Stands a p → Stands (claimed a) p
claims_again a p (gone e) = gone (ap claimed e)
claims_again a p (stands e g l) = stands e (ap claimed g) l

first_claim : (b : Bool) (a : Address) → b ≡ true → Stands (if b then claimed a else a) 0
first_claim false a e = absurd (cc)
first_claim true NotClaimed e = stands 0 refl (omega arith)
first_claim true (Claimed n) e = stands n refl (omega arith)
first_claim true Lost e = gone refl

pub stands_since : (w : Who) (later E : List Call) (at : ℕ) (f : FrameRecord) → is_claim f ≡ true → NoneUnclaims w later
    → Stands (address_after w (later ++ At at (TakeFrame (Some f)) ∷ E)) (passed_in later (At at (TakeFrame (Some f)) ∷ E))
stands_since w [] E at f k d = first_claim (is_claim f) (older (step E at) (address_after w E)) k
stands_since w (call ∷ later) E at f k d =
    let H = later ++ At at (TakeFrame (Some f)) ∷ E in
    let a = older (step H (moment (call ∷ H))) (address_after w H) in
    let p = passed_in (call ∷ later) (At at (TakeFrame (Some f)) ∷ E) in
    let h = ages (address_after w H) a (step H (moment (call ∷ H))) _ (stands_since w later E at f k d.1) refl in
    address_cases w H call (λ b. Stands b p) h (gone refl) (claims_again a p h) (λ z. absurd (not_both _ d.0 (anew_unclaims call z)))
  where
    anew_unclaims : (call : Call) → claims_anew call ≡ true → unclaims w call ≡ true
    anew_unclaims call e = grind (arith, e)

pub in_time : (s p : ℕ) (a : Address) → Stands a p → (IsTrue (is_lost a) → ⊥) → 250000 ≤ p + s → is_held (older s a) ≡ true
in_time s p a e f g = grind (arith, f, g)

-- ---- time

pub difference : (later earlier : List Call) → NeverBack later earlier → moment earlier + passed_in later earlier ≡ moment (later ++ earlier)
difference [] earlier n = omega arith
difference (call ∷ later) earlier n = let d = difference later earlier n.0 in let m = n.1 in omega (arith, d, m)

pub behind : (later earlier : List Call) → moment (later ++ earlier) ≤ moment earlier + passed_in later earlier
behind [] earlier = omega arith
behind (call ∷ later) earlier = let b = behind later earlier in omega (arith, b)
