-- What is told of peers, one after another.
use Rattle.std.proofs.Common.{◌≡◌, ◌<◌, ◌≤◌, ◌↔◌, ◌∷◌, ℕ, List, Option, Some, None, length, get_or, replicate, sym, ap, ◌∙◌, subst, inl, inr, arith, true, false, nat_le, leb-true, le-leb}
use Rattle.std.proofs.lemmas.Bool.{cases_lt, cases_order}
use Rattle.std.proofs.lemmas.List.{get_or-replicate, get_or_past, length-replicate}
use Rattle.j39_address.specs.Claim.{Claim}
use Rattle.j39_frame.specs.Address.{IsAddress}
use Rattle.j39_address.specs.Holder.{IsHolderAfter}
use Rattle.j39_address.proofs.HolderLemmas.{none_above, same_address, same_holder}
use Rattle.j39_application.specs.Peers.{HeardSince, IsToldNext, NoneIsNew, Seen, Told, last_of, told_of}

-- of its address it was told last, and of another it changes nothing
pub told_here : (a : ℕ) (x : Told) (T : List Told) → a ≡ x.address → told_of a (x ∷ T) ≡ x.name
told_here a x T e = grind (arith, e)

pub told_there : (a : ℕ) (x : Told) (T : List Told) → (a ≡ x.address → ⊥) → told_of a (x ∷ T) ≡ told_of a T
told_there a x T n = grind (arith, n)

pub rising : (C : List (Option Claim)) (T : List Told) (x y : Told) → IsToldNext C T x → IsToldNext C (x ∷ T) y → x.address < y.address
rising C T x y h k = elim (cases_order x.address y.address) [
  | inl e ↦ absurd (k.other (k.was ∙ told_here y.address x T (sym e)
      ∙ same_holder C (length C) y.address x.name y.name (subst (λ (a : ℕ). IsHolderAfter C a x.name) e h.name) k.name))
  | inr o ↦ elim o [
    | inl l ↦ l
    | inr l ↦ absurd (k.other (k.was ∙ told_there y.address x T (λ e. omega (arith, e, l))
        ∙ same_holder C (length C) y.address (told_of y.address T) y.name (h.least y.address l) k.name))
  ]
]

-- where nothing is new a NAME stands at one address
pub at_one : (C : List (Option Claim)) (T : List Told) (a b n : ℕ) → NoneIsNew C T → IsAddress a → IsAddress b → told_of a T ≡ Some n
    → told_of b T ≡ Some n → a ≡ b
at_one C T a b n h la lb ea eb = same_address C (length C) n a b
    (subst (λ (x : Option ℕ). IsHolderAfter C a x) ea (h a la)) (subst (λ (x : Option ℕ). IsHolderAfter C b x) eb (h b lb))

-- nothing is there
pub zeros : (a : ℕ) → get_or (replicate {A = ℕ} 254 0) a 0 ≡ 0
zeros a = elim (cases_lt a 254) [
  | inl l ↦ get_or-replicate 254 a 0 0 l
  | inr l ↦ get_or_past (replicate 254 0) a 0 (let e : length (replicate {A = ℕ} 254 0) ≡ 254 = length-replicate {A = ℕ} 254 0 in omega arith)
]

-- what is held is an address
pub held_below : (C : List (Option Claim)) (a n : ℕ) → IsHolderAfter C a (Some n) → a < 254
held_below C a n h = elim (cases_lt a 254) [
  | inl l ↦ l
  | inr l ↦ absurd (let z : Some n ≡ None = same_holder C (length C) a (Some n) None h (none_above C (length C) a l) in cc)
]

-- who holds an address from which a frame came last at this moment
pub heard_since : (C : List (Option Claim)) (F : List Seen) (name moment m a last : ℕ) → m ≡ moment → IsHolderAfter C a (Some name)
    → last_of a F ≡ Some last → nat_le m last ≡ true ↔ HeardSince C F name moment
heard_since C F name moment m a last e h o = (
  (λ t. record { address = a; holds = h; last = last; heard = o; since = rw (sym e) (leb-true m last t) }),
  (λ s. let here : s.address ≡ a = same_address C (length C) name s.address a s.holds h in
      let same : Some s.last ≡ Some last = sym s.heard ∙ (ap (λ (x : ℕ). last_of x F) here ∙ o) in
      let z : s.last ≡ last = cc in
      let l : moment ≤ s.last = s.since in
      le-leb m last (omega (arith, e, z, l))),
)

pub silent : (C : List (Option Claim)) (F : List Seen) (name moment a : ℕ) → IsHolderAfter C a (Some name) → last_of a F ≡ None
    → false ≡ true ↔ HeardSince C F name moment
silent C F name moment a h o = (
  (λ t. absurd (let z : false ≡ true = t in cc)),
  (λ s. let here : s.address ≡ a = same_address C (length C) name s.address a s.holds h in
      let none : Some s.last ≡ None = sym s.heard ∙ (ap (λ (x : ℕ). last_of x F) here ∙ o) in absurd cc),
)
