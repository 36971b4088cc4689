-- A table of holders after one more claim.
use Rattle.std.proofs.Common.{◌≡◌, ◌≢◌, ◌⊎◌, ℕ, ◌<◌, ◌≤◌, List, [], ◌∷◌, ◌++◌, length, Option, Some, None, refl, sym, ap, ◌∙◌, subst, inl, inr, arith, nat_lt, eq-eqb, ltb-false}
use Rattle.std.specs.Prelude.{IfSome}
use Rattle.std.proofs.lemmas.Bool.{cases_lt, cases_eq, cond_both, cond-true, cond-false, ne_eqb, le-ltb}
use Rattle.j39_address.specs.declared.claims.Claims.{Claims}
use Rattle.j39_frame.specs.Frame.{FrameRecord}
use Rattle.j39_address.specs.Claim.{Claim, claim_of, claims_of}
use Rattle.j39_address.specs.Holder.{IsHolderAfter}
use Rattle.j39_address.specs.Changes.{AreChanged}
use Rattle.j39_address.specs.Claims.{StandsFor, holder_in}
use Rattle.j39_address.specs.Noting.{Leaves, Takes, in_order}
use Rattle.j39_address.proofs.OrderLemmas.{cases_option, some_is, in_order-from, in_order-to, in_order-rises}
use Rattle.j39_address.proofs.HolderLemmas.{same_holder, same_address, none_above, holder_push, held_after}

-- ---- what a claim makes of a holder, by cases

after_other : (a : ℕ) (c : Claim) (o : Option ℕ) → c.address ≢ a → o ≢ Some c.name → held_after a (Some c) o ≡ o
after_other a c None n m = cond-false _ _ _ (ne_eqb c.address a n)
after_other a c (Some x) n m = cond-false _ _ _ (ne_eqb c.address a n) ∙ cond-false _ _ _ (ne_eqb x c.name (λ e. m (some_is x c.name e)))

after_left : (a : ℕ) (c : Claim) (o : Option ℕ) → c.address ≢ a → o ≡ Some c.name → held_after a (Some c) o ≡ None
after_left a c o n e = ap (held_after a (Some c)) e ∙ (cond-false _ _ _ (ne_eqb c.address a n) ∙ cond-true _ _ _ (eq-eqb c.name c.name refl))

after_taken : (a : ℕ) (c : Claim) (o : Option ℕ) → c.address ≡ a → ((m : ℕ) → o ≡ Some m → c.name < m) → held_after a (Some c) o ≡ Some c.name
after_taken a c None e f = cond-true _ _ _ (eq-eqb c.address a e)
after_taken a c (Some m) e f =
    let l : c.name ≤ m = (let k : c.name < m = f m refl in omega arith) in
    cond-true _ _ _ (eq-eqb c.address a e) ∙ cond-false _ _ _ (le-ltb m c.name l)

after_lost : (a : ℕ) (c : Claim) (m : ℕ) → c.address ≡ a → m ≤ c.name → held_after a (Some c) (Some m) ≡ Some m
after_lost a c m e l = cond-true _ _ _ (eq-eqb c.address a e) ∙ cond_both (nat_lt m c.name) _ _ (λ (o : Option ℕ). o ≡ Some m)
    (λ t. refl) (λ t. let k : c.name ≤ m = ltb-false _ _ t in some_is c.name m (omega arith))

-- ---- the table

IfSome-at : (P : ℕ → Type 0) (o : Option ℕ) (x : ℕ) → IfSome o P → o ≡ Some x → P x
IfSome-at P o x h e = subst (λ (p : Option ℕ). IfSome p P) e h

module _ (C : List (Option Claim)) (c : Claim) (old mid new : Claims) (left taken : Option ℕ)
    (h : StandsFor old C) (l : Leaves old mid c.name c.address left) (t : Takes mid new c.name c.address taken) where
  left_is : (b : ℕ) → left ≡ Some b → (b ≢ c.address) × (holder_in old b ≡ Some c.name) × (holder_in mid b ≡ None)
  left_is b e = IfSome-at _ left b l.found e

  taken_is : (a : ℕ) → taken ≡ Some a → (a ≡ c.address) × (a < 254) × ((m : ℕ) → holder_in mid a ≡ Some m → c.name < m) × (holder_in new a ≡ Some c.name)
  taken_is a e = IfSome-at _ taken a t.found e

  -- a NAME has one address in the table
  once : (a b : ℕ) → holder_in old a ≡ Some c.name → holder_in old b ≡ Some c.name → a ≡ b
  once a b x y = same_address C (length C) c.name a b
      (subst (λ (o : Option ℕ). IsHolderAfter C a o) x (h a)) (subst (λ (o : Option ℕ). IsHolderAfter C b o) y (h b))

  none_past : (a : ℕ) → 254 ≤ a → holder_in old a ≡ None
  none_past a w = same_holder C (length C) a (holder_in old a) None (h a) (none_above C (length C) a w)

  mid_there : holder_in mid c.address ≡ holder_in old c.address
  mid_there = l.others c.address (λ e. (left_is c.address e).0 refl)

  -- the address that it claims
  there : c.address < 254 → holder_in new c.address ≡ held_after c.address (Some c) (holder_in old c.address)
  there w = elim (cases_option taken (Some c.address)) [
    | inl e ↦ (let k = taken_is c.address e in
        k.3 ∙ sym (after_taken c.address c (holder_in old c.address) refl (λ m x. k.2 m (mid_there ∙ x))))
    | inr n ↦ (let k = t.none (untaken n) w in
        let was : holder_in old c.address ≡ Some k.0 = sym mid_there ∙ k.1 in
        t.others c.address n ∙ (k.1 ∙ sym (ap (held_after c.address (Some c)) was ∙ after_lost c.address c k.0 refl k.2)))
  ]
    where
      untaken : taken ≢ Some c.address → taken ≡ None
      untaken n = none_of taken (λ a e. n (e ∙ some_is a c.address (taken_is a e).0))
        where
          none_of : (o : Option ℕ) → ((a : ℕ) → o ≡ Some a → ⊥) → o ≡ None
          none_of None f = refl
          none_of (Some a) f = absurd (f a refl)

  -- another address
  elsewhere : (a : ℕ) → c.address ≢ a → holder_in new a ≡ holder_in mid a
  elsewhere a n = t.others a (λ e. n (sym (taken_is a e).0))

  stays : (a : ℕ) → c.address ≢ a → left ≢ Some a → holder_in old a ≢ Some c.name
  stays a n m e = held left refl
    where
      held : (o : Option ℕ) → left ≡ o → ⊥
      held None z = l.none z (λ x. n (once c.address a x e)) a e
      held (Some b) z = m (z ∙ some_is b a (once b a (left_is b z).1 e))

  after_at : (a : ℕ) → a < 254 → holder_in new a ≡ held_after a (Some c) (holder_in old a)
  after_at a w = elim (cases_eq c.address a) [
    | inl e ↦ subst (λ (x : ℕ). holder_in new x ≡ held_after x (Some c) (holder_in old x)) e (there (omega arith))
    | inr n ↦ elim (cases_option left (Some a)) [
      | inl e ↦ elsewhere a n ∙ ((left_is a e).2 ∙ sym (after_left a c (holder_in old a) n (left_is a e).1))
      | inr m ↦ elsewhere a n ∙ (l.others a m ∙ sym (after_other a c (holder_in old a) n (stays a n m)))
    ]
  ]

  past_at : (a : ℕ) → 254 ≤ a → holder_in new a ≡ None
  past_at a w = t.others a (λ e. let k : a < 254 = (taken_is a e).1 in omega arith) ∙ elim (cases_option left (Some a)) [
    | inl e ↦ (left_is a e).2
    | inr m ↦ l.others a m ∙ none_past a w
  ]

  pub noted_stands : StandsFor new (C ++ Some c ∷ [])
  noted_stands a = elim (cases_lt a 254) [
    | inl w ↦ subst (λ (o : Option ℕ). IsHolderAfter (C ++ Some c ∷ []) a o) (sym (after_at a w)) (holder_push C (Some c) a (holder_in old a) w (h a))
    | inr w ↦ subst (λ (o : Option ℕ). IsHolderAfter (C ++ Some c ∷ []) a o) (sym (past_at a w)) (none_above (C ++ Some c ∷ []) (length (C ++ Some c ∷ [])) a w)
  ]

  differs : (a : ℕ) → (left ≡ Some a) ⊎ (taken ≡ Some a) → holder_in old a ≢ holder_in new a
  differs a (inl e) z =
      let k = left_is a e in
      let y : Some c.name ≡ None = sym k.1 ∙ (z ∙ (elsewhere a (λ x. k.0 (sym x)) ∙ k.2)) in
      absurd (cc)
  differs a (inr e) z =
      let k = taken_is a e in
      let was : holder_in mid a ≡ holder_in old a = subst (λ (x : ℕ). holder_in mid x ≡ holder_in old x) (sym k.0) mid_there in
      let y : c.name < c.name = k.2 c.name (was ∙ (z ∙ k.3)) in
      omega arith

  pub noted_changed : AreChanged C (C ++ Some c ∷ []) (in_order left taken)
  noted_changed = record {
    rising = in_order-rises left taken (λ b a x y e. (left_is b x).0 (e ∙ (taken_is a y).0));
    changed = λ a k o p x y e. differs a (in_order-from left taken a k)
        (same_holder C (length C) a (holder_in old a) o (h a) x ∙ (e ∙ same_holder (C ++ Some c ∷ []) (length (C ++ Some c ∷ [])) a p (holder_in new a) y (noted_stands a)));
    all = λ a k. elim (cases_option left (Some a)) [
      | inl e ↦ in_order-to left taken a (inl e)
      | inr m ↦ elim (cases_option taken (Some a)) [
        | inl e ↦ in_order-to left taken a (inr e)
        | inr n ↦ absurd (k (holder_in old a) (holder_in new a) (h a) (noted_stands a) (sym (t.others a n ∙ l.others a m)))
      ]
    ];
  }

-- ---- no claim

pub quiet_stands : (C : List (Option Claim)) (table : Claims) → StandsFor table C → StandsFor table (C ++ None ∷ [])
quiet_stands C table h a = elim (cases_lt a 254) [
  | inl w ↦ holder_push C None a (holder_in table a) w (h a)
  | inr w ↦ subst (λ (o : Option ℕ). IsHolderAfter (C ++ None ∷ []) a o) (same_holder C (length C) a None (holder_in table a) (none_above C (length C) a w) (h a))
      (none_above (C ++ None ∷ []) (length (C ++ None ∷ [])) a w)
]

pub quiet_changed : (C : List (Option Claim)) (table : Claims) → StandsFor table C → AreChanged C (C ++ None ∷ []) []
quiet_changed C table h = record {
  rising = λ k l. absurd (omega (arith, l));
  changed = λ a k. absurd (let l : k.0 < 0 = k.1 in omega arith);
  all = λ a k. absurd (k (holder_in table a) (holder_in table a) (h a) (quiet_stands C table h a) refl);
}

-- the claims of one more frame
pub claims_of-push : (F : List FrameRecord) (f : FrameRecord) → claims_of (F ++ f ∷ []) ≡ claims_of F ++ claim_of f ∷ []
claims_of-push [] f = refl
claims_of-push (x ∷ F) f = ap (λ (xs : List (Option Claim)). claim_of x ∷ xs) (claims_of-push F f)
