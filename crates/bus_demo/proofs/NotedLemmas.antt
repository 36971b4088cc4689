-- What is noted in the book stays there; what was due is due again.
use Rattle.std.proofs.Common.{◌≡◌, ◌≤◌, ◌<◌, ◌∷◌, ◌∙◌, [], ℕ, zero, suc, List, None, Option, Some, ap, arith, inl, inr, length, ltb-false, ltb-true, nat_lt, refl, slice_get, subst, sym}
use Rattle.std.proofs.lemmas.Bool.{cases_Bool}
use Rattle.j39_address.specs.Name.{name_raw}
use Rattle.bus_demo.specs.Publishing.{AreDueAgain, AreNoted, rate_after}
use Rattle.bus_demo.specs.declared.bus.book.Handed.{Handed}
use Rattle.bus_demo.specs.declared.bus.role.Rate.{Rate}

there_is : {X : Type 0} (xs : List X) (k : ℕ) → k < length xs → (x : X) × (slice_get xs k ≡ Some x)
there_is [] k less = absurd (omega arith)
there_is (y ∷ ys) zero less = (y, refl)
there_is (y ∷ ys) (suc k) less = there_is ys k (omega (arith, less))

same : {X : Type 0} (x y : X) (o : Option X) → o ≡ Some x → o ≡ Some y → x ≡ y
same x y o is other = cc

module _ (name : ℕ) where
  pub noted_then : (old mid new : List Handed) → AreNoted name old mid → AreNoted name mid new → AreNoted name old new
  noted_then old mid new first second = record {
    grows = (let a = first.grows in let b = second.grows in omega (arith, a, b));
    stays = λ k message there. second.stays k message (first.stays k message there);
    more = λ k message past there. elim (cases_Bool (nat_lt k (length mid))) [
      | inl less ↦
          let at = there_is mid k (ltb-true _ _ less) in
          subst (λ (m : Handed). name_raw m.name ≡ name) (same at.0 message _ (second.stays k at.0 at.1) there) (first.more k at.0 past at.1)
      | inr not_less ↦ second.more k message (ltb-false _ _ not_less) there
    ];
  }

-- ---- what was due

none_behind : {X : Type 0} (xs : List X) (k : ℕ) → length xs ≤ k → slice_get xs k ≡ None
none_behind [] k past = refl
none_behind (x ∷ xs) zero past = absurd (omega arith)
none_behind (x ∷ xs) (suc k) past = none_behind xs k (omega (arith, past))

-- at each place of the list
pub all_due : (micros n : ℕ) (old new : List Rate) → length old ≡ n
    → ((k : ℕ) → k < n → slice_get new k ≡ rate_after micros (slice_get old k))
    → ((k : ℕ) → n ≤ k → slice_get new k ≡ slice_get old k) → AreDueAgain micros old new
all_due micros n old new len below behind = λ k. elim (cases_Bool (nat_lt k n)) [
  | inl less ↦ below k (ltb-true _ _ less)
  | inr not_less ↦
      let past = ltb-false _ _ not_less in
      let none = none_behind old k (omega (arith, len, past)) in
      behind k past ∙ none ∙ sym (ap (rate_after micros) none)
]
