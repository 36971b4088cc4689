-- Origins that are the same.
use Rattle.std.proofs.Common.{◌≡◌, ◌==◌, ◌&&◌, ℕ, Bool, true, false, Option, Some, None, refl, sym, ap, ap₂, ◌∙◌, eqb-true, cond, lt-ltb, arith, inl, inr}
use Rattle.std.proofs.lemmas.Bool.{both_ways, cases_Bool, cases_lt, le-ltb, ne_eqb, true≢false}
use Rattle.std.specs.Cmp.{IsEquivalence}
use Rattle.std.specs.Option.{option_cmp}
use Rattle.std.specs.Ordering.{is_eq, nat_cmp, ordering_then}
use Rattle.std.specs.declared.cmp.Ordering.{Ordering}
use Rattle.std.specs.declared.cmp.Ordering.TheVariants.{Equal, Greater, Less}
use Rattle.j39_frame.specs.Origin.{is_same, is_same_or_none, origin_cmp}
use Rattle.j39_frame.specs.declared.origin.Origin.{Origin}

left : (a b : Bool) → (a && b) ≡ true → a ≡ true
left true b h = refl
left false b h = h

right : (a b : Bool) → (a && b) ≡ true → b ≡ true
right true b h = h
right false b h = absurd (true≢false (sym h))

eqb-self : (n : ℕ) → (n == n) ≡ true
eqb-self n = grind (arith)

or_none_true : (a b : Option ℕ) → is_same_or_none a b ≡ true → a ≡ b
or_none_true None None h = refl
or_none_true None (Some b) h = absurd (true≢false (sym h))
or_none_true (Some a) None h = absurd (true≢false (sym h))
or_none_true (Some a) (Some b) h = ap Some (eqb-true a b h)

or_none_self : (a : Option ℕ) → is_same_or_none a a ≡ true
or_none_self None = refl
or_none_self (Some a) = eqb-self a

-- origins that are the same are one
pub same_true : (a b : Origin) → is_same a b ≡ true → a ≡ b
same_true a b h =
    let addresses = eqb-true a.address b.address (left (a.address == b.address) _ h) in
    let behind = right (a.address == b.address) _ h in
    let destinations = or_none_true a.destination b.destination (left (is_same_or_none a.destination b.destination) _ behind) in
    let rest = right (is_same_or_none a.destination b.destination) _ behind in
    let names = or_none_true a.name b.name (left (is_same_or_none a.name b.name) _ rest) in
    let numbers = right (is_same_or_none a.name b.name) _ rest in
    let pgns = eqb-true a.pgn b.pgn (left (a.pgn == b.pgn) _ numbers) in
    let spns = eqb-true a.spn b.spn (right (a.pgn == b.pgn) _ numbers) in
    λ i. record { address = addresses i; destination = destinations i; name = names i; pgn = pgns i; spn = spns i }

pub same_self : (a : Origin) → is_same a a ≡ true
same_self a =
    let address = eqb-self a.address in
    let destination = or_none_self a.destination in
    let name = or_none_self a.name in
    let pgn = eqb-self a.pgn in
    let spn = eqb-self a.spn in
    rw (address, destination, name, pgn, spn) refl

same_turned : (a b : Origin) → is_same a b ≡ true → is_same b a ≡ true
same_turned a b h = ap (λ o. is_same o a) (sym (same_true a b h)) ∙ same_self a

pub same_sym : (a b : Origin) → is_same a b ≡ is_same b a
same_sym a b = elim (cases_Bool (is_same a b)) [
  | inl one ↦ one ∙ sym (same_turned a b one)
  | inr other ↦ elim (cases_Bool (is_same b a)) [
    | inl one ↦ absurd (both_ways _ other (same_turned b a one))
    | inr none ↦ other ∙ sym none
  ]
]

pub same_equiv : IsEquivalence is_same
same_equiv = record {
  refl = same_self;
  symm = same_sym;
  congr = λ a b c h. ap (λ o. is_same o c) (same_true a b h);
}

-- ---- their order

both_equal : (a b : Ordering) → is_eq (ordering_then a b) ≡ (is_eq a && is_eq b)
both_equal Less b = refl
both_equal Equal b = refl
both_equal Greater b = refl

nat_equal : (a b : ℕ) → is_eq (nat_cmp a b) ≡ (a == b)
nat_equal a b = elim (cases_lt a b) [
  | inl less ↦ rw (lt-ltb a b less, ne_eqb a b (λ same. omega (arith, less, same))) refl
  | inr least ↦ rw (le-ltb a b least) (by (a == b) refl)
]
  where
    by : (c : Bool) → (a == b) ≡ c → is_eq (cond c Equal Greater) ≡ c
    by true is = refl
    by false is = refl

or_none_equal : (a b : Option ℕ) → is_eq (option_cmp nat_cmp a b) ≡ is_same_or_none a b
or_none_equal None None = refl
or_none_equal None (Some b) = refl
or_none_equal (Some a) None = refl
or_none_equal (Some a) (Some b) = nat_equal a b

-- origins are the same where none is the lesser
pub same_cmp : (a b : Origin) → is_eq (origin_cmp a b) ≡ is_same a b
same_cmp a b =
    both_equal (nat_cmp a.address b.address) _ ∙ ap₂ (λ p q. p && q) (nat_equal a.address b.address)
    (both_equal (option_cmp nat_cmp a.destination b.destination) _ ∙ ap₂ (λ p q. p && q) (or_none_equal a.destination b.destination)
    (both_equal (option_cmp nat_cmp a.name b.name) _ ∙ ap₂ (λ p q. p && q) (or_none_equal a.name b.name)
    (both_equal (nat_cmp a.pgn b.pgn) _ ∙ ap₂ (λ p q. p && q) (nat_equal a.pgn b.pgn) (nat_equal a.spn b.spn))))
