-- The last message that is the one delivered.
use Rattle.std.proofs.Common.{◌≡◌, ◌≤◌, ◌<◌, ◌∙◌, ℕ, zero, suc, List, Option, Some, ap, arith, refl, slice_get, subst, sym}
use Rattle.j39_transport.specs.Message.{MessageRecord}
use Rattle.bus_demo.specs.Delivered.{IsLastOf, IsNoneOf, IsOf}
use Rattle.bus_demo.specs.declared.bus.book.Handed.{Handed}

-- numbers of which neither is the lower one
same_number : (n m : ℕ) → (n < m → ⊥) → (m < n → ⊥) → n ≡ m
same_number zero zero above below = refl
same_number zero (suc m) above below = absurd (above (omega arith))
same_number (suc n) zero above below = absurd (below (omega arith))
same_number (suc n) (suc m) above below = ap suc (same_number n m (λ l. above (omega (arith, l))) (λ l. below (omega (arith, l))))

pub one_last : (delivered : MessageRecord) (all : List Handed) (n m : ℕ) → IsLastOf delivered all n → IsLastOf delivered all m → n ≡ m
one_last delivered all n m first second =
    same_number n m (λ l. first.last m second.handed l second.stands second.is) (λ l. second.last n first.handed l first.stands first.is)

-- where none is the one delivered, none is the last of them
pub none_last : (delivered : MessageRecord) (all : List Handed) (n : ℕ) → IsNoneOf delivered all 0 → IsLastOf delivered all n → ⊥
none_last delivered all n none last = none n last.handed (omega arith) last.stands last.is

-- a place more is none of them
pub one_less : (delivered : MessageRecord) (all : List Handed) (n : ℕ) (handed : Handed) → slice_get all n ≡ Some handed → (IsOf delivered handed → ⊥)
    → IsNoneOf delivered all (suc n) → IsNoneOf delivered all n
one_less delivered all n handed there other above = λ k one from stands is. other (subst (IsOf delivered) (same k one from stands is) is)
  where
    some : (x y : Handed) → (let a : Option Handed = Some x in a) ≡ Some y → x ≡ y
    some x y e = cc

    same : (k : ℕ) (one : Handed) → n ≤ k → slice_get all k ≡ Some one → IsOf delivered one → one ≡ handed
    same k one from stands is =
        let k_is : n ≡ k = same_number n k (λ l. above k one l stands is) (λ l. omega (arith, from, l)) in
        some one handed (sym stands ∙ ap (slice_get all) (sym k_is) ∙ there)
