-- What is refused.
use Rattle.j39_node.proofs.Common.{[], if◌then◌else◌, ◌&&◌, ◌++◌, ◌==◌, ◌∙◌, ◌∷◌, ◌≡◌, ◌≢◌, ◌≤◌, ◌⊎◌, acknowledgment, Answer, ap, arith, Asked, Bool, Busy, bytes_eq, false, fresh, is_refusal_due, is_served, List, list_any, Message, Nack, nat_eq, nat_lt, None, not, Option, refusal, repeats, Some, sym, true, Who, with_refusal, ℕ}

pub has_room : (n : ℕ) → n ≤ 16 → false ≡ (n == 16) → nat_lt n 16 ≡ true
has_room n l e = grind (arith, l, e)

pub no_room : (n : ℕ) → true ≡ (n == 16) → nat_lt n 16 ≡ false
no_room n e = grind (arith, e)

pub served_not : (a b : Bool) → (a ≡ false) ⊎ (b ≡ false) → (a && b) ≡ false
served_not a b e = grind (arith, e)

-- whether there is a place for it
pub place_by : (W : Who) (room place : Bool) (answer : Answer) (r : Asked) (A : List Message) → answer ≡ (if is_served W r.group then Busy else Nack)
    → place ≡ (room && not (list_any (λ (m : Message). bytes_eq m.bytes (acknowledgment W answer r).bytes) A)) → (room && not (is_refusal_due W A (Some r))) ≡ place
place_by W room place answer r A e f = grind (arith, e, f)

pub refused : (W : Who) (room place : Bool) (r : Asked) (A : List Message) → nat_eq r.destination W.address ≡ true → place ≡ true
    → (is_served W r.group && room) ≡ false → with_refusal W room place (Some r) A ≡ A ++ refusal W r ∷ []
refused W room place r A d p s = λ i. if (d i && p i) && not (s i) then A ++ refusal W r ∷ [] else A

pub not_refused : (W : Who) (room place : Bool) (r : Asked) (A : List Message) → (r.destination ≢ W.address) ⊎ (place ≡ false)
    → with_refusal W room place (Some r) A ≡ A
not_refused W room place r A e = grind (arith, e)

pub with_room : (a b c : Bool) → a ≡ true → c ≡ b → not c ≡ (a && not b)
with_room a b c e f = ap not f ∙ sym (ap (λ (x : Bool). x && not b) e)

-- a request counts where none like it waits
pub fresh_one : (w : Who) (L : List Asked) (r : Asked) → (is_served w r.group ≡ false) ⊎ (list_any (repeats r) L ≡ false) → fresh w L (Some r) ≡ Some r
fresh_one w L r e = ap (λ (b : Bool). (let o : Option Asked = if b then None else Some r in o)) (served_not (is_served w r.group) (list_any (repeats r) L) e)
