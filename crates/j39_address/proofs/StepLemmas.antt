-- What one step does to a node's NAME and address.
use Rattle.std.proofs.Common.{◌≡◌, ◌≢◌, ◌⊎◌, ℕ, List, Option, Some, None, sym, ap, ◌∙◌, subst, inl, inr}
use Rattle.j39_address.specs.Claim.{Claim}
use Rattle.j39_address.specs.Node.{Node, NodeStatus, IsAt, address_of}
use Rattle.j39_address.specs.Call.{Call}
use Rattle.j39_address.specs.Call.Call.{Heard}
use Rattle.j39_address.specs.NodeStep.{NodeStep, Begins, GivesUp}
use Rattle.j39_address.specs.NodeStep.NodeStep.{starts, is_started, holds, waits, ticks_on, hears_itself, notes, wins, moves, gives_up, tells, tells_of_none, is_not_asked, obeys, ignores, passes}

-- a node is at one address at most
pub one_at : (m : Node) (a b : ℕ) → IsAt m a → IsAt m b → a ≡ b
one_at m a b h k = let z : Some a ≡ Some b = sym h ∙ k in cc

-- a node of this status is at no address
pub not_at : (m : Node) (s : NodeStatus) (a : ℕ) → m.status ≡ s → address_of s ≡ None → IsAt m a → ⊥
not_at m s a e n h = let z : None ≡ Some a = sym n ∙ (sym (ap address_of e) ∙ h) in absurd (cc)

named : (m n : Node) → n ≡ m → n.name ≡ m.name
named m n e = ap (λ (x : Node). x.name) e

pub name_kept : (m : Node) (call : Call) (now : ℕ) (answer : Option ℕ) (n : Node) → NodeStep m call now answer n → n.name ≡ m.name
name_kept m call now answer n (starts e d h) = named _ n h.1
name_kept m call now answer n (is_started e d h) = named _ n h.1
name_kept m call now answer n (holds a e d l h k) = named _ n k
name_kept m call now answer n (waits a e d l h) = named _ n h.1
name_kept m call now answer n (ticks_on e d h) = named _ n h.1
name_kept m call now answer n (hears_itself a e h) = named _ n h.1
name_kept m call now answer n (notes x a e d f h) = named _ n h.1
name_kept m call now answer n (wins x a e d l h) = named _ n h.1
name_kept m call now answer n (moves x a b e d l t f h) = named _ n h.1
name_kept m call now answer n (gives_up x a e d l f h) = named _ n h.1
name_kept m call now answer n (tells a to e d l h) = named _ n h.1
name_kept m call now answer n (tells_of_none e d h) = named _ n h.1
name_kept m call now answer n (is_not_asked to e d f h) = named _ n h.1
name_kept m call now answer n (obeys a e d l h) = named _ n h.1
name_kept m call now answer n (ignores x a e d h) = named _ n h.1
name_kept m call now answer n (passes e h) = named _ n h.1

-- ---- how a node comes to an address

-- the node n is r, so where n is, r is
at_as : (n r : Node) (a : ℕ) → n ≡ r → IsAt n a → IsAt r a
at_as n r a e h = subst (λ (x : Node). IsAt x a) e h

begun_at : (m n : Node) (C : List (Option Claim)) (now b a : ℕ) (answer : Option ℕ) → Begins m C now b answer n → IsAt n a → answer ≡ Some a
begun_at m n C now b a answer h k = h.0 ∙ at_as n _ a h.1 k

given_up_at : (m n : Node) (C : List (Option Claim)) (a : ℕ) (answer : Option ℕ) → GivesUp m C answer n → IsAt n a → ⊥
given_up_at m n C a answer h k = let z : None ≡ Some a = at_as n _ a h.1 k in absurd (cc)

-- who is at a claims it with this step, or was there
pub arrived : (m : Node) (call : Call) (now : ℕ) (answer : Option ℕ) (n : Node) (a : ℕ) → NodeStep m call now answer n → IsAt n a → (answer ≡ Some a) ⊎ IsAt m a
arrived m call now answer n a (starts e d h) k = inl (begun_at m n m.claims now m.preferred a answer h k)
arrived m call now answer n a (is_started e d h) k = inr (at_as n m a h.1 k)
arrived m call now answer n a (holds b e d l h i) k = inr (ap address_of d ∙ at_as n _ a i k)
arrived m call now answer n a (waits b e d l h) k = inr (at_as n m a h.1 k)
arrived m call now answer n a (ticks_on e d h) k = inr (at_as n m a h.1 k)
arrived m call now answer n a (hears_itself b e h) k = inr (at_as n m a h.1 k)
arrived m call now answer n a (notes x b e d f h) k = inr (at_as n _ a h.1 k)
arrived m call now answer n a (wins x b e d l h) k = inr (at_as n _ a h.1 k)
arrived m call now answer n a (moves x b c e d l t f h) k = inl (begun_at m n _ now c a answer h k)
arrived m call now answer n a (gives_up x b e d l f h) k = absurd (given_up_at m n _ a answer h k)
arrived m call now answer n a (tells b to e d l h) k = inr (at_as n _ a h.1 k)
arrived m call now answer n a (tells_of_none e d h) k = inr (at_as n _ a h.1 k)
arrived m call now answer n a (is_not_asked to e d f h) k = inr (at_as n m a h.1 k)
arrived m call now answer n a (obeys b e d l h) k = inl (begun_at m n m.claims now b a answer h k)
arrived m call now answer n a (ignores x b e d h) k = inr (at_as n m a h.1 k)
arrived m call now answer n a (passes e h) k = inr (at_as n m a h.1 k)

-- ---- who hears another's claim of its address and stays there claims it again

same_name : (c : Claim) (n a : ℕ) → Heard c ≡ Heard (record { name = n; address = a }) → c.name ≡ n
same_name c n a e = let z : c ≡ record { name = n; address = a } = cc in ap (λ (x : Claim). x.name) z

same_address : (c : Claim) (n a : ℕ) → Heard c ≡ Heard (record { name = n; address = a }) → c.address ≡ a
same_address c n a e = let z : c ≡ record { name = n; address = a } = cc in ap (λ (x : Claim). x.address) z

pub answered : (m : Node) (now : ℕ) (answer : Option ℕ) (n : Node) (c : Claim) → NodeStep m (Heard c) now answer n
    → IsAt m c.address → IsAt n c.address → c.name ≢ m.name → answer ≡ Some c.address
answered m now answer n c (starts e d h) u v o = absurd (cc (e))
answered m now answer n c (is_started e d h) u v o = absurd (cc (e))
answered m now answer n c (holds b e d l h i) u v o = absurd (cc (e))
answered m now answer n c (waits b e d l h) u v o = absurd (cc (e))
answered m now answer n c (ticks_on e d h) u v o = absurd (cc (e))
answered m now answer n c (hears_itself b e h) u v o = absurd (o (same_name c m.name b e))
answered m now answer n c (notes x b e d f h) u v o = absurd (f (u ∙ ap (λ (y : ℕ). Some y) (same_address c x b e)))
answered m now answer n c (wins x b e d l h) u v o = h.0 ∙ ap (λ (y : ℕ). Some y) (sym (same_address c x b e))
answered m now answer n c (moves x b y e d l t f h) u v o = begun_at m n _ now y c.address answer h v
answered m now answer n c (gives_up x b e d l f h) u v o = absurd (given_up_at m n _ c.address answer h v)
answered m now answer n c (tells b to e d l h) u v o = absurd (cc (e))
answered m now answer n c (tells_of_none e d h) u v o = absurd (cc (e))
answered m now answer n c (is_not_asked to e d f h) u v o = absurd (cc (e))
answered m now answer n c (obeys b e d l h) u v o = absurd (cc (e))
answered m now answer n c (ignores x b e d h) u v o = absurd (cc (e))
answered m now answer n c (passes e h) u v o = absurd (cc (e))
