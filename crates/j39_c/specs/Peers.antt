-- What a program in C is told of who is there.
use Rattle.std.specs.Prelude.{◌≡◌, ◌∷◌, ℕ, zero, suc, ℤ, pos, negsuc, List}
use Rattle.j39_address.specs.Claim.{claims_of}
use Rattle.j39_application.specs.Peers.{HeardSince, IsToldNext, Knows, NoneIsNew, Seen, Told}
use Rattle.j39_application.specs.declared.peers.Peers.{Peers}
use Rattle.j39_node.specs.History.{told_claims}
use Rattle.j39_node.specs.declared.controller.Controller.{Controller}
use Rattle.j39_c.specs.Controllers.{Says}
use Rattle.j39_c.specs.Messages.{marked}
use Rattle.j39_c.specs.declared.peers.PlainPeer.{PlainPeer}

-- what is told stands in x
pub record IsTold (x : PlainPeer) (told : Told) : Type 0 where
  pub address : x.address ≡ told.address
  pub was : marked x.had_one x.was ≡ told.was
  pub name : marked x.has_one x.name ≡ told.name

-- 0: nothing is new, and all stays; 1: this is told next
abbrev pub TakesPeer : ℤ → PlainPeer → Peers → Peers → Controller → Type 0
TakesPeer (pos zero) x old new c = (new ≡ old) × ((F : List Seen) (T : List Told) → Knows old F T
    → Says (λ w H. NoneIsNew (claims_of (told_claims w H)) T) c)
TakesPeer (pos (suc n)) x old new c = (told : Told) × IsTold x told × ((F : List Seen) (T : List Told) → Knows old F T
    → Knows new F (told ∷ T) × Says (λ w H. IsToldNext (claims_of (told_claims w H)) T told) c)
TakesPeer (negsuc n) x old new c = ⊥

-- 1: the NAME holds an address from which a frame came since; 0: it doesn't
abbrev pub TellsHeard : ℤ → Peers → ℕ → ℕ → Controller → Type 0
TellsHeard (pos zero) peers name micros c = (F : List Seen) (T : List Told) → Knows peers F T
    → Says (λ w H. HeardSince (claims_of (told_claims w H)) F name micros → ⊥) c
TellsHeard (pos (suc n)) peers name micros c = (F : List Seen) (T : List Told) → Knows peers F T
    → Says (λ w H. HeardSince (claims_of (told_claims w H)) F name micros) c
TellsHeard (negsuc n) peers name micros c = ⊥
