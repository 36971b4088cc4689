-- What a program was told of who holds which address, and when a frame of each came last.
use Rattle.std.specs.Prelude.{◌≡◌, ◌≢◌, ◌<◌, ◌≤◌, ◌∷◌, [], ℕ, zero, suc, nat_eq, Option, Some, None, List, get_or, if◌then◌else◌}
use Rattle.std.specs.Option.{option_map}
use Rattle.j39_address.specs.Claim.{Claim}
use Rattle.j39_address.specs.Claims.{name_if}
use Rattle.j39_address.specs.Holder.{IsHolderAfter}
use Rattle.j39_address.specs.Name.{name_raw}
use Rattle.j39_frame.specs.Address.{IsAddress}
use Rattle.j39_frame.specs.Frame.{FrameRecord}
use Rattle.j39_frame.specs.Identifier.{source_of}
use Rattle.j39_application.specs.declared.peers.Peer.{Peer}
use Rattle.j39_application.specs.declared.peers.Peers.{Peers}

-- a frame that was heard, and the moment; the newest stands first
abbrev pub Seen : Type 0
Seen = ℕ × FrameRecord

-- that an address has another holder than was told last; the newest stands first
pub record Told : Type 0 where
  pub address : ℕ
  pub was : Option ℕ
  pub name : Option ℕ

-- who was told last to hold an address
abbrev pub told_of : ℕ → List Told → Option ℕ
told_of a [] = None
told_of a (x ∷ T) = if nat_eq a x.address then x.name else told_of a T

-- the moment of the frame that was noted last from an address
abbrev pub last_of : ℕ → List Seen → Option ℕ
last_of a [] = None
last_of a (x ∷ F) = if nat_eq a (source_of x.1.id) then Some x.0 else last_of a F

-- it is told next that an address has another holder than was told last: the least one by these claims
pub record IsToldNext (C : List (Option Claim)) (T : List Told) (x : Told) : Type 0 where
  pub address : IsAddress x.address
  pub was : x.was ≡ told_of x.address T
  pub name : IsHolderAfter C x.address x.name
  pub other : x.was ≢ x.name
  pub least : (a : ℕ) → a < x.address → IsHolderAfter C a (told_of a T)

-- each address has the holder that was told last
abbrev pub NoneIsNew : List (Option Claim) → List Told → Type 0
NoneIsNew C T = (a : ℕ) → IsAddress a → IsHolderAfter C a (told_of a T)

-- a NAME holds an address whose last noted frame has this moment or a later one
pub record HeardSince (C : List (Option Claim)) (F : List Seen) (name moment : ℕ) : Type 0 where
  pub address : ℕ
  pub holds : IsHolderAfter C address (Some name)
  pub last : ℕ
  pub heard : last_of address F ≡ Some last
  pub since : moment ≤ last

-- ---- what the code has

abbrev pub told_in : Peers → ℕ → Option ℕ
told_in p a = option_map name_raw (name_if (get_or p.are_told a 0) (get_or p.names a (record { bits = 0 })))

abbrev pub number_if : ℕ → ℕ → Option ℕ
number_if zero n = None
number_if (suc k) n = Some n

abbrev pub heard_in : Peers → ℕ → Option ℕ
heard_in p a = number_if (get_or p.are_heard a 0) (get_or p.moments a 0)

abbrev pub peer_in : Peer → Told
peer_in x = record { address = x.address; was = option_map name_raw x.was; name = option_map name_raw x.name }

-- it knows what these frames and what was told say
pub record Knows (p : Peers) (F : List Seen) (T : List Told) : Type 0 where
  pub told : (a : ℕ) → IsAddress a → told_in p a ≡ told_of a T
  pub heard : (a : ℕ) → IsAddress a → heard_in p a ≡ last_of a F
