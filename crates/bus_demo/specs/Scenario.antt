-- The controllers of a scenario, each with its NAME and the address that it claims.
use Rattle.std.specs.Prelude.{◌≡◌, ◌∷◌, ℕ, [], Bool, List, None, false, true}
use Rattle.j39_frame.specs.Address.{IsAddress}
use Rattle.j39_node.specs.History.{Who, nothing}
use Rattle.j39_node.specs.Is.{Is}
use Rattle.bus_demo.specs.Playing.{controller_of}
use Rattle.bus_demo.specs.declared.bus.player.Player.{Player}
use Rattle.bus_demo.specs.declared.bus.role.Role.{Role}

-- one of them: how many broadcasts in packets it hears at once, and whether it is a display
pub record Member : Type 0 where
  pub name : ℕ
  pub address : ℕ
  pub broadcasts : ℕ
  pub is_display : Bool

abbrev pub member : ℕ → ℕ → Member
member name address = record { name = name; address = address; broadcasts = 8; is_display = false }

abbrev pub member_of : Role → Member
member_of role = record { name = role.name; address = role.preferred; broadcasts = role.broadcasts; is_display = role.is_display }

abbrev pub who_is : Member → Who
who_is m = record { name = m.name; address = m.address; delay = 0; served = []; subscribed = None; boxes = m.broadcasts; sessions = 4; transfers = 1; window = 16; brought = nothing }

-- a player that has claimed nothing yet plays it
pub record IsPlayed (m : Member) (player : Player) : Type 0 where
  pub controller : Is (who_is m) [] (controller_of player)
  pub display : player.is_display ≡ m.is_display

-- each of them is played, in their order
abbrev pub ArePlayed : List Member → List Player → Type 0
ArePlayed [] [] = Unit {0}
ArePlayed (m ∷ ms) (player ∷ players) = IsPlayed m player × ArePlayed ms players
ArePlayed [] (player ∷ players) = ⊥
ArePlayed (m ∷ ms) [] = ⊥

abbrev pub HaveAddresses : List Member → Type 0
HaveAddresses [] = Unit {0}
HaveAddresses (m ∷ ms) = IsAddress m.address × HaveAddresses ms

-- the engine, its rival, the gearbox and the tool
abbrev pub PlaysAll : List Player → Type 0
PlaysAll = ArePlayed (member 0x8000000003401001 0 ∷ member 0x8000000001401002 0 ∷ member 0x8000000002401003 3
    ∷ member 0x8000000004401004 0xF9 ∷ [])

-- six, and the display, which hears six at once
abbrev pub PlaysDisplay : List Player → Type 0
PlaysDisplay = ArePlayed (member 0x8000000003402001 0 ∷ member 0x8000000003402002 3 ∷ member 0x8000000003402003 11
    ∷ member 0x8000000003402004 15 ∷ member 0x8000000003402005 33 ∷ member 0x8000000003402006 49
    ∷ record { name = 0x8000000003402007; address = 40; broadcasts = 6; is_display = true } ∷ [])
