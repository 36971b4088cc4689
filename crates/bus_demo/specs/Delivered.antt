-- Which message that was handed in is the one that a receiver delivered.
use Rattle.std.specs.Prelude.{◌≡◌, ◌≢◌, ◌≤◌, ℕ, List, Option, Some, slice_get, suc}
use Rattle.j39_frame.specs.Address.{global_address}
use Rattle.j39_frame.specs.Pgn.{pgn_raw}
use Rattle.j39_frame.specs.Stamp.{stamp_micros}
use Rattle.j39_frame.specs.declared.stamp.Stamp.{Stamp}
use Rattle.j39_transport.specs.Message.{MessageRecord}
use Rattle.bus_demo.specs.declared.bus.book.Fate.TheVariants.{Whole}
use Rattle.bus_demo.specs.declared.bus.book.Handed.{Handed}

-- it goes to one controller, and has the source, the group and the payload of what was delivered
pub record IsOf (delivered : MessageRecord) (handed : Handed) : Type 0 where
  pub to_one : handed.to ≢ global_address
  pub source : handed.address ≡ delivered.source
  pub group : pgn_raw handed.pgn ≡ delivered.pgn
  pub payload : handed.payload.items ≡ delivered.bytes

-- none from this number on is the one delivered
abbrev pub IsNoneOf : MessageRecord → List Handed → ℕ → Type 0
IsNoneOf delivered all from =
    (k : ℕ) (handed : Handed) → from ≤ k → slice_get all k ≡ Some handed → IsOf delivered handed → ⊥

-- the one of this number is, and none behind it
pub record IsLastOf (delivered : MessageRecord) (all : List Handed) (number : ℕ) : Type 0 where
  pub handed : Handed
  pub stands : slice_get all number ≡ Some handed
  pub is : IsOf delivered handed
  pub last : IsNoneOf delivered all (suc number)

-- the message is whole since this moment
abbrev pub IsWholeAt : ℕ → Handed → Option Handed → Type 0
IsWholeAt micros handed now =
    (stamp : Stamp) × (stamp_micros stamp ≡ micros) × (now ≡ Some (record handed { fate = Whole stamp }))
