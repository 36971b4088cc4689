-- Since when an address is claimed, and since when a frame of packets was taken, by places of the history.
use Rattle.std.specs.Prelude.{◌++◌, ◌+◌, ◌∷◌, ◌≡◌, ◌≤◌}
use Rattle.j39_node.specs.Common.{[], Bool, claim_of, false, find, FrameRecord, IsTrue, List, Some, true, ℕ}
use Rattle.j39_node.specs.History.{Who, Call, claim_from, is_packet, is_smaller, message_of, moment, step}
use Rattle.j39_node.specs.History.Call.{At, TakeTransferEnded}
use Rattle.j39_node.specs.History.Act.{Again, Hear, TakeFrame}
use Rattle.j39_transfers.specs.declared.kinds.Ending.{Ending as TransferEnding}
use Rattle.j39_transfers.specs.Transfers.{is_over, rests, to as to_whom, Transfer as Running}
use Rattle.j39_node.specs.Transfers.{transfers_at}

-- the sum of the forward steps of these later calls, from the moment of the earlier ones on
abbrev pub passed_in : List Call → List Call → ℕ
passed_in [] earlier = 0
passed_in (call ∷ later) earlier = passed_in later earlier + step (later ++ earlier) (moment (call ∷ later ++ earlier))

-- the moments of these calls never go back
abbrev pub NeverBack : List Call → List Call → Type 0
NeverBack [] earlier = Unit {0}
NeverBack (call ∷ later) earlier = NeverBack later earlier × (moment (later ++ earlier) ≤ moment (call ∷ later ++ earlier))

-- a claim that was taken no longer stands: a smaller NAME's claim of the address is heard, or it is to be claimed anew
abbrev pub unclaims : Who → Call → Bool
unclaims w (At now (Hear f)) = is_smaller w (claim_of f)
unclaims w (At now Again) = true
unclaims w call = false

abbrev pub NoneUnclaims : Who → List Call → Type 0
NoneUnclaims w [] = Unit {0}
NoneUnclaims w (call ∷ later) = (unclaims w call ≡ false) × NoneUnclaims w later

-- a claim of the address was taken at a call of H, and stands since; e microseconds passed since
pub record ClaimedSince (w : Who) (H : List Call) (e : ℕ) : Type 0 where
  pub later : List Call
  pub earlier : List Call
  pub at : ℕ
  pub claim : FrameRecord
  pub is : H ≡ later ++ At at (TakeFrame (Some claim)) ∷ earlier
  pub claims : message_of claim ≡ claim_from w w.address
  pub stays : NoneUnclaims w later
  pub passed : e ≡ passed_in later (At at (TakeFrame (Some claim)) ∷ earlier)

-- another of its NAME claimed this address at a call of H
pub record HasDouble (w : Who) (address : ℕ) (H : List Call) : Type 0 where
  pub later : List Call
  pub at : ℕ
  pub claim : FrameRecord
  pub earlier : List Call
  pub is : H ≡ later ++ At at (Hear claim) ∷ earlier
  pub of_it : claim_of claim ≡ Some (record { name = w.name; address = address })

-- a frame of packets was taken at a call of H; e microseconds passed since
pub record PacketSince (H : List Call) (e : ℕ) : Type 0 where
  pub later : List Call
  pub earlier : List Call
  pub at : ℕ
  pub packet : FrameRecord
  pub is : H ≡ later ++ At at (TakeFrame (Some packet)) ∷ earlier
  pub of_packets : IsTrue (is_packet packet)
  pub passed : e ≡ passed_in later (At at (TakeFrame (Some packet)) ∷ earlier)

-- the end of a transfer of the group to the destination, which ended at this time, was told at a call of H, and it rests by it
pub record RestsSince (w : Who) (H : List Call) (group to last : ℕ) : Type 0 where
  pub later : List Call
  pub earlier : List Call
  pub ended : ℕ × TransferEnding
  pub transfer : Running
  pub is : H ≡ later ++ TakeTransferEnded (Some ended) ∷ earlier
  pub was_first : find is_over (transfers_at w earlier).running ≡ Some transfer
  pub rests_by_it : IsTrue (rests transfer)
  pub to_it : to_whom transfer ≡ to
  pub of_it : transfer.sender.message.pgn ≡ group
  pub ended_at : transfer.last ≡ last
