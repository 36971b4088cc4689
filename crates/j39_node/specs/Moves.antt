-- What was taken and heard of the open transfers, by places of the history.
use Rattle.std.specs.Prelude.{if◌then◌else◌, ◌&&◌, ◌++◌, ◌+◌, ◌||◌, ◌∷◌, ◌≡◌, ◌≢◌, ◌≤◌, ◌⊎◌}
use Rattle.j39_node.specs.Common.{[], Abort, Acknowledgment, Bool, destination_of, false, FrameRecord, is_there, length, List, MessageRecord, nat_eq, None, not, Ok, Option, Packet, packet_data, packets_of, request_of, said_between, slice_get, Some, true, ℕ}
use Rattle.j39_node.specs.History.{Who, Call, Message, address_after, is_lost, is_some, message_of}
use Rattle.j39_node.specs.Reception.{holder, is_move}
use Rattle.j39_node.specs.History.Call.{At}
use Rattle.j39_node.specs.History.Act.{Hear, TakeFrame, Transfer}
use Rattle.j39_node.specs.Transfers.{move, open_to}
use Rattle.j39_transfers.specs.Transfers.{clears_in, is_left, is_over, is_replaced, is_spent, Transfer as Running}

-- the frame is one of the transfer to this address
abbrev pub is_move_to : Who → ℕ → List Call → FrameRecord → Bool
is_move_to w a H f = is_move w H f && is_some (destination_of f.id) a

-- those that were taken since one to it was accepted last
abbrev pub moves : Who → ℕ → List Call → List Message
moves w a [] = []
moves w a (At now (Transfer priority group to bytes (Ok token)) ∷ H) = if nat_eq to a then [] else moves w a H
moves w a (At now (TakeFrame (Some f)) ∷ H) = if is_move_to w a H f then moves w a H ++ message_of f ∷ [] else moves w a H
moves w a (call ∷ H) = moves w a H

-- its request to send; its packet of a number; an abort
abbrev pub request_move : ℕ → MessageRecord → Message
request_move to m = move to m (request_of m)

abbrev pub packet_move : ℕ → MessageRecord → ℕ → Message
packet_move to m i = move to m (Packet i (packet_data m.bytes i))

abbrev pub abort_move : ℕ → MessageRecord → ℕ → Message
abort_move to m reason = move to m (Abort reason m.pgn)

-- x may follow these: first the request to send, then packets of the message or an abort, for time (3) or too many clears to send (5)
abbrev pub IsMove : ℕ → MessageRecord → List Message → Message → Type 0
IsMove to m before x =
    ((before ≡ []) × (x ≡ request_move to m))
    ⊎ ((before ≢ []) × (((i : ℕ) × (1 ≤ i) × (i ≤ packets_of m) × (x ≡ packet_move to m i))
    ⊎ ((x ≡ abort_move to m 3) ⊎ (x ≡ abort_move to m 5))))

abbrev pub IsAmong : List Message → Message → Type 0
IsAmong xs x = (k : ℕ) × (slice_get xs k ≡ Some x)

-- a transfer to this address is accepted
abbrev pub begins : ℕ → Call → Bool
begins a (At now (Transfer priority group to bytes (Ok token))) = nat_eq to a
begins a call = false

abbrev pub NoneBegins : ℕ → List Call → Type 0
NoneBegins a [] = Unit {0}
NoneBegins a (call ∷ later) = (begins a call ≡ false) × NoneBegins a later

-- at a call of H, since when no transfer to this address was accepted, this was so of the call and those before it
pub record Happened (a : ℕ) (So : List Call → Call → Type 0) (H : List Call) : Type 0 where
  pub later : List Call
  pub call : Call
  pub earlier : List Call
  pub is : H ≡ later ++ call ∷ earlier
  pub since : NoneBegins a later
  pub so : So earlier call

-- the destination acknowledged the message, and all its packets were taken before
abbrev pub Acknowledges : Who → ℕ → MessageRecord → List Call → Call → Type 0
Acknowledges w to m earlier (At now (Hear f)) =
    (said_between to w.address f ≡ Some (Acknowledgment (length m.bytes) (packets_of m) m.pgn))
    × ((i : ℕ) → 1 ≤ i → i ≤ packets_of m → IsAmong (moves w to earlier) (packet_move to m i))
Acknowledges w to m earlier call = ⊥

-- the destination aborted it for this reason, or an abort for it was taken
abbrev pub Aborts : Who → ℕ → ℕ → MessageRecord → List Call → Call → Type 0
Aborts w reason to m earlier (At now (Hear f)) = said_between to w.address f ≡ Some (Abort reason m.pgn)
Aborts w reason to m earlier (At now (TakeFrame (Some f))) = message_of f ≡ abort_move to m reason
Aborts w reason to m earlier call = ⊥

-- who held the destination's address no longer does
abbrev pub Replaces : Who → ℕ → List Call → Call → Type 0
Replaces w to earlier (At now (Hear f)) = is_replaced (holder w earlier to) (holder w (At now (Hear f) ∷ earlier) to) ≡ true
Replaces w to earlier (At now (TakeFrame (Some f))) = is_replaced (holder w earlier to) (holder w (At now (TakeFrame (Some f)) ∷ earlier) to) ≡ true
Replaces w to earlier call = ⊥

-- how many clears to send the transfer to this address took
abbrev pub takes_clear : Bool → (ℕ → Option ℕ) → FrameRecord → Running → Bool
takes_clear lost holder f x = not (lost || (is_left None holder x || (is_over x || is_spent x))) && is_there (clears_in f x)

abbrev pub clears_by : Bool → (ℕ → Option ℕ) → FrameRecord → Option Running → ℕ → ℕ
clears_by lost holder f None n = n
clears_by lost holder f (Some x) n = if takes_clear lost holder f x then n + 1 else n

abbrev pub clears : Who → ℕ → List Call → ℕ
clears w a [] = 0
clears w a (At now (Transfer priority group to bytes (Ok token)) ∷ H) = if nat_eq to a then 0 else clears w a H
clears w a (At now (Hear f) ∷ H) =
    clears_by (is_lost (address_after w (At now (Hear f) ∷ H))) (holder w (At now (Hear f) ∷ H)) f (open_to w a H) (clears w a H)
clears w a (call ∷ H) = clears w a H
