-- Messages sent to addresses in packets (J1939-21, 5.10.2.4 and 5.10.3): what a history says of them.
use Rattle.std.specs.Prelude.{if◌then◌else◌, ◌&&◌, ◌++◌, ◌+◌, ◌-◌, ◌||◌, ◌∷◌}
use Rattle.j39_node.specs.Common.{[], Bool, bytes_with, Err, false, FrameRecord, group_with, is_ok, last_count, last_stamp, length, List, MessageRecord, min, nat_eq, nat_lt, None, not, null_address, Ok, Option, option_map, Result, SenderRecord, Signal, slack, Some, ToSend, true, ℕ}
use Rattle.j39_node.specs.declared.kinds.Refused.{Refused}
use Rattle.j39_node.specs.declared.kinds.Refused.TheVariants.{NoAddress, BadValue, Full}
use Rattle.j39_node.specs.History.{Who, Message, Call, address_after, broadcast_from, can_broadcast, carried, delayed, has_packets, held_at, holds, is_claim, is_held, is_lost, may_claim, moment, owes_claim, pause, stamp_at, step}
use Rattle.j39_node.specs.Reception.{holder, is_move, is_waiting}
use Rattle.j39_node.specs.History.Call.{At, TakeTransferEnded}
use Rattle.j39_node.specs.History.Act.{Hear, TakeFrame, Transfer}
use Rattle.j39_transfers.specs.Events.{after, Begins, Event, Hears, Leaves, Loses, Moves, Sends, Tells}
use Rattle.j39_transfers.specs.Transfers.{answer, awake, is_resting as is_resting_in, of, Order, Rest, said, soonest, told, Transfer as Running, TransfersRecord}
use Rattle.j39_transfers.specs.declared.kinds.Ending.{Ending}
pub use Rattle.j39_transfers.specs.Transfers.{sooner}

-- what may be transferred: what may be broadcast, to the address of another, with a priority among transfers
abbrev pub can_transfer : Who → ℕ → ℕ → ℕ → List ℕ → Bool
can_transfer w priority group to bytes = nat_lt priority 8 && (can_broadcast group bytes && (nat_lt to null_address && not (nat_eq to w.address)))

-- the transfers that were accepted: their destinations and messages
abbrev pub transfers : Who → List Call → List (ℕ × MessageRecord)
transfers w [] = []
transfers w (At now (Transfer priority group to bytes (Ok token)) ∷ H) = transfers w H ++ (to, broadcast_from w group bytes) ∷ []
transfers w (call ∷ H) = transfers w H

-- their priority numbers
abbrev pub priorities : List Call → List ℕ
priorities [] = []
priorities (At now (Transfer priority group to bytes (Ok token)) ∷ H) = priorities H ++ priority ∷ []
priorities (call ∷ H) = priorities H

-- the tokens of those that were told to have ended, and how
abbrev pub told_transfers : List Call → List (ℕ × Ending)
told_transfers [] = []
told_transfers (TakeTransferEnded (Some x) ∷ H) = told_transfers H ++ x ∷ []
told_transfers (call ∷ H) = told_transfers H

-- the sum of the forward steps, those before a move too
abbrev pub age : Who → List Call → ℕ
age w [] = w.brought.age
age w (At now act ∷ H) = age w H + step H now
age w (call ∷ H) = age w H

-- this time, as a stamp can tell it
abbrev pub clock : ℕ → ℕ
clock time = min time last_stamp

abbrev pub clock_at : Who → List Call → ℕ → ℕ
clock_at w H now = clock (age w H + step H now)

-- ---- the transfers of its address (`j39_transfers`): what they went through, the newest first

abbrev pub order : ℕ → ℕ → ℕ → ℕ → List ℕ → Order
order token priority group to bytes = record { token = token; to = to; group = group; priority = priority; bytes = bytes }

-- by a frame the address is lost, or it is heard
abbrev pub heard_events : Bool → ℕ → (ℕ → Option ℕ) → FrameRecord → List Event → List Event
heard_events true now holder f E = Loses now ∷ E
heard_events false now holder f E = Hears f now ∷ Leaves None holder now ∷ E

-- the frame that is taken is a claim, one of a transfer, or another
abbrev pub taken_events : Bool → Bool → ℕ → (ℕ → Option ℕ) → List Event → List Event
taken_events true move now holder E = Leaves None holder now ∷ E
taken_events false true now holder E = Sends now ∷ E
taken_events false false now holder E = E

-- a message that can be sent is accepted, or there is no room for it: then too what no longer rests goes
abbrev pub is_tried : Result ℕ Refused → Bool → Bool
is_tried (Ok token) last = true
is_tried (Err Full) last = not last
is_tried (Err e) last = false

abbrev pub tried_events : Bool → Event → List Event → List Event
tried_events true event E = event ∷ E
tried_events false event E = E

abbrev pub transfer_events : Who → List Call → List Event
transfer_events w [] = Moves w.address ∷ w.brought.events
transfer_events w (At now (Hear f) ∷ H) =
    heard_events (is_lost (address_after w (At now (Hear f) ∷ H))) (clock_at w H now) (holder w (At now (Hear f) ∷ H)) f (transfer_events w H)
transfer_events w (At now (TakeFrame (Some f)) ∷ H) =
    taken_events (is_claim f) (is_move w H f) (clock_at w H now) (holder w (At now (TakeFrame (Some f)) ∷ H)) (transfer_events w H)
transfer_events w (At now (Transfer priority group to bytes answer) ∷ H) =
    tried_events (is_tried answer (nat_eq (length (transfers w H)) last_count))
    (Begins (order (length (transfers w H)) priority group to bytes) (holder w H to) (clock_at w H now)) (transfer_events w H)
transfer_events w (TakeTransferEnded (Some x) ∷ H) = Tells ∷ transfer_events w H
transfer_events w (call ∷ H) = transfer_events w H

abbrev pub transfers_at : Who → List Call → TransfersRecord
transfers_at w H = after 0 w.transfers (transfer_events w H)

-- the one to an address that isn't told to have ended
abbrev pub open_to : Who → ℕ → List Call → Option Running
open_to w a H = of a (transfers_at w H).running

-- the frame that says something of a message to its destination, of priority 7
abbrev pub move : ℕ → MessageRecord → Signal → Message
move to m signal = record {
  source = m.source;
  destination = Some to;
  priority = 7;
  group = group_with signal;
  bytes = bytes_with signal;
}

abbrev pub says : SenderRecord → Signal → Message
says s signal = move s.destination s.message signal

-- what is sent at a moment
abbrev pub carried_by : ToSend → Message
carried_by m = carried m.id m.bytes

abbrev pub next_transfer : Who → List Call → ℕ → Option Message
next_transfer w H now = option_map carried_by (said (clock_at w H now) (transfers_at w H))

abbrev pub next_transfer_ended : Who → List Call → Option (ℕ × Ending)
next_transfer_ended w H = told (transfers_at w H)

-- those pairs of destination and group that rest at this moment
abbrev pub resting_at : Who → List Call → ℕ → List Rest
resting_at w H now = (awake (clock_at w H now) (transfers_at w H)).rests

abbrev pub is_resting : Who → List Call → ℕ → ℕ → ℕ → Bool
is_resting w H now group to = is_resting_in to group (resting_at w H now)

-- there is no token for it, or the transfers refuse it
abbrev pub is_refused : Who → List Call → ℕ → ℕ → ℕ → ℕ → List ℕ → Bool
is_refused w H now priority group to bytes =
    nat_eq (length (transfers w H)) last_count
    || not (is_ok (answer (order (length (transfers w H)) priority group to bytes) (awake (clock_at w H now) (transfers_at w H))))

abbrev pub answer_to_transfer : Who → List Call → ℕ → ℕ → ℕ → ℕ → List ℕ → Result ℕ Refused
answer_to_transfer w H now priority group to bytes =
    if holds w H now
    then (if can_transfer w priority group to bytes
    then (if is_refused w H now priority group to bytes then Err Full else Ok (length (transfers w H)))
    else Err BadValue)
    else Err NoAddress

-- ---- when something is due

-- in how long a frame of the open broadcast is, by what is left of its pause
abbrev pub packet_in : Bool → ℕ → Option ℕ
packet_in left pause = if left then Some (pause - slack) else None

abbrev pub packets_in : Who → List Call → Option ℕ
packets_in w H = sooner (packet_in (has_packets w H) (pause H)) (soonest (clock (age w H)) (transfers_at w H).running)

abbrev pub at_in : ℕ → Option ℕ → Option ℕ
at_in m None = None
at_in m (Some n) = stamp_at (m + n)

-- the moment of the last call, if a frame can be taken; else that at which one of packets can be, 'cannot claim', or the address is held
abbrev pub next_due : Who → List Call → Option ℕ
next_due w H =
    if may_claim w H (delayed w H) || (is_held (address_after w H) && is_waiting w H)
    then stamp_at (moment H)
    else if is_held (address_after w H)
    then at_in (moment H) (packets_in w H)
    else if owes_claim w H then stamp_at (moment H + delayed w H) else held_at (address_after w H) (moment H)
