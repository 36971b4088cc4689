-- Asking others for groups (J1939-21, 5.4.2 and 5.4.4): what a history says of it.
use Rattle.std.specs.Prelude.{if◌then◌else◌, ◌%◌, ◌&&◌, ◌++◌, ◌+◌, ◌-◌, ◌/◌, ◌<◌, ◌||◌, ◌∷◌, ◌≡◌, ◌≤◌, ◌⊎◌}
use Rattle.j39_node.specs.Common.{[], address_claimed_group, answer_time, Bool, destination_of, Err, false, FrameRecord, global_address, IsTrue, length, List, list_any, MessageRecord, nat_eq, nat_lt, None, not, null_address, Ok, Option, option_map, option_or, pgn_of, Result, slice_get, Some, source_of, true, ℕ}
use Rattle.j39_node.specs.declared.kinds.Answer.TheVariants.{Ack, Nack, Denied, Busy}
use Rattle.j39_node.specs.declared.kinds.AskEnding.{AskEnding}
use Rattle.j39_node.specs.declared.kinds.AskEnding.TheVariants.{Answered, Acknowledged, TimedOut, Withdrawn}
use Rattle.j39_node.specs.declared.kinds.Refused.{Refused}
use Rattle.j39_node.specs.declared.kinds.Refused.TheVariants.{NoAddress, BadValue, Full}
use Rattle.j39_node.specs.History.{reached, Who, Call, accepted, address_after, holds, is_acknowledgment, is_full, is_lost, is_none, is_sendable, is_some, moment, stamp_at, step}
use Rattle.j39_node.specs.History.Call.{At, TakeAskEnded}
use Rattle.j39_node.specs.History.Act.{Ask, Hear, TakeFrame}
use Rattle.j39_node.specs.Since.{passed_in}
use Rattle.j39_node.specs.Reception.{is_message, reception, time_heard, whole}
use Rattle.j39_sessions.specs.Sessions.{is_open, Session}
use Rattle.j39_node.specs.Hearing.{OpenBroadcast, is_late, listening, made_whole}

-- a group that may be sent, or that of claims (J1939-81, 4.2.1), of all or of the address of another
abbrev pub can_ask : Who → ℕ → ℕ → Bool
can_ask w group to =
    (is_sendable group || nat_eq group address_claimed_group) && (nat_eq to global_address || (nat_lt to null_address && not (nat_eq to w.address)))

-- a request that was accepted: its token, for which group, and whom (255 is all)
pub record Question : Type 0 where
  pub token : ℕ
  pub group : ℕ
  pub to : ℕ

abbrev pub question : ℕ → ℕ → ℕ → Question
question token group to = record { token = token; group = group; to = to }

abbrev pub asks : List Call → List Question
asks [] = []
asks (At now (Ask group to (Ok token)) ∷ H) = asks H ++ question token group to ∷ []
asks (call ∷ H) = asks H

-- the tokens of those that were told to have ended, and how
abbrev pub told_asks : List Call → List (ℕ × AskEnding)
told_asks [] = []
told_asks (TakeAskEnded (Some x) ∷ H) = told_asks H ++ x ∷ []
told_asks (call ∷ H) = told_asks H

-- the one that is open: accepted last, and not told to have ended
abbrev pub open_ask : List Call → Option Question
open_ask [] = None
open_ask (At now (Ask group to (Ok token)) ∷ H) = Some (question token group to)
open_ask (TakeAskEnded (Some x) ∷ H) = None
open_ask (call ∷ H) = open_ask H

-- its frame was taken: it is the message of its token, which isn't withdrawn
abbrev pub is_taken : Question → List Call → Bool
is_taken q H = nat_lt q.token (reached H)

-- the frame that is taken is that of the open request
abbrev pub has_token : Option Question → ℕ → Bool
has_token None n = false
has_token (Some q) n = nat_eq q.token n

abbrev pub is_request : List Call → FrameRecord → Bool
is_request H f = is_message f && has_token (open_ask H) (reached H)

-- what is left of the 1,250 ms that it waits after that (own); time that goes back is no time
abbrev pub wait : List Call → ℕ
wait [] = 0
wait (At now (TakeFrame (Some f)) ∷ H) = if is_request H f then answer_time else wait H - step H now
wait (At now act ∷ H) = wait H - step H now
wait (call ∷ H) = wait H

-- ---- what a frame says to it

-- a frame of an address, to all or to this one
abbrev pub reaches : Who → FrameRecord → Bool
reaches w f =
    nat_lt (source_of f.id) null_address && (is_none (destination_of f.id)
    || (is_some (destination_of f.id) global_address || is_some (destination_of f.id) w.address))

-- a message of the group, of whom was asked
abbrev pub is_answer : Question → FrameRecord → Bool
is_answer q f = nat_eq (pgn_of f.id) q.group && (nat_eq q.to global_address || nat_eq (source_of f.id) q.to)

-- the address acknowledged is this one, or none is told; and it is the group's
abbrev pub is_of : ℕ → ℕ → List ℕ → Bool
is_of own group bytes =
    (is_some (slice_get bytes 4) own || is_some (slice_get bytes 4) 255) && (is_some (slice_get bytes 5) (group % 256)
    && (is_some (slice_get bytes 6) (group / 256 % 256) && is_some (slice_get bytes 7) (group / 65536 % 256)))

-- what a control byte says
abbrev pub said_by : Option ℕ → Option AskEnding
said_by None = None
said_by (Some c) =
    if nat_eq c 0 then Some (Acknowledged Ack) else if nat_eq c 1 then Some (Acknowledged Nack)
    else if nat_eq c 2 then Some (Acknowledged Denied) else if nat_eq c 3 then Some (Acknowledged Busy) else None

-- the acknowledgment, by whom was asked; where all were, none counts
abbrev pub is_reply : Who → Question → FrameRecord → Bool
is_reply w q f = is_acknowledgment f && (nat_eq (source_of f.id) q.to && is_of w.address q.group f.bytes)

-- the source and the group of the message in packets that the frame makes whole: to this address, or a broadcast that is heard
abbrev pub made_of : Option MessageRecord → Option (ℕ × ℕ)
made_of None = None
made_of (Some m) = Some (m.source, m.pgn)

abbrev pub made : Who → List Call → ℕ → FrameRecord → Option (ℕ × ℕ)
made w H now f = option_or (made_of (whole w H now f)) (made_of (option_map (λ x. x.1) (made_whole w H now f)))

-- a message of this source and group is of the group, and of whom was asked
abbrev pub seeks : Question → Option (ℕ × ℕ) → Bool
seeks q None = false
seeks q (Some x) = nat_eq x.1 q.group && (nat_eq q.to global_address || nat_eq x.0 q.to)

abbrev pub says_to : Who → Question → FrameRecord → Option (ℕ × ℕ) → Option AskEnding
says_to w q f made =
    if seeks q made
    then Some Answered
    else if reaches w f
    then (if is_answer q f then Some Answered else if is_reply w q f then said_by (slice_get f.bytes 0) else None)
    else None

-- ---- an answer in packets on its way (J1939-21, 5.12.3: the 1,250 ms are for its begin)

-- a broadcast is in time, and of the group and of whom was asked
abbrev pub comes_by : ℕ → Question → OpenBroadcast → Bool
comes_by time q x = not (is_late time x) && seeks q (Some (x.source, x.group))

abbrev pub comes_in : ℕ → Question → List OpenBroadcast → Bool
comes_in time q = list_any (comes_by time q)

-- one to the open request is: a session of whom was asked, and of the group (J1939-21, 5.10.3.1: its RTS tells it), or such a broadcast
abbrev pub is_coming : ℕ → Option Question → List Session → List OpenBroadcast → Bool
is_coming time None sessions broadcasts = false
is_coming time (Some q) sessions broadcasts = is_open q.to q.group sessions || comes_in time q broadcasts

-- at this time, by which a broadcast may be late, one to the open request is on its way
abbrev pub comes : Who → List Call → ℕ → Bool
comes w H time = is_coming time (open_ask H) (reception w H).sessions (listening w H).current

-- ---- how it ends

abbrev pub first : Option AskEnding → Option AskEnding → Option AskEnding
first None later = later
first (Some e) later = Some e

-- without a word: by time, unless an answer is coming, or as the address is lost
abbrev pub silent_end : Bool → ℕ → Bool → Bool → Option AskEnding
silent_end taken left coming lost =
    if taken && (nat_eq left 0 && not coming) then Some TimedOut else if lost then Some Withdrawn else None

-- by a frame that is heard while so much is left, an answer is coming or not before it, and the address is lost or not by it: a late
-- one begins no answer
abbrev pub end_at : Who → Option Question → ℕ → ℕ → Bool → Bool → FrameRecord → Option (ℕ × ℕ) → Option AskEnding
end_at w None n left coming lost f made = None
end_at w (Some q) n left coming lost f made =
    first (silent_end (nat_lt q.token n) left coming lost) (if nat_lt q.token n then says_to w q f made else None)

-- how the open request ended by what was heard: what came first stands
abbrev pub ended : Who → List Call → Option AskEnding
ended w [] = None
ended w (At now (Hear f) ∷ H) =
    first (ended w H)
    (end_at w (open_ask H) (reached H) (wait H - step H now) (comes w H (time_heard (At now (Hear f) ∷ H)))
    (is_lost (address_after w (At now (Hear f) ∷ H))) f (made w H now f))
ended w (At now (Ask group to (Ok token)) ∷ H) = None
ended w (call ∷ H) = ended w H

-- ---- the answers that a history asks for

abbrev pub is_asking : Option Question → Bool
is_asking None = false
is_asking (Some q) = true

abbrev pub answer_to_ask : Who → List Call → ℕ → ℕ → ℕ → Result ℕ Refused
answer_to_ask w H now group to =
    if holds w H now
    then (if can_ask w group to
    then (if is_full w H || is_asking (open_ask H) then Err Full else Ok (length (accepted w H)))
    else Err BadValue)
    else Err NoAddress

abbrev pub ask_end : Option Question → ℕ → Option AskEnding → ℕ → Bool → Bool → Option (ℕ × AskEnding)
ask_end None n heard left coming lost = None
ask_end (Some q) n heard left coming lost =
    option_map (λ e. (q.token, e)) (first heard (silent_end (nat_lt q.token n) left coming lost))

abbrev pub next_ask_ended : Who → List Call → Option (ℕ × AskEnding)
next_ask_ended w H =
    ask_end (open_ask H) (reached H) (ended w H) (wait H) (comes w H (time_heard H)) (is_lost (address_after w H))

-- its frame was taken, nothing ended it, and no answer is coming
abbrev pub lacks_answer : Bool → Option AskEnding → Bool → Bool
lacks_answer taken None coming = taken && not coming
lacks_answer taken (Some e) coming = false

abbrev pub is_waiting : Option Question → ℕ → Option AskEnding → Bool → Bool
is_waiting None n heard coming = false
is_waiting (Some q) n heard coming = lacks_answer (nat_lt q.token n) heard coming

-- when it times out: what is left counts from the last call
abbrev pub out_at : Bool → ℕ → ℕ → Option ℕ
out_at waited last left = if waited then stamp_at (last + left) else None

abbrev pub request_tick : Who → List Call → Option ℕ
request_tick w H = out_at (is_waiting (open_ask H) (reached H) (ended w H) (comes w H (time_heard H))) (moment H) (wait H)

-- ---- by places of the history

-- its frame was taken at a call of H, and e microseconds passed since
pub record AskedSince (H : List Call) (q : Question) (e : ℕ) : Type 0 where
  pub later : List Call
  pub earlier : List Call
  pub at : ℕ
  pub frame : FrameRecord
  pub is : H ≡ later ++ At at (TakeFrame (Some frame)) ∷ earlier
  pub current : open_ask earlier ≡ Some q
  pub request : IsTrue (is_request earlier frame)
  pub passed : e ≡ passed_in later (At at (TakeFrame (Some frame)) ∷ earlier)

-- at a call of H, after its frame was taken less than 1,250 ms before, or while an answer was coming, this was heard first
pub record HeardFirst (w : Who) (H : List Call) (q : Question) (ending : AskEnding) : Type 0 where
  pub later : List Call
  pub at : ℕ
  pub frame : FrameRecord
  pub earlier : List Call
  pub is : H ≡ later ++ At at (Hear frame) ∷ earlier
  pub current : open_ask earlier ≡ Some q
  pub none : ended w earlier ≡ None
  pub since : ℕ
  pub asked : AskedSince earlier q since
  pub in_time : (since + step earlier at < answer_time) ⊎ IsTrue (comes w earlier (time_heard (At at (Hear frame) ∷ earlier)))
  pub says : says_to w q frame (made w earlier at frame) ≡ Some ending

-- what was coming before the frame that the last call heard
abbrev pub found_coming : Who → List Call → Bool
found_coming w (At now (Hear f) ∷ H) = comes w H (time_heard (At now (Hear f) ∷ H))
found_coming w H = comes w H (time_heard H)

-- at a call of H, 1,250 ms or more after its frame was taken, no answer was coming: behind it, or before the frame that it heard
pub record RanOut (w : Who) (H : List Call) (q : Question) : Type 0 where
  pub later : List Call
  pub earlier : List Call
  pub is : H ≡ later ++ earlier
  pub since : ℕ
  pub asked : AskedSince earlier q since
  pub out : answer_time ≤ since
  pub none : (comes w earlier (time_heard earlier) ≡ false) ⊎ (found_coming w earlier ≡ false)

-- none is accepted or told
abbrev pub ends : Call → Bool
ends (At now (Ask group to (Ok token))) = true
ends (TakeAskEnded (Some x)) = true
ends call = false

abbrev pub NoneEnds : List Call → Type 0
NoneEnds [] = Unit {0}
NoneEnds (call ∷ later) = (ends call ≡ false) × NoneEnds later
