-- The histories that a controller can have had.
use Rattle.std.specs.Prelude.{if◌then◌else◌, ◌&&◌, ◌++◌, ◌+◌, ◌-◌, ◌||◌, ◌∷◌, ◌≡◌, ◌≤◌}
use Rattle.j39_node.specs.Common.{[], Bool, called_time, Cannot, Claim, claim_of, claim_time, Claiming, drop, Err, false, FrameRecord, global_address, Holding, id_raw, Idle, Knows, last_count, length, List, map, max, MessageRecord, min, name_raw, nat_eq, nat_le, nat_lt, None, not, null_address, Ok, Option, option_map, packets_of, pgn_raw, places, request_group, Result, slack, slice_get, slice_set, Some, source_of, stamp_micros, Status, true, ℕ}
use Rattle.j39_node.specs.declared.controller.Controller.{Controller}
use Rattle.j39_node.specs.declared.heard.Heard.{Heard as Read}
use Rattle.j39_node.specs.declared.heard.Heard.TheVariants as read
use Rattle.j39_node.specs.declared.hold.Hold.{Hold}
use Rattle.j39_node.specs.declared.lane.Lane.{Lane}
use Rattle.j39_node.specs.declared.lane.Open.{Open}
use Rattle.j39_node.specs.declared.turn.Turn.{Turn}
use Rattle.j39_node.specs.declared.turn.Turn.TheVariants.{Reply, Single, Packet, Move}
use Rattle.j39_address.specs.Claim.{claim_by}
use Rattle.j39_frame.specs.Address.{IsAddress}
use Rattle.j39_node.specs.declared.own.Own.{Own}
use Rattle.j39_node.specs.declared.setup.Setup.{Setup}
use Rattle.j39_node.specs.declared.transfers.Transfers.{Transfers}
use Rattle.j39_transfers.specs.Events.{after as transfers_after}
use Rattle.j39_transfers.specs.Shown.{transfers_of}
use Rattle.j39_transfers.specs.Transfers.{said, TransfersRecord}
use Rattle.j39_node.specs.declared.requests.Request.{Request}
use Rattle.j39_node.specs.declared.requests.Due.{Due}
use Rattle.j39_node.specs.declared.outgoing.Outgoing.{Outgoing}
use Rattle.j39_node.specs.declared.received.Received.{Received}
use Rattle.j39_node.specs.declared.kinds.Ending.{Ending}
use Rattle.j39_node.specs.declared.kinds.Ending.TheVariants.{Done, Withdrawn}
use Rattle.j39_node.specs.declared.news.Untold.{Untold}
use Rattle.j39_node.specs.declared.kinds.News.{News}
use Rattle.j39_node.specs.declared.kinds.News.TheVariants.{AddressLost, AnotherAtAddress, MessagesMissed, NameDoubled}
use Rattle.j39_node.specs.declared.kinds.Refused.{Refused}
use Rattle.j39_node.specs.declared.kinds.Refused.TheVariants.{NoAddress, BadValue, Full}
use Rattle.j39_node.specs.Hold.{standing_of}
use Rattle.j39_node.specs.History.{older, reached, Brought, Who, Message, Draft, Call, Address, carried, message_of, AreFew, moment, address_after, holds, is_lost, claim_address, claim_from, owes_claim, patience, turns, can_send, accepted, told, is_full, got, kept, missed, Asked, asked_group, requests, handed, due, acknowledged, acknowledgment, told_claims, lost_news, another_news, missed_news, broadcast_from, broadcasts, can_broadcast, frame_of, is_busy, open_broadcast, packets, pause, step, nothing, content, is_blank, has_packets, is_left, delayed, doubled_news, may_claim, latest, message_from}
use Rattle.j39_node.specs.History.Call.{At, Withdraw, TakeAskEnded, TakeEnded, TakeReceived, TakeRequest, TakeNews, TakeBroadcastEnded, ReleaseTransfer, TakeTransferEnded, ReleaseBroadcast, Renew}
use Rattle.j39_node.specs.History.Act.{Ask, TakeFrame, Send, Acknowledge, Broadcast, Transfer}
use Rattle.j39_node.specs.History.Address.{NotClaimed, Claimed, Lost}
use Rattle.j39_sessions.specs.Sessions.{hears as sessions_hear, leaves, loses, SessionsRecord, ticks as sessions_tick}
use Rattle.j39_sessions.specs.Shown.{sessions_of}
use Rattle.j39_node.specs.Reception.{yields, askers, senders, called, called_for, Calling, calls_whom, claimed_again, waned, time_heard, heard_at, later, reception, replies, replies_of, is_that}
use Rattle.j39_node.specs.Asking.{Question, answer_to_ask, ended, first, lacks_answer, next_ask_ended, open_ask, question, says_to, silent_end, wait}
use Rattle.j39_node.specs.declared.kinds.AskEnding.{AskEnding}
use Rattle.j39_node.specs.declared.asking.Asking.{Asking}
use Rattle.j39_node.specs.declared.asking.Open as asking
use Rattle.j39_node.specs.declared.incoming.Incoming.{Incoming}
use Rattle.j39_node.specs.Hearing.{broadcast_senders, Listening, hears_in, is_unheard_in, listening, message_by, staying, those_over, unheard, unheard_news, waiting}
use Rattle.j39_node.specs.Boxes.{how_many, in_box}
use Rattle.j39_node.specs.declared.hearing.Hearing.{Hearing}
use Rattle.j39_node.specs.Transfers.{age, answer_to_transfer, carried_by, clock, next_transfer, next_transfer_ended, transfers as all_transfers, transfers_at}

-- ---- the answers that a history asks for

abbrev pub stamped : FrameRecord → ℕ × Message
stamped f = (f.stamp, message_of f)

-- frame i of the open broadcast, once it is due
abbrev pub packet_by : Option (ℕ × MessageRecord) → ℕ → ℕ → Option Message
packet_by None i left = None
packet_by (Some x) i left = if nat_le left slack && nat_le i (packets_of x.1) then Some (frame_of x.1 i) else None

abbrev pub next_packet : Who → List Call → ℕ → Option Message
next_packet w H now = packet_by (open_broadcast w H) (length (packets H)) (pause H - step H now)

-- a frame of the open broadcast goes before one of a transfer
abbrev pub long_by : Option Message → Option Message → Option Message
long_by None transfer = transfer
long_by (Some m) transfer = Some m

abbrev pub next_long : Who → List Call → ℕ → Option Message
next_long w H now = long_by (next_packet w H now) (next_transfer w H now)

abbrev pub is_there : Option Message → Bool
is_there None = false
is_there (Some m) = true

abbrev pub is_turn : Option Turn → Bool
is_turn None = false
is_turn (Some turn) = true

-- a frame of the open broadcast is overdue
abbrev pub is_overdue : Who → List Call → ℕ → Bool
is_overdue w H now = has_packets w H && nat_eq (pause H - step H now) 0

-- a frame of a transfer is due, and isn't the very frame that the first reply is
abbrev pub is_apart : Option Message → Option Message → Bool
is_apart None reply = false
is_apart (Some m) reply = not (is_that m reply)

-- what is due beside claims and acknowledgments: an overdue frame of the open broadcast; a reply that waits; a message that was accepted and
-- wasn't taken; a frame of the open broadcast, overdue or not; one of a transfer
pub record Ready : Type 0 where
  pub overdue : Bool
  pub reply : Bool
  pub message : Bool
  pub packet : Bool
  pub transfer : Bool

abbrev pub ready : Who → List Call → ℕ → Ready
ready w H now = record {
  overdue = is_overdue w H now;
  reply = nat_lt 0 (length (replies w H));
  message = nat_lt (reached H) (length (accepted w H));
  packet = has_packets w H && nat_le (pause H - step H now) slack;
  transfer = is_apart (next_transfer w H now) (slice_get (replies w H) 0);
}

-- what goes first of it. Behind a reply the next yields to the rest
abbrev pub turn_of : Bool → Ready → Option Turn
turn_of yields r =
    if r.overdue then Some Packet
    else if r.reply && not (yields && (r.message || (r.packet || r.transfer))) then Some Reply
    else if r.message then Some Single
    else if r.packet then Some Packet
    else if r.transfer then Some Move
    else None

abbrev pub next_turn : Who → List Call → ℕ → Option Turn
next_turn w H now = turn_of (yields w H) (ready w H now)

-- its frame: of a reply, the first that waits; of a message, the first that wasn't taken
abbrev pub turn_frame : Option Turn → Option Message → Option (ℕ × Message) → Option Message → Option Message → Option Message
turn_frame None reply message packet transfer = None
turn_frame (Some Reply) reply message packet transfer = reply
turn_frame (Some Single) reply message packet transfer = option_map content message
turn_frame (Some Packet) reply message packet transfer = packet
turn_frame (Some Move) reply message packet transfer = transfer

abbrev pub other : Who → List Call → ℕ → Option Message
other w H now =
    turn_frame (next_turn w H now) (slice_get (replies w H) 0) (slice_get (accepted w H) (reached H))
    (next_packet w H now) (next_transfer w H now)

-- beside claims and acknowledgments, what goes from an address that is held
abbrev pub next_other : Who → List Call → ℕ → Option Message
next_other w H now = if holds w H now then other w H now else None

-- behind two claims or acknowledgments in a row another frame goes first, where there is one
abbrev pub gives_way : Who → List Call → ℕ → Bool
gives_way w H now = nat_le 2 (turns H) && is_there (next_other w H now)

abbrev pub claim_due : Who → List Call → ℕ → Bool
claim_due w H now = may_claim w H (delayed w H - step H now)

abbrev pub claim_goes : Who → List Call → ℕ → Bool
claim_goes w H now = claim_due w H now && not (gives_way w H now)

abbrev pub next_acknowledgment : Who → List Call → ℕ → Option Message
next_acknowledgment w H now = if gives_way w H now then None else slice_get (due w H) (length (acknowledged H))

-- an acknowledgment goes before what else is due
abbrev pub control_of : Option Message → Option Message → Option Message
control_of (Some m) other = Some m
control_of None other = other

-- the claim that is owed goes first; else, from an address that is held, the first acknowledgment that is due and wasn't taken, or
-- what is next of the rest
abbrev pub next_frame : Who → List Call → ℕ → Option (ℕ × Message)
next_frame w H now =
    if claim_goes w H now then Some (now, claim_from w (claim_address w (address_after w H)))
    else if holds w H now then option_map (λ m. (now, m)) (control_of (next_acknowledgment w H now) (other w H now))
    else None

-- a request for the claims of all, or of an address, from the null address: it goes where no address is held (J1939-81, 4.2.1)
abbrev pub claims_request : ℕ → Message
claims_request to = record {
  source = null_address;
  destination = Some to;
  priority = 6;
  group = request_group;
  bytes = 0 ∷ 238 ∷ 0 ∷ [];
}

abbrev pub next_claims_request : Who → List Call → ℕ → ℕ → Option (ℕ × Message)
next_claims_request w H now to =
    if not (holds w H now) && (nat_eq to global_address || nat_lt to null_address) then Some (now, claims_request to) else None

abbrev pub answer_to_send : Who → List Call → ℕ → Draft → Result ℕ Refused
answer_to_send w H now d =
    if holds w H now then (if can_send w d then (if is_full w H then Err Full else Ok (length (accepted w H))) else Err BadValue)
    else Err NoAddress

-- the last that is alike, and neither taken nor told to have ended, is renewed
abbrev pub next_renewed : Who → List Call → Draft → Option ℕ
next_renewed w H d = if can_send w d then latest (message_from w d) (max (reached H) (length (told H))) 0 (accepted w H) None else None

-- a message that waits is withdrawn, unless it is a request, or the address is lost, by which it ends
abbrev pub may_go : Option (ℕ × Message) → Bool
may_go None = false
may_go (Some x) = not (is_blank x || nat_eq x.1.group request_group)

abbrev pub next_withdrawn : Who → List Call → ℕ → Bool
next_withdrawn w H token = not (is_lost (address_after w H)) && (nat_le (reached H) token && may_go (slice_get (accepted w H) token))

-- what was taken is done; what wasn't is withdrawn where that was asked, once those before it have ended, or the address is lost
abbrev pub ending_of : Bool → Bool → ℕ → Option (ℕ × Ending)
ending_of true lost token = Some (token, Done)
ending_of false true token = Some (token, Withdrawn)
ending_of false false token = None

abbrev pub end_of : Bool → Bool → Option (ℕ × Message) → Option (ℕ × Ending)
end_of taken lost None = None
end_of taken lost (Some x) = ending_of (taken && not (is_blank x)) (taken || lost) x.0

abbrev pub next_ended : Who → List Call → Option (ℕ × Ending)
next_ended w H =
    end_of (nat_lt (length (told H)) (reached H)) (is_lost (address_after w H)) (slice_get (accepted w H) (length (told H)))

abbrev pub answer_to_broadcast : Who → List Call → ℕ → ℕ → List ℕ → Result ℕ Refused
answer_to_broadcast w H now group bytes =
    if holds w H now
    then (if can_broadcast group bytes then (if is_busy w H then Err Full else Ok (length (broadcasts w H))) else Err BadValue)
    else Err NoAddress

-- a broadcast is done once all its frames were taken
abbrev pub broadcast_end : Option (ℕ × MessageRecord) → ℕ → Bool → Option (ℕ × Ending)
broadcast_end None i lost = None
broadcast_end (Some x) i lost = ending_of (nat_lt (packets_of x.1) i) lost x.0

abbrev pub next_broadcast_ended : Who → List Call → Option (ℕ × Ending)
next_broadcast_ended w H = broadcast_end (open_broadcast w H) (length (packets H)) (is_lost (address_after w H))

abbrev pub next_received : Who → List Call → Option (ℕ × Message)
next_received w H = slice_get (kept w H) (length (got H))

abbrev pub next_request : Who → List Call → Option Asked
next_request w H = slice_get (requests w H) (length (handed H))

abbrev pub news_of : Bool → Bool → Option ℕ → Bool → Option News
news_of true another doubled missed = Some AddressLost
news_of false true doubled missed = Some AnotherAtAddress
news_of false false (Some address) missed = Some (NameDoubled address)
news_of false false None true = Some MessagesMissed
news_of false false None false = None

abbrev pub next_news : Who → List Call → Option News
next_news w H = news_of (lost_news w H) (another_news w H) (doubled_news w H) (missed_news w H || unheard_news w H)

-- a request to all is never acknowledged
abbrev pub answer_to_acknowledge : Who → List Call → ℕ → Asked → Result (Unit {0}) Refused
answer_to_acknowledge w H now r =
    if holds w H now
    then (if nat_eq r.destination w.address
    then (if nat_eq (length (due w H) - length (acknowledged H)) places then Err Full else Ok tt)
    else Err BadValue)
    else Err NoAddress

-- the answer of the call is the one that the history before it asks for
abbrev pub IsAnswered : Who → List Call → Call → Type 0
IsAnswered w H (At now (TakeFrame answer)) = option_map stamped answer ≡ next_frame w H now
IsAnswered w H (At now (Send draft answer)) = answer ≡ answer_to_send w H now draft
IsAnswered w H (Renew draft answer) = answer ≡ next_renewed w H draft
IsAnswered w H (Withdraw token answer) = answer ≡ next_withdrawn w H token
IsAnswered w H (TakeEnded answer) = answer ≡ next_ended w H
IsAnswered w H (TakeReceived answer) = answer ≡ next_received w H
IsAnswered w H (TakeRequest answer) = answer ≡ next_request w H
IsAnswered w H (TakeNews answer) = answer ≡ next_news w H
IsAnswered w H (At now (Acknowledge r answer result)) = result ≡ answer_to_acknowledge w H now r
IsAnswered w H (At now (Broadcast group bytes answer)) = answer ≡ answer_to_broadcast w H now group bytes
IsAnswered w H (TakeBroadcastEnded answer) = answer ≡ next_broadcast_ended w H
IsAnswered w H (ReleaseTransfer answer) = answer ≡ nat_lt 0 (length (reception w H).waits)
IsAnswered w H (At now (Transfer priority group to bytes answer)) = answer ≡ answer_to_transfer w H now priority group to bytes
IsAnswered w H (TakeTransferEnded answer) = answer ≡ next_transfer_ended w H
IsAnswered w H (At now (Ask group to answer)) = answer ≡ answer_to_ask w H now group to
IsAnswered w H (TakeAskEnded answer) = answer ≡ next_ask_ended w H
IsAnswered w H (ReleaseBroadcast answer) = answer ≡ nat_lt 0 (length (waiting w H))
IsAnswered w H call = Unit {0}

-- its address is one, and of the transfers that it brought along none is open
abbrev pub IsFresh : Who → Type 0
IsFresh w = IsAddress w.address × ((transfers_after 0 w.transfers w.brought.events).running ≡ [])

abbrev pub AreAnswered : Who → List Call → Type 0
AreAnswered w [] = IsFresh w
AreAnswered w (call ∷ H) = AreAnswered w H × IsAnswered w H call

-- the claim and the request for a group that a frame makes, by what was read of it
abbrev pub claim_in : Read → Option Claim
claim_in (read.Claim name address) = Some (claim_by (name, address))
claim_in (read.Request group) = None
claim_in read.Other = None

abbrev pub request_in : Read → Option ℕ
request_in (read.Claim name address) = None
request_in (read.Request group) = Some group
request_in read.Other = None

-- f was read so
pub record IsRead (x : Read) (f : FrameRecord) : Type 0 where
  pub claim : claim_in x ≡ claim_of f
  pub request : request_in x ≡ asked_group f

-- how far the address is, as `status` answers it
abbrev pub status_of : Who → Address → Status
status_of w NotClaimed = Idle
status_of w (Claimed e) = if nat_le claim_time e then Holding w.address else Claiming w.address
status_of w Lost = Cannot

abbrev pub status_after : Who → List Call → Status
status_after w H = status_of w (address_after w H)

-- ---- the controller that it leads to

-- what it brought along is no part of the code's state
abbrev pub who_of : Brought → Own → Who
who_of brought own = record {
  name = name_raw own.name;
  address = own.address;
  delay = own.delay;
  served = own.served.items;
  subscribed = option_map (λ groups. groups.items) own.subscribed;
  boxes = own.boxes;
  sessions = own.sessions;
  transfers = own.transfers;
  window = own.window;
  brought = brought;
}

abbrev pub who_for : Setup → Who
who_for s = record {
  name = name_raw s.name;
  address = s.address;
  delay = s.delay;
  served = map pgn_raw s.served.now;
  subscribed = option_map (λ groups. map pgn_raw groups.now) s.subscribed;
  boxes = s.broadcasts;
  sessions = s.sessions;
  transfers = s.transfers;
  window = s.window;
  brought = nothing;
}

-- a controller is made of it
abbrev pub IsRight : Who → Type 0
IsRight w = IsAddress w.address × (length w.served ≤ 16) × AreFew w.subscribed

abbrev pub hold_after : Who → List Call → Hold
hold_after w H = record {
  moment = moment H;
  standing = standing_of (address_after w H);
  owes_claim = owes_claim w H;
  turns = min (turns H) 2;
  yields = yields w H;
  patience = patience w H;
  delay = delayed w H;
  pause = pause H;
  age = min (age w H) last_count;
  wait = wait H;
}

-- the same, led to a moment
abbrev pub led : Who → List Call → ℕ → Hold
led w H now = record (hold_after w H) {
  moment = now;
  standing = standing_of (older (step H now) (address_after w H));
  patience = patience w H - step H now;
  delay = delayed w H - step H now;
  pause = pause H - step H now;
  age = min (age w H + step H now) last_count;
  wait = wait H - step H now;
}

-- from an address that is held goes what is due beside claims and acknowledgments, by a hold that was led to this moment
pub record IsOthers (w : Who) (H : List Call) (now : ℕ) (k : Hold) : Type 0 where
  pub passed : k ≡ led w H now
  pub owes : claim_goes w H now ≡ false
  pub held : holds w H now ≡ true
  pub none : next_acknowledgment w H now ≡ None

-- the open broadcast, how many of its frames were taken, the next token, and how many boxes there are: one, where there are any for
-- transfers
pub record LaneRecord : Type 0 where
  pub current : Option (ℕ × MessageRecord)
  pub count : ℕ
  pub next_token : ℕ
  pub boxes : ℕ

abbrev pub opened : Who → Open → ℕ × MessageRecord
opened w x = (x.token, broadcast_from w (pgn_raw x.group) x.bytes.value.items)

abbrev pub lane_of : Who → Lane → LaneRecord
lane_of w l = record {
  current = option_map (opened w) l.current;
  count = l.count;
  next_token = l.next_token;
  boxes = how_many l.current + how_many l.free;
}

abbrev pub lane_after : Who → List Call → LaneRecord
lane_after w H = record {
  current = open_broadcast w H;
  count = length (packets H);
  next_token = length (broadcasts w H);
  boxes = min 1 w.transfers;
}

-- the sessions, when they were told the time, how late it is there, and whose claim was called for
pub record IncomingRecord : Type 0 where
  pub moment : ℕ
  pub clock : ℕ
  pub called : Calling
  pub reception : SessionsRecord

abbrev pub incoming_of : Incoming → IncomingRecord
incoming_of x = record {
  moment = x.moment;
  clock = stamp_micros x.clock;
  called = record { left = x.called; whose = x.whom };
  reception = sessions_of x.sessions;
}

abbrev pub with_reception : SessionsRecord → IncomingRecord → IncomingRecord
with_reception r x = record x { reception = r }

abbrev pub passed_to : ℕ → IncomingRecord → IncomingRecord
passed_to now x = record x { moment = now; clock = later x.clock (now - x.moment); called = waned (now - x.moment) x.called }

abbrev pub with_called : Calling → IncomingRecord → IncomingRecord
with_called k x = record x { called = k }

-- whose claim wasn't called for, by who held the addresses
abbrev pub gone_by : (ℕ → Option ℕ) → ℕ → FrameRecord → IncomingRecord → Option ℕ
gone_by before now f x = claimed_again before (waned (now - x.moment) x.called) (claim_of f)

-- the sessions as the frame finds them, and once it was heard
abbrev pub found : ℕ → FrameRecord → (ℕ → Option ℕ) → (ℕ → Option ℕ) → IncomingRecord → SessionsRecord
found now f before after x = leaves (gone_by before now f x) after x.reception

abbrev pub takes_in : Bool → Bool → ℕ → Option ℕ → FrameRecord → SessionsRecord → SessionsRecord
takes_in true held now name f s = loses s
takes_in false true now name f s = sessions_hear now name f s
takes_in false false now name f s = s

abbrev pub hears : Bool → Bool → ℕ → FrameRecord → (ℕ → Option ℕ) → (ℕ → Option ℕ) → IncomingRecord → IncomingRecord
hears lost held now f before after x =
    with_called (called_for called_time (calls_whom before f (claim_of f)) (waned (now - x.moment) x.called))
    (with_reception (takes_in lost held (later x.clock (now - x.moment)) (after (source_of f.id)) f (found now f before after x)) (passed_to now x))

abbrev pub ticks : ℕ → IncomingRecord → IncomingRecord
ticks now x = with_reception (sessions_tick (later x.clock (now - x.moment)) x.reception) (passed_to now x)

abbrev pub incoming_after : Who → List Call → IncomingRecord
incoming_after w H = record { moment = heard_at H; clock = time_heard H; called = called w H; reception = reception w H }

-- the transfers, and the next token
pub record PortRecord : Type 0 where
  pub state : TransfersRecord
  pub next_token : ℕ

abbrev pub port_of : Transfers → PortRecord
port_of t = record { state = transfers_of t.all; next_token = t.next_token }

abbrev pub port_after : Who → List Call → PortRecord
port_after w H = record { state = transfers_at w H; next_token = length (all_transfers w H) }

-- the open request, whether its frame was taken, and how it ended by what was heard
pub record AskRecord : Type 0 where
  pub question : Question
  pub taken : Bool
  pub ending : Option AskEnding

abbrev pub ask_record : asking.Open → AskRecord
ask_record x = record { question = question x.token (pgn_raw x.group) x.to; taken = x.is_taken; ending = x.ending }

abbrev pub asking_of : Asking → Option AskRecord
asking_of a = option_map ask_record a.current

abbrev pub asked_by : Option Question → ℕ → Option AskEnding → Option AskRecord
asked_by None n ending = None
asked_by (Some q) n ending = Some (record { question = q; taken = nat_lt q.token n; ending = ending })

-- a frame is heard, before which it ended so or not without a word
abbrev pub silence : ℕ → Bool → Bool → Option AskRecord → Option AskEnding
silence left coming lost None = None
silence left coming lost (Some x) = silent_end x.taken left coming lost

abbrev pub hears_with : Who → Option AskEnding → FrameRecord → Option (ℕ × ℕ) → AskRecord → AskRecord
hears_with w silent f made x = record {
  question = x.question;
  taken = x.taken;
  ending = first x.ending (first silent (if x.taken then says_to w x.question f made else None));
}

-- it waits for an answer that isn't coming
abbrev pub waits_with : Bool → Option AskRecord → Bool
waits_with coming None = false
waits_with coming (Some x) = lacks_answer x.taken x.ending coming

-- the end is told
abbrev pub ended_with : Option AskEnding → Option AskRecord → Option (ℕ × AskEnding)
ended_with silent None = None
ended_with silent (Some x) = option_map (λ e. (x.question.token, e)) (first x.ending silent)

abbrev pub asking_after : Who → List Call → Option AskRecord
asking_after w H = asked_by (open_ask H) (reached H) (ended w H)

abbrev pub news_after : Who → List Call → Untold
news_after w H = record { lost = lost_news w H; another = another_news w H; doubled = doubled_news w H; missed = missed_news w H || unheard_news w H }

abbrev pub posted : Outgoing → ℕ × Message
posted x = (x.token, carried (id_raw x.id) x.bytes.items)

-- the place of the message of this token, of which the first has the least, if it is none before the nth and may be withdrawn
abbrev pub place_of : ℕ → ℕ → List (ℕ × Message) → Option ℕ
place_of n token [] = None
place_of n token (x ∷ xs) =
    if not (nat_lt token x.0) && (nat_le n (token - x.0) && may_go (slice_get (x ∷ xs) (token - x.0))) then Some (token - x.0) else None

-- the message of a place, which keeps its token, is now this one
pub record Renews (old : List Outgoing) (place : ℕ) (x : ℕ × Message) (token : ℕ) (new : List Outgoing) : Type 0 where
  pub before : Outgoing
  pub was : slice_get old place ≡ Some before
  pub same : token ≡ before.token
  pub renewed : map posted new ≡ slice_set (map posted old) place (token, x.1)

abbrev pub received_by : Received → ℕ × Message
received_by r = (
  stamp_micros r.stamp,
  record {
    source = r.source;
    destination = r.destination;
    priority = r.priority;
    group = pgn_raw r.group;
    bytes = r.bytes.items;
  },
)

-- the NAME that held its source
abbrev pub sender_by : Received → Option ℕ
sender_by r = option_map name_raw r.name

abbrev pub request_by : Request → Asked
request_by r = record { source = r.source; destination = r.destination; group = pgn_raw r.group }

abbrev pub asker_by : Request → Option ℕ
asker_by r = option_map name_raw r.name

abbrev pub refusal_by : Who → Due → Message
refusal_by w x =
    acknowledgment w x.answer (record { source = x.source; destination = global_address; group = pgn_raw x.group })

-- the inbox when a frame was heard
abbrev pub offered : {T : Type 0} → Bool → T → List T → List T
offered wanted x unread = if wanted && nat_lt (length unread) places then unread ++ x ∷ [] else unread

abbrev pub counted : Bool → List (ℕ × Message) → ℕ → ℕ
counted wanted unread n = if wanted && not (nat_lt (length unread) places) then min (n + 1) last_count else n

-- the broadcasts that are heard or wait, how many boxes there are, and how many broadcasts weren't heard
pub record HearingRecord : Type 0 where
  pub listening : Listening
  pub boxes : ℕ
  pub missed : ℕ

abbrev pub hearing_of : Hearing → HearingRecord
hearing_of x = record {
  listening = record { current = map in_box x.current.items; waits = map (λ b. message_by (in_box b)) x.whole.items };
  boxes = length x.current.items + length x.whole.items + length x.free.items;
  missed = x.missed;
}

-- the NAME that held the source of each that waits
abbrev pub senders_of : Hearing → List (Option ℕ)
senders_of x = map (λ b. (in_box b).name) x.whole.items

abbrev pub hearing_after : Who → List Call → HearingRecord
hearing_after w H = record { listening = listening w H; boxes = w.boxes; missed = min (unheard w H) last_count }

-- those that are over end; a frame is heard; the oldest that waits is released
abbrev pub leaving : Option ℕ → (ℕ → Option ℕ) → ℕ → HearingRecord → HearingRecord
leaving gone holder now x = record {
  listening = staying gone holder now x.listening;
  boxes = x.boxes;
  missed = min (x.missed + length (those_over gone holder now x.listening.current)) last_count;
}

abbrev pub hearing_it : Who → Option ℕ → ℕ → FrameRecord → HearingRecord → HearingRecord
hearing_it w name now f x = record {
  listening = hears_in x.boxes w name now f x.listening;
  boxes = x.boxes;
  missed = if is_unheard_in x.boxes w f x.listening then min (x.missed + 1) last_count else x.missed;
}

abbrev pub releasing : HearingRecord → HearingRecord
releasing x = record { listening = record { current = x.listening.current; waits = drop 1 x.listening.waits }; boxes = x.boxes; missed = x.missed }

-- what is due, by the controller at a moment that its hold was led to
abbrev pub ready_in : Controller → Hold → Ready
ready_in c hold = record {
  overdue = is_left (lane_of (who_of nothing c.own) c.lane).current c.lane.count && nat_eq hold.pause 0;
  reply = nat_lt 0 (length (replies_of (incoming_of c.incoming).reception));
  message = nat_lt c.taken (length c.outgoing.items);
  packet = is_left (lane_of (who_of nothing c.own) c.lane).current c.lane.count && nat_le hold.pause slack;
  transfer = is_apart (option_map carried_by (said (clock hold.age) (port_of c.transfers).state)) (slice_get (replies_of (incoming_of c.incoming).reception) 0);
}

-- what shows of a controller that was made for w
pub record View : Type 0 where
  pub who : Who
  pub hold : Hold
  pub outgoing : List (ℕ × Message)
  pub taken : ℕ
  pub token : ℕ
  pub asking : Option AskRecord
  pub unread : List (ℕ × Message)
  pub senders : List (Option ℕ)
  pub requests : List Asked
  pub askers : List (Option ℕ)
  pub acknowledgments : List Message
  pub news : Untold
  pub missed : ℕ
  pub lane : LaneRecord
  pub incoming : IncomingRecord
  pub port : PortRecord
  pub hearing : HearingRecord
  pub broadcast_senders : List (Option ℕ)

abbrev pub view : Who → Controller → View
view w c = record {
  who = who_of w.brought c.own;
  hold = c.hold;
  outgoing = map posted c.outgoing.items;
  taken = c.taken;
  token = c.next_token;
  asking = asking_of c.asking;
  unread = map received_by c.inbox.unread.items;
  senders = map sender_by c.inbox.unread.items;
  requests = map request_by c.desk.waiting.items;
  askers = map asker_by c.desk.waiting.items;
  acknowledgments = map (refusal_by w) c.desk.due.items;
  news = c.news;
  missed = c.inbox.missed;
  lane = lane_of w c.lane;
  incoming = incoming_of c.incoming;
  port = port_of c.transfers;
  hearing = hearing_of c.hearing;
  broadcast_senders = senders_of c.hearing;
}

-- the same, as a history says it
abbrev pub after : Who → List Call → View
after w H = record {
  who = w;
  hold = hold_after w H;
  outgoing = drop (length (told H)) (accepted w H);
  taken = reached H - length (told H);
  token = length (accepted w H);
  asking = asking_after w H;
  unread = drop (length (got H)) (kept w H);
  senders = drop (length (got H)) (senders w H);
  requests = drop (length (handed H)) (requests w H);
  askers = drop (length (handed H)) (askers w H);
  acknowledgments = drop (length (acknowledged H)) (due w H);
  news = news_after w H;
  missed = min (missed w H) last_count;
  lane = lane_after w H;
  incoming = incoming_after w H;
  port = port_after w H;
  hearing = hearing_after w H;
  broadcast_senders = broadcast_senders w H;
}

-- c was made for w and called as H says
pub record Is (w : Who) (H : List Call) (c : Controller) : Type 0 where
  pub shown : view w c ≡ after w H
  pub answered : AreAnswered w H
  pub holders : Knows c.holders (told_claims w H)
