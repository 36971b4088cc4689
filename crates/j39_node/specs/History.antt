-- Histories of a controller's calls, each with its arguments, its moment and its answer, the newest first; and what a
-- history says. All lists of messages have the oldest first.
use Rattle.std.specs.Prelude.{if◌then◌else◌, ◌%◌, ◌&&◌, ◌*◌, ◌++◌, ◌+◌, ◌-◌, ◌/◌, ◌==◌, ◌||◌, ◌∷◌, ◌≡◌, ◌≤◌}
use Rattle.j39_node.specs.Common.{[], address_claimed_group, as_broadcast, Bool, bytes_eq, Claim, claim_of, claim_time, cut_frame, destination_of, drop, false, FrameRecord, global_address, is_there, last_count, length, List, list_any, little_bytes, little_number, max, MessageRecord, nat_eq, nat_le, nat_lt, None, not, null_address, Ok, Option, option_or, packet_time, packets_of, patience_time, pgn_of, places, priority_of, request_group, Result, slack, slice_set, Some, source_of, stamp_end, suc, transport_control_group, transport_data_group, true, zero, ℕ}
use Rattle.j39_node.specs.declared.kinds.Ending.{Ending}
use Rattle.j39_transfers.specs.Events.{Event}
use Rattle.j39_transfers.specs.declared.kinds.Ending.{Ending as TransferEnding}
use Rattle.j39_node.specs.declared.kinds.AskEnding.{AskEnding}
use Rattle.j39_node.specs.declared.kinds.News.{News}
use Rattle.j39_node.specs.declared.kinds.News.TheVariants.{AddressLost, AnotherAtAddress, MessagesMissed, NameDoubled}
use Rattle.j39_node.specs.declared.kinds.Refused.{Refused}
use Rattle.j39_node.specs.declared.kinds.Answer.{Answer}
use Rattle.j39_node.specs.declared.kinds.Answer.TheVariants.{Ack, Nack, Denied, Busy}

-- what a controller that moved brought along: the frames by which it knew who holds which address, what its transfers went through, of
-- which none is open, and how much older it is than its last moment
pub record Brought : Type 0 where
  pub known : List FrameRecord
  pub events : List Event
  pub age : ℕ

-- one that didn't move
abbrev pub nothing : Brought
nothing = record { known = []; events = []; age = 0 }

-- the NAME of a controller, the address that it claims, how long it waits before it says that it can't claim one (in 0.6 ms), the
-- groups that its program serves, those that it subscribed (none told: all), how many boxes it has for broadcasts in packets, for
-- sessions and for transfers, how many packets it grants at once at most (0 sets no limit), and what it brought along
pub record Who : Type 0 where
  pub name : ℕ
  pub address : ℕ
  pub delay : ℕ
  pub served : List ℕ
  pub subscribed : Option (List ℕ)
  pub boxes : ℕ
  pub sessions : ℕ
  pub transfers : ℕ
  pub window : ℕ
  pub brought : Brought

-- what a frame carries: who sends it, to whom (none for a group of PF 240 and up), and what
pub record Message : Type 0 where
  pub source : ℕ
  pub destination : Option ℕ
  pub priority : ℕ
  pub group : ℕ
  pub bytes : List ℕ

-- who asks, whom, and for which group
pub record Asked : Type 0 where
  pub source : ℕ
  pub destination : ℕ
  pub group : ℕ

-- what is handed in to be sent
pub record Draft : Type 0 where
  pub priority : ℕ
  pub group : ℕ
  pub to : ℕ
  pub bytes : List ℕ

-- what a call does that tells its moment
pub data Act : Type 0 where
  Hear : FrameRecord → Act
  Tick : Act
  Again : Act
  TakeFrame : Option FrameRecord → Act
  Send : Draft → Result ℕ Refused → Act
  Ask : ℕ → ℕ → Result ℕ Refused → Act
  Acknowledge : Asked → Answer → Result (Unit {0}) Refused → Act
  Broadcast : ℕ → List ℕ → Result ℕ Refused → Act
  Transfer : ℕ → ℕ → ℕ → List ℕ → Result ℕ Refused → Act

pub data Call : Type 0 where
  At : ℕ → Act → Call
  Renew : Draft → Option ℕ → Call
  Withdraw : ℕ → Bool → Call
  TakeEnded : Option (ℕ × Ending) → Call
  TakeReceived : Option (ℕ × Message) → Call
  TakeRequest : Option Asked → Call
  TakeNews : Option News → Call
  TakeBroadcastEnded : Option (ℕ × Ending) → Call
  ReleaseTransfer : Bool → Call
  TakeTransferEnded : Option (ℕ × TransferEnding) → Call
  TakeAskEnded : Option (ℕ × AskEnding) → Call
  ReleaseBroadcast : Bool → Call

-- what a frame of this identifier and these bytes carries
abbrev pub carried : ℕ → List ℕ → Message
carried id bytes = record {
  source = source_of id;
  destination = destination_of id;
  priority = priority_of id;
  group = pgn_of id;
  bytes = bytes;
}

abbrev pub message_of : FrameRecord → Message
message_of f = carried f.id f.bytes

-- what stands with a token or a moment
abbrev pub content : ℕ × Message → Message
content x = x.1

-- a list begins with another
abbrev pub IsFront : {T : Type 0} → List T → List T → Type 0
IsFront {T} front xs = (rest : List T) × (xs ≡ front ++ rest)

-- ---- time

-- the moment that the last call told, 0 before the first
abbrev pub moment : List Call → ℕ
moment [] = 0
moment (At now act ∷ H) = now
moment (call ∷ H) = moment H

-- the microseconds from the last call to this moment; time that goes back is no time
abbrev pub step : List Call → ℕ → ℕ
step H now = now - moment H

-- ---- the address (J1939-81, 4.2 and 4.5)

-- it wasn't claimed yet; a claim of it was taken so many microseconds ago; or a smaller NAME claimed it
pub data Address : Type 0 where
  NotClaimed : Address
  Claimed : ℕ → Address
  Lost : Address

abbrev pub older : ℕ → Address → Address
older s NotClaimed = NotClaimed
older s (Claimed e) = Claimed (e + s)
older s Lost = Lost

-- when it is to be claimed anew
abbrev pub unclaimed : Address → Address
unclaimed NotClaimed = NotClaimed
unclaimed (Claimed e) = NotClaimed
unclaimed Lost = Lost

-- when a claim is taken
abbrev pub claimed : Address → Address
claimed NotClaimed = Claimed 0
claimed (Claimed e) = Claimed e
claimed Lost = Lost

-- the address that another of who's NAME claims
abbrev pub double : Who → Option Claim → Option ℕ
double w = elim [ None ↦ None | Some c ↦ if nat_eq c.name w.name then Some c.address else None ]

abbrev pub is_double : Who → Option Claim → Bool
is_double w c = is_there (double w c)

-- a claim of another NAME
abbrev pub of_other : Who → Option Claim → Option Claim
of_other w None = None
of_other w (Some c) = if nat_eq c.name w.name then None else Some c

abbrev pub is_claim : FrameRecord → Bool
is_claim f = nat_eq (pgn_of f.id) address_claimed_group

-- a claim of who's address by a smaller NAME, by a larger one
abbrev pub is_smaller : Who → Option Claim → Bool
is_smaller w = elim [ None ↦ false | Some c ↦ nat_eq c.address w.address && nat_lt c.name w.name ]

abbrev pub is_larger : Who → Option Claim → Bool
is_larger w = elim [ None ↦ false | Some c ↦ nat_eq c.address w.address && nat_lt w.name c.name ]

-- how far the address is
abbrev pub address_after : Who → List Call → Address
address_after w [] = NotClaimed
address_after w (At now (Hear f) ∷ H) = if is_smaller w (claim_of f) then Lost else older (step H now) (address_after w H)
address_after w (At now (TakeFrame (Some f)) ∷ H) =
    if is_claim f then claimed (older (step H now) (address_after w H)) else older (step H now) (address_after w H)
address_after w (At now Again ∷ H) = unclaimed (older (step H now) (address_after w H))
address_after w (At now act ∷ H) = older (step H now) (address_after w H)
address_after w (call ∷ H) = address_after w H

abbrev pub is_lost : Address → Bool
is_lost Lost = true
is_lost a = false

-- 250 ms after its claim was taken it is held
abbrev pub is_held : Address → Bool
is_held (Claimed e) = nat_le claim_time e
is_held a = false

-- at this moment after H the address is held
abbrev pub holds : Who → List Call → ℕ → Bool
holds w H now = is_held (older (step H now) (address_after w H))

-- the address that a claim tells: the null address says that none can be claimed
abbrev pub claim_address : Who → Address → ℕ
claim_address w Lost = null_address
claim_address w a = w.address

-- the claim of an address, or the word that none can be claimed: priority 6, to all, the NAME's low byte first
abbrev pub claim_with : ℕ → List ℕ → Message
claim_with a bytes = record {
  source = a;
  destination = Some global_address;
  priority = 6;
  group = address_claimed_group;
  bytes = bytes;
}

abbrev pub claim_from : Who → ℕ → Message
claim_from w a = claim_with a (little_bytes 8 w.name)

-- the group that a request asks for, the low byte first (J1939-21, 5.4.2); none where the frame is no request
abbrev pub asked_group : FrameRecord → Option ℕ
asked_group f =
    if nat_eq (pgn_of f.id) request_group && nat_le 3 (length f.bytes) then Some (little_number 3 f.bytes) else None

abbrev pub is_some : Option ℕ → ℕ → Bool
is_some None n = false
is_some (Some m) n = nat_eq m n

abbrev pub is_one : Option ℕ → Option ℕ → Bool
is_one None None = true
is_one None (Some n) = false
is_one (Some m) n = is_some n m

-- a message that asks for this group
abbrev pub asks_with : Message → ℕ → Bool
asks_with m group =
    is_some (if nat_eq m.group request_group && nat_le 3 (length m.bytes) then Some (little_number 3 m.bytes) else None) group

abbrev pub is_none : Option ℕ → Bool
is_none None = true
is_none (Some m) = false

-- a request for claims to all, or to the address where it isn't lost
abbrev pub is_asked : Who → Bool → FrameRecord → Bool
is_asked w lost f =
    is_some (asked_group f) address_claimed_group && (is_some (destination_of f.id) global_address
    || (is_some (destination_of f.id) w.address && not lost))

-- the frame is answered by a claim: it is another's claim of the address, unless that was lost before, or a request for claims
abbrev pub calls_for_claim : Who → Bool → FrameRecord → Bool
calls_for_claim w lost f = ((is_smaller w (claim_of f) || is_larger w (claim_of f)) && not lost) || is_asked w lost f

-- another sends from the address that is held, and it is no claim
abbrev pub is_another : Who → Bool → FrameRecord → Bool
is_another w held f = held && (nat_eq (source_of f.id) w.address && not (is_claim f))

-- what is left of the 5 seconds behind such a frame that was answered (own)
abbrev pub patience : Who → List Call → ℕ
patience w [] = 0
patience w (At now (Hear f) ∷ H) =
    if is_another w (holds w H now) f && nat_eq (patience w H - step H now) 0 then patience_time else patience w H - step H now
patience w (At now act ∷ H) = patience w H - step H now
patience w (call ∷ H) = patience w H

abbrev pub answers_another : Who → List Call → ℕ → FrameRecord → Bool
answers_another w H now f = is_another w (holds w H now) f && nat_eq (patience w H - step H now) 0

-- the frame is answered by a claim, for one of these reasons
abbrev pub calls : Who → List Call → ℕ → FrameRecord → Bool
calls w H now f = calls_for_claim w (is_lost (address_after w H)) f || answers_another w H now f

-- a claim is owed: the first, one anew, or since a claim was taken last something was heard that is answered by one
abbrev pub owes_claim : Who → List Call → Bool
owes_claim w [] = true
owes_claim w (At now Again ∷ H) = true
owes_claim w (At now (Hear f) ∷ H) = owes_claim w H || calls w H now f
owes_claim w (At now (TakeFrame (Some f)) ∷ H) = if is_claim f then false else owes_claim w H
owes_claim w (call ∷ H) = owes_claim w H

-- what is left of the time that 'cannot claim' waits behind what calls for it (J1939-81, 4.2.2)
abbrev pub delayed : Who → List Call → ℕ
delayed w [] = 0
delayed w (At now Again ∷ H) = w.delay * 600
delayed w (At now (Hear f) ∷ H) =
    if calls w H now f && not (is_lost (address_after w H) && owes_claim w H) then w.delay * 600 else delayed w H - step H now
delayed w (At now act ∷ H) = delayed w H - step H now
delayed w (call ∷ H) = delayed w H

-- the claim that is owed may go, where so much is left of that time
abbrev pub may_claim : Who → List Call → ℕ → Bool
may_claim w H left = owes_claim w H && (not (is_lost (address_after w H)) || nat_eq left 0)

-- ---- messages out

-- the group has a destination
abbrev pub is_directed : ℕ → Bool
is_directed group = nat_lt (group / 256 % 256) 240

-- the stack itself speaks these groups: those of sessions of packets (J1939-21, 5.10), and the claim
abbrev pub is_own_group : ℕ → Bool
is_own_group group =
    nat_eq group transport_control_group || (nat_eq group transport_data_group || nat_eq group address_claimed_group)

-- an acknowledgment, positive or not (J1939-21, 5.4.4)
abbrev pub acknowledgment_group : ℕ
acknowledgment_group = 59392

-- a group that an identifier can have, and none of the stack's nor an acknowledgment
abbrev pub is_sendable : ℕ → Bool
is_sendable group =
    not (is_directed group && not (nat_eq (group % 256) 0)) && not (is_own_group group || nat_eq group acknowledgment_group)

-- what may be sent: such a group, to all or to the address of another, in one frame
abbrev pub can_send : Who → Draft → Bool
can_send w d =
    nat_lt d.priority 8 && (is_sendable d.group
    && ((nat_eq d.to global_address || (nat_lt d.to null_address && not (nat_eq d.to w.address)))
    && nat_le (length d.bytes) 8))

-- the message that is sent
abbrev pub message_from : Who → Draft → Message
message_from w d = record {
  source = w.address;
  destination = if is_directed d.group then Some d.to else None;
  priority = d.priority;
  group = d.group;
  bytes = d.bytes;
}

-- a request for a group: priority 6, the low byte first (J1939-21, 5.4.2)
abbrev pub request_for : ℕ → ℕ → Draft
request_for group to = record {
  priority = 6;
  group = request_group;
  to = to;
  bytes = group % 256 ∷ group / 256 % 256 ∷ group / 65536 % 256 ∷ [];
}

-- the two have one priority, one group and one destination, and are no requests
abbrev pub is_alike : Message → Message → Bool
is_alike m n =
    (nat_eq m.priority n.priority && nat_eq m.group n.group) && (is_one m.destination n.destination && not (nat_eq m.group request_group))

-- the place of the last of these, from the nth on, that is alike, if the first has place i
abbrev pub latest : Message → ℕ → ℕ → List (ℕ × Message) → Option ℕ → Option ℕ
latest m n i [] found = found
latest m n i (x ∷ xs) found = latest m n (suc i) xs (if nat_le n i && is_alike m x.1 then Some i else found)

-- what stands in the place of one that was withdrawn: none has this group
abbrev pub blank : Message
blank = claim_with null_address []

abbrev pub is_blank : ℕ × Message → Bool
is_blank x = nat_eq x.1.group address_claimed_group

-- the messages that were accepted, each with its token, which is its place: a request is one, and one may be renewed, or withdrawn
abbrev pub accepted : Who → List Call → List (ℕ × Message)
accepted w [] = []
accepted w (At now (Send draft (Ok token)) ∷ H) = accepted w H ++ (token, message_from w draft) ∷ []
accepted w (Renew draft (Some token) ∷ H) = slice_set (accepted w H) token (token, message_from w draft)
accepted w (Withdraw token true ∷ H) = slice_set (accepted w H) token (token, blank)
accepted w (At now (Ask group to (Ok token)) ∷ H) = accepted w H ++ (token, message_from w (request_for group to)) ∷ []
accepted w (call ∷ H) = accepted w H

abbrev pub is_acknowledgment : FrameRecord → Bool
is_acknowledgment f = nat_eq (pgn_of f.id) acknowledgment_group

-- how many of the frames that were taken last, in a row, were claims or acknowledgments
abbrev pub turns : List Call → ℕ
turns [] = 0
turns (At now (TakeFrame (Some f)) ∷ H) = if is_claim f || is_acknowledgment f then suc (turns H) else 0
turns (call ∷ H) = turns H

-- a frame of a message in packets
abbrev pub is_session : FrameRecord → Bool
is_session f = nat_eq (pgn_of f.id) transport_control_group || nat_eq (pgn_of f.id) transport_data_group

-- one of a broadcast, and one to an address
abbrev pub is_packet : FrameRecord → Bool
is_packet f = is_session f && is_some (destination_of f.id) global_address

abbrev pub is_transfer : FrameRecord → Bool
is_transfer f = is_session f && not (is_some (destination_of f.id) global_address)

-- which of the messages that were accepted were withdrawn
abbrev pub marks : List Call → List Bool
marks [] = []
marks (At now (Send draft (Ok token)) ∷ H) = marks H ++ false ∷ []
marks (At now (Ask group to (Ok token)) ∷ H) = marks H ++ false ∷ []
marks (Withdraw token true ∷ H) = slice_set (marks H) token true
marks (call ∷ H) = marks H

-- the first place from the nth on that isn't so
abbrev pub past : List Bool → ℕ → ℕ
past [] n = n
past (b ∷ bs) zero = if b then suc (past bs zero) else zero
past (b ∷ bs) (suc n) = suc (past bs n)

-- the place of the message that is next: those before it were taken or withdrawn
abbrev pub reached : List Call → ℕ
reached [] = 0
reached (At now (TakeFrame (Some f)) ∷ H) =
    if is_claim f || (is_acknowledgment f || is_session f) then reached H else past (marks H) (suc (reached H))
reached (Withdraw token true ∷ H) = past (slice_set (marks H) token true) (reached H)
reached (call ∷ H) = reached H

-- those of these messages that weren't withdrawn
abbrev pub unblanked : List (ℕ × Message) → List (ℕ × Message)
unblanked [] = []
unblanked (x ∷ xs) = if is_blank x then unblanked xs else x ∷ unblanked xs

-- the messages whose frames were taken
abbrev pub sent : List Call → List Message
sent [] = []
sent (At now (TakeFrame (Some f)) ∷ H) =
    if is_claim f || (is_acknowledgment f || is_session f) then sent H else sent H ++ message_of f ∷ []
sent (call ∷ H) = sent H

-- all frames that were taken
abbrev pub frames : List Call → List FrameRecord
frames [] = []
frames (At now (TakeFrame (Some f)) ∷ H) = frames H ++ f ∷ []
frames (call ∷ H) = frames H

-- the tokens that were told to have ended, and how
abbrev pub told : List Call → List (ℕ × Ending)
told [] = []
told (TakeEnded (Some x) ∷ H) = told H ++ x ∷ []
told (call ∷ H) = told H

-- sixteen are accepted and not told yet, or as many as there are tokens were accepted
abbrev pub is_full : Who → List Call → Bool
is_full w H = nat_eq (length (accepted w H) - length (told H)) places || nat_eq (length (accepted w H)) last_count

-- ---- messages broadcast in packets (J1939-21, 5.10.3.5 and 5.12.3)

-- what may be broadcast
abbrev pub can_broadcast : ℕ → List ℕ → Bool
can_broadcast group bytes = is_sendable group && (nat_le 9 (length bytes) && nat_le (length bytes) 1785)

-- the message that is broadcast
abbrev pub broadcast_from : Who → ℕ → List ℕ → MessageRecord
broadcast_from w group bytes = record { source = w.address; pgn = group; bytes = bytes }

-- frame i of a broadcast, to all and of priority 7: its announcement, then its packets from 1 on
abbrev pub frame_of : MessageRecord → ℕ → Message
frame_of m i = record {
  source = m.source;
  destination = Some global_address;
  priority = 7;
  group = if i == 0 then transport_control_group else transport_data_group;
  bytes = (cut_frame (as_broadcast m) m i).bytes;
}

-- its first n frames, and all
abbrev pub first_frames : MessageRecord → ℕ → List Message
first_frames m zero = []
first_frames m (suc n) = first_frames m n ++ frame_of m n ∷ []

abbrev pub all_frames : MessageRecord → List Message
all_frames m = first_frames m (suc (packets_of m))

-- the broadcasts that were accepted
abbrev pub broadcasts : Who → List Call → List MessageRecord
broadcasts w [] = []
broadcasts w (At now (Broadcast group bytes (Ok token)) ∷ H) = broadcasts w H ++ broadcast_from w group bytes ∷ []
broadcasts w (call ∷ H) = broadcasts w H

-- the tokens of those that were told to have ended, and how
abbrev pub told_broadcasts : List Call → List (ℕ × Ending)
told_broadcasts [] = []
told_broadcasts (TakeBroadcastEnded (Some x) ∷ H) = told_broadcasts H ++ x ∷ []
told_broadcasts (call ∷ H) = told_broadcasts H

-- the broadcast that is open, with its token: accepted last, and not told to have ended
abbrev pub open_broadcast : Who → List Call → Option (ℕ × MessageRecord)
open_broadcast w [] = None
open_broadcast w (At now (Broadcast group bytes (Ok token)) ∷ H) = Some (token, broadcast_from w group bytes)
open_broadcast w (TakeBroadcastEnded (Some x) ∷ H) = None
open_broadcast w (call ∷ H) = open_broadcast w H

-- the frames of packets that were taken since a broadcast was accepted last
abbrev pub packets : List Call → List Message
packets [] = []
packets (At now (Broadcast group bytes (Ok token)) ∷ H) = []
packets (At now (TakeFrame (Some f)) ∷ H) = if is_packet f then packets H ++ message_of f ∷ [] else packets H
packets (call ∷ H) = packets H

-- what is left of the 150 ms that follow a frame of a broadcast: its next is due where 100 ms are left at most, 50 ms behind it, and
-- overdue where nothing is (own). At least these 100 ms are left when one is accepted
abbrev pub pause : List Call → ℕ
pause [] = 0
pause (At now (TakeFrame (Some f)) ∷ H) = if is_packet f then packet_time else pause H - step H now
pause (At now (Broadcast group bytes (Ok token)) ∷ H) = max slack (pause H - step H now)
pause (At now act ∷ H) = pause H - step H now
pause (call ∷ H) = pause H

abbrev pub is_open : Option (ℕ × MessageRecord) → Bool
is_open None = false
is_open (Some x) = true

-- there is no box for it, as with none for transfers; one is open; or as many as there are tokens were accepted
abbrev pub is_busy : Who → List Call → Bool
is_busy w H = nat_eq w.transfers 0 || (is_open (open_broadcast w H) || nat_eq (length (broadcasts w H)) last_count)

-- frame i is one of the broadcast
abbrev pub is_left : Option (ℕ × MessageRecord) → ℕ → Bool
is_left None i = false
is_left (Some x) i = nat_le i (packets_of x.1)

-- a frame of the open broadcast wasn't taken yet
abbrev pub has_packets : Who → List Call → Bool
has_packets w H = is_left (open_broadcast w H) (length (packets H))

-- ---- messages in

-- a list of groups has this one, where there is a list
abbrev pub has_group : Option (List ℕ) → ℕ → Bool
has_group None group = true
has_group (Some groups) group = list_any (λ g. g == group) groups

abbrev pub is_subscribed : Who → ℕ → Bool
is_subscribed w group = has_group w.subscribed group

-- at most 64 groups may be subscribed
abbrev pub AreFew : Option (List ℕ) → Type 0
AreFew None = Unit {0}
AreFew (Some groups) = length groups ≤ 64

-- the frame is one for the program: from an address, of a group that is subscribed, none of the stack's and no request, to all or
-- to the address that is held
abbrev pub is_for_program : Who → Bool → FrameRecord → Bool
is_for_program w held f =
    nat_lt (source_of f.id) null_address && ((is_subscribed w (pgn_of f.id)
    && not (is_own_group (pgn_of f.id) || nat_eq (pgn_of f.id) request_group))
    && (is_none (destination_of f.id) || (is_some (destination_of f.id) global_address
    || (is_some (destination_of f.id) w.address && held))))

-- the messages for the program that were heard, each with its moment
abbrev pub heard : Who → List Call → List (ℕ × Message)
heard w [] = []
heard w (At now (Hear f) ∷ H) =
    if is_for_program w (holds w H now) f then heard w H ++ (f.stamp, message_of f) ∷ [] else heard w H
heard w (call ∷ H) = heard w H

-- what the program got
abbrev pub got : List Call → List (ℕ × Message)
got [] = []
got (TakeReceived (Some x) ∷ H) = got H ++ x ∷ []
got (call ∷ H) = got H

-- those that were kept: all but what was heard while sixteen lay unread
abbrev pub kept : Who → List Call → List (ℕ × Message)
kept w [] = []
kept w (At now (Hear f) ∷ H) =
    if is_for_program w (holds w H now) f && nat_lt (length (kept w H) - length (got H)) places
    then kept w H ++ (f.stamp, message_of f) ∷ []
    else kept w H
kept w (call ∷ H) = kept w H

-- how many of them were missed
abbrev pub missed : Who → List Call → ℕ
missed w [] = 0
missed w (At now (Hear f) ∷ H) =
    if is_for_program w (holds w H now) f && not (nat_lt (length (kept w H) - length (got H)) places)
    then suc (missed w H)
    else missed w H
missed w (call ∷ H) = missed w H

-- ---- requests (J1939-21, 5.4.2), and their acknowledgments (5.4.4)

abbrev pub is_served : Who → ℕ → Bool
is_served w group = list_any (λ g. g == group) w.served

-- a request of an address for a group, and not for claims, to all or to the address that is held
abbrev pub is_request : Who → Bool → FrameRecord → ℕ → ℕ → Bool
is_request w held f to group =
    (held && nat_lt (source_of f.id) null_address) && ((nat_lt group 262144 && not (nat_eq group address_claimed_group))
    && (nat_eq to global_address || nat_eq to w.address))

abbrev pub asked_with : Who → Bool → FrameRecord → Option ℕ → Option ℕ → Option Asked
asked_with w held f d g = elim d [
  | None ↦ None
  | Some to ↦ elim g [
    | None ↦ None
    | Some group ↦ if is_request w held f to group then Some (record { source = source_of f.id; destination = to; group = group }) else None
  ]
]

-- what the frame asks of the controller
abbrev pub asked : Who → Bool → FrameRecord → Option Asked
asked w held f = asked_with w held f (destination_of f.id) (asked_group f)

-- positive, negative, access denied, cannot respond now
abbrev pub control_of : Answer → ℕ
control_of Ack = 0
control_of Nack = 1
control_of Denied = 2
control_of Busy = 3

-- the acknowledgment of a request: priority 6, to all, with who asked and for what
abbrev pub acknowledgment : Who → Answer → Asked → Message
acknowledgment w answer r = record {
  source = w.address;
  destination = Some global_address;
  priority = 6;
  group = acknowledgment_group;
  bytes = control_of answer ∷ 255 ∷ 255 ∷ 255 ∷ r.source ∷ r.group % 256 ∷ r.group / 256 % 256 ∷ r.group / 65536 % 256 ∷ [];
}

-- the requests that the program was handed
abbrev pub handed : List Call → List Asked
handed [] = []
handed (TakeRequest (Some r) ∷ H) = handed H ++ r ∷ []
handed (call ∷ H) = handed H

-- one of the same source, to the same destination and for the same group
abbrev pub repeats : Asked → Asked → Bool
repeats r x = nat_eq x.source r.source && (nat_eq x.destination r.destination && nat_eq x.group r.group)

-- a request for a served group counts once while it waits for the program
abbrev pub fresh : Who → List Asked → Option Asked → Option Asked
fresh w waiting = elim [ None ↦ None | Some r ↦ if is_served w r.group && list_any (repeats r) waiting then None else Some r ]

-- a request for a served group waits, if there is room
abbrev pub with_request : Who → Bool → Option Asked → List Asked → List Asked
with_request w room o waiting = elim o [ None ↦ waiting | Some r ↦ if is_served w r.group && room then waiting ++ r ∷ [] else waiting ]

-- the requests for the program: those that came while fewer than sixteen waited, and none that repeats one of these
abbrev pub requests : Who → List Call → List Asked
requests w [] = []
requests w (At now (Hear f) ∷ H) =
    with_request w (nat_lt (length (requests w H) - length (handed H)) places)
    (fresh w (drop (length (handed H)) (requests w H)) (asked w (holds w H now) f)) (requests w H)
requests w (call ∷ H) = requests w H

-- the acknowledgments whose frames were taken
abbrev pub acknowledged : List Call → List Message
acknowledged [] = []
acknowledged (At now (TakeFrame (Some f)) ∷ H) =
    if is_claim f || not (is_acknowledgment f) then acknowledged H else acknowledged H ++ message_of f ∷ []
acknowledged (call ∷ H) = acknowledged H

-- how the controller itself answers a request to its address: what isn't served is refused; what is, if there is no room
abbrev pub refusal : Who → Asked → Message
refusal w r = acknowledgment w (if is_served w r.group then Busy else Nack) r

abbrev pub with_refusal : Who → Bool → Bool → Option Asked → List Message → List Message
with_refusal w room place o due = elim o [
  | None ↦ due
  | Some r ↦ if (nat_eq r.destination w.address && place) && not (is_served w r.group && room) then due ++ refusal w r ∷ [] else due
]

-- this refusal of it is due already
abbrev pub is_refusal_due : Who → List Message → Option Asked → Bool
is_refusal_due w waiting = elim [ None ↦ false | Some r ↦ list_any (λ m. bytes_eq m.bytes (refusal w r).bytes) waiting ]

-- the acknowledgments that are due, and were: at most sixteen wait, and no refusal twice
abbrev pub due : Who → List Call → List Message
due w [] = []
due w (At now (Hear f) ∷ H) =
    let request = fresh w (drop (length (handed H)) (requests w H)) (asked w (holds w H now) f) in
    with_refusal w (nat_lt (length (requests w H) - length (handed H)) places)
    (nat_lt (length (due w H) - length (acknowledged H)) places && not (is_refusal_due w (drop (length (acknowledged H)) (due w H)) request))
    request (due w H)
due w (At now (Acknowledge r answer (Ok x)) ∷ H) = due w H ++ acknowledgment w answer r ∷ []
due w (call ∷ H) = due w H

-- such a request waits for the program already; its refusal is due already
abbrev pub waits_already : Who → List Call → Asked → Bool
waits_already w H r = list_any (repeats r) (drop (length (handed H)) (requests w H))

abbrev pub refusal_waits : Who → List Call → Asked → Bool
refusal_waits w H r = is_refusal_due w (drop (length (acknowledged H)) (due w H)) (Some r)

-- ---- who holds which address

-- the frames that tell it: those known before, all that were heard but claims of its own NAME, and its own claims that were taken
abbrev pub told_claims : Who → List Call → List FrameRecord
told_claims w [] = w.brought.known
told_claims w (At now (Hear f) ∷ H) = if is_double w (claim_of f) then told_claims w H else told_claims w H ++ f ∷ []
told_claims w (At now (TakeFrame (Some f)) ∷ H) = if is_claim f then told_claims w H ++ f ∷ [] else told_claims w H
told_claims w (call ∷ H) = told_claims w H

-- ---- news: each stands from when it happens until it is told

-- the address was lost
abbrev pub lost_news : Who → List Call → Bool
lost_news w [] = false
lost_news w (At now (Hear f) ∷ H) = lost_news w H || (is_smaller w (claim_of f) && not (is_lost (address_after w H)))
lost_news w (TakeNews (Some AddressLost) ∷ H) = false
lost_news w (call ∷ H) = lost_news w H

abbrev pub another_news : Who → List Call → Bool
another_news w [] = false
another_news w (At now (Hear f) ∷ H) = another_news w H || is_another w (holds w H now) f
another_news w (TakeNews (Some AnotherAtAddress) ∷ H) = false
another_news w (call ∷ H) = another_news w H

-- another of its NAME claimed this address, the last that did
abbrev pub doubled_news : Who → List Call → Option ℕ
doubled_news w [] = None
doubled_news w (At now (Hear f) ∷ H) = option_or (double w (claim_of f)) (doubled_news w H)
doubled_news w (TakeNews (Some (NameDoubled address)) ∷ H) = None
doubled_news w (call ∷ H) = doubled_news w H

-- messages were missed
abbrev pub missed_news : Who → List Call → Bool
missed_news w [] = false
missed_news w (At now (Hear f) ∷ H) =
    missed_news w H || (is_for_program w (holds w H now) f && not (nat_lt (length (kept w H) - length (got H)) places))
missed_news w (TakeNews (Some MessagesMissed) ∷ H) = false
missed_news w (call ∷ H) = missed_news w H

-- ---- when something is due

-- a moment that a stamp can tell
abbrev pub stamp_at : ℕ → Option ℕ
stamp_at n = if nat_lt n stamp_end then Some n else None

-- when a claimed address will be held
abbrev pub held_at : Address → ℕ → Option ℕ
held_at (Claimed e) m = if nat_lt e claim_time then stamp_at (m + (claim_time - e)) else None
held_at NotClaimed m = None
held_at Lost m = None
