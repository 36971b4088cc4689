-- Messages that come in packets to one address (J1939-21, 5.10.3), one from each source at a time.
use Rattle.std.specs.Prelude.{if◌then◌else◌, ◌&&◌, ◌*◌, ◌++◌, ◌+◌, ◌==◌, ◌||◌, ◌∷◌, ◌≡◌}
use Rattle.j39_sessions.specs.Common.{[], Abort, answers, Bool, drop, false, filter, find, FrameRecord, Heard, is_there, length, limit_of, List, list_any, MessageRecord, min, nat_eq, nat_lt, None, not, null_address, Option, option_map, Packet, pgn_of, ps_of, ReceptionRecord, recv_step, RecvResult, request_to_send, result_of, said_to, Signal, slice_index, slice_set, Some, source_of, Tick, timeout, timer_t2, ToSend, transport_control_group, transport_data_group, true, ℕ}

-- what its receiver knows of it (J1939-21, 5.10.3), the time since which its source has one open, in microseconds, and the NAME that
-- held its source then
pub record Session : Type 0 where
  pub reception : ReceptionRecord
  pub since : ℕ
  pub name : Option ℕ

abbrev pub from : Session → ℕ
from x = x.reception.message.source

-- what is to be said to an address
pub record Reply : Type 0 where
  pub to : ℕ
  pub bytes : List ℕ

-- those of an address, which grants so many packets at once at most: the open sessions, of each source one; the whole messages that
-- wait for the program, the oldest first, each with the moment of its last packet, and the NAMEs that held their sources; and what
-- waits to be said
pub record SessionsRecord : Type 0 where
  pub own : ℕ
  pub most : ℕ
  pub boxes : ℕ
  pub sessions : List Session
  pub waits : List (ℕ × MessageRecord)
  pub senders : List (Option ℕ)
  pub replies : List Reply

abbrev pub none_of : ℕ → ℕ → ℕ → SessionsRecord
none_of own most boxes = record { own = own; most = most; boxes = boxes; sessions = []; waits = []; senders = []; replies = [] }

-- the session of a source, and those of others
abbrev pub of : ℕ → List Session → Option Session
of a = find (λ x. nat_eq a (from x))

abbrev pub others : ℕ → List Session → List Session
others a [] = []
others a (x ∷ xs) = if nat_eq a (from x) then xs else x ∷ others a xs

-- no two are of one source
abbrev pub AreApart : List Session → Type 0
AreApart [] = Unit {0}
AreApart (x ∷ xs) = (of (from x) xs ≡ None) × AreApart xs

abbrev pub listed : {T : Type 0} → Option T → List T
listed None = []
listed (Some x) = x ∷ []

-- a message of this source has a box: that of its session, or a free one
abbrev pub has_room : ℕ → SessionsRecord → Bool
has_room a s = is_there (of a s.sessions) || nat_lt (length s.sessions + length s.waits) s.boxes

-- ---- what is to be said

-- so many addresses at once
abbrev pub places : ℕ
places = 16

-- the replies to others
abbrev pub without : ℕ → List Reply → List Reply
without a = filter (λ m. not (nat_eq a m.to))

abbrev pub reply_to : ℕ → List Reply → Option Reply
reply_to a = find (λ m. nat_eq a m.to)

-- one to this address takes the place of an older one; where sixteen to others wait, it isn't said
abbrev pub replied : ℕ → Option ToSend → List Reply → List Reply
replied a None replies = replies
replied a (Some f) replies =
    if nat_lt (length (without a replies)) places then without a replies ++ record { to = a; bytes = f.bytes } ∷ [] else without a replies

-- ---- a frame

-- one of sessions from an address to this one (TP.CM and TP.DT: J1939-21, 5.10.2)
abbrev pub is_of_session : ℕ → FrameRecord → Bool
is_of_session own f =
    (nat_lt (source_of f.id) null_address && nat_eq (ps_of f.id) own)
    && ((nat_eq (pgn_of f.id) transport_control_group || nat_eq (pgn_of f.id) transport_data_group) && nat_eq (length f.bytes) 8)

abbrev pub number_in : Option Signal → Option ℕ
number_in (Some (Packet number part)) = Some number
number_in other = None

-- a packet that is neither the next one nor the last that was granted
abbrev pub strays : Option ℕ → Option ReceptionRecord → Bool
strays None o = false
strays (Some k) None = false
strays (Some k) (Some r) = not (k == r.message.count + 1 || k == r.granted)

-- an RTS (J1939-21, 5.10.3.1), by its first byte
abbrev pub is_request : FrameRecord → Bool
is_request f = nat_eq (pgn_of f.id) transport_control_group && nat_eq (slice_index f.bytes 0) request_to_send

-- how many packets it takes at once, of those that may be granted; 0 sets no limit in either
abbrev pub fewest : ℕ → ℕ → ℕ
fewest most asked = if nat_eq most 0 then asked else if nat_eq asked 0 then most else min asked most

-- the bytes of a frame: an RTS as one whose sender takes no more at once
abbrev pub narrowed : ℕ → FrameRecord → List ℕ
narrowed most f = if is_request f then slice_set f.bytes 4 (fewest most (slice_index f.bytes 4)) else f.bytes

-- what the receiver is shown: of a packet that strays nothing that it says (own), and of an RTS that no more may be granted
abbrev pub shown : ℕ → ℕ → Option ReceptionRecord → FrameRecord → FrameRecord
shown own most o f = record { stamp = f.stamp; id = f.id; bytes = if strays (number_in (said_to own f)) o then [] else narrowed most f }

abbrev pub receiving : Option Session → Option ReceptionRecord
receiving o = option_map (λ x. x.reception) o

-- the step of the receiver of its source's session, or of one with no session (J1939-21, 5.10.3), where its message has room or not
abbrev pub step_at : ℕ → ℕ → Bool → FrameRecord → ℕ → Option Session → RecvResult
step_at own most room f now o = recv_step (record { own = own; session = receiving o }) (Heard (shown own most (receiving o) f)) now room

-- one in place of an open one keeps its account and its NAME
abbrev pub since_by : ℕ → Option Session → ℕ
since_by now None = now
since_by now (Some x) = x.since

abbrev pub name_by : Option ℕ → Option Session → Option ℕ
name_by name None = name
name_by name (Some x) = x.name

abbrev pub session_by : ℕ → Option ℕ → ReceptionRecord → Session
session_by since name r = record { reception = r; since = since; name = name }

-- a step at a frame of this source, in a box of this account and NAME: what it leaves, makes whole and says
abbrev pub put_in : ℕ → ℕ → Option ℕ → FrameRecord → RecvResult → SessionsRecord → SessionsRecord
put_in a since name f x s = record {
  own = s.own;
  most = s.most;
  boxes = s.boxes;
  sessions = s.sessions ++ listed (option_map (session_by since name) x.after.session);
  waits = s.waits ++ listed (option_map (λ m. (f.stamp, m)) x.delivers);
  senders = s.senders ++ listed (option_map (λ m. name) x.delivers);
  replies = replied a x.sends s.replies;
}

-- in that of its session, or a free one
abbrev pub stepped : ℕ → ℕ → Option ℕ → FrameRecord → Option Session → RecvResult → SessionsRecord → SessionsRecord
stepped a now name f o x s = put_in a (since_by now o) (name_by name o) f x (record s { sessions = others a s.sessions })

abbrev pub step_in : ℕ → FrameRecord → SessionsRecord → RecvResult
step_in now f s = step_at s.own s.most (has_room (source_of f.id) s) f now (of (source_of f.id) s.sessions)

-- a frame is heard whose source this NAME holds: what is of no session to the address changes nothing
abbrev pub hears : ℕ → Option ℕ → FrameRecord → SessionsRecord → SessionsRecord
hears now name f s =
    if is_of_session s.own f
    then stepped (source_of f.id) now name f (of (source_of f.id) s.sessions) (step_in now f s) s
    else s

-- the message that it makes whole
abbrev pub made : ℕ → FrameRecord → SessionsRecord → Option MessageRecord
made now f s = if is_of_session s.own f then (step_in now f s).delivers else None

-- and what is said to it
abbrev pub said : ℕ → FrameRecord → SessionsRecord → Option ToSend
said now f s = if is_of_session s.own f then (step_in now f s).sends else None

-- ---- time

-- sessions of one source may take so long till one of n packets is whole (own)
abbrev pub longest : ℕ → ℕ
longest n = (n + 3) * timer_t2

abbrev pub is_over : ℕ → Session → Bool
is_over now x = nat_lt (x.since + longest x.reception.message.packets) now

-- a tick: abort 3 where that is over, else the receiver's step
abbrev pub tick_of : ℕ → ℕ → Session → RecvResult
tick_of own now x =
    if is_over now x
    then result_of own (from x) (answers None (Abort timeout x.reception.message.group))
    else recv_step (record { own = own; session = Some x.reception }) Tick now true

abbrev pub session_ticked : ℕ → ℕ → Session → Option Session
session_ticked own now x = option_map (session_by x.since x.name) (tick_of own now x).after.session

abbrev pub sessions_ticked : ℕ → ℕ → List Session → List Session
sessions_ticked own now [] = []
sessions_ticked own now (x ∷ xs) = listed (session_ticked own now x) ++ sessions_ticked own now xs

abbrev pub replies_ticked : ℕ → ℕ → List Session → List Reply → List Reply
replies_ticked own now [] replies = replies
replies_ticked own now (x ∷ xs) replies = replies_ticked own now xs (replied (from x) (tick_of own now x).sends replies)

abbrev pub ticks : ℕ → SessionsRecord → SessionsRecord
ticks now s = record {
  own = s.own;
  most = s.most;
  boxes = s.boxes;
  sessions = sessions_ticked s.own now s.sessions;
  waits = s.waits;
  senders = s.senders;
  replies = replies_ticked s.own now s.sessions s.replies;
}

-- the last moment at which a tick says nothing
abbrev pub limit_in : Session → ℕ
limit_in x = min (x.reception.message.last + limit_of x.reception) (x.since + longest x.reception.message.packets)

abbrev pub sooner : Option ℕ → Option ℕ → Option ℕ
sooner None b = b
sooner (Some m) None = Some m
sooner (Some m) (Some n) = Some (min m n)

abbrev pub earliest : List Session → Option ℕ
earliest [] = None
earliest (x ∷ xs) = sooner (Some (limit_in x)) (earliest xs)

-- ---- who holds an address

abbrev pub is_same : Option ℕ → Option ℕ → Bool
is_same None None = true
is_same None (Some n) = false
is_same (Some m) None = false
is_same (Some m) (Some n) = nat_eq m n

abbrev pub is_that : ℕ → Option ℕ → Bool
is_that a None = false
is_that a (Some b) = nat_eq a b

-- another NAME holds its source than when one was opened, or none does, or its holder restarted
abbrev pub is_left : Option ℕ → (ℕ → Option ℕ) → Session → Bool
is_left gone holder x = is_that (from x) gone || not (is_same x.name (holder (from x)))

-- what waits to be said to their sources isn't said
abbrev pub unsaid : List Session → List Reply → List Reply
unsaid [] replies = replies
unsaid (x ∷ xs) replies = unsaid xs (without (from x) replies)

abbrev pub leaves : Option ℕ → (ℕ → Option ℕ) → SessionsRecord → SessionsRecord
leaves gone holder s = record {
  own = s.own;
  most = s.most;
  boxes = s.boxes;
  sessions = filter (λ x. not (is_left gone holder x)) s.sessions;
  waits = s.waits;
  senders = s.senders;
  replies = unsaid (filter (is_left gone holder) s.sessions) s.replies;
}

-- the address is lost: nothing is said from it
abbrev pub loses : SessionsRecord → SessionsRecord
loses s = record { own = s.own; most = s.most; boxes = s.boxes; sessions = []; waits = s.waits; senders = s.senders; replies = [] }

-- ---- the program, and the bus

-- the oldest message that waits is released
abbrev pub releases : SessionsRecord → SessionsRecord
releases s = record { own = s.own; most = s.most; boxes = s.boxes; sessions = s.sessions; waits = drop 1 s.waits; senders = drop 1 s.senders; replies = s.replies }

-- the first reply is taken
abbrev pub says : SessionsRecord → SessionsRecord
says s = record { own = s.own; most = s.most; boxes = s.boxes; sessions = s.sessions; waits = s.waits; senders = s.senders; replies = drop 1 s.replies }

-- a session of this source, and of this group, is open
abbrev pub is_of : ℕ → ℕ → Session → Bool
is_of a group x = nat_eq (from x) a && nat_eq x.reception.message.group group

abbrev pub is_open : ℕ → ℕ → List Session → Bool
is_open a group = list_any (is_of a group)
