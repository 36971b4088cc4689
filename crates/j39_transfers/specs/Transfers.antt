-- Messages that an address sends in packets (J1939-21, 5.10.3), to each destination one at a time.
use Rattle.std.specs.Prelude.{if◌then◌else◌, ◌&&◌, ◌*◌, ◌++◌, ◌+◌, ◌||◌, ◌∷◌}
use Rattle.j39_transfers.specs.Common.{[], Abort, aborted, Bool, busy, Done, Err, Failed, false, filter, find, FrameRecord, granted_by, Heard, Idle, is_done, is_idle, is_running, is_there, length, List, list_any, map, max, min, nat_eq, nat_le, nat_lt, new_sender, no_resources, None, not, null_address, Ok, Option, option_map, Result, said_between, send_step, SenderRecord, Sending, sends_in as sender_in, SendState, sent_by, Signal, Some, Tick, ToSend, true, Waiting, ℕ}
use Rattle.j39_transfers.specs.declared.kinds.Ending.{Ending}
use Rattle.j39_transfers.specs.declared.kinds.Ending.TheVariants as how
use Rattle.j39_transfers.specs.declared.kinds.Refused.{Refused}
use Rattle.j39_transfers.specs.declared.kinds.Refused.TheVariants.{BadValue, Busy, Resting, Full}

-- a message that is to be sent: its token, to whom it goes, its group, its priority among transfers, and its bytes
pub record Order : Type 0 where
  pub token : ℕ
  pub to : ℕ
  pub group : ℕ
  pub priority : ℕ
  pub bytes : List ℕ

-- how far its sender is (J1939-21, 5.10.3), the highest packet that it was granted, how many clears to send granted nothing higher,
-- when it began, was cleared to send, sent a frame or ended last, the NAME that was known to hold its destination, and how it was
-- broken off; times in microseconds
pub record Transfer : Type 0 where
  pub token : ℕ
  pub priority : ℕ
  pub sender : SenderRecord
  pub granted : ℕ
  pub spent : ℕ
  pub last : ℕ
  pub name : Option ℕ
  pub broken : Option Ending

abbrev pub to : Transfer → ℕ
to x = x.sender.destination

-- a group isn't sent to an address till a moment
pub record Rest : Type 0 where
  pub to : ℕ
  pub group : ℕ
  pub until : ℕ

-- those of an address, in so many boxes: which aren't told to have ended, the one whose last frame is longest ago first; and what rests
pub record TransfersRecord : Type 0 where
  pub own : ℕ
  pub boxes : ℕ
  pub running : List Transfer
  pub rests : List Rest

abbrev pub none_of : ℕ → ℕ → TransfersRecord
none_of own boxes = record { own = own; boxes = boxes; running = []; rests = [] }

abbrev pub listed : {T : Type 0} → Option T → List T
listed None = []
listed (Some x) = x ∷ []

-- without the first that passes a test
abbrev pub others : {T : Type 0} → (T → Bool) → List T → List T
others p [] = []
others p (x ∷ xs) = if p x then xs else x ∷ others p xs

-- the transfer to an address
abbrev pub of : ℕ → List Transfer → Option Transfer
of a = find (λ x. nat_eq a (to x))

abbrev pub is_open : ℕ → List Transfer → Bool
is_open a = list_any (λ x. nat_eq a (to x))

-- ---- its end

-- acknowledged, or aborted
abbrev pub is_ended : SendState → Bool
is_ended Idle = false
is_ended (Waiting limit) = false
is_ended (Sending next last) = false
is_ended Done = true
is_ended (Failed reason) = true

abbrev pub ending_by : SendState → Option Ending → Option Ending
ending_by Idle broken = broken
ending_by (Waiting limit) broken = broken
ending_by (Sending next last) broken = broken
ending_by Done broken = Some how.Done
ending_by (Failed reason) broken = Some (how.Failed reason)

abbrev pub ending : Transfer → Option Ending
ending x = ending_by x.sender.state x.broken

abbrev pub is_over : Transfer → Bool
is_over x = is_there (ending x)

-- it is broken off, unless it is over
abbrev pub breaks : Ending → ℕ → Transfer → Transfer
breaks e now x = if is_over x then x else record x { broken = Some e; last = now }

-- ---- a frame is heard

-- it gives up where more than 64 clears to send granted nothing higher (own)
abbrev pub is_spent : Transfer → Bool
is_spent x = nat_lt 64 x.spent

abbrev pub gives_up : Transfer → Bool
gives_up x = is_spent x && is_running x.sender.state

abbrev pub spent_after : Option ℕ → ℕ → ℕ → ℕ
spent_after None granted spent = spent
spent_after (Some last) granted spent = if nat_lt granted last then spent else spent + 1

abbrev pub granted_after : Option ℕ → ℕ → ℕ
granted_after None granted = granted
granted_after (Some last) granted = max granted last

-- up to which packet a frame clears its sender
abbrev pub clears_in : FrameRecord → Transfer → Option ℕ
clears_in f x = granted_by x.sender (said_between x.sender.destination x.sender.message.source f)

-- how far its sender is by a frame
abbrev pub heard_in : FrameRecord → ℕ → Transfer → SenderRecord
heard_in f now x = (send_step x.sender (Heard f) now).after

abbrev pub listens : FrameRecord → ℕ → Transfer → Transfer
listens f now x = record x {
  sender = heard_in f now x;
  granted = granted_after (clears_in f x) x.granted;
  spent = spent_after (clears_in f x) x.granted x.spent;
  last = if is_there (clears_in f x) || is_ended (heard_in f now x).state then now else x.last;
}

abbrev pub hears_in : FrameRecord → ℕ → Transfer → Transfer
hears_in f now x = if is_over x || is_spent x then x else listens f now x

abbrev pub hears : FrameRecord → ℕ → TransfersRecord → TransfersRecord
hears f now s = record s { running = map (hears_in f now) s.running }

-- ---- its frames

-- what it says at a time: nothing where it is broken off, abort 5 where it gives up, else what its sender does
abbrev pub signal_by : ℕ → Transfer → Option Signal
signal_by now x =
    if is_there x.broken then None else if gives_up x then Some (Abort 5 x.sender.message.pgn) else (send_step x.sender Tick now).says

abbrev pub frame_of : ℕ → Transfer → Option ToSend
frame_of now x = sent_by x.sender (signal_by now x)

abbrev pub is_due : ℕ → Transfer → Bool
is_due now x = is_there (signal_by now x)

-- that frame is sent
abbrev pub sends_in : ℕ → Transfer → Transfer
sends_in now x = record x { sender = if gives_up x then aborted 5 x.sender else (send_step x.sender Tick now).after; last = now }

-- in how long it sends one
abbrev pub due_in : ℕ → Transfer → Option ℕ
due_in now x = if is_there x.broken then None else if gives_up x then Some 0 else sender_in x.sender.state x.sender.since now

-- ---- turns

abbrev pub sooner : Option ℕ → Option ℕ → Option ℕ
sooner None b = b
sooner (Some m) None = Some m
sooner (Some m) (Some n) = Some (min m n)

-- in how long one of them sends a frame
abbrev pub soonest : ℕ → List Transfer → Option ℕ
soonest now [] = None
soonest now (x ∷ xs) = sooner (due_in now x) (soonest now xs)

-- its priority number, if it sends one
abbrev pub urgency_in : ℕ → Transfer → Option ℕ
urgency_in now x = if is_due now x then Some x.priority else None

-- the smallest of those
abbrev pub urgency : ℕ → List Transfer → Option ℕ
urgency now [] = None
urgency now (x ∷ xs) = sooner (urgency_in now x) (urgency now xs)

abbrev pub is_that : ℕ → Option ℕ → Bool
is_that a None = false
is_that a (Some b) = nat_eq a b

-- it sends one, and has this priority number
abbrev pub goes : ℕ → Option ℕ → Transfer → Bool
goes now u x = is_due now x && is_that x.priority u

-- the first of the smallest: its frame goes first
abbrev pub is_first : ℕ → List Transfer → Transfer → Bool
is_first now xs = goes now (urgency now xs)

abbrev pub turn : ℕ → List Transfer → Option Transfer
turn now xs = find (is_first now xs) xs

abbrev pub frame_by : ℕ → Option Transfer → Option ToSend
frame_by now None = None
frame_by now (Some x) = frame_of now x

abbrev pub said : ℕ → TransfersRecord → Option ToSend
said now s = frame_by now (turn now s.running)

-- the frame that goes first is sent: its transfer stands last
abbrev pub sends : ℕ → TransfersRecord → TransfersRecord
sends now s = record s { running = others (is_first now s.running) s.running ++ listed (option_map (sends_in now) (turn now s.running)) }

-- ---- who holds an address

-- who was known to hold it doesn't, or its holder restarted
abbrev pub is_replaced : Option ℕ → Option ℕ → Bool
is_replaced None holder = false
is_replaced (Some m) holder = not (is_that m holder)

abbrev pub is_left : Option ℕ → (ℕ → Option ℕ) → Transfer → Bool
is_left gone holder x = is_that (to x) gone || is_replaced x.name (holder (to x))

abbrev pub leaves_in : Option ℕ → (ℕ → Option ℕ) → ℕ → Transfer → Transfer
leaves_in gone holder now x = if is_left gone holder x then breaks how.Gone now x else record x { name = holder (to x) }

abbrev pub leaves : Option ℕ → (ℕ → Option ℕ) → ℕ → TransfersRecord → TransfersRecord
leaves gone holder now s = record s { running = map (leaves_in gone holder now) s.running }

-- the address is lost
abbrev pub loses : ℕ → TransfersRecord → TransfersRecord
loses now s = record s { running = map (breaks how.Withdrawn now) s.running }

-- ---- what rests

-- for 4 seconds after the end of one that wasn't acknowledged, its group isn't sent to its destination again (own): a receiver of this
-- stack that is ticked each 80 ms at most has dropped its session by then
abbrev pub rest_time : ℕ
rest_time = 4000000

-- its request to send was refused (J1939-21, 5.10.3.4), and nothing cleared before: its destination has no session of it
abbrev pub is_refusal : SendState → Bool
is_refusal Idle = false
is_refusal (Waiting limit) = false
is_refusal (Sending next last) = false
is_refusal Done = false
is_refusal (Failed reason) = nat_eq reason busy || nat_eq reason no_resources

abbrev pub is_refused : Transfer → Bool
is_refused x = is_refusal x.sender.state && (nat_eq x.granted 0 && nat_eq x.spent 0)

-- nothing rests either where nothing was sent
abbrev pub rests : Transfer → Bool
rests x = not (is_idle x.sender.state || is_done x.sender.state || is_refused x)

abbrev pub rest_of : Transfer → Option Rest
rest_of x = if rests x then Some (record { to = to x; group = x.sender.message.pgn; until = x.last + rest_time }) else None

-- what rests still at a time
abbrev pub awake : ℕ → TransfersRecord → TransfersRecord
awake now s = record s { rests = filter (λ r. nat_lt now r.until) s.rests }

abbrev pub is_of : ℕ → ℕ → Rest → Bool
is_of a group r = nat_eq r.to a && nat_eq r.group group

abbrev pub is_resting : ℕ → ℕ → List Rest → Bool
is_resting a group = list_any (is_of a group)

-- ---- the program

-- it has 9 to 1,785 bytes, and goes to another's address
abbrev pub can_begin : ℕ → Order → Bool
can_begin own o = nat_lt o.to null_address && (not (nat_eq o.to own) && (nat_le 9 (length o.bytes) && nat_le (length o.bytes) 1785))

-- there is a box for it, and a place for its rest
abbrev pub has_room : TransfersRecord → Bool
has_room s = nat_lt (length s.running) s.boxes && nat_lt (length s.rests + length s.running) (2 * s.boxes)

abbrev pub answer : Order → TransfersRecord → Result Unit Refused
answer o s =
    if not (can_begin s.own o) then Err BadValue
    else if is_open o.to s.running then Err Busy
    else if is_resting o.to o.group s.rests then Err Resting
    else if has_room s then Ok tt
    else Err Full

abbrev pub sender_of : ℕ → Order → SenderRecord
sender_of own o = new_sender (record { source = own; pgn = o.group; bytes = o.bytes }) o.to

abbrev pub begun : ℕ → Order → Option ℕ → ℕ → Transfer
begun own o name now = record {
  token = o.token;
  priority = o.priority;
  sender = sender_of own o;
  granted = 0;
  spent = 0;
  last = now;
  name = name;
  broken = None;
}

-- it begins where nothing refuses it
abbrev pub begun_if : Result Unit Refused → Transfer → TransfersRecord → TransfersRecord
begun_if (Ok u) x s = record s { running = s.running ++ x ∷ [] }
begun_if (Err e) x s = s

abbrev pub begins : Order → Option ℕ → ℕ → TransfersRecord → TransfersRecord
begins o name now s = begun_if (answer o (awake now s)) (begun s.own o name now) (awake now s)

-- the end of the first that is over is told
abbrev pub end_of : Transfer → Option (ℕ × Ending)
end_of x = option_map (λ e. (x.token, e)) (ending x)

abbrev pub end_by : Option Transfer → Option (ℕ × Ending)
end_by None = None
end_by (Some x) = end_of x

abbrev pub rest_by : Option Transfer → Option Rest
rest_by None = None
rest_by (Some x) = rest_of x

abbrev pub told : TransfersRecord → Option (ℕ × Ending)
told s = end_by (find is_over s.running)

abbrev pub tells : TransfersRecord → TransfersRecord
tells s = record s { running = others is_over s.running; rests = s.rests ++ listed (rest_by (find is_over s.running)) }

-- another address sends from now on, where none is open
abbrev pub can_move : ℕ → TransfersRecord → Bool
can_move own s = nat_lt own null_address && nat_eq (length s.running) 0

abbrev pub moves : ℕ → TransfersRecord → TransfersRecord
moves own s = if can_move own s then record s { own = own } else s
