-- Messages that come in packets to the address that is held (J1939-21, 5.10.3): what a history says of them.
use Rattle.std.specs.Prelude.{if◌then◌else◌, ◌&&◌, ◌++◌, ◌+◌, ◌-◌, ◌||◌, ◌∷◌, ◌≡◌}
use Rattle.j39_node.specs.Common.{[], address_claimed_group, Bool, bytes_eq, called_time, Claim, claim_of, drop, false, FrameRecord, global_address, is_same, last_stamp, length, List, listed, map, MessageRecord, min, nat_eq, nat_lt, None, not, null_address, Option, option_map, places, slice_get, Some, source_of, suc, take, ToSend, transport_control_group, true, unwrap_or, WasHanded, ℕ}
use Rattle.j39_node.specs.History.{reached, Who, Message, Call, accepted, acknowledged, due, got, kept, is_for_program, holds, asks_with, is_claim, is_session, is_smaller, is_some, is_transfer, message_of, stamp_at, of_other, is_acknowledgment, Asked, asked, fresh, handed, is_served, requests}
use Rattle.j39_node.specs.History.Call.{At, ReleaseTransfer}
use Rattle.j39_node.specs.History.Act.{Hear, Tick, TakeFrame}
use Rattle.j39_sessions.specs.Events.{after, Event, Hears, Leaves, Loses, Releases, Says, Ticks}
use Rattle.j39_sessions.specs.Sessions.{earliest, leaves, made, of, Reply, said, Session, SessionsRecord}

-- ---- who holds an address (J1939-81, 4.2.2)

-- what a claim makes of the NAME that holds a: the smaller NAME has it, and a NAME has one address
abbrev pub held_then : ℕ → Option Claim → Option ℕ → Option ℕ
held_then a None holder = holder
held_then a (Some c) None = if nat_eq c.address a && nat_lt a null_address then Some c.name else None
held_then a (Some c) (Some n) =
    if nat_eq c.address a then Some (min n c.name) else if nat_eq n c.name then None else Some n

-- the NAME that holds a after these frames, where this one held it before
abbrev pub held_through : ℕ → List FrameRecord → Option ℕ → Option ℕ
held_through a [] holder = holder
held_through a (f ∷ frames) holder = held_through a frames (held_then a (claim_of f) holder)

-- the NAME that holds it, by what was known before, the claims heard but those of its own NAME, and its own that were taken
abbrev pub holder : Who → List Call → ℕ → Option ℕ
holder w [] a = held_through a w.brought.known None
holder w (At now (Hear f) ∷ H) a = held_then a (of_other w (claim_of f)) (holder w H a)
holder w (At now (TakeFrame (Some f)) ∷ H) a = if is_claim f then held_then a (claim_of f) (holder w H a) else holder w H a
holder w (call ∷ H) a = holder w H a

-- the NAME that held the source of each message that was kept, when it was heard
abbrev pub senders : Who → List Call → List (Option ℕ)
senders w [] = []
senders w (At now (Hear f) ∷ H) =
    if is_for_program w (holds w H now) f && nat_lt (length (kept w H) - length (got H)) places
    then senders w H ++ holder w H (source_of f.id) ∷ []
    else senders w H
senders w (call ∷ H) = senders w H

-- beside a request that waits, the NAME that held its source
abbrev pub with_asker : Who → Bool → Option Asked → Option ℕ → List (Option ℕ) → List (Option ℕ)
with_asker w room o name names = elim o [ None ↦ names | Some r ↦ if is_served w r.group && room then names ++ name ∷ [] else names ]

-- the NAME that held the source of each of the requests for the program, when it was heard
abbrev pub askers : Who → List Call → List (Option ℕ)
askers w [] = []
askers w (At now (Hear f) ∷ H) =
    with_asker w (nat_lt (length (requests w H) - length (handed H)) places)
    (fresh w (drop (length (handed H)) (requests w H)) (asked w (holds w H now) f)) (holder w H (source_of f.id)) (askers w H)
askers w (call ∷ H) = askers w H

-- ---- time: the sum of the forward steps from one frame heard or tick to the next, as a stamp can tell it

abbrev pub heard_at : List Call → ℕ
heard_at [] = 0
heard_at (At now (Hear f) ∷ H) = now
heard_at (At now Tick ∷ H) = now
heard_at (call ∷ H) = heard_at H

abbrev pub later : ℕ → ℕ → ℕ
later clock step = min (clock + step) last_stamp

abbrev pub time_heard : List Call → ℕ
time_heard [] = 0
time_heard (At now (Hear f) ∷ H) = later (time_heard H) (now - heard_at H)
time_heard (At now Tick ∷ H) = later (time_heard H) (now - heard_at H)
time_heard (call ∷ H) = time_heard H

-- ---- who restarts claims first, and nothing called for that (own)

-- a message of one frame
abbrev pub is_message : FrameRecord → Bool
is_message f = not (is_claim f || (is_acknowledgment f || is_session f))

-- a request for claims
abbrev pub asks_claims : FrameRecord → Bool
asks_claims f = asks_with (message_of f) address_claimed_group

-- whose claim a message asks for: that of an address, or all (255)
abbrev pub whom : Option ℕ → ℕ
whom None = global_address
whom (Some a) = a

abbrev pub asked_whom : Message → Option ℕ
asked_whom m = if asks_with m address_claimed_group then Some (whom m.destination) else None

-- whose claim is called for by it: a claim of an address by who doesn't hold it calls for its holder's
abbrev pub calls_whom : (ℕ → Option ℕ) → FrameRecord → Option Claim → Option ℕ
calls_whom holder f None = asked_whom (message_of f)
calls_whom holder f (Some c) = if is_some (holder c.address) c.name then None else Some c.address

-- by a frame of its own that is taken
abbrev pub taken_whom : Bool → Bool → FrameRecord → Option ℕ
taken_whom true message f = Some (source_of f.id)
taken_whom false true f = asked_whom (message_of f)
taken_whom false false f = None

-- what is left, from the last frame heard or tick on, of the 1,250 ms in which a claim was called for, and whose: of an address, or all
pub record Calling : Type 0 where
  pub left : ℕ
  pub whose : ℕ

abbrev pub waned : ℕ → Calling → Calling
waned s k = record { left = k.left - s; whose = k.whose }

-- where another's was called for in that time, all are (own)
abbrev pub called_for : ℕ → Option ℕ → Calling → Calling
called_for time None k = k
called_for time (Some a) k = record { left = time; whose = if nat_eq k.left 0 || nat_eq k.whose a then a else global_address }

-- by what was heard, or by its own claim or request that was taken
abbrev pub called : Who → List Call → Calling
called w [] = record { left = 0; whose = 0 }
called w (At now (Hear f) ∷ H) =
    called_for called_time (calls_whom (holder w H) f (claim_of f)) (waned (now - heard_at H) (called w H))
called w (At now Tick ∷ H) = waned (now - heard_at H) (called w H)
called w (At now (TakeFrame (Some f)) ∷ H) =
    called_for (called_time + (now - heard_at H)) (taken_whom (is_claim f) (is_message f) f) (called w H)
called w (call ∷ H) = called w H

abbrev pub is_called : ℕ → Calling → Bool
is_called a k = not (nat_eq k.left 0) && (nat_eq k.whose a || nat_eq k.whose global_address)

-- the address that its holder claims again, where nothing called for that
abbrev pub claimed_again : (ℕ → Option ℕ) → Calling → Option Claim → Option ℕ
claimed_again holder k None = None
claimed_again holder k (Some c) = if is_some (holder c.address) c.name && not (is_called c.address k) then Some c.address else None

abbrev pub restarts : Who → List Call → ℕ → FrameRecord → Option ℕ
restarts w H now f = claimed_again (holder w H) (waned (now - heard_at H) (called w H)) (claim_of f)

-- who holds an address since before: nobody, if its holder restarted
abbrev pub still : Option ℕ → (ℕ → Option ℕ) → ℕ → Option ℕ
still gone holder a = if is_some gone a then None else holder a

abbrev pub known : Who → List Call → ℕ → FrameRecord → ℕ → Option ℕ
known w H now f = still (restarts w H now f) (holder w H)

-- before a call
abbrev pub known_by : Who → Call → List Call → ℕ → Option ℕ
known_by w (At now (Hear f)) H = known w H now f
known_by w call H = holder w H

-- ---- what is received: what the sessions of its address (`j39_sessions`) went through, the newest first

-- by a frame the address is lost, or it is heard at the address that is held, or neither
abbrev pub heard_by : Bool → Bool → ℕ → Option ℕ → FrameRecord → List Event → List Event
heard_by true held now name f E = Loses ∷ E
heard_by false true now name f E = Hears now name f ∷ E
heard_by false false now name f E = E

-- the frame that is taken is a claim, the first reply, or another
abbrev pub taken_by : Bool → Bool → (ℕ → Option ℕ) → List Event → List Event
taken_by true reply holder E = Leaves None holder ∷ E
taken_by false true holder E = Says ∷ E
taken_by false false holder E = E

abbrev pub released_by : Bool → List Event → List Event
released_by true E = Releases ∷ E
released_by false E = E

abbrev pub sessions_after : Who → List Event → SessionsRecord
sessions_after w E = after w.address w.window w.sessions E

-- what is said in a session, of priority 7
abbrev pub reply_from : ℕ → ℕ → List ℕ → Message
reply_from own a bytes = record { source = own; destination = Some a; priority = 7; group = transport_control_group; bytes = bytes }

abbrev pub said_from : ℕ → Reply → Message
said_from own x = reply_from own x.to x.bytes

abbrev pub replies_of : SessionsRecord → List Message
replies_of s = map (said_from s.own) s.replies

-- x is this reply
abbrev pub is_that : Message → Option Message → Bool
is_that x None = false
is_that x (Some m) = nat_eq x.group m.group && (is_same x.destination m.destination && bytes_eq x.bytes m.bytes)

-- a frame of a session to an address that is taken is the first reply, where it is that; else one of a transfer
abbrev pub is_reply : List Message → FrameRecord → Bool
is_reply replies f = is_transfer f && is_that (message_of f) (slice_get replies 0)

abbrev pub events : Who → List Call → List Event
events w [] = []
events w (At now (Hear f) ∷ H) =
    heard_by (is_smaller w (claim_of f)) (holds w H now) (time_heard (At now (Hear f) ∷ H)) (holder w (At now (Hear f) ∷ H) (source_of f.id)) f
    (Leaves (restarts w H now f) (holder w (At now (Hear f) ∷ H)) ∷ events w H)
events w (At now Tick ∷ H) = Ticks (time_heard (At now Tick ∷ H)) ∷ events w H
events w (At now (TakeFrame (Some f)) ∷ H) =
    taken_by (is_claim f) (is_reply (replies_of (sessions_after w (events w H))) f) (holder w (At now (TakeFrame (Some f)) ∷ H)) (events w H)
events w (ReleaseTransfer answer ∷ H) = released_by answer (events w H)
events w (call ∷ H) = events w H

-- the sessions, the messages that wait for the program, and what waits to be said
abbrev pub reception : Who → List Call → SessionsRecord
reception w H = sessions_after w (events w H)

abbrev pub replies : Who → List Call → List Message
replies w H = replies_of (reception w H)

-- the session of a source
abbrev pub session : Who → List Call → ℕ → Option Session
session w H a = of a (reception w H).sessions

-- as a frame finds them: those are over whose source has another holder by it, or restarted
abbrev pub found_by : Who → List Call → ℕ → FrameRecord → SessionsRecord
found_by w H now f = leaves (restarts w H now f) (holder w (At now (Hear f) ∷ H)) (reception w H)

-- the frame that was taken last, but for claims and acknowledgments, was a reply
abbrev pub yields : Who → List Call → Bool
yields w [] = false
yields w (At now (TakeFrame (Some f)) ∷ H) = if is_claim f || is_acknowledgment f then yields w H else is_reply (replies w H) f
yields w (call ∷ H) = yields w H

abbrev pub is_move : Who → List Call → FrameRecord → Bool
is_move w H f = is_transfer f && not (is_that (message_of f) (slice_get (replies w H) 0))

-- ---- which messages

abbrev pub if_heard : {T : Type 0} → Bool → Bool → Option T → Option T
if_heard true held x = None
if_heard false true x = x
if_heard false false x = None

-- the message that the frame makes whole
abbrev pub whole : Who → List Call → ℕ → FrameRecord → Option MessageRecord
whole w H now f = if_heard (is_smaller w (claim_of f)) (holds w H now) (made (time_heard (At now (Hear f) ∷ H)) f (found_by w H now f))

-- what is said to the frame
abbrev pub says : Who → List Call → ℕ → FrameRecord → Option ToSend
says w H now f = if_heard (is_smaller w (claim_of f)) (holds w H now) (said (time_heard (At now (Hear f) ∷ H)) f (found_by w H now f))

-- the NAME that held the source of the oldest that waits, from its RTS to its last packet
abbrev pub transfer_sender : Who → List Call → Option ℕ
transfer_sender w H = unwrap_or (slice_get (reception w H).senders 0) None

-- those that were whole, each with the moment of its last packet
abbrev pub delivered : Who → List Call → List (ℕ × MessageRecord)
delivered w [] = []
delivered w (At now (Hear f) ∷ H) = delivered w H ++ listed (option_map (λ m. (f.stamp, m)) (whole w H now f))
delivered w (call ∷ H) = delivered w H

-- those that the program got
abbrev pub got_transfers : Who → List Call → List (ℕ × MessageRecord)
got_transfers w [] = []
got_transfers w (ReleaseTransfer true ∷ H) = got_transfers w H ++ take 1 (reception w H).waits
got_transfers w (call ∷ H) = got_transfers w H

-- ---- of one sender

abbrev pub frames_heard : List Call → List FrameRecord
frames_heard [] = []
frames_heard (At now (Hear f) ∷ H) = frames_heard H ++ f ∷ []
frames_heard (call ∷ H) = frames_heard H

-- the NAME that holds a, or that none does, is the same after each of the later calls, and doesn't restart by one
abbrev pub KeepsHolder : Who → ℕ → List Call → List Call → Type 0
KeepsHolder w a [] earlier = Unit {0}
KeepsHolder w a (call ∷ later) earlier = (holder w (call ∷ later ++ earlier) a ≡ known_by w call (later ++ earlier) a) × KeepsHolder w a later earlier

-- the frames heard from a call on hand over an RTS of the message and its packets, in order; and since, one NAME held its source,
-- or none did
pub record CameFromOne (w : Who) (H : List Call) (m : MessageRecord) : Type 0 where
  pub later : List Call
  pub at : ℕ
  pub first : FrameRecord
  pub earlier : List Call
  pub is : H ≡ later ++ At at (Hear first) ∷ earlier
  pub handed : WasHanded w.address (frames_heard (later ++ At at (Hear first) ∷ [])) m
  pub one : KeepsHolder w m.source later (At at (Hear first) ∷ earlier)

-- ---- when something is due

-- a message, an acknowledgment or a reply waits
abbrev pub is_waiting : Who → List Call → Bool
is_waiting w H =
    nat_lt (reached H) (length (accepted w H)) || (nat_lt (length (acknowledged H)) (length (due w H))
    || nat_lt 0 (length (replies w H)))

-- the first moment at which a tick says something, by when the last one was
abbrev pub tick_at : Option ℕ → ℕ → ℕ → Option ℕ
tick_at None last clock = None
tick_at (Some limit) last clock = stamp_at (last + (suc limit - clock))

abbrev pub session_tick : Who → List Call → Option ℕ
session_tick w H = tick_at (earliest (reception w H).sessions) (heard_at H) (time_heard H)
