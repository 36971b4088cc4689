-- Several controllers on one bus: one log of its frames, and the history of each one's calls. On a CAN bus one frame is before or
-- behind another for everybody (ISO 11898-1), so one log is enough.
use Rattle.std.specs.Prelude.{Bool, ◌*◌, ◌+◌, ◌-◌, ◌/◌, ◌++◌, ◌&&◌, ◌^◌, ◌∷◌, ◌≡◌, ◌≢◌, ◌≤◌, ◌<◌, ◌⊎◌, [], ℕ, List, None, Ok, Option, Some, IsTrue, drop, false, length, true, map, filter, nat_eq, nat_le, not, slice_get}
use Rattle.std.specs.List.{All, Contains}
use Rattle.j39_frame.specs.Address.{IsAddress}
use Rattle.j39_frame.specs.Frame.{FrameRecord}
use Rattle.j39_frame.specs.Identifier.{source_of}
use Rattle.j39_transport.specs.Assembly.{AreSuccessive}
use Rattle.j39_transport.specs.Key.{Broadcast}
use Rattle.j39_transport.specs.Message.{MessageRecord, packets_of}
use Rattle.j39_transport.specs.Protocol.{broadcast_limit}
use Rattle.j39_transport.specs.Signals.{Acknowledgment, RequestToSend, said_between, Signal}
use Rattle.j39_listen.specs.Heard.{frame_at, frames_only}
use Rattle.j39_address.specs.Claim.{Claim, claim_of}
use Rattle.j39_node.specs.Hearing.{announces, found, found_in, has_box, OpenBroadcast, whole_broadcasts}
use Rattle.j39_node.specs.History.{Call, Message, Who, frames, is_claim, is_larger, is_some, message_of}
use Rattle.j39_node.specs.History.Call.{At}
use Rattle.j39_node.specs.History.Act.{Hear, TakeFrame, Transfer}
use Rattle.j39_node.specs.Is.{AreAnswered}
use Rattle.j39_node.specs.Prompt.{claims_anew}
use Rattle.j39_node.specs.Reception.{KeepsHolder}
use Rattle.j39_node.specs.Since.{passed_in}
use Rattle.j39_node.specs.Transfers.{next_transfer_ended}
use Rattle.j39_transfers.specs.declared.kinds.Ending.TheVariants.{Done}

-- a controller on the bus: for whom it was made or moved, its calls since then, the newest first, and from which moment on it is there
pub record Member : Type 0 where
  pub who : Who
  pub history : List Call
  pub since : ℕ

abbrev pub IsMember : List Member → ℕ → Member → Type 0
IsMember members i m = slice_get members i ≡ Some m

-- a frame of the log, whose stamp is its moment on the bus, and the number of the member that sent it; none where a stranger did
pub record Passed : Type 0 where
  pub frame : FrameRecord
  pub by : Option ℕ

-- the frames of the log, those that member i sent, and those of all others from a moment on
abbrev pub log : List Passed → List FrameRecord
log L = map (λ x. x.frame) L

abbrev pub own : ℕ → List Passed → List FrameRecord
own i L = log (filter (λ x. is_some x.by i) L)

abbrev pub others : ℕ → ℕ → List Passed → List FrameRecord
others i start L = log (filter (λ x. not (is_some x.by i) && nat_le start x.frame.stamp) L)

-- the frames that a controller heard, each with the moment of the call, the oldest first; as `frames` are those that it took
abbrev pub hears : List Call → List FrameRecord
hears [] = []
hears (At now (Hear f) ∷ H) = hears H ++ record { stamp = now; id = f.id; bytes = f.bytes } ∷ []
hears (call ∷ H) = hears H

-- ---- time

-- the stamps never go back, from this moment on
abbrev pub IsOrdered : ℕ → List FrameRecord → Type 0
IsOrdered start [] = Unit {0}
IsOrdered start (f ∷ F) = (start ≤ f.stamp) × IsOrdered f.stamp F

-- the moments of the calls never go back, from `start` to `end`
abbrev pub InTime : ℕ → ℕ → List Call → Type 0
InTime start end [] = start ≤ end
InTime start end (At now act ∷ H) = (now ≤ end) × InTime start now H
InTime start end (call ∷ H) = InTime start end H

-- the driver comes for a frame, whether it gets one or not, at most g after `start`, and after each time that it came, up to `end`
abbrev pub ComesIn : ℕ → ℕ → ℕ → List Call → Type 0
ComesIn g start end [] = end ≤ start + g
ComesIn g start end (At now (TakeFrame answer) ∷ H) = (end ≤ now + g) × ComesIn g start now H
ComesIn g start end (call ∷ H) = ComesIn g start end H

-- g is the frame f, at most so long later
pub record IsLater (delay : ℕ) (f g : FrameRecord) : Type 0 where
  pub id : g.id ≡ f.id
  pub bytes : g.bytes ≡ f.bytes
  pub behind : f.stamp ≤ g.stamp
  pub in_time : g.stamp ≤ f.stamp + delay

-- of the frames in the first list come those in the second, in order, each once and at most so long later; what doesn't come may be missing
abbrev pub Come : ℕ → (FrameRecord → Type 0) → List FrameRecord → List FrameRecord → Type 0
Come delay missing [] [] = Unit {0}
Come delay missing [] (g ∷ gs) = ⊥
Come delay missing (f ∷ fs) [] = missing f × Come delay missing fs []
Come delay missing (f ∷ fs) (g ∷ gs) = (IsLater delay f g × Come delay missing fs gs) ⊎ (missing f × Come delay missing fs (g ∷ gs))

-- ---- the net

-- at the moment `now` these controllers are on one bus with the log L, by one clock: what each took is on the bus, and what others send
-- since it is there it heard, in order, each at most `delay` later. A frame may be missing where `missing` says so: it is lost, or on its way
pub record Net (delay now : ℕ) (missing : FrameRecord → Type 0) (L : List Passed) (members : List Member) : Type 0 where
  pub ordered : IsOrdered 0 (log L)
  pub answered : (i : ℕ) (m : Member) → IsMember members i m → AreAnswered m.who m.history
  pub in_time : (i : ℕ) (m : Member) → IsMember members i m → InTime m.since now m.history
  pub sent : (i : ℕ) (m : Member) → IsMember members i m → Come delay missing (frames m.history) (own i L)
  pub heard : (i : ℕ) (m : Member) → IsMember members i m → Come delay missing (others i m.since L) (hears m.history)
  -- each claims an address, by a NAME of 64 bits of its own (J1939-81, 4.1)
  pub address : (i : ℕ) (m : Member) → IsMember members i m → IsAddress m.who.address
  pub name : (i : ℕ) (m : Member) → IsMember members i m → m.who.name < 2 ^ 64
  pub apart : (i j : ℕ) (m n : Member) → IsMember members i m → IsMember members j n → m.who.name ≡ n.who.name → i ≡ j

-- ---- claims (J1939-81, 4.2)

-- f is no claim by which a member claims its address
abbrev pub IsNoClaim : List Member → FrameRecord → Type 0
IsNoClaim members f = (i : ℕ) (m : Member) → IsMember members i m
    → claim_of f ≢ Some (record { name = m.who.name; address = m.who.address })

-- a claim was taken by this moment
pub record TakesClaim (end : ℕ) (calls : List Call) : Type 0 where
  pub later : List Call
  pub at : ℕ
  pub claim : FrameRecord
  pub earlier : List Call
  pub is : calls ≡ later ++ At at (TakeFrame (Some claim)) ∷ earlier
  pub claims : IsTrue (is_claim claim)
  pub in_time : at ≤ end

-- behind a claim of its address by a larger NAME, heard at some moment, a claim was taken by the moment `by` tells for it, if that is past
abbrev pub Defends : (ℕ → ℕ) → ℕ → Who → List Call → Type 0
Defends by now w H = (later earlier : List Call) (when : ℕ) (f : FrameRecord) → H ≡ later ++ At when (Hear f) ∷ earlier
    → IsTrue (is_larger w (claim_of f)) → by when ≤ now → TakesClaim (by when) later

-- before place k of the log none but member i claims by its NAME, or its address by a smaller one
abbrev pub IsUnrivalled : List Passed → ℕ → ℕ → Who → Type 0
IsUnrivalled L k i w = (q : ℕ) (x : Passed) (c : Claim) → q < k → slice_get L q ≡ Some x → claim_of x.frame ≡ Some c → x.by ≢ Some i
    → (c.name ≢ w.name) × (c.address ≡ w.address → w.name < c.name)

-- ---- messages of one frame

-- the first stand among the second, in the same order
abbrev pub IsPart : {T : Type 0} → List T → List T → Type 0
IsPart [] ys = Unit {0}
IsPart (x ∷ xs) [] = ⊥
IsPart (x ∷ xs) (y ∷ ys) = ((x ≡ y) × IsPart xs ys) ⊎ IsPart (x ∷ xs) ys

-- only member i sends from this address, but for claims
abbrev pub OnlySends : List Passed → ℕ → ℕ → Type 0
OnlySends L i address = All (λ x. is_claim x.frame ≡ false → source_of x.frame.id ≡ address → x.by ≡ Some i) L

-- f is none of these messages
abbrev pub IsNoneOf : List Message → FrameRecord → Type 0
IsNoneOf messages f = Contains messages (message_of f) → ⊥

-- ---- broadcasts that are heard (J1939-21, 5.10.3.5)

-- the announcement f finds a box free, and none of its source open; and by each later call who holds its address stays, and doesn't restart
pub record IsWelcome (w : Who) (later earlier : List Call) (at : ℕ) (f : FrameRecord) : Type 0 where
  pub box : IsTrue (has_box w.boxes (found_in w earlier at f))
  pub none : found w earlier at f (source_of f.id) ≡ None
  pub holder : KeepsHolder w (source_of f.id) later (At at (Hear f) ∷ earlier)

-- what is whole, and wasn't yet behind these earlier calls
abbrev pub whole_since : Who → List Call → List Call → List MessageRecord
whole_since w before H = drop (length (whole_broadcasts w before)) (map (λ x. x.1) (whole_broadcasts w H))

-- of one message as many packets came
abbrev pub IsAsFar : OpenBroadcast → OpenBroadcast → Type 0
IsAsFar x y = (y.group ≡ x.group) × (y.size ≡ x.size) × (y.count ≡ x.count) × (y.bytes ≡ x.bytes)

-- ---- broadcasts in the log

-- up to place k of the log an announcement (BAM) from address a stands last at this place
pub record IsAnnouncedAt (L : List Passed) (a k place : ℕ) : Type 0 where
  pub before : place ≤ k
  pub passed : Passed
  pub stands : slice_get L place ≡ Some passed
  pub announces_it : (announces passed.frame ≡ true) × (source_of passed.frame.id ≡ a)
  pub none_behind : (q : ℕ) (x : Passed) → place < q → q ≤ k → slice_get L q ≡ Some x → announces x.frame ≡ true → source_of x.frame.id ≢ a

-- of the frames of a broadcast of this group from a, between these places, each is at most 750 ms (T1) behind the one before it
abbrev pub IsTimely : List FrameRecord → ℕ → ℕ → ℕ → ℕ → Type 0
IsTimely F a group first last = (p q : ℕ) → first ≤ p → q ≤ last → AreSuccessive (frames_only F) (Broadcast a) group p q
    → (frame_at F q).stamp ≤ (frame_at F p).stamp + broadcast_limit

-- ---- transfers (J1939-21, 5.10.3)

-- f is no request to send (RTS) from a to d
abbrev pub IsNoRequest : ℕ → ℕ → FrameRecord → Type 0
IsNoRequest a d f = (size packets most pgn : ℕ) → said_between a d f ≢ Some (RequestToSend size packets most pgn)

-- of these transfers the messages of those to d
abbrev pub messages_to : ℕ → List (ℕ × MessageRecord) → List MessageRecord
messages_to d T = map (λ x. x.1) (filter (λ x. nat_eq x.0 d) T)

-- none of these calls claims the address anew
abbrev pub NoneAnew : List Call → Type 0
NoneAnew H = All (λ call. claims_anew call ≡ false) H

-- behind a history whose last call accepts a transfer these calls take at most so long, and by them it is over, and done
abbrev pub IsDoneIn : ℕ → Who → List Call → List Call → Type 0
IsDoneIn t w later (At at (Transfer priority group destination bytes (Ok k)) ∷ earlier) =
    let H = At at (Transfer priority group destination bytes (Ok k)) ∷ earlier in
    (passed_in later H ≤ t) × (next_transfer_ended w (later ++ H) ≡ Some (k, Done))
IsDoneIn t w later H = ⊥

-- so long it should take at most (that isn't proved), where nothing is lost, both drivers come in each g and take all, nothing else is due,
-- and each CTS grants a window of packets, 1 at least (for 0 it tells nothing): the request is answered, and each window
abbrev pub done_by : ℕ → ℕ → ℕ → MessageRecord → ℕ
done_by delay g window b = (1 + (packets_of b + window - 1) / window) * (2 * g + 4 * delay)

-- a message of this group and size is acknowledged by it
abbrev pub acknowledges : MessageRecord → Option Signal → Bool
acknowledges b (Some (Acknowledgment size packets pgn)) = nat_eq size (length b.bytes) && (nat_eq packets (packets_of b) && nat_eq pgn b.pgn)
acknowledges b other = false

-- in how many of these frames, from d to a
abbrev pub acknowledged : ℕ → ℕ → MessageRecord → List FrameRecord → ℕ
acknowledged d a b F = length (filter (λ f. acknowledges b (said_between d a f)) F)

-- none of them comes late: each that d took before it heard a request of a was taken more than so long before a moment, or a had heard as
-- many before that moment
abbrev pub NoneLate : ℕ → ℕ → MessageRecord → ℕ → ℕ → List Call → List Call → Type 0
NoneLate a d b long at before H = (later earlier : List Call) (when : ℕ) (f : FrameRecord) → H ≡ later ++ At when (TakeFrame (Some f)) ∷ earlier
    → said_between d a f ≡ Some (Acknowledgment (length b.bytes) (packets_of b) b.pgn)
    → (when + long < at) ⊎ ((acknowledged d a b (frames earlier) < acknowledged d a b (hears before)) ⊎ All (IsNoRequest a d) (hears later))
