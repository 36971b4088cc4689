-- How an assembler moves with what a frame says: the steps of the code.
use Rattle.std.specs.Prelude.{◌≡◌, ℕ, ◌+◌, ◌==◌, nat_lt, Bool, true, false, ◌||◌, if◌then◌else◌, List, sum_by, take, slice_set, replicate, Option, Some, None}
use Rattle.j39_frame.specs.Frame.{FrameRecord}
use Rattle.j39_transport.specs.Key.{Key, key_between}
use Rattle.j39_transport.specs.Key.Key.{Broadcast, Directed}
use Rattle.j39_transport.specs.Frames.{source_of, destination_of}
use Rattle.j39_transport.specs.Signals.{Signal, BroadcastAnnounce, RequestToSend, ClearToSend, Acknowledgment, Abort, Packet}
use Rattle.j39_transport.specs.Answers.{Outcome, Whole, Taken, Ignored}
use Rattle.j39_transport.specs.Session.{SessionRecord, opened, touched, grown}
use Rattle.j39_transport.specs.Protocol.{broadcast_limit, directed_limit}
use Rattle.j39_transport.specs.Sessions.{Sessions, at, find, pushed, forgotten, open_in, bytes_in}

-- broadcasts by source, and directed messages by age
pub record OpenMessagesRecord : Type 0 where
  pub broadcasts : Sessions
  pub directed : Sessions

-- the open messages, and whether a box lies unused beside theirs
pub record AssemblerRecord : Type 0 where
  pub sessions : OpenMessagesRecord
  pub has_spare : Bool

-- how a packet moves an open message
pub data Moved : Type 0 where
  Ends : SessionRecord → Moved
  Grows : SessionRecord → Moved
  Stays : SessionRecord → Moved
  Late : Moved

unfoldable pub moves : ℕ → ℕ → List ℕ → ℕ → SessionRecord → Moved
moves limit number part stamp s =
    if nat_lt (s.last + limit) stamp then Late
    else if number == s.count + 1
    then (if s.count + 1 == s.packets then Ends (grown stamp part s) else Grows (grown stamp part s))
    else Stays (touched stamp s)

abbrev pub left_by : Moved → Option SessionRecord
left_by (Ends s) = None
left_by (Grows s) = Some s
left_by (Stays s) = Some s
left_by Late = None

abbrev pub answer_by : ℕ → ℕ → Moved → Outcome
answer_by source stamp (Ends s) = Whole source s.group (take s.size s.bytes) stamp
answer_by source stamp (Grows s) = Taken
answer_by source stamp (Stays s) = Ignored
answer_by source stamp Late = Ignored

-- a place after a packet, and the answer
abbrev pub packed : ℕ → ℕ → List ℕ → ℕ → Option SessionRecord → Option SessionRecord
packed limit number part stamp None = None
packed limit number part stamp (Some s) = left_by (moves limit number part stamp s)

abbrev pub told : ℕ → ℕ → ℕ → List ℕ → ℕ → Option SessionRecord → Outcome
told source limit number part stamp None = Ignored
told source limit number part stamp (Some s) = answer_by source stamp (moves limit number part stamp s)

-- a place after a CTS, and after an acknowledgment or an abort
unfoldable pub granted : ℕ → ℕ → Option SessionRecord → Option SessionRecord
granted group stamp None = None
granted group stamp (Some s) =
    if s.group == group then (if nat_lt (s.last + directed_limit) stamp then None else Some
    (touched stamp s)) else Some s

unfoldable pub closed : ℕ → Option SessionRecord → Option SessionRecord
closed group None = None
closed group (Some s) = if s.group == group then None else Some s

-- the places with one of them changed, where there is one
abbrev pub with_place : Option ℕ → (Option SessionRecord → Option SessionRecord) → Sessions → Sessions
with_place None f t = t
with_place (Some i) f t = slice_set t i (f (at t i))

abbrev pub told_at : Option ℕ → (Option SessionRecord → Outcome) → Sessions → Outcome
told_at None f t = Ignored
told_at (Some i) f t = f (at t i)

-- the place that an announcement leaves empty: that of its own pair, else the oldest
abbrev pub room : Option ℕ → ℕ
room None = 15
room (Some i) = i

unfoldable pub finished : ℕ → ℕ → ℕ → Sessions → Sessions
finished s d group t = with_place (find s d t) (closed group) t

-- the directed messages with a new one, x, in front: that of its own pair is left out, else the oldest
abbrev pub with_announced : ℕ → ℕ → SessionRecord → Sessions → Sessions
with_announced s d x t = pushed 15 x (slice_set t (room (find s d t)) None)

-- the state after an announcement, whose session is x
abbrev pub announced : OpenMessagesRecord → Key → SessionRecord → OpenMessagesRecord
announced a (Broadcast s) x = record a { broadcasts = slice_set a.broadcasts s (Some x) }
announced a (Directed s d) x = record a { directed = with_announced s d x a.directed }

-- the state after a packet, and the answer
abbrev pub after_packet : OpenMessagesRecord → ℕ → Key → ℕ → List ℕ → OpenMessagesRecord
after_packet a stamp (Broadcast s) number part =
    record a { broadcasts = slice_set a.broadcasts s (packed broadcast_limit number part stamp (at a.broadcasts s)) }
after_packet a stamp (Directed s d) number part =
    record a { directed = with_place (find s d a.directed) (packed directed_limit number part stamp) a.directed }

abbrev pub answer_to_packet : OpenMessagesRecord → ℕ → ℕ → Key → ℕ → List ℕ → Outcome
answer_to_packet a source stamp (Broadcast s) number part =
    told source broadcast_limit number part stamp (at a.broadcasts s)
answer_to_packet a source stamp (Directed s d) number part =
    told_at (find s d a.directed) (told source directed_limit number part stamp) a.directed

-- the key that f goes under, where it is a packet
abbrev pub key_of : FrameRecord → Key
key_of f = key_between (source_of f.id) (destination_of f.id)

-- the state after a frame that says this, and the answer
unfoldable pub state_after : OpenMessagesRecord → FrameRecord → Option Signal → OpenMessagesRecord
state_after a f None = a
state_after a f (Some (BroadcastAnnounce size packets pgn)) =
    announced a (Broadcast (source_of f.id)) (opened (Broadcast (source_of f.id)) pgn size packets f.stamp)
state_after a f (Some (RequestToSend size packets most pgn)) =
    announced a (Directed (source_of f.id) (destination_of f.id))
    (opened (Directed (source_of f.id) (destination_of f.id)) pgn size packets f.stamp)
state_after a f (Some (ClearToSend count next pgn)) =
    record a {
      directed = with_place (find (destination_of f.id) (source_of f.id) a.directed)
          (granted pgn f.stamp) a.directed;
    }
state_after a f (Some (Acknowledgment size packets pgn)) =
    record a { directed = finished (destination_of f.id) (source_of f.id) pgn a.directed }
state_after a f (Some (Abort reason pgn)) =
    record a {
      directed = finished (source_of f.id) (destination_of f.id) pgn
          (finished (destination_of f.id) (source_of f.id) pgn a.directed);
    }
state_after a f (Some (Packet number part)) = after_packet a f.stamp (key_of f) number part

unfoldable pub answer : OpenMessagesRecord → FrameRecord → Option Signal → Outcome
answer a f None = Ignored
answer a f (Some (BroadcastAnnounce size packets pgn)) = Taken
answer a f (Some (RequestToSend size packets most pgn)) = Taken
answer a f (Some (ClearToSend count next pgn)) = Ignored
answer a f (Some (Acknowledgment size packets pgn)) = Ignored
answer a f (Some (Abort reason pgn)) = Ignored
answer a f (Some (Packet number part)) = answer_to_packet a (source_of f.id) f.stamp (key_of f) number part

-- without what is of a source
unfoldable pub without_broadcast : ℕ → Sessions → Sessions
without_broadcast s t = if nat_lt s 254 then slice_set t s None else t

abbrev pub state_without : OpenMessagesRecord → ℕ → OpenMessagesRecord
state_without a s = record { broadcasts = without_broadcast s a.broadcasts; directed = forgotten s a.directed }

abbrev pub empty_state : OpenMessagesRecord
empty_state = record { broadcasts = replicate 254 None; directed = replicate 16 None }

-- how many messages are open, and their bytes so far
abbrev pub messages_open : OpenMessagesRecord → ℕ
messages_open a = sum_by open_in a.broadcasts + sum_by open_in a.directed

abbrev pub bytes_held : OpenMessagesRecord → ℕ
bytes_held a = sum_by bytes_in a.broadcasts + sum_by bytes_in a.directed

-- ---- boxes

-- the place whose box an announcement uses
abbrev pub place_for : OpenMessagesRecord → Key → Option SessionRecord
place_for a (Broadcast s) = at a.broadcasts s
place_for a (Directed s d) = at a.directed (room (find s d a.directed))

-- an announcement takes the box of its place, or else the one that lies unused
abbrev pub spare_left : Option SessionRecord → Bool → Bool
spare_left None b = false
spare_left (Some s) b = b

abbrev pub is_whole : Outcome → Bool
is_whole (Whole source group part stamp) = true
is_whole Taken = false
is_whole Ignored = false

-- whether a box lies unused after a frame that says this, where b says so before it
unfoldable pub spare_after : OpenMessagesRecord → Bool → FrameRecord → Option Signal → Bool
spare_after a b f None = b
spare_after a b f (Some (BroadcastAnnounce size packets pgn)) = spare_left (place_for a (Broadcast (source_of f.id))) b
spare_after a b f (Some (RequestToSend size packets most pgn)) =
    spare_left (place_for a (Directed (source_of f.id) (destination_of f.id))) b
spare_after a b f (Some (ClearToSend count next pgn)) = b
spare_after a b f (Some (Acknowledgment size packets pgn)) = b
spare_after a b f (Some (Abort reason pgn)) = b
spare_after a b f (Some (Packet number part)) = is_whole (answer_to_packet a 0 f.stamp (key_of f) number part) || b

-- an announcement that finds no box, where b says whether one lies unused
abbrev pub LacksBox : OpenMessagesRecord → Bool → FrameRecord → Option Signal → Type 0
LacksBox a b f None = ⊥
LacksBox a b f (Some (BroadcastAnnounce size packets pgn)) = (place_for a (Broadcast (source_of f.id)) ≡ None)
    × (b ≡ false)
LacksBox a b f (Some (RequestToSend size packets most pgn)) =
    (place_for a (Directed (source_of f.id) (destination_of f.id)) ≡ None) × (b ≡ false)
LacksBox a b f (Some (ClearToSend count next pgn)) = ⊥
LacksBox a b f (Some (Acknowledgment size packets pgn)) = ⊥
LacksBox a b f (Some (Abort reason pgn)) = ⊥
LacksBox a b f (Some (Packet number part)) = ⊥

-- ---- the assembler

-- after a frame that says this
abbrev pub fed : AssemblerRecord → FrameRecord → Option Signal → AssemblerRecord
fed a f o = record { sessions = state_after a.sessions f o; has_spare = spare_after a.sessions a.has_spare f o }

abbrev pub forgot : AssemblerRecord → ℕ → AssemblerRecord
forgot a s = record { sessions = state_without a.sessions s; has_spare = a.has_spare }

abbrev pub new_assembler : AssemblerRecord
new_assembler = record { sessions = empty_state; has_spare = false }
