-- What the sessions of an assembler stand for.
use Rattle.std.specs.Prelude.{◌≡◌, ℕ, suc, ◌+◌, ◌<◌, true, false, List, length, get_or, Option, Some, None}
use Rattle.j39_transport.specs.Key.{Key}
use Rattle.j39_transport.specs.Key.Key.{Broadcast, Directed}
use Rattle.j39_transport.specs.Events.{Event, at, rivals, size, packets, stamp, belongs}
use Rattle.j39_transport.specs.Assembly.{count_below, joined_at, OpenBy}
use Rattle.j39_transport.specs.Boxes.{HasSpare}
use Rattle.j39_transport.specs.OpenAtEvent.{pair_of}
use Rattle.j39_transport.specs.Session.{SessionRecord}
use Rattle.j39_transport.specs.Sessions.{Sessions}
use Rattle.j39_transport.specs.AssemblerStep.{AssemblerRecord, OpenMessagesRecord}

-- ---- what a session stands for

-- x is the message of k that is open after E: announced at start, with packets at places; its last frame stands at recent
pub record IsSession (E : List Event) (k : Key) (x : SessionRecord) : Type 0 where
  pub start : ℕ
  pub places : List ℕ
  pub open_by : OpenBy E k x.group start places
  pub packets_are : x.packets ≡ packets (at E start)
  pub size_is : x.size ≡ size (at E start)
  pub count_is : x.count ≡ length places
  pub bytes_are : x.bytes ≡ joined_at E places
  pub recent : ℕ
  pub recent_stands : belongs k x.group (at E recent) ≡ true
  pub none_since : (q : ℕ) → recent < q → belongs k x.group (at E q) ≡ false
  pub last_is : x.last ≡ stamp (at E recent)

-- no message of k is open after E, or x is
abbrev pub IsOpenOrNone : List Event → Key → Option SessionRecord → Type 0
IsOpenOrNone E k None = (g p0 : ℕ) (ps : List ℕ) → OpenBy E k g p0 ps → ⊥
IsOpenOrNone E k (Some x) = IsSession E k x

-- and so many directed announcements came after its own
pub record IsAged (E : List Event) (k : Key) (age : ℕ) (x : SessionRecord) : Type 0 where
  pub session : IsSession E k x
  pub age_is : age + count_below (rivals k) E (suc session.start) ≡ count_below (rivals k) E (length E)

-- ---- the state of an assembler

-- the directed messages that are open after E, and no others, each at the place of its age
pub record AreDirected (E : List Event) (L : Sessions) : Type 0 where
  pub size_is : length L ≡ 16
  pub each : (i : ℕ) (x : SessionRecord) → get_or L i None ≡ Some x → IsAged E (pair_of x) i x
  pub all : (s d g p0 : ℕ) (ps : List ℕ) → OpenBy E (Directed s d) g p0 ps
      → (i : ℕ) × (x : SessionRecord) × (get_or L i None ≡ Some x) × (x.source ≡ s) × (x.destination ≡ d)

-- each place of the 254 has the broadcast of its source that is open after E, if one is
pub record AreBroadcasts (E : List Event) (T : Sessions) : Type 0 where
  pub size_is : length T ≡ 254
  pub each : (s : ℕ) → s < 254 → IsOpenOrNone E (Broadcast s) (get_or T s None)

-- the messages that are open after the events, and no others
pub record AreKept (E : List Event) (a : OpenMessagesRecord) : Type 0 where
  pub broadcasts : AreBroadcasts E a.broadcasts
  pub directed : AreDirected E a.directed

-- and where a box lies unused after the events, the assembler has one
pub record Stands (E : List Event) (a : AssemblerRecord) : Type 0 where
  pub kept : AreKept E a.sessions
  pub spare : HasSpare E → a.has_spare ≡ true
