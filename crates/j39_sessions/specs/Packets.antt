-- The packets of one session, by what happens behind its RTS (J1939-21, 5.10.3).
use Rattle.std.specs.Prelude.{◌++◌, ◌+◌, ◌∷◌, ◌≡◌, ◌≢◌, ◌≤◌, ◌⊎◌}
use Rattle.j39_transport.specs.Protocol.{timer_t1}
use Rattle.j39_transport.specs.Signals.{RequestToSend}
use Rattle.j39_sessions.specs.Common.{[], Abort, Bool, false, FrameRecord, List, Option, Packet, said_to, Signal, Some, source_of, suc, true, ℕ}
use Rattle.j39_sessions.specs.Events.{Event, Hears, Leaves, Loses, Ticks}
use Rattle.j39_sessions.specs.Sessions.{is_same, is_that}

-- what a sender says in its session: an RTS, an abort, a packet
abbrev pub is_of_sender : Option Signal → Bool
is_of_sender (Some (RequestToSend size packets most pgn)) = true
is_of_sender (Some (Abort reason pgn)) = true
is_of_sender (Some (Packet number part)) = true
is_of_sender other = false

-- it doesn't concern a session of s, opened under this name, whose last frame was heard at this time: a frame of another, or that isn't
-- the sender's; a tick in time; a claim by which s has the holder that it had, and which restarts nobody there
abbrev pub Spares : ℕ → ℕ → Option ℕ → ℕ → Event → Type 0
Spares own s name last (Hears now other f) = (source_of f.id ≢ s) ⊎ (is_of_sender (said_to own f) ≡ false)
Spares own s name last (Ticks now) = now ≤ last + timer_t1
Spares own s name last (Leaves gone holder) = (is_that s gone ≡ false) × (is_same name (holder s) ≡ true)
Spares own s name last Loses = ⊥
Spares own s name last event = Unit {0}

-- packet k of s is heard, in time, with this data
pub record IsPacket (own s k last : ℕ) (part : List ℕ) (now : ℕ) (f : FrameRecord) : Type 0 where
  pub source : source_of f.id ≡ s
  pub says : said_to own f ≡ Some (Packet k part)
  pub in_time : now ≤ last + timer_t1

-- what happens behind an RTS of s, heard at this time, brings its packets 1 to k in order, with this data, the last of them at this time;
-- all else spares the session
pub data Bring (own s : ℕ) (name : Option ℕ) (start : ℕ) : List Event → ℕ → List ℕ → ℕ → Type 0 where
  begins : Bring own s name start [] 0 [] start
  brings : (later : List Event) (k last now : ℕ) (joined part : List ℕ) (other : Option ℕ) (f : FrameRecord)
      → Bring own s name start later k joined last → IsPacket own s (suc k) last part now f
      → Bring own s name start (Hears now other f ∷ later) (suc k) (joined ++ part) now
  spares : (later : List Event) (k last : ℕ) (joined : List ℕ) (event : Event) → Bring own s name start later k joined last
      → Spares own s name last event → Bring own s name start (event ∷ later) k joined last
