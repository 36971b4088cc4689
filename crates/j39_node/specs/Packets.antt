-- The packets of one session, by the calls behind its RTS (J1939-21, 5.10.3).
use Rattle.std.specs.Prelude.{◌++◌, ◌+◌, ◌∷◌, ◌≡◌, ◌≢◌, ◌≤◌, ◌⊎◌}
use Rattle.j39_node.specs.Common.{[], Abort, Bool, false, FrameRecord, IsTrue, List, Option, Packet, RequestToSend, said_to, Signal, Some, source_of, suc, timer_t1, true, ℕ}
use Rattle.j39_node.specs.History.{Who, Call, address_after, holds, is_lost}
use Rattle.j39_node.specs.History.Call.{At}
use Rattle.j39_node.specs.History.Act.{Hear, Tick, TakeFrame}
use Rattle.j39_node.specs.Reception.{holder, known, time_heard}

-- what a sender says in its session: an RTS, an abort, a packet
abbrev pub is_of_sender : Option Signal → Bool
is_of_sender (Some (RequestToSend size packets most pgn)) = true
is_of_sender (Some (Abort reason pgn)) = true
is_of_sender (Some (Packet number part)) = true
is_of_sender other = false

-- the call doesn't concern a session of s whose last frame was heard at this time: by a frame of another, or that isn't the
-- sender's, neither its holder changes or restarts, nor is the address lost; a tick comes in time; no claim that is taken changes
-- its holder
abbrev pub Spares : Who → ℕ → ℕ → List Call → Call → Type 0
Spares w s last H (At now (Hear f)) =
    ((source_of f.id ≢ s) ⊎ (is_of_sender (said_to w.address f) ≡ false)) × (holder w (At now (Hear f) ∷ H) s ≡ known w H now f s)
    × (is_lost (address_after w (At now (Hear f) ∷ H)) ≡ false)
Spares w s last H (At now Tick) = time_heard (At now Tick ∷ H) ≤ last + timer_t1
Spares w s last H (At now (TakeFrame (Some f))) = holder w (At now (TakeFrame (Some f)) ∷ H) s ≡ holder w H s
Spares w s last H call = Unit {0}

-- packet k of s is heard, in time, where the address is held, with this data
pub record IsPacket (w : Who) (s k last : ℕ) (part : List ℕ) (H : List Call) (now : ℕ) (f : FrameRecord) : Type 0 where
  pub held : IsTrue (holds w H now)
  pub source : source_of f.id ≡ s
  pub says : said_to w.address f ≡ Some (Packet k part)
  pub in_time : time_heard (At now (Hear f) ∷ H) ≤ last + timer_t1

-- the later calls, behind the first ones with an RTS of s at their head, bring its packets 1 to k in order, with this data, the last of
-- them at this time; all others spare the session
pub data Bring (w : Who) (s : ℕ) (first : List Call) : List Call → ℕ → List ℕ → ℕ → Type 0 where
  begins : Bring w s first [] 0 [] (time_heard first)
  brings : (later : List Call) (k last now : ℕ) (joined part : List ℕ) (f : FrameRecord) → Bring w s first later k joined last
      → IsPacket w s (suc k) last part (later ++ first) now f
      → Bring w s first (At now (Hear f) ∷ later) (suc k) (joined ++ part) (time_heard (At now (Hear f) ∷ later ++ first))
  spares : (later : List Call) (k last : ℕ) (joined : List ℕ) (call : Call) → Bring w s first later k joined last → Spares w s last (later ++ first) call
      → Bring w s first (call ∷ later) k joined last
