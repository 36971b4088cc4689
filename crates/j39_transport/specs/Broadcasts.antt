-- A broadcast that is polled when it asks to be, and is heard.
use Rattle.std.specs.Prelude.{◌≡◌, ◌≢◌, ◌<◌, ◌≤◌, ◌+◌, ◌*◌, ℕ, zero, suc, false, List, [], ◌∷◌, ◌++◌, map}
use Rattle.std.specs.List.{range_with_len}
use Rattle.j39_frame.specs.Frame.{FrameRecord}
use Rattle.j39_transport.specs.Answers.{WholeBy}
use Rattle.j39_transport.specs.Broadcasting.{WaitUntil, Done, next_moment, answer_after, with_answer}
use Rattle.j39_transport.specs.Cutting.{at_moment, cut_frame}
use Rattle.j39_transport.specs.Events.{Event}
use Rattle.j39_transport.specs.Events.Event.{Frame, Forget}
use Rattle.j39_transport.specs.Frames.{is_announcement, is_packet}
use Rattle.j39_transport.specs.Key.{Broadcast}
use Rattle.j39_transport.specs.Message.{MessageRecord, IsLong, packets_of, as_broadcast}

-- ---- sending

-- polled at this moment first, and then at each moment from when on the next frame may be sent
abbrev pub poll_moment : ℕ → List FrameRecord → ℕ
poll_moment first [] = first
poll_moment first (f ∷ fs) = next_moment (f ∷ fs)

-- what a broadcast of m has sent after so many polls
unfoldable pub polled : MessageRecord → ℕ → ℕ → List FrameRecord
polled m first zero = []
polled m first (suc n) =
    let sent : List FrameRecord = polled m first n in
    let now : ℕ = poll_moment first sent in
    with_answer sent now (answer_after m sent now)

-- the first count frames, 50 ms apart
abbrev pub frames_apart : MessageRecord → ℕ → ℕ → List FrameRecord
frames_apart m first count =
    map (λ n. at_moment (first + 50000 * n) (cut_frame (as_broadcast m) m n)) (range_with_len 0 count)

-- it sends all frames, 50 ms apart, one a poll; between two it asks to be polled when the next is due; then it is done
pub record SendsAll (m : MessageRecord) (first : ℕ) : Type 0 where
  pub frames : polled m first (packets_of m + 1) ≡ frames_apart m first (packets_of m + 1)
  pub asks : (n now : ℕ) → 1 ≤ n → n ≤ packets_of m → now < first + 50000 * n
      → answer_after m (polled m first n) now ≡ WaitUntil (first + 50000 * n)
  pub done : (now : ℕ) → answer_after m (polled m first (packets_of m + 1)) now ≡ Done

abbrev pub SendsAllLaw : Type 0
SendsAllLaw = (m : MessageRecord) (first : ℕ) → IsLong m → SendsAll m first

-- ---- hearing

-- no frame of a broadcast of the source, and no forget of it
abbrev pub IsAside : ℕ → Event → Type 0
IsAside source (Frame f) = (is_announcement (Broadcast source) f ≡ false) × (is_packet (Broadcast source) f ≡ false)
IsAside source (Forget t) = t ≢ source

-- these events are the frames, in order, and others between them
pub data AreAmong (source : ℕ) : List FrameRecord → List Event → Type 0 where
  ended : AreAmong source [] []
  sent : (f : FrameRecord) (fs : List FrameRecord) (es : List Event)
      → AreAmong source fs es → AreAmong source (f ∷ fs) (Frame f ∷ es)
  passed : (e : Event) (fs : List FrameRecord) (es : List Event)
      → IsAside source e → AreAmong source fs es → AreAmong source fs (e ∷ es)

-- whatever came before, and whatever comes between: with the last frame the message is whole
abbrev pub IsHeardLaw : Type 0
IsHeardLaw = (m : MessageRecord) (first : ℕ) → IsLong m → (E G : List Event) (fs : List FrameRecord) (f : FrameRecord)
    → polled m first (packets_of m + 1) ≡ fs ++ f ∷ [] → AreAmong m.source fs G → WholeBy (E ++ G) f m
