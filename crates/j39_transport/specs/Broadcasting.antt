-- A broadcast that is sent, frame by frame (J1939-21, 5.10.3.5).
use Rattle.std.specs.Prelude.{◌≡◌, ◌≤◌, ◌+◌, ℕ, List, [], ◌∷◌, ◌++◌, length, map, nat_lt, if◌then◌else◌}
use Rattle.j39_frame.specs.Frame.{FrameRecord}
use Rattle.j39_transport.specs.Message.{MessageRecord, packets_of, as_broadcast}
use Rattle.j39_transport.specs.Protocol.{gap}
use Rattle.j39_transport.specs.Cutting.{ToSend, without_stamp, at_moment, cut_frame, first_frames}

-- from when on a frame may be sent after these: at any moment where there are none
abbrev pub next_moment : List FrameRecord → ℕ
next_moment [] = 0
next_moment (f ∷ []) = f.stamp + gap
next_moment (f ∷ g ∷ fs) = next_moment (g ∷ fs)

-- each frame at least the gap after the one before
abbrev pub AreSpaced : List FrameRecord → Type 0
AreSpaced [] = Unit {0}
AreSpaced (f ∷ []) = Unit {0}
AreSpaced (f ∷ g ∷ fs) = (f.stamp + gap ≤ g.stamp) × AreSpaced (g ∷ fs)

-- a frame to be sent now, the earliest moment for the next one, or that all were sent
pub data PollAnswer : Type 0 where
  Send : ToSend → PollAnswer
  WaitUntil : ℕ → PollAnswer
  Done : PollAnswer

-- what a broadcast of m that has sent these frames answers at this moment
abbrev pub answer_after : MessageRecord → List FrameRecord → ℕ → PollAnswer
answer_after m sent now =
    if nat_lt (packets_of m) (length sent) then Done
    else if nat_lt now (next_moment sent) then WaitUntil (next_moment sent)
    else Send (cut_frame (as_broadcast m) m (length sent))

-- the frames sent, with that of an answer at this moment, if it has one
abbrev pub with_answer : List FrameRecord → ℕ → PollAnswer → List FrameRecord
with_answer sent now (Send f) = sent ++ at_moment now f ∷ []
with_answer sent now (WaitUntil moment) = sent
with_answer sent now Done = sent

-- the frames are the first ones that broadcast m, in order, each once, each at least 50 ms after the one before
pub record AreFirst (m : MessageRecord) (sent : List FrameRecord) : Type 0 where
  pub frames : map without_stamp sent ≡ first_frames (as_broadcast m) m (length sent)
  pub spaced : AreSpaced sent

-- a broadcast: its message, how many frames it has sent, and from when on it may send the next
pub record BroadcastRecord : Type 0 where
  pub message : MessageRecord
  pub count : ℕ
  pub due : ℕ

-- these are the frames that the broadcast has sent
pub record HasSent (b : BroadcastRecord) (sent : List FrameRecord) : Type 0 where
  pub first : AreFirst b.message sent
  pub count : b.count ≡ length sent
  pub due : b.due ≡ next_moment sent
