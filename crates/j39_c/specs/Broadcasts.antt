-- What a broadcast asks for, as C has it.
use Rattle.std.specs.Prelude.{◌≡◌, ℕ, zero, suc, ℤ, pos, negsuc, List}
use Rattle.j39_frame.specs.Frame.{FrameRecord}
use Rattle.j39_transport.specs.Broadcasting.{HasSent, PollAnswer, Send, WaitUntil, Done, answer_after, with_answer}
use Rattle.j39_transport.specs.Cutting.{without_stamp}
use Rattle.j39_transport.specs.Message.{MessageRecord}
use Rattle.j39_transport.specs.Polling.{so_far}
use Rattle.j39_transport.specs.declared.broadcast.BroadcastCourse.{BroadcastCourse}
use Rattle.j39_c.specs.Can.{frame_of}
use Rattle.j39_c.specs.declared.can.CanFrame.{CanFrame}

-- at a moment: 0 to wait until another one, 1 a frame to send now, 2 nothing more
abbrev pub IsPolled : ℕ → ℤ → CanFrame → ℕ → PollAnswer → Type 0
IsPolled now (pos zero) can due answer = answer ≡ WaitUntil due
IsPolled now (pos (suc zero)) can due answer = (can.micros ≡ now) × (answer ≡ Send (without_stamp (frame_of can)))
IsPolled now (pos (suc (suc n))) can due answer = answer ≡ Done
IsPolled now (negsuc n) can due answer = ⊥

-- of a broadcast of m that has sent these frames that is the answer, and with it it has sent those with the answer's
pub record PollsBehind (m : MessageRecord) (sent : List FrameRecord) (now : ℕ) (code : ℤ) (can : CanFrame) (due : ℕ)
    (new : BroadcastCourse) : Type 0 where
  pub answer : IsPolled now code can due (answer_after m sent now)
  pub has_sent : HasSent (so_far m new) (with_answer sent now (answer_after m sent now))

abbrev pub Polls : MessageRecord → BroadcastCourse → ℕ → ℤ → CanFrame → ℕ → BroadcastCourse → Type 0
Polls m old now code can due new =
    (sent : List FrameRecord) → HasSent (so_far m old) sent → PollsBehind m sent now code can due new
