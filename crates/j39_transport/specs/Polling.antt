-- The step of a broadcast at a poll, below the definitions.
use Rattle.std.specs.Prelude.{◌≡◌, ◌+◌, ℕ, nat_lt, if◌then◌else◌}
use Rattle.j39_transport.specs.Message.{MessageRecord, packets_of, as_broadcast}
use Rattle.j39_transport.specs.Cutting.{cut_frame, to_send}
use Rattle.j39_transport.specs.Protocol.{gap}
use Rattle.j39_transport.specs.Broadcasting.{PollAnswer, BroadcastRecord}
use Rattle.j39_transport.specs.Broadcasting as spec
use Rattle.j39_transport.specs.declared.broadcast.BroadcastCourse.{BroadcastCourse}
use Rattle.j39_transport.specs.declared.broadcast.Poll.{Poll}
use Rattle.j39_transport.specs.declared.broadcast.Poll.TheVariants.{Send, WaitUntil, Done}

-- an answer as the calls give it
abbrev pub answer_of : Poll → PollAnswer
answer_of (Send id bytes) = spec.Send (to_send (id, bytes))
answer_of (WaitUntil moment) = spec.WaitUntil moment
answer_of Done = spec.Done

-- a broadcast of this message that is so far
abbrev pub so_far : MessageRecord → BroadcastCourse → BroadcastRecord
so_far m course = record { message = m; count = course.count; due = course.due }

pub record Polled : Type 0 where
  pub answer : PollAnswer
  pub after : BroadcastRecord

unfoldable pub poll_step : BroadcastRecord → ℕ → Polled
poll_step b now =
    if nat_lt (packets_of b.message) b.count then record { answer = spec.Done; after = b }
    else if nat_lt now b.due then record { answer = spec.WaitUntil b.due; after = b }
    else record {
      answer = spec.Send (cut_frame (as_broadcast b.message) b.message b.count);
      after = record { message = b.message; count = b.count + 1; due = now + gap };
    }

-- the broadcast takes the step
pub record PollStep (old : BroadcastRecord) (now : ℕ) (answer : PollAnswer) (new : BroadcastRecord) : Type 0 where
  pub answers : answer ≡ (poll_step old now).answer
  pub after : new ≡ (poll_step old now).after
