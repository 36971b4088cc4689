use Rattle.std.proofs.Common.{◌≡◌}
use Rattle.j39_frame.specs.Stamp.{stamp_micros}
use Rattle.j39_application.specs.Answers.{older}
use Rattle.j39_application.specs.Shown.{answers_of}
use Rattle.j39_application.proofs.AnswerLemmas.{IsUnderWay}
use Rattle.j39_application.proofs.answers.Answers.turn.Given as goal

abbrev pub invariant-loop : goal.invariant-loop
invariant-loop l =
    IsUnderWay (stamp_micros l.now) l.count l.counter (older (stamp_micros l.now) (answers_of l.fn.self)) (answers_of l.self).requests l.fn.controller l.controller
    × (l.self.kept.boxes ≡ l.fn.self.kept.boxes) × (l.self.kept.moment ≡ stamp_micros l.now)
