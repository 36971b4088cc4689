use Rattle.std.proofs.Common.{◌≡◌, None}
use Rattle.j39_frame.specs.Stamp.{stamp_micros}
use Rattle.j39_application.specs.Outbox.{older}
use Rattle.j39_application.specs.Shown.{outbox_of}
use Rattle.j39_application.proofs.OutboxLemmas.{IsUnderWay}
use Rattle.j39_application.proofs.outbox.Outbox.take_frame.Given as goal

abbrev pub invariant-loop : goal.invariant-loop
invariant-loop l =
    IsUnderWay (stamp_micros l.now) l.count l.counter (older (stamp_micros l.now) (outbox_of l.fn.self)) (outbox_of l.self).letters
    (outbox_of l.fn.self).settled (outbox_of l.self).settled l.fn.controller l.controller None
    × (l.self.kept.boxes ≡ l.fn.self.kept.boxes) × (l.self.accepted ≡ l.fn.self.accepted) × (l.self.kept.moment ≡ stamp_micros l.now)
