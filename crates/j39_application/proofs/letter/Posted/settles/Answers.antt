use Rattle.std.proofs.Common.{refl}
use Rattle.j39_frame.specs.Stamp.{stamp_micros}
use Rattle.j39_application.specs.Boxes.{letter_in}
use Rattle.j39_application.proofs.OutboxLemmas.{is_met, is_over, is_waiting}
use Rattle.j39_application.proofs.letter.Posted.settles.Goals as goal

pub returns-in-Some-clause-meets : goal.returns-in-Some-clause-meets
returns-in-Some-clause-meets c =
    is_met (stamp_micros c.args.now) (letter_in c.args.self.now) c.in-Some.address c.hand_in-answer.result c.settled_by-settled.result
    c.args.controller.now c.hand_in-answer.new.controller c.in-Some.ensures.found c.hand_in-answer.ensures.way c.hand_in-answer.ensures.goes
    c.settled_by-settled.ensures c.left_by-self.result c.left_by-self.ensures

pub returns-then-self-eq0-clause-meets : goal.returns-then-self-eq0-clause-meets
returns-then-self-eq0-clause-meets c =
    is_over (stamp_micros c.args.now) (letter_in c.args.self.now) c.args.controller.now (c.in-None.ensures.none refl) c.if-self-eq0.true

pub returns-else-self-eq0-clause-meets : goal.returns-else-self-eq0-clause-meets
returns-else-self-eq0-clause-meets c =
    is_waiting (stamp_micros c.args.now) (letter_in c.args.self.now) c.args.controller.now (c.in-None.ensures.none refl) c.if-self-eq0.false
