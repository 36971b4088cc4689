-- A text spells one stamp.
use Rattle.j39_frame.specs.Stamp.{stamp_micros}
use Rattle.j39_log.proofs.TextLemmas.{one_stamp}
use Rattle.j39_log.proofs.text.stamp_of.Goals as goal

pub returns-in-Some-clause-only : goal.returns-in-Some-clause-only
returns-in-Some-clause-only c = λ micros h. one_stamp c.args.text.now (stamp_micros c.in-Some.stamp) micros c.in-Some.ensures.found h
