use Rattle.j39_log.specs.LineRead.{spelled_of}
use Rattle.j39_log.proofs.LineLemmas.{one_spelled}
use Rattle.j39_log.proofs.reading.read_line.Goals as goal

pub returns-clause-only : goal.returns-clause-only
returns-clause-only c = λ s p. one_spelled c.args.line.now (spelled_of c.read_plain.result) s c.read_plain.ensures p
