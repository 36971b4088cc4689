use Rattle.j39_log.proofs.TextLemmas.{frame_only}
use Rattle.j39_log.proofs.text.frame_parts.Goals as goal

pub returns-clause-only : goal.returns-clause-only
returns-clause-only c = λ digits pairs h. frame_only c.args.text.now digits pairs h
