-- A line of spaces is no frame's.
use Rattle.j39_log.specs.Spelled.{frame}
use Rattle.j39_cli.proofs.file_ends.stamp_of.Goals as goal

pub returns-in-Blank : goal.returns-in-Blank
returns-in-Blank c = λ bus f is. absurd (cc (c.in-Blank.ensures.only (frame bus f) is))
