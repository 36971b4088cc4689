use Rattle.j39_application.proofs.CourseLemmas.{none_late}
use Rattle.j39_application.proofs.laws.none_waits_too_long.Goals as goal

pub returns : goal.returns
returns c = λ now s ds o t h z n. none_late now s ds o t h z n
