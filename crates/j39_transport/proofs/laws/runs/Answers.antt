use Rattle.j39_transport.proofs.Courses.{runs as law}
use Rattle.j39_transport.proofs.laws.runs.Goals as goal

pub returns : goal.returns
returns c = law
