use Rattle.j39_transport.proofs.Courses.{goes as law}
use Rattle.j39_transport.proofs.laws.goes.Goals as goal

pub returns : goal.returns
returns c = law
