use Rattle.j39_transport.proofs.Courses.{reaches as law}
use Rattle.j39_transport.proofs.laws.reaches.Goals as goal

pub returns : goal.returns
returns c = law
