use Rattle.j39_transport.proofs.Hearing.{sends_all, is_heard}
use Rattle.j39_transport.proofs.laws.broadcasts.Goals as goal

pub returns : goal.returns
returns c = record { sends = sends_all; heard = is_heard }
