use Rattle.j39_application.proofs.AtOnce.{goes_at_once}
use Rattle.j39_application.proofs.outbox_laws.each_goes_at_once.Goals as goal

pub returns : goal.returns
returns c = goes_at_once
