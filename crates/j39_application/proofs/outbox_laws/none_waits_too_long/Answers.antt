use Rattle.j39_application.proofs.OutboxLemmas as law
use Rattle.j39_application.proofs.outbox_laws.none_waits_too_long.Goals as goal

pub returns : goal.returns
returns c = law.some_left
