use Rattle.j39_application.proofs.OutboxLemmas as law
use Rattle.j39_application.proofs.outbox_laws.each_goes_to_its_name.Goals as goal

pub returns : goal.returns
returns c = record { to = law.to_its_name; gone = law.by_nobody; refused = law.by_nothing }
