use Rattle.j39_application.proofs.OutboxLemmas as law
use Rattle.j39_application.proofs.outbox_laws.none_is_lost.Goals as goal

pub returns : goal.returns
returns c = record { once = law.one_fate; told = law.each_told }
