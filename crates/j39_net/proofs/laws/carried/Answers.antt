use Rattle.j39_net.proofs.TakenLemmas.{delivered, heard, on_the_bus}
use Rattle.j39_net.proofs.laws.carried.Goals as goal

pub returns-clause-on_the_bus : goal.returns-clause-on_the_bus
returns-clause-on_the_bus c delay now i at L members m later earlier f net hm is l =
    on_the_bus delay now i at L members m later earlier f net hm is l

pub returns-clause-heard : goal.returns-clause-heard
returns-clause-heard c delay now i j at L members m n later earlier f net hm hn apart is there l =
    heard delay now i at L members m later earlier f net hm is j n hn apart there l

pub returns-clause-kept : goal.returns-clause-kept
returns-clause-kept c = delivered
