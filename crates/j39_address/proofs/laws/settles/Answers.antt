use Rattle.j39_address.proofs.SettlingLemmas.{begins_at_once, run_stays, run_holds, run_holds_on, not_early}
use Rattle.j39_address.proofs.laws.settles.Goals as goal

pub returns : goal.returns
returns c = record { begins = begins_at_once; keeps = run_stays; holds = run_holds; holds_on = run_holds_on; not_before = not_early }
