use Rattle.j39_log.proofs.LineLemmas.{one_spelled}
use Rattle.j39_log.proofs.laws.one_spelled.Goals as goal

pub returns : goal.returns
returns c = one_spelled
