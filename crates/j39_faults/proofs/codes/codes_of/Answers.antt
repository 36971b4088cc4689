-- No place is behind.
use Rattle.std.proofs.Common.{refl}
use Rattle.j39_faults.proofs.CodeLemmas.{all_left}
use Rattle.j39_faults.proofs.codes.codes_of.Goals as goal

pub returns : goal.returns
returns c = all_left _ refl
