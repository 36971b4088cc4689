use Rattle.j39_io.proofs.VectorLemmas.{digit_lanes}
use Rattle.j39_io.proofs.vectors.digits_of.Goals as goal

pub returns : goal.returns
returns c = digit_lanes c.args.values 16 c.fits-values.0
