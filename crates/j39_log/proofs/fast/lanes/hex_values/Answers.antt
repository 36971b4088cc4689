use Rattle.j39_log.proofs.LaneLemmas.{hex_lanes}
use Rattle.j39_log.proofs.fast.lanes.hex_values.Goals as goal

pub returns : goal.returns
returns g c = hex_lanes c.args.v g.row.N c.fits-v.0
