use Rattle.j39_reports.proofs.Common.{ltb, w8, arith, bitmask_splat}
use Rattle.j39_reports.proofs.json.bits_below.Goals as goal

pub returns : goal.returns
returns c = bitmask_splat w8 ltb c.args.block.now 8 c.args.byte c.told-block (omega arith)
