use Rattle.j39_reports.proofs.Common.{eqb, w8, arith, bitmask_splat}
use Rattle.j39_reports.proofs.report_records.quick_record.bits_of.Goals as goal

pub returns : goal.returns
returns c = bitmask_splat w8 eqb c.args.block.now 8 c.args.byte c.told-block (omega arith)
