-- So many digits write a number below that power of ten.
use Rattle.std.proofs.Common.{rules}
use Rattle.j39_cli.proofs.DigitLemmas.{short_below}
use Rattle.j39_cli.proofs.utc.number_at.Goals as goal

pub returns-clause-fits : goal.returns-clause-fits
returns-clause-fits c = short_below c.short_number.result _ c.args.digits c.short_number.ensures.value (search rules)
