-- The unit of what is no number is empty.
use Rattle.std.proofs.Common.{◌∙◌, ap, length}
use Rattle.std.specs.Prelude.{nat_le}
use Rattle.j39_groups.specs.Models.{value_of}
use Rattle.j39_c.proofs.UnitLemmas.{unit_is_short}
use Rattle.j39_c.proofs.reading.has_short_unit.Goals as goal

pub returns : goal.returns
returns c = ap (λ unit. nat_le (length unit) 7) c.unit.ensures ∙ unit_is_short (value_of c.args.value.now)
