-- Each reading of the built-in table has a short unit.
use Rattle.std.proofs.Common.{sym}
use Rattle.j39_groups.specs.Models.{reading_of}
use Rattle.j39_c.proofs.UnitLemmas.{reading_is_short}
use Rattle.j39_c.proofs.reading.j39_reading.Goals as goal

pub plain-requires : goal.plain-requires
plain-requires c = reading_is_short _ _ c.args.index (reading_of c.in-Some.reading) (sym c.in-Some.ensures)
