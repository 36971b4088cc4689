-- After a fault a front of the rows that are left was written.
use Rattle.j39_groups.specs.Lines.{reading_line}
use Rattle.j39_groups.specs.declared.value.Reading.{Reading}
use Rattle.j39_groups.specs.Models.{reading_of}
use Rattle.j39_io.proofs.PutsLemmas.{puts_until}
use Rattle.j39_groups.proofs.lines.put_found.Goals as goal

pub returns-in_err-put_reading : goal.returns-in_err-put_reading
returns-in_err-put_reading g c =
    puts_until (λ (row : Reading). reading_line c.args.head.now (reading_of row)) c.args.found.now c.loop-reading.reading-index _ tt _ _ _ _ _
    c.loop-reading-test.true c.from_residual.ensures.0 c.loop-reading.invariant c.in_err-put_reading.ensures
