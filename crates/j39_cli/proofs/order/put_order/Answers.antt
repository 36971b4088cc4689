-- The first that begins before the end of those before it is told.
use Rattle.j39_cli.proofs.Common.{◌∙◌, sym, puts_as}
use Rattle.j39_cli.specs.FileEnds.{last_record}
use Rattle.j39_cli.proofs.OrderLemmas.{told_here}
use Rattle.j39_cli.proofs.order.put_order.Goals as goal

pub returns-in-Some : goal.returns-in-Some
returns-in-Some g c =
    puts_as _ _ _ _ (sym (c.loop-file.invariant.0
    ∙ told_here (last_record c.loop-file.last) c.args.files.now c.loop-file.file-index c.file-item.result _ c.loop-file-test.true c.file-item.is c.in-Some.ensures))
    (rw (c.as_bytes.ensures.value, c.as_bytes-in-Some.ensures.value, c.loop-file.invariant.1) at c.put_before.ensures)
