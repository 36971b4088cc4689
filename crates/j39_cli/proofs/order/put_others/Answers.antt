-- After a fault a front of the lines that are left was written.
use Rattle.j39_cli.proofs.Common.{subst, turn, Err}
use Rattle.j39_io.proofs.PutsLemmas.{puts_until}
use Rattle.j39_io.specs.Puts.{Puts}
use Rattle.j39_cli.specs.OtherLog.{other_line}
use Rattle.j39_cli.specs.declared.file_ends.FileEnds.{FileEnds}
use Rattle.j39_cli.proofs.order.put_others.Goals as goal

pub returns-in_err-put_other : goal.returns-in_err-put_other
returns-in_err-put_other g c =
    puts_until (λ (ends : FileEnds). other_line ends.file.now ends.other) c.args.files.now c.loop-file.file-index c.file-item.result tt _ _ _ _ _
    c.loop-file-test.true c.from_residual.ensures.0 c.loop-file.invariant
    (subst (λ (ends : FileEnds). Puts {T = Unit} (other_line ends.file.now ends.other) (Err c.in_err-put_other.field-0.0) (turn g.E.Sink.written g.E.Sink.has_failed c.loop-file.err c.put_other.new.err))
    c.file-item.is c.in_err-put_other.ensures)
