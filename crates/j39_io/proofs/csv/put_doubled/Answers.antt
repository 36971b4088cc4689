-- After a fault a front of the bytes that are left was written.
use Rattle.j39_io.proofs.PutsLemmas.{puts_as, puts_until}
use Rattle.j39_io.specs.Records.{quoted_byte}
use Rattle.j39_io.proofs.csv.put_doubled.Goals as goal

pub returns-in_err-put_all : goal.returns-in_err-put_all
returns-in_err-put_all g c =
    puts_until quoted_byte c.args.field.now c.loop-byte.byte-index _ tt _ _ _ _ _ c.loop-byte-test.true c.from_residual.ensures.0
    c.loop-byte.invariant (puts_as _ _ _ _ c.quoted.ensures c.in_err-put_all.ensures.puts)
