-- After a fault a front of the parts that are left was written.
use Rattle.std.proofs.Common.{Bor, ℕ, List}
use Rattle.j39_io.proofs.PutsLemmas.{puts_until}
use Rattle.j39_rows.proofs.parts.put_parts.Goals as goal

pub returns-in_err-put_all : goal.returns-in_err-put_all
returns-in_err-put_all g c =
    puts_until (λ (part : Bor (List ℕ)). part.now) c.args.parts.now c.loop-part.part-index _ tt _ _ _ _ _
    c.loop-part-test.true c.from_residual.ensures.0 c.loop-part.invariant c.in_err-put_all.ensures.puts
