-- After a fault a front of the names that are left was written.
use Rattle.std.proofs.Common.{List, ℕ}
use Rattle.j39_io.specs.Records.{later_text}
use Rattle.j39_io.proofs.PutsLemmas.{puts_until}
use Rattle.j39_grid.specs.Grid.{called}
use Rattle.j39_grid.proofs.head.put_parameters.Goals as goal

pub returns-in_err-put_parameter : goal.returns-in_err-put_parameter
returns-in_err-put_parameter g c =
    let text : ℕ → List ℕ = λ spn. later_text (called c.args.groups.now spn) in
    puts_until text c.args.spns.now c.loop-spn.spn-index _ tt _ _ _ _ _ c.loop-spn-test.true c.from_residual.ensures.0
    c.loop-spn.invariant c.in_err-put_parameter.ensures
