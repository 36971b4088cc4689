-- After a fault a front of the lines that are left was written.
use Rattle.j39_io.proofs.PutsLemmas.{puts_until}
use Rattle.j39_cli.specs.Unknown.{unknown_line}
use Rattle.j39_cli.proofs.unknown.put_unknown.Goals as goal

pub returns-in_err-put_where_unknown : goal.returns-in_err-put_where_unknown
returns-in_err-put_where_unknown g c =
    puts_until (unknown_line c.args.groups.now) c.args.spns.now c.loop-spn.spn-index _ tt _ _ _ _ _
    c.loop-spn-test.true c.from_residual.ensures.0 c.loop-spn.invariant c.in_err-put_where_unknown.ensures
