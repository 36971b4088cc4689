-- A line for each address that has one.
use Rattle.std.proofs.Common.{◌∙◌, arith, refl}
use Rattle.j39_survey.proofs.ByAddressLemmas.{puts_more, puts_none, puts_stopped}
use Rattle.j39_survey.proofs.node_lists.by_address.put_by_address.Goals as goal

pub loop-address-init : goal.loop-address-init
loop-address-init g c = (puts_none (g.L.ByAddress.lines_at c.args.list.now) _, refl)

pub loop-address-preserved : goal.loop-address-preserved
loop-address-preserved g c = (
  puts_more (g.L.ByAddress.lines_at c.args.list.now) c.loop-address.address c.loop-address.lines c.in_ok-lines.field-0 _ _ _ c.loop-address.invariant.0 c.in_ok-lines.ensures.count c.in_ok-lines.ensures.few c.in_ok-lines.ensures.puts.written,
  c.in_ok-lines.ensures.puts.mark ∙ c.loop-address.invariant.1,
)

pub returns-in_err-lines-clause-puts : goal.returns-in_err-lines-clause-puts
returns-in_err-lines-clause-puts g c =
    puts_stopped (g.L.ByAddress.lines_at c.args.list.now) c.loop-address.address c.loop-address.lines _ _ _ _ _ (omega arith) c.from_residual.ensures.0 c.loop-address.invariant.0 c.in_err-lines.ensures.puts
