use Rattle.j39_node.proofs.Common.{arith, posted}
use Rattle.j39_node.proofs.RenewLemmas.{latest_on}
use Rattle.j39_node.proofs.outgoing.latest.Goals as goal

pub loop-waits-preserved : goal.loop-waits-preserved
loop-waits-preserved c = (
  omega (arith, c.loop-waits.invariant.0),
  latest_on (posted c.args.message.now).1 c.args.n c.args.outgoing.now c.loop-waits.waits-index c.loop-waits.place c.waits-item.result _ _ _ c.waits-item.is c.loop-waits-test.true
      c.loop-waits.invariant.0 c.loop-waits.invariant.1 c.is_alike.ensures c.later_of-found.ensures,
)
