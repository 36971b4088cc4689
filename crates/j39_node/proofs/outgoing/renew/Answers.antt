use Rattle.j39_node.proofs.Common.{◌∙◌, ap, map, map-set, posted, refl}
use Rattle.j39_node.proofs.QueueLemmas.{read}
use Rattle.j39_node.proofs.RenewLemmas.{refilled}
use Rattle.j39_node.proofs.outgoing.renew.Goals as goal

pub returns-clause-renewed : goal.returns-clause-renewed
returns-clause-renewed c = record {
  before = c.in_ok-token.field-0.now;
  was = read c.as_slice.result.now _ _ _ c.as_slice.ensures.value c.in_ok-token.ensures.lookup.3.0 c.in_ok-token.ensures.lookup.1;
  same = refl;
  renewed = ap (map posted) (refilled c.args.outgoing.now.items _ c.args.place _ c.as_mut_slice.ensures.value)
      ∙ map-set posted c.args.outgoing.now.items c.args.place _;
}
