-- The row goes last.
use Rattle.j39_watch.proofs.Common.{stamp_micros, on_ok_from, value_of, pairs_of}
use Rattle.j39_watch.proofs.ValueLemmas.{begins}
use Rattle.j39_watch.proofs.values.add.Goals as goal

pub returns : goal.returns
returns c = on_ok_from c.add.result _ _ (λ added before are.
    begins c.args.origin c.in_ok-latest.latest (stamp_micros c.args.stamp) (value_of c.args.value) (pairs_of c.args.rows.now) _ before
    (c.in_ok-latest.ensures.begun c.args.origin) c.requires added are) c.add.ensures.added
