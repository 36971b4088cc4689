use Rattle.std.proofs.lemmas.Fn.{filter_same}
use Rattle.j39_transfers.proofs.Common.{◌∙◌, ap, List, map, nat_lt, Rest, rest_by, rules, stamp_micros, TransfersRecord, transfers_of}
use Rattle.j39_transfers.specs.declared.running.Rest as declared
use Rattle.j39_transfers.proofs.BoxLemmas.{map_filter}
use Rattle.j39_transfers.proofs.transfers.Transfers.wake.Goals as goal

pub returns-clause-wakes : goal.returns-clause-wakes
returns-clause-wakes c =
    let now = stamp_micros c.args.now in
    ap (λ (xs : List Rest). (let s : TransfersRecord = record (transfers_of c.args.self.now) { rests = xs } in s))
    (ap (map rest_by) (filter_same _ (λ (x : declared.Rest). nat_lt now x.until) _ (λ x b f' h. search rules) _ _ c.retain.ensures.filtered)
    ∙ map_filter rest_by (λ r. nat_lt now r.until) c.args.self.now.resting.items)
