-- The value of the origin follows, or a row begins.
use Rattle.j39_watch.proofs.Common.{◌<◌, ◌∙◌, inl, inr, length, rules, sym, stands_within, stamp_micros, on_ok_from, value_of, on_err, on_err_from, pairs_of}
use Rattle.j39_watch.proofs.ValueLemmas.{follows, is_new}
use Rattle.j39_watch.proofs.values.take.Goals as goal

-- The search finds what else a body of the call asks for: that a value with places of its own is not too large.
pub change-requires : goal.change-requires
change-requires c =
    let within : c.in-Some.at < length (pairs_of c.args.rows.now) = stands_within (pairs_of c.args.rows.now) c.in-Some.at c.args.origin (sym c.requires ∙ c.in-Some.is) in
    search rules

pub add-requires : goal.add-requires
add-requires c = sym c.requires ∙ c.in-None.is

pub returns-in-None-clause-wanted : goal.returns-in-None-clause-wanted
returns-in-None-clause-wanted c =
    on_err c.add.result _ (λ before are. inl (is_new c.args.origin (stamp_micros c.args.stamp) (value_of c.args.value) (pairs_of c.args.rows.now) before
    (sym c.requires ∙ c.in-None.is) are))

pub returns-in-None-clause-taken : goal.returns-in-None-clause-taken
returns-in-None-clause-taken c = c.add.ensures

pub returns-in-Some-clause-wanted : goal.returns-in-Some-clause-wanted
returns-in-Some-clause-wanted c = on_err_from c.change.result _ _ (λ text before are. inr text) c.change.ensures.3.1

pub returns-in-Some-clause-taken : goal.returns-in-Some-clause-taken
returns-in-Some-clause-taken c =
    let change = c.change.ensures in
    on_ok_from c.change.result _ _ (λ followed before are.
    follows c.args.origin change.0 change.1 change.2 (stamp_micros c.args.stamp) (value_of c.args.value) (pairs_of c.args.rows.now) _ c.in-Some.at before
    followed (sym c.requires ∙ c.in-Some.is) change.4 change.5 are) change.3.0
