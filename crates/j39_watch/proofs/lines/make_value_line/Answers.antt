-- Column by column.
use Rattle.j39_watch.proofs.Common.{◌++◌, ◌∙◌, ap, codes, refl, unwrap_or, state_in}
use Rattle.std.specs.Fmt.{decimal}
use Rattle.std.specs.Option.{option_or}
use Rattle.j39_watch.proofs.CutLemmas.{cut_none, cut_step}
use Rattle.j39_watch.specs.Watch.{column, value_text_line}
use Rattle.j39_watch.specs.Watch.{state_behind}
use Rattle.j39_watch.proofs.lines.make_value_line.Goals as goal

pub returns-clause-cut : goal.returns-clause-cut
unfolding value_text_line
returns-clause-cut c =
    let w = c.args.line.now.width in
    let w0 = c.clear.ensures.width in
    let w1 = c.push_controller.ensures.width ∙ w0 in
    let w2 = c.push_number_column.ensures.width ∙ w1 in
    let w3 = c.push_number_column-2.ensures.width ∙ w2 in
    let w4 = c.push_value_column.ensures.width ∙ w3 in
    let w5 = c.push_age.ensures.width ∙ w4 in
    let w6 = c.push_came.ensures.width ∙ w5 in
    let w7 = c.push.ensures.width ∙ w6 in
    let s0 = cut_none w _ c.clear.ensures.empty in
    let s1 = cut_step w _ _ _ _ _ _ w0 refl s0 c.push_controller.ensures.cut in
    let s2 = cut_step w _ _ _ _ _ _ w1 (ap (λ n. column 6 (decimal n)) c.from.ensures) s1 c.push_number_column.ensures.cut in
    let s3 = cut_step w _ _ _ _ _ _ w2 (ap (λ n. column 6 (decimal n)) c.from-2.ensures) s2 c.push_number_column-2.ensures.cut in
    let s4 = cut_step w _ _ _ _ _ _ w3 refl s3 c.push_value_column.ensures.cut in
    let s5 = cut_step w _ _ _ _ _ _ w4 refl s4 c.push_age.ensures.cut in
    let s6 = cut_step w _ _ _ _ _ _ w5 (ap (λ n. column 5 (decimal n ++ codes "/s")) (c.came_before.ensures c.args.origin)) s5 c.push_came.ensures.cut in
    let s7 = cut_step w _ _ _ _ _ _ w6 (c.name_or_dash.ensures ∙ (λ i. unwrap_or (option_or (c.own_name.ensures i) (c.called_in.ensures.parameter i)) (codes "-"))) s6 c.push.ensures.cut in
    cut_step w _ _ _ _ _ _ w7 (ap state_behind (c.called_in.ensures.state ∙ ap (state_in c.args.naming.groups.now c.args.origin.pgn c.args.origin.spn) c.value-value.ensures)) s7 c.push_state.ensures.cut
