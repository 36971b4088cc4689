-- Column by column.
use Rattle.j39_watch.proofs.Common.{◌≡◌, ◌+◌, ◌∙◌, None, ap, refl, rules}
use Rattle.std.specs.Prelude.{option_map}
use Rattle.j39_address.specs.Name.{name_raw}
use Rattle.j39_watch.specs.Watch.{controller_columns}
use Rattle.j39_watch.proofs.CutLemmas.{cut_none, cut_step}
use Rattle.j39_watch.proofs.lines.fault_line.Goals as goal

pub returns : goal.returns
returns c =
    let w = c.args.view.size.width + 1 in
    let w0 : c.new-line.result.width ≡ w = c.new-line.ensures.width ∙ ap (λ n. n + 1) (c.from.ensures ∙ c.width.ensures.value) in
    let w1 = c.push_controller.ensures.width ∙ w0 in
    let w2 = c.push_age.ensures.width ∙ w1 in
    let named : c.map.result ≡ option_map name_raw c.args.name = search rules in
    let s0 = cut_none w _ c.new-line.ensures.empty in
    let s1 = cut_step w _ _ _ _ _ _ w0 (ap (controller_columns c.args.address None) named) s0 c.push_controller.ensures.cut in
    let s2 = cut_step w _ _ _ _ _ _ w1 refl s1 c.push_age.ensures.cut in
    cut_step w _ _ _ _ _ _ w2 refl s2 c.push_said.ensures.cut
