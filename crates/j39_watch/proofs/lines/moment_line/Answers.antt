-- The words, and then the moment.
use Rattle.j39_watch.proofs.Common.{◌≡◌, ◌+◌, ◌∙◌, ap, refl, stamp_micros}
use Rattle.j39_rows.specs.Row.{moment_text}
use Rattle.j39_watch.proofs.CutLemmas.{cut_none, cut_step}
use Rattle.j39_watch.proofs.lines.moment_line.Goals as goal

pub returns : goal.returns
returns c =
    let w = c.args.view.size.width + 1 in
    let w0 : c.new-line.result.width ≡ w = c.new-line.ensures.width ∙ ap (λ n. n + 1) (c.from.ensures ∙ c.width.ensures.value) in
    let w1 = c.push.ensures.width ∙ w0 in
    let s0 = cut_none w _ c.new-line.ensures.empty in
    let s1 = cut_step w _ _ _ _ _ _ w0 refl s0 c.push.ensures.cut in
    cut_step w _ _ _ _ _ _ w1 (c.as_slice.ensures.value ∙ c.moment_text.ensures ∙ ap (λ k. moment_text k (stamp_micros c.args.view.now)) c.clock.ensures) s1 c.push-2.ensures.cut
