-- The number with a space behind it, and then the word.
use Rattle.j39_watch.proofs.Common.{◌≡◌, ◌+◌, ◌-◌, ◌++◌, ◌∙◌, ap, append_assoc, arith, codes, decimal, length, refl, take}
use Rattle.j39_watch.proofs.CutLemmas.{cut_none, cut_step}
use Rattle.j39_watch.specs.Watch.{spaces}
use Rattle.j39_watch.proofs.lines.more_line.Goals as goal

pub returns : goal.returns
returns c =
    let w = c.args.size.width + 1 in
    let w0 : c.new-line.result.width ≡ w = c.new-line.ensures.width ∙ ap (λ n. n + 1) (c.from.ensures ∙ c.width.ensures.value) in
    let w1 = c.push_number_column.ensures.width ∙ w0 in
    let s0 = cut_none w _ c.new-line.ensures.empty in
    let s1 = cut_step w _ _ _ _ _ _ w0 refl s0 c.push_number_column.ensures.cut in
    let none : 0 - length (decimal c.args.more) ≡ 0 = omega arith in
    cut_step w _ _ _ _ _ _ w1 refl s1 c.push.ensures.cut
    ∙ ap (λ n. take w ((decimal c.args.more ++ (spaces n ++ codes " ")) ++ codes "more")) none
    ∙ ap (take w) (append_assoc (decimal c.args.more) (codes " ") (codes "more"))
