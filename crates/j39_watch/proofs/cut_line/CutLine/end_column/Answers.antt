-- The spaces, and one more.
use Rattle.std.proofs.Common.{◌≡◌, ◌≤◌, ◌-◌, ◌++◌, ◌∙◌, ℕ, List, ap, append_assoc, arith, codes, length, take}
use Rattle.j39_watch.specs.Watch.{spaces}
use Rattle.j39_watch.proofs.CutLemmas.{cut_twice, first_spaces}
use Rattle.j39_watch.proofs.cut_line.CutLine.end_column.Goals as goal

pub returns-clause-cut : goal.returns-clause-cut
returns-clause-cut c =
    let old = c.args.self.now.bytes.items in
    let w = c.args.self.now.width in
    let m = c.saturating_sub-missing.result in
    let count : m ≡ c.args.width - (length old - c.args.start) =
    c.saturating_sub-missing.ensures ∙ ap (λ l. c.args.width - (l - c.args.start)) c.len.ensures.value in
    let few : m ≤ 16 = let n = c.requires.narrow in omega (arith, count, n) in
    let some = first_spaces m 16 few in
    c.push-2.ensures.cut
    ∙ ap (λ v. take v (c.push.new.self.bytes.items ++ codes " ")) c.push.ensures.width
    ∙ ap (λ (t : List ℕ). take w (t ++ codes " ")) c.push.ensures.cut
    ∙ cut_twice w (old ++ take m (spaces 16)) (codes " ")
    ∙ ap (take w) (append_assoc old (take m (spaces 16)) (codes " "))
    ∙ ap (λ t. take w (old ++ (t ++ codes " "))) (some ∙ ap spaces count)
