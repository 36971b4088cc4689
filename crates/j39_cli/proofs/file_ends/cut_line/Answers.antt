-- The first line, and what stands behind its newline.
use Rattle.j39_cli.proofs.Common.{◌≡◌, ◌∙◌, ◌∷◌, [], ap, ℕ, List}
use Rattle.std.proofs.lemmas.List.{nil_from_length}
use Rattle.j39_cli.specs.FileEnds.{lines_behind}
use Rattle.j39_cli.proofs.OrderLemmas.{behind, cut_at}
use Rattle.j39_cli.proofs.file_ends.cut_line.Goals as goal

pub returns-in-None-clause-lines : goal.returns-in-None-clause-lines
returns-in-None-clause-lines c =
    let none : c.split_at.result.1.now ≡ [] = nil_from_length c.split_at.result.1.now c.in-None.ensures.cases in
    rw none at (cut_at c.args.text.now _ _ _ c.line_len.ensures.value c.split_at.ensures.front c.split_at.ensures.back)

pub returns-in-Some-clause-lines : goal.returns-in-Some-clause-lines
returns-in-Some-clause-lines c =
    cut_at c.args.text.now _ _ _ c.line_len.ensures.value c.split_at.ensures.front c.split_at.ensures.back
    ∙ ap (λ (rest : List ℕ). c.split_at.result.0.now ∷ lines_behind (behind rest)) c.in-Some.ensures.cases.0
