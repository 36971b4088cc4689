use Rattle.std.proofs.Common.{◌∙◌, ◌++◌, ap, ap₂, take, List, ℕ}
use Rattle.std.proofs.lemmas.List.{take_min}
use Rattle.j39_survey.proofs.surveys.unread.front_of.Goals as goal

pub returns : goal.returns
returns c =
    c.push_bytes.ensures.items ∙ ap₂ (λ (a b : List ℕ). a ++ b) c.new-kept.ensures (c.split_at.ensures.front ∙ ap (λ n. take n c.args.line.now) c.min.ensures)
    ∙ take_min 60 c.args.line.now
