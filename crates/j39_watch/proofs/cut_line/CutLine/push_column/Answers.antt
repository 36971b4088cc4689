-- The text in its block, and the spaces behind it.
use Rattle.std.proofs.Common.{◌++◌, ◌∙◌, ap, take}
use Rattle.j39_watch.proofs.CutLemmas.{column_block}
use Rattle.j39_watch.proofs.cut_line.CutLine.push_column.Goals as goal

pub returns-clause-cut : goal.returns-clause-cut
returns-clause-cut c = λ text before.
    c.push.ensures.cut ∙ ap (λ t. take c.args.self.now.width (c.args.self.now.bytes.items ++ t))
    (column_block c.args.start c.args.width c.saturating_sub-missing.result c.args.block.now text c.requires.narrow c.saturating_sub-missing.ensures before)
