-- The text is the canonical line, which spells the frame.
use Rattle.std.proofs.Common.{subst, sym}
use Rattle.j39_log.specs.Line.{IsFrameLine}
use Rattle.j39_log.proofs.CanonicalLemmas.{line_spelled}
use Rattle.j39_log.proofs.canonical.line_of.Goals as goal

pub returns-clause-spells : goal.returns-clause-spells
returns-clause-spells c =
    let said = c.text_of.ensures in
    subst (λ text. IsFrameLine text c.args.bus.now c.args.frame.now) (sym said.text) (line_spelled c.args.frame.now c.args.bus.now said.range said.name)
