-- The first row of the parameter has its name.
use Rattle.std.proofs.Common.{◌∙◌, Some, ap, arith, refl, sym}
use Rattle.j39_groups.specs.Models.{row_record}
use Rattle.j39_groups.proofs.NameLemmas.{named_here, named_later, named_nowhere}
use Rattle.j39_groups.proofs.names.name_in.Goals as goal

pub returns-then-row-spn : goal.returns-then-row-spn
returns-then-row-spn c = ap Some c.called.ensures ∙ sym (named_here row_record c.args.rows.now c.args.spn c.loop-row.row-index _ _ c.loop-row-test.true refl c.loop-row.invariant c.if-row-spn.true)

pub loop-row-preserved : goal.loop-row-preserved
loop-row-preserved c = named_later row_record c.args.rows.now c.args.spn c.loop-row.row-index _ _ c.loop-row-test.true refl c.loop-row.invariant c.if-row-spn.false

pub returns : goal.returns
returns c = sym (named_nowhere row_record c.args.rows.now c.args.spn c.loop-row.row-index (omega arith) c.loop-row.invariant)
