-- The parts that the split yields, at one index.
use Rattle.std.proofs.Common.{eqb, rules}
use borrow.Author.Tests.{tests}
use Rattle.std.proofs.lemmas.Iterator.Consumers.{nth_from_yields_List}
use Rattle.std.proofs.lemmas.Iterator.Splits.{YieldsList-from_slice_split}
use Rattle.j39_groups.proofs.value_in.part_at.Goals as goal

pub returns : goal.returns
returns c = nth_from_yields_List _ _ c.args.index c.nth.ensures.ran
    (YieldsList-from_slice_split _ (λ b. eqb b 42) c.args.bytes.now c.split.ensures.rest c.split.ensures.done c.split.ensures.closure (λ x b q k. search (rules, tests)))
