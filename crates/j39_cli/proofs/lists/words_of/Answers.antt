-- The words are those of the split, of which one more than 32 is too many.
use Rattle.std.proofs.Common.{◌≡◌, ◌∙◌, ap, arith, eqb, eqb-true, length, map, rules, sym}
use borrow.Author.Tests.{tests}
use Rattle.std.proofs.lemmas.Iterator.Splits.{YieldsList-from_slice_split}
use Rattle.std.proofs.lemmas.Iterator.Consumers.{YieldsList-at, YieldsList-turn, YieldsList-end}
use Rattle.j39_cli.proofs.lists.words_of.Goals as goal

pub returns-then-is_full : goal.returns-then-is_full
returns-then-is_full c =
    let turn = YieldsList-turn (YieldsList-at c.into_iter-word-iterator.ensures.into_iter_gives
    (YieldsList-from_slice_split _ (λ b. eqb b 44) c.args.text.now c.split-word-items.ensures.rest c.split-word-items.ensures.done
    c.split-word-items.ensures.closure (λ x b q k. search (rules, tests))))
    c.loop-word.yielded _ c.loop-word.yielded_by _ _ c.in-Some.word c.in-Some.is c.next.ensures.steps in
    let full : length c.loop-word.words.items ≡ 32 = eqb-true _ _ (sym c.is_full.ensures.value ∙ c.if-is_full.true) in
    let here = turn.0 in
    let same = ap length c.loop-word.invariant.0 in
    omega arith

pub returns : goal.returns
returns c =
    let end = YieldsList-end (YieldsList-at c.into_iter-word-iterator.ensures.into_iter_gives
    (YieldsList-from_slice_split _ (λ b. eqb b 44) c.args.text.now c.split-word-items.ensures.rest c.split-word-items.ensures.done
    c.split-word-items.ensures.closure (λ x b q k. search (rules, tests))))
    c.loop-word.yielded _ c.loop-word.yielded_by _ _ c.in-None.is c.next.ensures.steps in
    (ap (map (λ word. word.now)) c.loop-word.invariant.0 ∙ end.0, c.loop-word.invariant.1)
