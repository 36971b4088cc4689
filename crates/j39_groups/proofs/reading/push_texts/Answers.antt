-- Each part gives its text, in the payload's order.
use Rattle.std.proofs.Common.{◌++◌, eqb, map, length, take, ap, ◌∙◌, arith, rules}
use borrow.Author.Tests.{tests}
use Rattle.std.specs.List.{filter_map}
use Rattle.std.proofs.lemmas.List.{length_push, take_all}
use Rattle.std.proofs.lemmas.Iterator.{YieldsList-from_take}
use Rattle.std.proofs.lemmas.Iterator.Splits.{YieldsList-from_slice_split}
use Rattle.std.proofs.lemmas.Iterator.Consumers.{YieldsList-at, YieldsList-turn, YieldsList-end}
use Rattle.j39_groups.specs.Parts.{parts_of}
use Rattle.j39_groups.specs.Value.{ReadingRecord}
use Rattle.j39_groups.specs.Readings.{filled_text_meaning}
use Rattle.j39_groups.specs.Models.{reading_of}
use Rattle.j39_groups.proofs.ListLemmas.{given_more}
use Rattle.j39_groups.proofs.reading.push_texts.Goals as goal

pub loop-part-preserved : goal.loop-part-preserved
loop-part-preserved c =
    let turn = YieldsList-turn (YieldsList-at c.into_iter-part-iterator.ensures.into_iter_gives
    (YieldsList-from_take c.args.count (YieldsList-at c.take-part-items.ensures.source
    (YieldsList-from_slice_split _ (λ b. eqb b 42) c.args.bytes.now c.split.ensures.rest c.split.ensures.done c.split.ensures.closure (λ x b q k. search (rules, tests))))
    (c.take-part-items.ensures.count ∙ c.from.ensures)))
    c.loop-part.yielded _ c.loop-part.yielded_by _ _ c.in-Some.part c.in-Some.is c.next.ensures.steps in
    let next = length_push c.loop-part.yielded c.in-Some.part in (
      given_more filled_text_meaning (λ value. let r : ReadingRecord = record { spn = c.args.spn; value = value } in r) (take c.args.count (parts_of c.args.bytes.now))
          (length c.loop-part.yielded) _ c.in-Some.part.now _ (map reading_of c.args.found.now.items) _ _ turn.0 next turn.1 c.filled_text_of.ensures
          c.loop-part.invariant.0 c.push_value.ensures.items,
      (let len = c.push_value.ensures.len in let before = c.loop-part.invariant.1 in omega (arith, next, len, before)),
    )

pub returns-clause-items : goal.returns-clause-items
returns-clause-items c =
    let end = YieldsList-end (YieldsList-at c.into_iter-part-iterator.ensures.into_iter_gives
    (YieldsList-from_take c.args.count (YieldsList-at c.take-part-items.ensures.source
    (YieldsList-from_slice_split _ (λ b. eqb b 42) c.args.bytes.now c.split.ensures.rest c.split.ensures.done c.split.ensures.closure (λ x b q k. search (rules, tests))))
    (c.take-part-items.ensures.count ∙ c.from.ensures)))
    c.loop-part.yielded _ c.loop-part.yielded_by _ _ c.in-None.is c.next.ensures.steps in
    c.loop-part.invariant.0
    ∙ ap (λ texts. map reading_of c.args.found.now.items ++ map (λ value. let r : ReadingRecord = record { spn = c.args.spn; value = value } in r) (filter_map filled_text_meaning texts))
    (take_all _ _ (omega (arith, end.1)))
