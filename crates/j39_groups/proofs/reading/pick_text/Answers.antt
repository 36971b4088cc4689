-- Each part gives its text, in the payload's order.
use Rattle.std.proofs.Common.{◌+◌, ◌∙◌, ℕ, List, ap, arith, eqb, length, map, rules, sym, take, take_all}
use borrow.Author.Tests.{tests}
use Rattle.std.specs.Prelude.{slice_get}
use Rattle.std.specs.List.{flat_map}
use Rattle.std.specs.Option.{option_to_list}
use Rattle.std.proofs.lemmas.List.{length_push}
use Rattle.std.proofs.lemmas.Iterator.{YieldsList-from_take}
use Rattle.std.proofs.lemmas.Iterator.Splits.{YieldsList-from_slice_split}
use Rattle.std.proofs.lemmas.Iterator.Consumers.{YieldsList-at, YieldsList-turn, YieldsList-end}
use Rattle.j39_groups.specs.Parts.{parts_of}
use Rattle.j39_groups.specs.Value.{ReadingRecord, ValueRecord}
use Rattle.j39_groups.specs.Readings.{filled_text_meaning}
use Rattle.j39_groups.specs.Models.{reading_of}
use Rattle.j39_groups.proofs.ListLemmas.{made_of_each, pick_here, pick_next}
use Rattle.j39_groups.proofs.reading.pick_text.Goals as goal

abbrev reads : ℕ → ValueRecord → ReadingRecord
reads spn value = record { spn = spn; value = value }

abbrev gives : ℕ → List ℕ → List ReadingRecord
gives spn part = map (reads spn) (option_to_list (filled_text_meaning part))

pub returns-in-Ok : goal.returns-in-Ok
returns-in-Ok c =
    let parts = take c.args.count (parts_of c.args.bytes.now) in
    let turn = YieldsList-turn (YieldsList-at c.into_iter-part-iterator.ensures.into_iter_gives
    (YieldsList-from_take c.args.count (YieldsList-at c.take-part-items.ensures.source
    (YieldsList-from_slice_split _ (λ b. eqb b 42) c.args.bytes.now c.split.ensures.rest c.split.ensures.done c.split.ensures.closure (λ x b q k. search (rules, tests))))
    (c.take-part-items.ensures.count ∙ c.from.ensures)))
    c.loop-part.yielded _ c.loop-part.yielded_by _ _ c.in-Some.part c.in-Some.is c.next.ensures.steps in
    ap (λ rs. slice_get rs c.args.left) (made_of_each filled_text_meaning (reads c.args.spn) parts)
    ∙ pick_here (gives c.args.spn) parts (length c.loop-part.yielded) c.in-Some.part.now c.args.left c.loop-part.left
    (reading_of c.in-Ok.reading) turn.0 c.loop-part.invariant
    (ap (λ o. slice_get (map (reads c.args.spn) (option_to_list o)) c.loop-part.left) (sym (c.filled_text_of.ensures ∙ ap filled_text_meaning turn.1)) ∙ c.in-Ok.ensures)

pub loop-part-preserved : goal.loop-part-preserved
loop-part-preserved c =
    let parts = take c.args.count (parts_of c.args.bytes.now) in
    let turn = YieldsList-turn (YieldsList-at c.into_iter-part-iterator.ensures.into_iter_gives
    (YieldsList-from_take c.args.count (YieldsList-at c.take-part-items.ensures.source
    (YieldsList-from_slice_split _ (λ b. eqb b 42) c.args.bytes.now c.split.ensures.rest c.split.ensures.done c.split.ensures.closure (λ x b q k. search (rules, tests))))
    (c.take-part-items.ensures.count ∙ c.from.ensures)))
    c.loop-part.yielded _ c.loop-part.yielded_by _ _ c.in-Some.part c.in-Some.is c.next.ensures.steps in
    pick_next (gives c.args.spn) parts (length c.loop-part.yielded) c.in-Some.part.now c.args.left c.loop-part.left c.in-Err.rest turn.0 c.loop-part.invariant
    (c.in-Err.ensures ∙ ap (λ o. length (map (reads c.args.spn) (option_to_list o)) + c.in-Err.rest) (c.filled_text_of.ensures ∙ ap filled_text_meaning turn.1))
    ∙ ap (λ n. length (flat_map (gives c.args.spn) (take n parts)) + c.in-Err.rest) (sym (length_push c.loop-part.yielded c.in-Some.part))

pub returns : goal.returns
returns c =
    let parts = take c.args.count (parts_of c.args.bytes.now) in
    let end = YieldsList-end (YieldsList-at c.into_iter-part-iterator.ensures.into_iter_gives
    (YieldsList-from_take c.args.count (YieldsList-at c.take-part-items.ensures.source
    (YieldsList-from_slice_split _ (λ b. eqb b 42) c.args.bytes.now c.split.ensures.rest c.split.ensures.done c.split.ensures.closure (λ x b q k. search (rules, tests))))
    (c.take-part-items.ensures.count ∙ c.from.ensures)))
    c.loop-part.yielded _ c.loop-part.yielded_by _ _ c.in-None.is c.next.ensures.steps in
    c.loop-part.invariant
    ∙ ap (λ rs. length rs + c.loop-part.left) (ap (flat_map (gives c.args.spn)) (take_all _ _ (omega (arith, end.1))) ∙ sym (made_of_each filled_text_meaning (reads c.args.spn) parts))
