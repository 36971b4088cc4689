-- The first state of the number gives its words.
use Rattle.std.proofs.Common.{◌∙◌, ◌==◌, ap, arith, eqb, length, rules, sym}
use Rattle.std.specs.Prelude.{slice_get}
use Rattle.std.specs.List.{filter_map, slice_split}
use borrow.Author.Tests.{tests}
use Rattle.std.proofs.lemmas.List.{length_push, take_all}
use Rattle.std.proofs.lemmas.Iterator.Splits.{YieldsList-from_slice_split}
use Rattle.std.proofs.lemmas.Iterator.Consumers.{YieldsList-at, YieldsList-turn, YieldsList-end}
use Rattle.j39_groups.specs.States.{state_words}
use Rattle.j39_groups.proofs.SlotLemmas.{first_found}
use Rattle.j39_groups.proofs.StateLemmas.{none_named}
use Rattle.j39_groups.proofs.states.first_state.Goals as goal

pub returns-in-Some-words_behind : goal.returns-in-Some-words_behind
returns-in-Some-words_behind c =
    let turn = YieldsList-turn (YieldsList-at c.into_iter-state-iterator.ensures.into_iter_gives
    (YieldsList-from_slice_split _ (λ b. eqb b 44) c.args.states.now c.split-state-items.ensures.rest c.split-state-items.ensures.done
    c.split-state-items.ensures.closure (λ x b q k. search (rules, tests))))
    c.loop-state.yielded _ c.loop-state.yielded_by _ _ c.in-Some.state c.in-Some.is c.next.ensures.steps in
    sym (first_found (state_words c.args.raw) (slice_split (λ b. b == 44) c.args.states.now) (length c.loop-state.yielded) c.in-Some.state.now
    c.in-Some-words_behind.words.now turn.0 c.loop-state.invariant (ap (state_words c.args.raw) (sym turn.1) ∙ sym c.in-Some-words_behind.ensures))

pub loop-state-preserved : goal.loop-state-preserved
loop-state-preserved c =
    let turn = YieldsList-turn (YieldsList-at c.into_iter-state-iterator.ensures.into_iter_gives
    (YieldsList-from_slice_split _ (λ b. eqb b 44) c.args.states.now c.split-state-items.ensures.rest c.split-state-items.ensures.done
    c.split-state-items.ensures.closure (λ x b q k. search (rules, tests))))
    c.loop-state.yielded _ c.loop-state.yielded_by _ _ c.in-Some.state c.in-Some.is c.next.ensures.steps in
    none_named (state_words c.args.raw) (slice_split (λ b. b == 44) c.args.states.now) (length c.loop-state.yielded) _ c.in-Some.state.now
    turn.0 (length_push c.loop-state.yielded c.in-Some.state) turn.1 c.loop-state.invariant (sym c.in_default.ensures)

pub returns : goal.returns
returns c =
    let end = YieldsList-end (YieldsList-at c.into_iter-state-iterator.ensures.into_iter_gives
    (YieldsList-from_slice_split _ (λ b. eqb b 44) c.args.states.now c.split-state-items.ensures.rest c.split-state-items.ensures.done
    c.split-state-items.ensures.closure (λ x b q k. search (rules, tests))))
    c.loop-state.yielded _ c.loop-state.yielded_by _ _ c.in-None.is c.next.ensures.steps in
    sym (ap (λ names. slice_get names 0)
    (ap (filter_map (state_words c.args.raw)) (sym (take_all (length c.loop-state.yielded) _ (omega (arith, end.1)))) ∙ c.loop-state.invariant))
