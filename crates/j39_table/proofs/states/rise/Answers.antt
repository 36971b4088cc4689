-- A state more rises, or none does that has this one in its place.
use Rattle.std.proofs.Common.{◌==◌, arith, eqb, length, refl, rules}
use borrow.Author.Tests.{tests}
use Rattle.std.specs.List.{slice_split}
use Rattle.std.proofs.lemmas.Bool.{false≢true}
use Rattle.std.proofs.lemmas.List.{length_push}
use Rattle.std.proofs.lemmas.Iterator.Splits.{YieldsList-from_slice_split}
use Rattle.std.proofs.lemmas.Iterator.Consumers.{YieldsList-at, YieldsList-turn, YieldsList-end}
use Rattle.j39_table.proofs.StateLemmas.{ends_all, rises_more, stops_here}
use Rattle.j39_table.proofs.states.rise.Goals as goal

pub returns-in_default : goal.returns-in_default
returns-in_default c =
    let turn = YieldsList-turn (YieldsList-at c.into_iter-state-iterator.ensures.into_iter_gives
    (YieldsList-from_slice_split _ (λ b. eqb b 44) c.args.states.now c.split-state-items.ensures.rest c.split-state-items.ensures.done
    c.split-state-items.ensures.closure (λ x b q k. search (rules, tests))))
    c.loop-state.yielded _ c.loop-state.yielded_by _ _ c.in-Some.state c.in-Some.is c.next.ensures.steps in (
      λ one. absurd (false≢true one),
      λ all. absurd (stops_here c.args.limit (slice_split (λ b. b == 44) c.args.states.now) (length c.loop-state.yielded) c.loop-state.least
          c.in-Some.state.now turn.0 turn.1 c.in_default.ensures.only c.loop-state.invariant all),
    )

pub loop-state-preserved : goal.loop-state-preserved
loop-state-preserved c =
    let turn = YieldsList-turn (YieldsList-at c.into_iter-state-iterator.ensures.into_iter_gives
    (YieldsList-from_slice_split _ (λ b. eqb b 44) c.args.states.now c.split-state-items.ensures.rest c.split-state-items.ensures.done
    c.split-state-items.ensures.closure (λ x b q k. search (rules, tests))))
    c.loop-state.yielded _ c.loop-state.yielded_by _ _ c.in-Some.state c.in-Some.is c.next.ensures.steps in
    rises_more c.args.limit (slice_split (λ b. b == 44) c.args.states.now) (length c.loop-state.yielded) _ c.loop-state.least
    c.in-Some-state_in.raw c.in-Some.state.now c.requires turn.0 (length_push c.loop-state.yielded c.in-Some.state) turn.1
    c.in-Some-state_in.ensures.found c.in-Some-state_in.ensures.only c.loop-state.invariant

pub returns : goal.returns
returns c =
    let end = YieldsList-end (YieldsList-at c.into_iter-state-iterator.ensures.into_iter_gives
    (YieldsList-from_slice_split _ (λ b. eqb b 44) c.args.states.now c.split-state-items.ensures.rest c.split-state-items.ensures.done
    c.split-state-items.ensures.closure (λ x b q k. search (rules, tests))))
    c.loop-state.yielded _ c.loop-state.yielded_by _ _ c.in-None.is c.next.ensures.steps in (
      λ one. ends_all c.args.limit (slice_split (λ b. b == 44) c.args.states.now) (length c.loop-state.yielded) c.loop-state.least
          (omega (arith, end.1)) c.loop-state.invariant,
      λ all. refl,
    )
