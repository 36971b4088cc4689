-- The only number of steps.
use Rattle.j39_groups.proofs.SlotLemmas.{steps_only, found_steps}
use Rattle.j39_groups.proofs.slot.steps_in.Goals as goal

pub returns-clause-only : goal.returns-clause-only
returns-clause-only c = λ n small e.
    found_steps c.try_from.result c.ok.result _ n c.ok.ensures.value c.try_from.ensures
    (steps_only n c.args.step c.args.distance c.requires e) small
