use Rattle.std.proofs.Common.{[], None, subst}
use Rattle.j39_survey.specs.SeenNodes.{MakesSeenNodes, long_silence}
use Rattle.j39_listen.specs.declared.format.Clock.TheVariants.{Seconds}
use Rattle.j39_listen.specs.declared.format.Format.TheVariants.{Line}
use Rattle.j39_web.specs.Text.{Overflows}
use Rattle.j39_web.proofs.j39_nodes.Goals as goal

-- the bus that was named is the one that was given
pub returns-in-Some-clause-too_small : goal.returns-in-Some-clause-too_small
returns-in-Some-clause-too_small c = λ small. subst (λ bus. Overflows (MakesSeenNodes (record { own = []; form = Line Seconds; silence = long_silence; from = None })) bus c.args.log.now c.nodes.new.room) c.in-Some.ensures.value
    (c.nodes.ensures.too_small (c.answer.ensures.too_small small))
