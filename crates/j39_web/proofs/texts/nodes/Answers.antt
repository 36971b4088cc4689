use Rattle.std.proofs.Common.{[], None, rules}
use Rattle.j39_survey.specs.SeenNodes.{MakesSeenNodes, SeenAskedRecord, long_silence}
use Rattle.j39_listen.specs.declared.format.Clock.TheVariants.{Seconds}
use Rattle.j39_listen.specs.declared.format.Format.TheVariants.{Line}
use Rattle.j39_survey.proofs.SeenNodeLemmas.{seen_nodes_one}
use Rattle.j39_web.proofs.RoomLemmas.{overflows}
use Rattle.j39_web.proofs.texts.nodes.Goals as goal

pub returns-clause-too_small : goal.returns-clause-too_small
returns-clause-too_small c = λ fails.
    let asked : SeenAskedRecord = record { own = []; form = Line Seconds; silence = long_silence; from = None } in
    let ran = c.nodes_seen-ran.ensures in
    overflows (MakesSeenNodes asked) (seen_nodes_one asked) c.args.bus c.args.log.now c.new-source.result.rest.now c.nodes_seen-ran.result _ _ _ _ _ _ _
    (search rules) (search rules) ran.ran.writes ran.ran.cut_short (search rules) (search rules) (search rules) (c.told.ensures.too_small fails) (search rules)
