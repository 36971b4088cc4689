use Rattle.std.proofs.Common.{rules, sym}
use Rattle.j39_names.specs.Naming.{naming_of}
use Rattle.j39_listen.specs.declared.format.Clock.TheVariants.{Seconds}
use Rattle.j39_listen.specs.declared.format.Format.TheVariants.{Line}
use Rattle.j39_web.proofs.RoomLemmas.{survey_overflows}
use Rattle.j39_web.proofs.texts.survey.Goals as goal

pub returns-clause-too_small : goal.returns-clause-too_small
returns-clause-too_small c = λ fails.
    let ran = c.survey-ran.ensures in
    rw (sym c.by_table-naming.ensures)
    (survey_overflows (record { form = Line Seconds; naming = naming_of c.by_table-naming.result; given = c.args.bus }) c.args.log.now c.new-source.result.rest.now c.survey-ran.result c.uncounted.result _ _ _ _ _ _ _
    (search rules) (search rules) ran.ran.writes ran.ran.cut_short (search rules) (search rules) (search rules) c.uncounted.ensures.ok c.uncounted.ensures.err
    (c.told.ensures.too_small fails) (search rules))
