-- What holds of the pieces at the start of a log.
use Rattle.j39_names.specs.Naming.{naming_of}
use Rattle.std.proofs.Common.{inr, refl}
use Rattle.j39_survey.specs.SurveyRun.{Asked}
use Rattle.j39_survey.proofs.surveys.running.survey.Goals as goal

pub returns-in-Ok-clause-ran : goal.returns-in-Ok-clause-ran
returns-in-Ok-clause-ran g c =
    let asked : Asked = record { form = c.args.wanted.form; naming = naming_of c.args.wanted.naming.now; given = c.args.bus } in
    let run = c.survey_with.ensures in
    record {
      ended = run.ended;
      writes = run.writes asked refl refl c.in-Ok.ensures;
      memory = λ fails. inr (run.memory fails c.args.bus c.in-Ok.ensures);
      at_limit = run.at_limit;
      silent = run.silent;
      cut_short = run.cut_short asked refl refl c.in-Ok.ensures;
      prefix = run.prefix asked refl refl c.in-Ok.ensures;
    }
