-- A survey that was written, and a fault that is told.
use Rattle.j39_cli.proofs.Common.{ℕ, List, Option, refl, inl, inr, subst, turn}
use Rattle.j39_survey.specs.SurveyRun.{Surveyed}
use Rattle.j39_names.specs.Naming.{naming_of}
use Rattle.j39_cli.specs.LogCommand.{log_limit}
use Rattle.j39_cli.proofs.survey.perform.Goals as goal

pub returns-in-Ok-clause-survey : goal.returns-in-Ok-clause-survey
returns-in-Ok-clause-survey g c = record {
  known = inl refl;
  result = c.survey.result;
  ran = subst (λ (bus : Option (List ℕ)). Surveyed (record { form = c.args.wanted.form; naming = naming_of c.args.wanted.naming.now; given = bus }) log_limit c.survey.result
      (turn g.R.Source.remaining g.R.Source.has_failed c.args.source.now c.survey.new.source)
      (turn g.W.Sink.written g.W.Sink.has_failed c.args.sink.now c.survey.new.sink)) c.copy_of-bus.ensures c.survey.ensures.ran;
  told = rw c.in-Ok.is (refl, refl);
}

pub returns-in-Err-clause-survey : goal.returns-in-Err-clause-survey
returns-in-Err-clause-survey g c = record {
  known = inr c.tell_fault.ensures.status;
  result = c.survey.result;
  ran = subst (λ (bus : Option (List ℕ)). Surveyed (record { form = c.args.wanted.form; naming = naming_of c.args.wanted.naming.now; given = bus }) log_limit c.survey.result
      (turn g.R.Source.remaining g.R.Source.has_failed c.args.source.now c.survey.new.source)
      (turn g.W.Sink.written g.W.Sink.has_failed c.args.sink.now c.survey.new.sink)) c.copy_of-bus.ensures c.survey.ensures.ran;
  told = rw c.in-Err.is (c.tell_fault.ensures.status, c.tell_fault.ensures.told);
}
