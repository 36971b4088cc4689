-- The last line, where it is not ended.
use Rattle.j39_survey.proofs.Common.{refl, subst, sym, IsRawLine}
use Rattle.std.proofs.lemmas.Result.{on_err_weaker, on_ok_weaker}
use Rattle.j39_survey.proofs.SurveyPieceLemmas.{asks_last, ends_line, ends_whole}
use Rattle.j39_survey.proofs.surveys.pieces.Pieces.finish.Goals as goal

pub returns-in-None-clause-surveyed : goal.returns-in-None-clause-surveyed
returns-in-None-clause-surveyed c = ends_whole c.args.self.now c.args.self.now refl c.in-None.ensures.line

pub returns-in-Some-clause-surveyed : goal.returns-in-Some-clause-surveyed
returns-in-Some-clause-surveyed c = on_ok_weaker c.add.result (λ surveyed.
    ends_line c.args.self.now (record { splitter = c.args.self.now.splitter; survey = c.add.new.self; second = c.args.self.now.second }) (λ begun h.
    let line = c.in-Some.ensures.line begun h in (
      line.0,
      c.add.ensures.spelled begun line.1,
      (λ given lines l text spelled s.
          surveyed given lines l (subst (IsRawLine c.in-Some.raw) (sym text) line.1) spelled s),
    ))) c.add.ensures.surveyed

pub returns-in-Some-clause-asked : goal.returns-in-Some-clause-asked
returns-in-Some-clause-asked c = on_err_weaker c.add.result (λ asked.
    asks_last c.args.self.now (λ begun h.
    let line = c.in-Some.ensures.line begun h in (
      line.0,
      c.add.ensures.spelled begun line.1,
      (λ given lines l text spelled s.
          asked given lines l (subst (IsRawLine c.in-Some.raw) (sym text) line.1) spelled s),
    ))) c.add.ensures.asked
