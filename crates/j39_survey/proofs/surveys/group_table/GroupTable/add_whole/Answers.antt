-- The group that it names has one more, or there is none.
use Rattle.j39_survey.proofs.Common.{ap, subst, sym, pgn_raw, Pgn}
use Rattle.std.specs.Prelude.{option_map}
use Rattle.j39_survey.specs.CameSoFar.{at_named, with_whole}
use Rattle.j39_survey.specs.SurveyModels.{HaveCounted}
use Rattle.j39_survey.proofs.surveys.group_table.GroupTable.add_whole.Goals as goal

pub returns-in-Some : goal.returns-in-Some
returns-in-Some c = λ came h.
    subst (λ n. HaveCounted c.change.new.self (at_named n with_whole came))
    (sym (ap (option_map (λ (pgn : Pgn). pgn_raw pgn)) c.in-Some.is)) (c.change.ensures with_whole (λ old new changes. changes) came h)

pub returns-in-None : goal.returns-in-None
returns-in-None c = λ came h.
    subst (λ n. HaveCounted c.args.self.now (at_named n with_whole came)) (sym (ap (option_map (λ (pgn : Pgn). pgn_raw pgn)) c.in-None.is)) h
