-- The first silence, or one more.
use Rattle.std.proofs.Common.{◌≡◌, ◌∙◌, ◌++◌, ◌∷◌, [], ap, sym}
use Rattle.std.specs.Prelude.{option_map}
use Rattle.j39_survey.specs.GroupCounts.{spread_of}
use Rattle.j39_survey.specs.SurveyModels.{silence_record, spread_record}
use Rattle.j39_survey.proofs.GroupLemmas.{no_spread}
use Rattle.j39_survey.proofs.surveys.distances.Spread.grow.Goals as goal

pub returns-in-Some : goal.returns-in-Some
returns-in-Some c = λ ss is. c.add.ensures ss (sym (ap (option_map spread_record) c.in-Some.is) ∙ is)

pub returns-in-None : goal.returns-in-None
returns-in-None c = λ ss is.
    let none : ss ≡ [] = no_spread ss (sym (ap (option_map spread_record) c.in-None.is) ∙ is) in
    c.of.ensures ∙ ap (λ xs. spread_of (xs ++ silence_record c.args.silence ∷ [])) (sym none)
