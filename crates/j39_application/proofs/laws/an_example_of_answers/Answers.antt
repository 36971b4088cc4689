use Rattle.std.proofs.Common.{[], arith, refl}
use Rattle.std.proofs.lemmas.List.Elements.{All-cons, All-nil}
use Rattle.j39_application.specs.Answers.{Deed, Does}
use Rattle.j39_application.specs.Answers.Does.{unrefused}
use Rattle.j39_application.specs.Answers.IsVain.{unanswered}
use Rattle.j39_application.specs.Course.{no_room}
use Rattle.j39_application.proofs.laws.an_example_of_answers.Goals as goal

pub returns-clause-turns : goal.returns-clause-turns
returns-clause-turns c = (
  record {
    each = refl;
    does = All-cons (λ (d : Deed). Does 200001 d.request d.calls d.fate) no_room [] (unrefused [] (unanswered refl) refl (λ e. absurd (omega arith))) (All-nil (λ (d : Deed). Does 200001 d.request d.calls d.fate));
  },
  tt,
)

pub returns-clause-late : goal.returns-clause-late
returns-clause-late c = ((0, omega arith, refl), refl, λ e. absurd (omega arith))
