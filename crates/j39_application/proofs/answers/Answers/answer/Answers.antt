use Rattle.std.proofs.Common.{◌∙◌, ap, if◌then◌else◌, length, nat_le, refl, sym}
use Rattle.std.specs.Option.{is_some}
use Rattle.j39_transfers.proofs.BoxLemmas.{any_placed}
use Rattle.j39_application.specs.Answers.{lacks}
use Rattle.j39_application.specs.Boxes.{asked_of, in_box, open_in}
use Rattle.j39_application.specs.Shown.{answers_of}
use Rattle.j39_application.specs.declared.asked.Open.{Open as Boxed}
use Rattle.j39_application.proofs.AnswerLemmas.{and_not, and_so, given, keeps, keeps_none}
use Rattle.j39_application.proofs.answers.Answers.answer.Goals as goal

pub returns-in-Some-clause-known : goal.returns-in-Some-clause-known
returns-in-Some-clause-known c =
    let items = c.args.self.now.kept.current.items in
    let r = asked_of c.args.asked in
    c.answer.ensures.known
    ∙ and_so (nat_le (length c.args.bytes.now) 1785) _ (sym (any_placed in_box (lacks r) items) ∙ ap is_some (sym c.place_of.ensures ∙ c.in-Some.is))

pub returns-in-Some-clause-keeps : goal.returns-in-Some-clause-keeps
returns-in-Some-clause-keeps c =
    let items = c.args.self.now.kept.current.items in
    let at = c.deref_mut.ensures.value ∙ ap (λ b. b.value) c.index_mut.ensures.value in
    keeps in_box (asked_of c.args.asked) c.args.bytes.now c.index_mut.result.now _ items c.in-Some.place (answers_of c.args.self.now) c.answer.result
    (sym c.in-Some.is ∙ c.place_of.ensures) c.answer.ensures.known refl
    (c.answer.ensures.keeps ∙ ap (λ (o : Boxed). if c.answer.result then given c.args.bytes.now (open_in o) else open_in o) at)

pub returns-in-None-clause-known : goal.returns-in-None-clause-known
returns-in-None-clause-known c =
    let items = c.args.self.now.kept.current.items in
    let r = asked_of c.args.asked in
    and_not (nat_le (length c.args.bytes.now) 1785) _ (sym (any_placed in_box (lacks r) items) ∙ ap is_some (sym c.place_of.ensures ∙ c.in-None.is))

pub returns-in-None-clause-keeps : goal.returns-in-None-clause-keeps
returns-in-None-clause-keeps c =
    keeps_none in_box (asked_of c.args.asked) c.args.bytes.now c.args.self.now.kept.current.items (answers_of c.args.self.now) (sym c.in-None.is ∙ c.place_of.ensures) refl
