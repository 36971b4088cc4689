-- The words are the line's, one behind the other.
use Rattle.std.proofs.Common.{◌∙◌, ap, rules, subst, sym}
use Rattle.j39_table.specs.Lines.{behind_word, first_word, without_spaces}
use Rattle.j39_table.specs.Names.{IsNumberOf, kind_said}
use Rattle.j39_table.proofs.names.spelled_in.Goals as goal

pub returns-in_default : goal.returns-in_default
returns-in_default c = λ names. sym (c.in_default.ensures ∙ ap kind_said c.word.ensures.word)

pub returns-in_default-number_in : goal.returns-in_default-number_in
returns-in_default-number_in c = λ names. (
  c.in-Some.kind,
  sym (c.in-Some.ensures ∙ ap kind_said c.word.ensures.word),
  λ number says.
      let text = c.word-2.ensures.word ∙ ap first_word c.word.ensures.rest in
      c.in_default-number_in.ensures.only number (subst (λ t. IsNumberOf c.in-Some.kind t number) (sym text) says),
)

pub returns-then-is_name : goal.returns-then-is_name
returns-then-is_name c =
    let found = c.in-Some-number_in.ensures.found in
    let text = c.word-2.ensures.word ∙ ap first_word c.word.ensures.rest in
    record {
      kind = sym (c.in-Some.ensures ∙ ap kind_said c.word.ensures.word);
      number = (sym text ∙ found.0, found.1);
      name_is = c.without_spaces-name.ensures ∙ ap without_spaces (c.word-2.ensures.rest ∙ ap behind_word c.word.ensures.rest);
      name = search rules;
    }

pub returns-else-is_name : goal.returns-else-is_name
returns-else-is_name c = λ names.
    let found = c.in-Some-number_in.ensures.found in
    let text = c.word-2.ensures.word ∙ ap first_word c.word.ensures.rest in
    (c.in-Some.kind, c.in-Some-number_in.number, sym (c.in-Some.ensures ∙ ap kind_said c.word.ensures.word), (sym text ∙ found.0, found.1), search rules)
