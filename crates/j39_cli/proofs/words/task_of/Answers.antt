-- The command that clap met is the one that was spelled.
use Rattle.j39_cli.proofs.Common.{◌≡◌, ◌∙◌, List, Some, ap, codes, inl, inr, subst, sym, IfOk-weaker, Row, Text, found_of, rows_of}
use Rattle.j39_cli.specs.CommandWords.{HasTexts}
use Rattle.j39_cli.proofs.MetLemmas.{met_is, texts_found-rows}
use Rattle.j39_cli.proofs.words.task_of.Goals as goal

pub returns-in-Some-clause-answer : goal.returns-in-Some-clause-answer
returns-in-Some-clause-answer c s met rows texts =
    let called = c.in-Some.name.now in
    let found = rows_of (found_of c.in-Some.given.now) in
    let both : Some met ≡ Some (called, found) =
    sym rows ∙ met_is c.args.matches.now called found (sym c.in-Some.ensures.name) (sym c.in-Some.ensures.rows) in
    let is : met ≡ (called, found) = cc in
    c.task_named.ensures.tells.answer s (subst (λ (q : Text × List Row). HasTexts s q) is texts)

pub returns-in-Some-clause-met : goal.returns-in-Some-clause-met
returns-in-Some-clause-met c =
    let called = c.in-Some.name.now in
    let found = rows_of (found_of c.in-Some.given.now) in
    IfOk-weaker c.task_named.result _ _ (λ _ (s, texts). (
      s,
      record {
        met = (called, found);
        met_is = met_is c.args.matches.now called found (sym c.in-Some.ensures.name) (sym c.in-Some.ensures.rows);
        texts = texts;
      },
      c.task_named.ensures.tells.answer s texts,
    )) c.task_named.ensures.tells.met

pub returns-in-Some-clause-memory : goal.returns-in-Some-clause-memory
returns-in-Some-clause-memory c = λ is. (
    let called = c.in-Some.name.now in
    let found = found_of c.in-Some.given.now in
    elim (c.task_named.ensures.memory is) [
      | inl named ↦ inl (sym c.in-Some.ensures.name ∙ ap (λ (name : Text). Some name) named)
      | inr some ↦ inr (
        (called, rows_of found),
        met_is c.args.matches.now called (rows_of found) (sym c.in-Some.ensures.name) (sym c.in-Some.ensures.rows),
        λ none. some (texts_found-rows found (codes "file") ∙ none),
      )
    ])
