use Rattle.std.proofs.Common.{inl, inr, refl, rules, subst}
use Rattle.j39_table.specs.Tables.{IsFaultOf}
use Rattle.j39_web.specs.Text.{AsksSomewhere, Overflows}
use Rattle.j39_web.specs.Writings.{asks, makes}
use Rattle.j39_web.proofs.answers.tell.Goals as goal

-- the bus that was named is the one that was given
pub returns-in-Ok : goal.returns-in-Ok
returns-in-Ok c = record {
  made = search rules;
  fits = search rules;
  overflows = λ small. (
    c.in-Ok.groups,
    c.in-Ok.ensures.table,
    subst (λ bus. Overflows (makes c.args.writing c.in-Ok.groups) bus c.args.given.log.now c.made.new.room) c.in-Some.ensures.value (c.made.ensures.too_small (c.answer.ensures.too_small small)),
  );
  memory = λ refused. inr (
    c.in-Ok.groups,
    c.in-Ok.ensures.table,
    subst (λ bus. AsksSomewhere (asks c.args.writing c.in-Ok.groups) bus c.args.given.log.now) c.in-Some.ensures.value (c.made.ensures.memory (c.answer.ensures.memory refused)),
  );
  bus = search rules;
  table = search rules;
  answers = search rules;
  kept = search rules;
  untouched = search rules;
}

-- the table is none, or its rows want memory
pub returns-in-Err : goal.returns-in-Err
returns-in-Err c = record {
  made = search rules;
  fits = search rules;
  overflows = search rules;
  memory = λ no. inl (subst (λ fault. IsFaultOf c.args.given.table.now fault) (c.refused.ensures.memory no) c.in-Err.ensures.wrong);
  bus = search rules;
  table = λ wrong. (c.in-Err.fault, (c.in-Err.ensures.some, c.refused.ensures.wrong wrong, c.in-Err.ensures.wrong));
  answers = search rules;
  kept = λ _. refl;
  untouched = λ _. refl;
}
