-- Each of the four bytes is written as `\x` and its two digits.
use Rattle.std.proofs.Common.{◌≡◌, ◌∙◌, arith, sym, refl}
use Rattle.std.proofs.lemmas.Grind.{common_steps}
use Rattle.hex.specs.Hex.{encode_with}
use Rattle.j39_io.proofs.CsvLemmas.{front_is}
use Rattle.j39_io.proofs.csv.without_formula.Goals as goal

pub returns-in-61-clause-front : goal.returns-in-61-clause-front
unfolding encode_with
returns-in-61-clause-front c =
    sym (front_is c.args.field.now c.in-Some.rest.now c.in-Some.first.now 61 (grind (arith, common_steps)) c.in-61.is (sym c.is_empty.ensures ∙ c.if-is_empty.false) refl)

pub returns-in-43-clause-front : goal.returns-in-43-clause-front
unfolding encode_with
returns-in-43-clause-front c =
    sym (front_is c.args.field.now c.in-Some.rest.now c.in-Some.first.now 43 (grind (arith, common_steps)) c.in-43.is (sym c.is_empty.ensures ∙ c.if-is_empty.false) refl)

pub returns-in-45-clause-front : goal.returns-in-45-clause-front
unfolding encode_with
returns-in-45-clause-front c =
    sym (front_is c.args.field.now c.in-Some.rest.now c.in-Some.first.now 45 (grind (arith, common_steps)) c.in-45.is (sym c.is_empty.ensures ∙ c.if-is_empty.false) refl)

pub returns-in-64-clause-front : goal.returns-in-64-clause-front
unfolding encode_with
returns-in-64-clause-front c =
    sym (front_is c.args.field.now c.in-Some.rest.now c.in-Some.first.now 64 (grind (arith, common_steps)) c.in-64.is (sym c.is_empty.ensures ∙ c.if-is_empty.false) refl)
