-- A text that says a place says no other.
use Rattle.std.proofs.Common.{arith, refl}
use Rattle.j39_table.proofs.FieldLemmas.{alone_place, wrong_place}
use Rattle.j39_table.proofs.field.field_in.Goals as goal

pub returns-in_default : goal.returns-in_default
returns-in_default c = record { count = 0; column = refl; within = omega arith; wrong = wrong_place c.args.place.now c.args.step.now c.args.offset.now c.args.unit.now (λ place good is. let never = c.in_default.ensures.only place good is in cc) }

pub unscaled_field-requires-clause-alone : goal.unscaled_field-requires-clause-alone
unscaled_field-requires-clause-alone c = alone_place c.in-Some.place c.args.place.now c.in-Some.ensures.found.1 c.in-Some.ensures.only

pub scaled_field-requires-clause-alone : goal.scaled_field-requires-clause-alone
scaled_field-requires-clause-alone c = alone_place c.in-Some.place c.args.place.now c.in-Some.ensures.found.1 c.in-Some.ensures.only
