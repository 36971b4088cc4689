-- The first column that is no dash.
use Rattle.std.proofs.Common.{arith, refl}
use Rattle.std.proofs.lemmas.Bool.{false≢true}
use Rattle.j39_table.proofs.FieldLemmas.{good_unscaled, no_offset, no_unit, no_unscaled}
use Rattle.j39_table.proofs.field.unscaled_field.Goals as goal

pub returns-in_default : goal.returns-in_default
returns-in_default c = record {
  count = 1;
  column = refl;
  within = omega arith;
  wrong = no_unscaled c.args.place c.args.offset.now c.args.unit.now c.requires.good c.requires.alone c.in_default.ensures.only;
}

pub returns-then-not-is_dash : goal.returns-then-not-is_dash
returns-then-not-is_dash c = record {
  count = 2;
  column = refl;
  within = omega arith;
  wrong = no_offset c.args.place _ c.args.offset.now c.args.unit.now c.requires.good c.in-Some.ensures.found (λ dash. false≢true (c.if-not-is_dash.ensures.1 dash));
}

pub returns-then-not-is_dash-2 : goal.returns-then-not-is_dash-2
returns-then-not-is_dash-2 c = record {
  count = 3;
  column = refl;
  within = omega arith;
  wrong = no_unit c.args.place _ c.args.offset.now c.args.unit.now c.requires.good c.in-Some.ensures.found (c.if-not-is_dash.ensures.0 refl) (λ dash. false≢true (c.if-not-is_dash-2.ensures.1 dash));
}

pub returns : goal.returns
returns c = good_unscaled c.args.place _ c.args.offset.now c.args.unit.now c.requires.good c.requires.alone c.in-Some.ensures.found (c.if-not-is_dash.ensures.0 refl) (c.if-not-is_dash-2.ensures.0 refl)
