-- The first wrong column of a scale.
use Rattle.std.proofs.Common.{arith, refl}
use Rattle.std.proofs.lemmas.Bool.{false≢true}
use Rattle.j39_table.proofs.ScaleLemmas.{wrong_offset, wrong_step, wrong_unit}
use Rattle.j39_table.proofs.scale.scale_in.Goals as goal

pub returns-in_default : goal.returns-in_default
returns-in_default c = record {
  count = 0;
  column = refl;
  within = omega arith;
  wrong = wrong_step c.args.bits c.args.step.now c.args.offset.now c.args.unit.now c.requires.narrow c.in_default.ensures.only;
}

pub returns-in_default-offset_in : goal.returns-in_default-offset_in
returns-in_default-offset_in c = record {
  count = 1;
  column = refl;
  within = omega arith;
  wrong =
      wrong_offset c.args.bits c.in-Some.step c.in-Some.places c.room_of.result c.args.step.now c.args.offset.now c.args.unit.now
      (record { says = c.in-Some.ensures.found; only = c.in-Some.ensures.only }) c.room_of.ensures c.in_default-offset_in.ensures.only;
}

pub returns-then-not-is_word : goal.returns-then-not-is_word
returns-then-not-is_word c = record {
  count = 2;
  column = refl;
  within = omega arith;
  wrong =
      wrong_unit c.args.bits c.in-Some.step c.in-Some.places c.room_of.result c.in-Some-offset_in.offset c.args.step.now c.args.offset.now c.args.unit.now
      (record { says = c.in-Some.ensures.found; only = c.in-Some.ensures.only }) c.room_of.ensures
      (record { says = c.in-Some-offset_in.ensures.found; only = c.in-Some-offset_in.ensures.only })
      (λ word. false≢true (c.if-not-is_word.ensures.1 word));
}
