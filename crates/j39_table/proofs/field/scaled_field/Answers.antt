-- The first wrong column of a scale, behind the place.
use Rattle.std.proofs.Common.{arith, refl}
use Rattle.j39_table.proofs.FieldLemmas.{makes_bits, makes_full, makes_number, no_scale_of_part, no_scale_of_texts, wrong_scale}
use Rattle.j39_table.proofs.field.scaled_field.Goals as goal

pub returns-in-Err : goal.returns-in-Err
returns-in-Err c =
    let fault = c.in-Err.ensures in
    let makes = makes_number c.args.place c.in-Bytes.first c.in-Bytes.last c.in-Bytes.is c.requires.good c.requires.alone in
    wrong_scale c.args.place _ _ c.args.step.now c.args.offset.now c.args.unit.now c.in-Err.fault makes c.requires.number fault

pub returns-in-Err-scale_in : goal.returns-in-Err-scale_in
returns-in-Err-scale_in c =
    let fault = c.in-Err-scale_in.ensures in
    let makes = makes_bits c.args.place c.in-Bits.byte c.in-Bits.low c.in-Bits.count c.in-Bits.is c.requires.good c.requires.alone in
    wrong_scale c.args.place _ _ c.args.step.now c.args.offset.now c.args.unit.now c.in-Err-scale_in.fault makes c.requires.number fault

pub returns-in-Err-scale_in-2 : goal.returns-in-Err-scale_in-2
returns-in-Err-scale_in-2 c =
    let fault = c.in-Err-scale_in-2.ensures in
    let makes = makes_full c.args.place c.in-Full.byte c.in-Full.low c.in-Full.count c.in-Full.is_signed c.in-Full.is c.requires.good c.requires.alone in
    wrong_scale c.args.place _ _ c.args.step.now c.args.offset.now c.args.unit.now c.in-Err-scale_in-2.fault makes c.requires.number fault

pub returns-in-Part : goal.returns-in-Part
returns-in-Part c = record {
  count = 1;
  column = refl;
  within = omega arith;
  wrong = no_scale_of_part c.args.place c.in-Part.part c.args.step.now c.args.offset.now c.args.unit.now c.in-Part.is c.requires.good c.requires.alone c.requires.number;
}

pub returns-in-Texts : goal.returns-in-Texts
returns-in-Texts c = record {
  count = 1;
  column = refl;
  within = omega arith;
  wrong = no_scale_of_texts c.args.place c.in-Texts.byte c.args.step.now c.args.offset.now c.args.unit.now c.in-Texts.is c.requires.good c.requires.alone c.requires.number;
}
