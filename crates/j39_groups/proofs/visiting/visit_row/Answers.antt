-- A number, a switch, or what else the row's field holds.
use Rattle.std.proofs.Common.{ap, arith, refl}
use Rattle.std.specs.Option.{option_to_list}
use Rattle.j39_groups.specs.Fields.{IsSoundBytes, IsSoundPair}
use Rattle.j39_groups.specs.Readings.{values_at}
use Rattle.j39_groups.proofs.ReadyLemmas.{field_sound}
use Rattle.j39_groups.proofs.RowLemmas.{row_is}
use Rattle.j39_groups.proofs.visiting.visit_row.Goals as goal

pub number_of-requires : goal.number_of-requires
number_of-requires g c =
    let sound : IsSoundBytes c.in-Number.first c.in-Number.last c.in-Number.scale = rw c.in-Number.is at (field_sound c.args.row.now.field (row_is c.args.row.now c.requires).sound) in
    sound

pub visit_short-requires : goal.visit_short-requires
unfolding values_at
visit_short-requires g c = λ k. ((refl, tt), (c.requires, rw c.in-Number.is (ap option_to_list c.number_of.ensures)))

pub switch_at-requires-clause-byte : goal.switch_at-requires-clause-byte
switch_at-requires-clause-byte g c =
    let sound : IsSoundPair c.in-Switch.byte c.in-Switch.low c.in-Switch.high = rw c.in-Switch.is at (field_sound c.args.row.now.field (row_is c.args.row.now c.requires).sound) in
    sound.byte_starts

pub switch_at-requires-clause-starts : goal.switch_at-requires-clause-starts
switch_at-requires-clause-starts g c =
    let sound : IsSoundPair c.in-Switch.byte c.in-Switch.low c.in-Switch.high = rw c.in-Switch.is at (field_sound c.args.row.now.field (row_is c.args.row.now c.requires).sound) in
    sound.starts

pub switch_at-requires-clause-ends : goal.switch_at-requires-clause-ends
switch_at-requires-clause-ends g c =
    let sound : IsSoundPair c.in-Switch.byte c.in-Switch.low c.in-Switch.high = rw c.in-Switch.is at (field_sound c.args.row.now.field (row_is c.args.row.now c.requires).sound) in
    omega (arith, sound.two, sound.ends)

pub visit_switch-requires : goal.visit_switch-requires
unfolding values_at
visit_switch-requires g c = λ k. ((refl, tt), (c.requires, rw c.in-Switch.is (ap option_to_list c.switch_at.ensures)))
