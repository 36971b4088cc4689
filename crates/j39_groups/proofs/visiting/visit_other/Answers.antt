-- The texts of the row's field, or its one value.
use Rattle.std.proofs.Common.{refl}
use Rattle.j39_groups.specs.Fields.{IsSoundParts}
use Rattle.j39_groups.proofs.ReadyLemmas.{field_sound}
use Rattle.j39_groups.proofs.RowLemmas.{row_is}
use Rattle.j39_groups.proofs.VisitLemmas.{sees_texts}
use Rattle.j39_groups.proofs.visiting.visit_other.Goals as goal

pub value_in-requires : goal.value_in-requires
value_in-requires g c = field_sound c.args.row.now.field (row_is c.args.row.now c.requires).sound

pub bytes_from-requires : goal.bytes_from-requires
bytes_from-requires g c =
    let sound : IsSoundParts c.in-Some.byte c.in-Some.count = rw c.in-Some.ensures.some at (field_sound c.args.row.now.field (row_is c.args.row.now c.requires).sound) in
    sound.byte_starts

pub visit_texts-requires : goal.visit_texts-requires
visit_texts-requires g c = λ k.
    let sound : IsSoundParts c.in-Some.byte c.in-Some.count = rw c.in-Some.ensures.some at (field_sound c.args.row.now.field (row_is c.args.row.now c.requires).sound) in
    ((refl, tt), sound.few)

pub visit_value-requires : goal.visit_value-requires
visit_value-requires g c = λ k. ((refl, tt), (c.requires, c.value_in.ensures c.in-None.ensures.none))

pub returns-in-Some-clause-taken : goal.returns-in-Some-clause-taken
returns-in-Some-clause-taken g c =
    rw (← sees_texts c.args.bytes.now c.args.row.now c.in-Some.byte c.in-Some.count c.in-Some.ensures.some, ← c.bytes_from.ensures) c.visit_texts.ensures.taken

pub returns-in-Some-clause-stopped : goal.returns-in-Some-clause-stopped
returns-in-Some-clause-stopped g c =
    rw (← sees_texts c.args.bytes.now c.args.row.now c.in-Some.byte c.in-Some.count c.in-Some.ensures.some, ← c.bytes_from.ensures) c.visit_texts.ensures.stopped
