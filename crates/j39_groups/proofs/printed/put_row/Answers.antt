-- The columns of the row.
use Rattle.std.proofs.Common.{◌≡◌, rules}
use Rattle.j39_groups.specs.Models.{field_record}
use Rattle.j39_groups.specs.Printed.{place_text, row_text}
use Rattle.j39_groups.proofs.ReadyLemmas.{field_sound}
use Rattle.j39_groups.proofs.RowLemmas.{row_is}
use Rattle.j39_groups.proofs.printed.put_row.Goals as goal

pub returns : goal.returns
unfolding row_text
returns g c =
    let place : c.as_slice.result.now ≡ place_text (field_record c.args.row.now.field) = search rules in
    rw (← place, ← c.scale_of-scale.ensures) c.put_columns.ensures

pub place_of-place-requires : goal.place_of-place-requires
place_of-place-requires g c = field_sound c.args.row.now.field (row_is c.args.row.now c.requires).sound

pub scale_of-scale-requires : goal.scale_of-scale-requires
scale_of-scale-requires g c = field_sound c.args.row.now.field (row_is c.args.row.now c.requires).sound
