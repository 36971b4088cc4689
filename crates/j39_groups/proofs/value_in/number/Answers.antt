-- What is not valid is told by its top byte alone.
use Rattle.std.proofs.Common.{◌∙◌, ap}
use Rattle.std.specs.Prelude.{◌+ℤ◌, ◌*ℤ◌, pos}
use Rattle.j39_groups.specs.Models.{scale_record}
use Rattle.j39_groups.specs.Readings.{by_top_byte}
use Rattle.j39_groups.specs.Value.{number}
use Rattle.j39_groups.proofs.value_in.number.Goals as goal

pub returns-else-is_valid : goal.returns-else-is_valid
returns-else-is_valid c =
    let slot = scale_record c.args.scale.now in
    let valid = number (pos c.args.raw *ℤ slot.step +ℤ slot.offset) slot in
    c.word_by_top_byte.ensures slot valid ∙ ap (λ top. by_top_byte top valid) c.top_byte-top.ensures
