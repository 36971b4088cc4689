-- The fields of the text begin with what `split_at` cuts off.
use Rattle.std.proofs.Common.{◌∙◌, ap, arith}
use Rattle.std.specs.List.{prefix_len}
use Rattle.j39_io.specs.Chars.{is_not_space}
use Rattle.j39_log.proofs.FieldLemmas.{first_field}
use Rattle.j39_log.proofs.fields.next_field.Goals as goal

pub returns : goal.returns
returns c =
    let len = c.field_len.ensures.value ∙ ap (prefix_len is_not_space) c.split_at.ensures.back in
    rw (c.split_at-2.ensures.front, c.split_at-2.ensures.back, c.split_at.ensures.back)
    (first_field c.args.text.now c.spaces_len-start.result c.field_len.result c.spaces_len-start.ensures len (omega arith))
