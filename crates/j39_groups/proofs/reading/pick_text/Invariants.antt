use Rattle.std.proofs.Common.{◌≡◌, ◌+◌, length, map, take}
use Rattle.std.specs.List.{flat_map}
use Rattle.std.specs.Option.{option_to_list}
use Rattle.j39_groups.specs.Parts.{parts_of}
use Rattle.j39_groups.specs.Readings.{filled_text_meaning}
use Rattle.j39_groups.specs.Value.{ReadingRecord}
use Rattle.j39_groups.proofs.reading.pick_text.Given as goal

-- what the parts so far give is left out
abbrev pub invariant-loop-part : goal.invariant-loop-part
invariant-loop-part l =
    l.initial.left ≡ length (flat_map (λ part. map (λ value. let r : ReadingRecord = record { spn = l.spn; value = value } in r) (option_to_list (filled_text_meaning part)))
    (take (length l.yielded) (take l.count (parts_of l.bytes)))) + l.left
