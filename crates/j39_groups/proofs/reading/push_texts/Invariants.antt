use Rattle.std.proofs.Common.{◌≡◌, ◌≤◌, ◌+◌, ◌++◌, map, take, length}
use Rattle.std.specs.List.{filter_map}
use Rattle.arrayvec.specs.ArrayVec.{array_vec_len}
use Rattle.j39_groups.specs.Parts.{parts_of}
use Rattle.j39_groups.specs.Readings.{filled_text_meaning}
use Rattle.j39_groups.specs.Value.{ReadingRecord}
use Rattle.j39_groups.specs.Models.{reading_of}
use Rattle.j39_groups.proofs.reading.push_texts.Given as goal

-- the parts so far are read, and each took one place at most
abbrev pub invariant-loop-part : goal.invariant-loop-part
invariant-loop-part l =
    (map reading_of l.found.items
    ≡ map reading_of l.initial.found.items
    ++ map (λ value. let r : ReadingRecord = record { spn = l.spn; value = value } in r)
    (filter_map filled_text_meaning (take (length l.yielded) (take l.count (parts_of l.bytes)))))
    × (array_vec_len l.found ≤ array_vec_len l.initial.found + length l.yielded)
