-- Each part gives its lines behind those of the parts before it; after a fault a front of them was written.
use Rattle.std.proofs.Common.{◌≡◌, ◌≤◌, ◌-◌, ◌*◌, ℕ, List, take, drop, length, length-append, ap, sym, arith, rules}
use Rattle.std.specs.List.{flat_map}
use Rattle.std.proofs.lemmas.List.{length-take}
use Rattle.j39_groups.specs.declared.row.Row.{Row}
use Rattle.j39_groups.specs.Lines.{readings_by, row_lines}
use Rattle.j39_groups.specs.Value.{ReadingRecord}
use Rattle.j39_groups.proofs.ListLemmas.{flat_map-around, flat_map-part}
use Rattle.j39_io.proofs.PutsLemmas.{puts_as, puts_done, puts_first, puts_then}
use Rattle.j39_groups.specs.Rows.{is_row}
use Rattle.j39_groups.proofs.RowLemmas.{all_part}
use Rattle.j39_groups.proofs.group_lines.put_parts_of.Goals as goal

pub returns-in_err-more-clause-puts : goal.returns-in_err-more-clause-puts
returns-in_err-more-clause-puts g c =
    let text : Row → List ℕ = row_lines (drop c.args.from c.args.head.now) c.args.bytes.now in
    let rows = c.args.rows.now in
    let i = c.parts.at in
    let j = c.min-end.result in
    let up : i ≤ j = search rules in
    puts_as _ _ _ _ (sym (flat_map-around text rows i j up))
    (puts_then (flat_map text (take i rows)) _ _ _ _ _ _ c.parts.invariant.1
    (puts_first _ (flat_map text (drop j rows)) _ _ _ c.from_residual.ensures.0 c.in_err-more.ensures.puts))

pub parts-preserved : goal.parts-preserved
parts-preserved g c =
    let text : Row → List ℕ = row_lines (drop c.args.from c.args.head.now) c.args.bytes.now in
    let found : Row → List ReadingRecord = readings_by c.args.bytes.now in
    let rows = c.args.rows.now in
    let i = c.parts.at in
    let j = c.min-end.result in
    let part : List Row = take (j - i) (drop i rows) in
    let up : i ≤ j = search rules in
    let inside : j ≤ length rows = search rules in
    let more : c.in_ok-more.more ≡ length (flat_map found part) = c.in_ok-more.ensures.lines in
    let few : c.in_ok-more.more ≤ 32 * length part = c.in_ok-more.ensures.few in
    let counts = ap length (flat_map-part found rows i j up) in
    let both = length-append (flat_map found (take i rows)) (flat_map found part) in
    let short = length-take (j - i) (drop i rows) in
    let before = c.parts.invariant.2 in
    let fewer = c.parts.invariant.3 in (
      inside,
      puts_as _ _ _ _ (sym (flat_map-part text rows i j up))
          (puts_done _ _ _ _ (puts_then _ _ _ _ _ _ _ c.parts.invariant.1 c.in_ok-more.ensures.puts)),
      omega (arith, counts, both, before, more),
      omega (arith, up, few, short, fewer),
    )

pub put_part-requires-clause-sound : goal.put_part-requires-clause-sound
put_part-requires-clause-sound g c = all_part is_row c.args.rows.now c.parts.at (c.min-end.result - c.parts.at) c.requires.sound
