-- The parts joined are the line.
use Rattle.std.proofs.Common.{◌≡◌, ◌∷◌, [], decimal, sym, rules}
use Rattle.std.specs.Prelude.{codes}
use Rattle.j39_io.specs.Chars.{newline}
use Rattle.j39_groups.proofs.TextLemmas.{columns_joined}
use Rattle.j39_io.proofs.PutsLemmas.{puts_as}
use Rattle.j39_groups.proofs.printed.put_columns.Goals as goal

pub returns : goal.returns
returns g c =
    let pgn : c.as_slice.result.now ≡ decimal c.args.pgn = search rules in
    let spn : c.as_slice-2.result.now ≡ decimal c.args.spn = search rules in
    let step : c.as_slice-3.result.now ≡ c.args.scale.now.step.items = search rules in
    let offset : c.as_slice-4.result.now ≡ c.args.scale.now.offset.items = search rules in
    let line = columns_joined c.as_slice.result.now c.args.group.now c.as_slice-2.result.now c.args.place.now c.as_slice-3.result.now c.as_slice-4.result.now
    c.args.scale.now.unit.now c.args.name.now (codes " ") (newline ∷ []) in
    rw (← pgn, ← spn, ← step, ← offset) (puts_as _ _ _ _ (sym line) c.put_parts.ensures)
