-- Only a part's place begins with `*`.
use Rattle.std.proofs.Common.{◌≡◌, ◌∙◌, Some, get_or, ap, sym, arith}
use Rattle.j39_table.proofs.PlaceLemmas.{star_place}
use Rattle.j39_table.proofs.position.plain_place.Goals as goal

pub returns-in-42 : goal.returns-in-42
returns-in-42 c = λ place good plain is.
    let star : get_or c.args.text.now 0 0 ≡ 42 = omega arith in
    let found = star_place place c.args.text.now good is star in
    c.part_in.ensures found.part found.few found.digits ∙ ap Some (sym found.place_is)
