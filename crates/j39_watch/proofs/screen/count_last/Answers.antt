-- Its lamps, and its codes.
use Rattle.j39_watch.proofs.Common.{◌∙◌, ap, capped, length}
use Rattle.j39_watch.proofs.ScreenLemmas.{counted_then, lights_then, of_codes, of_lights}
use Rattle.j39_watch.proofs.screen.count_last.Goals as goal

pub returns : goal.returns
returns c =
    let view = c.args.view in
    let last = c.args.last.now in
    counted_then _ _ _ (of_lights view c.args.address last) (of_codes view c.args.address last) c.count_lights-lights.ensures c.count_standings.ensures c.saturating_add.ensures
    ∙ ap (λ ls. capped (length ls)) (lights_then view c.args.address last)
