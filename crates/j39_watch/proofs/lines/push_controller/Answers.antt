-- The addresses, and then the NAME.
use Rattle.j39_watch.proofs.Common.{◌++◌, ◌∷◌, ◌∙◌, [], ap, append_assoc, refl, take, encode_upper, name_text}
use Rattle.j39_watch.proofs.CutLemmas.{cut_step}
use Rattle.j39_watch.specs.Watch.{destination_text}
use Rattle.j39_watch.specs.Watch.{column, controller_columns}
use Rattle.j39_watch.proofs.lines.push_controller.Goals as goal

pub returns-else-is_none-clause-cut : goal.returns-else-is_none-clause-cut
unfolding controller_columns
returns-else-is_none-clause-cut c =
    let w = c.args.line.now.width in
    let old = c.args.line.now.bytes.items in
    let first = column 5 (encode_upper (c.args.address ∷ []) ++ destination_text c.args.destination) in
    cut_step w _ (old ++ first) _ _ _ (column 16 (name_text c.args.name)) c.push_addresses.ensures.width refl c.push_addresses.ensures.cut c.push_name_column.ensures.cut
    ∙ ap (take w) (append_assoc old first (column 16 (name_text c.args.name)))
