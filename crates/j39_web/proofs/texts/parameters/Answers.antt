use Rattle.std.proofs.Common.{rules}
use Rattle.j39_groups.specs.Printed.{rows_text}
use Rattle.j39_web.proofs.RoomLemmas.{put_overflows}
use Rattle.j39_web.proofs.texts.parameters.Goals as goal

pub returns-clause-too_small : goal.returns-clause-too_small
returns-clause-too_small c = λ fails.
    let ran = c.put-ran.ensures in
    put_overflows (rows_text c.args.groups.now) c.put-ran.result c.written.result _ _ _ _ _ _ _
    (search rules) ran.written ran.front (search rules) c.written.ensures.ok (c.told.ensures.too_small fails) (search rules)
