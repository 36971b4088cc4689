use Rattle.std.proofs.Common.{rules}
use Rattle.j39_web.specs.Writings.{makes}
use Rattle.j39_web.proofs.RoomLemmas.{makes_one, overflows}
use Rattle.j39_web.proofs.texts.made.Goals as goal

pub returns-clause-too_small : goal.returns-clause-too_small
returns-clause-too_small c = λ fails.
    let ran = c.run-ran.ensures in
    let table = c.args.groups.now in
    overflows (makes c.args.writing table) (makes_one c.args.writing table) c.args.log.bus c.args.log.bytes.now c.new-source.result.rest.now c.run-ran.result _ _ _ _ _ _ _
    (search rules) (search rules) ran.writes ran.cut_short (search rules) (search rules) (search rules) (c.told.ensures.too_small fails) (search rules)
