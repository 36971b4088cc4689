-- All readings were taken, or some.
use Rattle.std.proofs.Common.{◌∙◌, [], ap, refl}
use Rattle.j39_groups.proofs.SightingLemmas.{told_are}
use Rattle.j39_io.proofs.PutsLemmas.{puts_done, puts_failed}
use Rattle.j39_listen.specs.HeardModel.{hearing_of}
use Rattle.j39_grid.specs.GridModels.{asked_of, rows_of}
use Rattle.j39_grid.specs.GridSoFar.{Begun, kept_of, rows_behind}
use Rattle.j39_grid.proofs.MessageLemmas.{none_yet, stops_among}
use Rattle.j39_grid.proofs.account.put_heard.Goals as goal

pub returns-in-Ok-clause-rows : goal.returns-in-Ok-clause-rows
returns-in-Ok-clause-rows g c =
    let rows = c.args.rows.now in
    let h = hearing_of c.args.heard.now in
    let begun : Begun = record { asked = asked_of rows.asked; hearing = h; rows = rows_of rows; writer = _ } in
    (c.in-Ok.ensures.taken begun [] (none_yet begun _ refl refl refl)).rows_are
    ∙ ap (λ rs. rows_behind (asked_of rows.asked) (rows_of rows) (kept_of (asked_of rows.asked) h rs)) (told_are c.args.groups.now h.message.pgn h.message.bytes)

pub returns-in-Ok-clause-same : goal.returns-in-Ok-clause-same
returns-in-Ok-clause-same g c =
    let rows = c.args.rows.now in
    let begun : Begun = record { asked = asked_of rows.asked; hearing = hearing_of c.args.heard.now; rows = rows_of rows; writer = record { bytes = _; has_failed = _ } } in
    (c.in-Ok.ensures.taken begun [] (none_yet begun _ refl refl refl)).asked_is

pub returns-in-Ok-clause-puts : goal.returns-in-Ok-clause-puts
returns-in-Ok-clause-puts g c =
    let rows = c.args.rows.now in
    let h = hearing_of c.args.heard.now in
    let begun : Begun = record { asked = asked_of rows.asked; hearing = h; rows = rows_of rows; writer = _ } in
    rw (← told_are c.args.groups.now h.message.pgn h.message.bytes)
    (puts_done _ _ _ _ (c.in-Ok.ensures.taken begun [] (none_yet begun _ refl refl refl)).written)

pub returns-in-Err-clause-puts : goal.returns-in-Err-clause-puts
returns-in-Err-clause-puts g c =
    let rows = c.args.rows.now in
    let h = hearing_of c.args.heard.now in
    let begun : Begun = record { asked = asked_of rows.asked; hearing = h; rows = rows_of rows; writer = _ } in
    let w = c.in-Err.ensures.stopped begun [] (none_yet begun _ refl refl refl) in
    rw (← told_are c.args.groups.now h.message.pgn h.message.bytes) (puts_failed _ _ _ _ refl
    (stops_among begun w.taken w.at w.rest _ _ w.sightings_are w.stopped))
