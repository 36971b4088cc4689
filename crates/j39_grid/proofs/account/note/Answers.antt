-- A message is heard at the frame or none.
use Rattle.std.proofs.Common.{◌∙◌, ◌++◌, ◌∷◌, [], sym}
use Rattle.j39_groups.specs.Readings.{is_reported_in}
use Rattle.j39_listen.specs.HeardModel.{hearing_of}
use Rattle.j39_listen.proofs.ListenerLemmas.{on_ok}
use Rattle.j39_listen.proofs.Reported.{reported_free, reported_leaves}
use Rattle.j39_grid.specs.GridModels.{asked_of, rows_of}
use Rattle.j39_grid.specs.GridRun.{Subject}
use Rattle.j39_grid.proofs.AccountLemmas.{notes_heard, notes_left, notes_silent, stops_heard}
use Rattle.j39_grid.proofs.account.note.Goals as goal

pub feed_as-requires : goal.feed_as-requires
feed_as-requires g c = λ single. reported_free c.args.groups.now _ (sym c.requires ∙ single)

pub returns-in-Ok-None-clause-noted : goal.returns-in-Ok-None-clause-noted
returns-in-Ok-None-clause-noted g c = λ which F h chosen.
    let subject : Subject = record { asked = asked_of c.args.rows.now.asked; which = which; rows = c.args.groups.now } in
    notes_silent subject _ F c.args.frame.now (rows_of c.args.rows.now) _
    (rw c.in-Ok-None.field-0-is at (c.in-Ok-None.ensures.heard (is_reported_in c.args.groups.now) (reported_leaves c.args.groups.now) (sym c.requires) F h))
    (on_ok _ _ _ _ c.in-Ok-None.is c.feed_as.follows.holds-at-none F h)

pub returns-then-not-takes-clause-noted : goal.returns-then-not-takes-clause-noted
returns-then-not-takes-clause-noted g c = λ which F h chosen.
    let subject : Subject = record { asked = asked_of c.args.rows.now.asked; which = which; rows = c.args.groups.now } in
    notes_left subject _ F c.args.frame.now (hearing_of c.in-Ok-Some.heard) (rows_of c.args.rows.now) _
    (rw c.in-Ok-Some.field-0-is at (c.in-Ok-Some.ensures.heard (is_reported_in c.args.groups.now) (reported_leaves c.args.groups.now) (sym c.requires) F h))
    (on_ok _ _ _ _ c.in-Ok-Some.is c.feed_as.follows.holds-at-none F h)
    (sym (c.takes.ensures which (F ++ c.args.frame.now ∷ []) chosen) ∙ c.if-not-takes.true)

pub returns-in-Ok-clause-noted : goal.returns-in-Ok-clause-noted
returns-in-Ok-clause-noted g c = λ which F h chosen.
    let subject : Subject = record { asked = asked_of c.args.rows.now.asked; which = which; rows = c.args.groups.now } in
    notes_heard subject _ F c.args.frame.now (hearing_of c.in-Ok-Some.heard) (rows_of c.args.rows.now) (rows_of c.put_heard.new.rows) _ _
    (rw c.in-Ok-Some.field-0-is at (c.in-Ok-Some.ensures.heard (is_reported_in c.args.groups.now) (reported_leaves c.args.groups.now) (sym c.requires) F h))
    (on_ok _ _ _ _ c.in-Ok-Some.is c.feed_as.follows.holds-at-none F h)
    (sym (c.takes.ensures which (F ++ c.args.frame.now ∷ []) chosen) ∙ c.if-not-takes.false) c.in-Ok.ensures.rows c.in-Ok.ensures.puts.written

pub returns-in-Err-put_heard-clause-stops : goal.returns-in-Err-put_heard-clause-stops
returns-in-Err-put_heard-clause-stops g c = λ e which F h chosen.
    let subject : Subject = record { asked = asked_of c.args.rows.now.asked; which = which; rows = c.args.groups.now } in
    stops_heard subject F c.args.frame.now (hearing_of c.in-Ok-Some.heard) (rows_of c.args.rows.now) _ _
    (rw c.in-Ok-Some.field-0-is at (c.in-Ok-Some.ensures.heard (is_reported_in c.args.groups.now) (reported_leaves c.args.groups.now) (sym c.requires) F h))
    (sym (c.takes.ensures which (F ++ c.args.frame.now ∷ []) chosen) ∙ c.if-not-takes.false) c.in-Err-put_heard.ensures.puts.front
