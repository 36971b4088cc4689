-- A frame of a group that is heard, or of another.
use Rattle.std.proofs.Common.{Err, ◌≡◌, ◌∙◌, ap, false, refl, sym}
use Rattle.j39_frame.specs.Frame.{FrameRecord}
use Rattle.j39_frame.specs.Identifier.{pgn_of}
use Rattle.j39_groups.specs.Readings.{is_network_group, is_reported_in}
use Rattle.j39_listen.proofs.ListenerLemmas.{hears_single, outside_claims, silent_outside}
use Rattle.j39_listen.proofs.PieceLemmas.{same_fault}
use Rattle.j39_listen.proofs.Reported.{reported_leaves}
use Rattle.j39_grid.specs.GridModels.{asked_of, rows_of}
use Rattle.j39_grid.specs.declared.account.GridAccount.{GridAccount}
use Rattle.j39_grid.proofs.AccountLemmas.{grid_meets, grid_stops, notes_silent}
use Rattle.j39_grid.proofs.account.GridAccountAccount.feed.Goals as goal

pub note-requires-2 : goal.note-requires-2
note-requires-2 g c = c.is_reported-is_single.ensures ∙ ap (is_reported_in c.args.self.now.groups.now) (c.pgn.ensures ∙ ap (λ (x : FrameRecord). pgn_of x.id) c.frame.view_is)

pub returns-then-not-is_network_group-clause-met : goal.returns-then-not-is_network_group-clause-met
returns-then-not-is_network_group-clause-met g c =
    let self = c.args.self.now in
    let groups = self.groups.now in
    let frame = c.args.frame.now in
    let after : GridAccount = record { groups = self.groups; chooser = c.note.new.self; listener = self.listener; rows = self.rows; messages = c.saturating_add-self.result } in
    let other : is_reported_in groups (pgn_of frame.id) ≡ false =
    ap (is_reported_in groups) (sym (c.pgn.ensures ∙ ap (λ (x : FrameRecord). pgn_of x.id) c.frame.view_is)) ∙ (sym c.is_reported-is_single.ensures ∙ c.if-not-is_single.true) in
    let free : is_network_group (pgn_of frame.id) ≡ false =
    ap is_network_group (sym (c.pgn-then-not-is_single.ensures ∙ ap (λ (x : FrameRecord). pgn_of x.id) c.frame.view_is)) ∙ (sym c.is_network_group.ensures ∙ c.if-not-is_network_group.true) in
    λ subject. grid_meets subject self after refl refl frame 0 _ _ c.note.ensures (λ which F h chosen.
    notes_silent (record { asked = asked_of self.rows.asked; which = which; rows = groups }) self.listener F frame (rows_of self.rows) _
    (silent_outside (is_reported_in groups) (reported_leaves groups) self.listener F frame free other h)
    (hears_single self.listener F frame free (outside_claims frame free) h)) c.saturating_add-self.ensures

pub returns-in-Ok-clause-met : goal.returns-in-Ok-clause-met
returns-in-Ok-clause-met g c =
    let self = c.args.self.now in
    let after : GridAccount = record { groups = self.groups; chooser = c.note.new.self; listener = c.note-2.new.listener; rows = c.note-2.new.rows; messages = c.saturating_add-self-in-Ok.result } in
    λ subject. grid_meets subject self after refl c.in-Ok.ensures.same c.args.frame.now c.in-Ok.messages _ _ c.note.ensures c.in-Ok.ensures.noted c.saturating_add-self-in-Ok.ensures

pub returns-in-Err-clause-stops : goal.returns-in-Err-clause-stops
returns-in-Err-clause-stops g c = λ fails subject.
    grid_stops subject c.args.self.now c.args.frame.now _ _
    (λ F h chosen. c.in-Err.ensures.stops (ap Err (same_fault _ _ fails)) subject.which F h (c.note.ensures subject.which F chosen)) c.args.arg2.now

pub returns-in-Err-clause-asked : goal.returns-in-Err-clause-asked
returns-in-Err-clause-asked g c = λ fails subject F output met. c.in-Err.ensures.asked (ap Err (same_fault _ _ fails)) F met.hears
