-- A message is heard at the frame or none, and its entries are taken or not.
use Rattle.std.proofs.Common.{List, None, Some, ◌∙◌, ap, sym}
use Rattle.j39_frame.specs.Frame.{FrameRecord}
use Rattle.j39_frame.specs.Identifier.{pgn_of}
use Rattle.j39_groups.specs.Readings.{is_reported_in}
use Rattle.j39_groups.specs.Row.{RowRecord}
use Rattle.j39_listen.specs.HeardModel.{hearing_of}
use Rattle.j39_listen.specs.ReportSoFar.{made_by}
use Rattle.j39_listen.proofs.ListenerLemmas.{on_ok}
use Rattle.j39_listen.proofs.ReportAccount.{meets_by, meets_heard, meets_silent, report_meets, report_stops, stops_by, stops_heard}
use Rattle.j39_listen.proofs.Reported.{reported_free, reported_leaves}
use Rattle.j39_listen.proofs.report.ReportAccount.feed.Goals as goal

pub feed_as-requires : goal.feed_as-requires
feed_as-requires g c = λ single. reported_free c.args.self.now.roles.groups.now _ (sym (c.of-role.ensures.role.single
    ∙ ap (λ (x : FrameRecord). is_reported_in c.args.self.now.roles.groups.now (pgn_of x.id)) c.frame.view_is) ∙ single)

pub returns-in-Ok-None-clause-met : goal.returns-in-Ok-None-clause-met
returns-in-Ok-None-clause-met g c =
    let self = c.args.self.now in
    let groups = self.roles.groups.now in
    let single = c.of-role.ensures.role.single ∙ ap (λ (x : FrameRecord). is_reported_in groups (pgn_of x.id)) c.frame.view_is in
    λ subject. report_meets g.E.EntryForm.text_by subject g.E.EntryForm.table_of self _ c.of-role.ensures.table (λ i. g.E.EntryForm.table_of self.form) c.args.frame.now c.note.ensures (made_by None) _ _
    (λ which F same h chosen. meets_silent g.E.EntryForm.text_by (record { rows = groups; which = which }) _ F c.args.frame.now _
    (rw c.in-Ok-None.field-0-is at (c.in-Ok-None.ensures.heard (is_reported_in groups) (reported_leaves groups) (sym single) F h))
    (on_ok _ _ _ _ c.in-Ok-None.is c.feed_as.follows.holds-at-none F h)) c.and-self.ensures

pub returns-in-Ok-clause-met : goal.returns-in-Ok-clause-met
returns-in-Ok-clause-met g c =
    let self = c.args.self.now in
    let rows = g.E.EntryForm.table_of self.form in
    let single = c.of-role.ensures.role.single ∙ ap (λ (x : FrameRecord). is_reported_in self.roles.groups.now (pgn_of x.id)) c.frame.view_is in
    λ subject. report_meets g.E.EntryForm.text_by subject g.E.EntryForm.table_of self _ c.of-role.ensures.table c.in-Ok.ensures.table c.args.frame.now c.note.ensures (made_by (Some c.in-Ok.lines)) _ _
    (λ which F same h chosen. meets_by g.E.EntryForm.text_by same
    (meets_heard g.E.EntryForm.text_by (record { rows = rows; which = which }) _ F c.args.frame.now (hearing_of c.in-Ok-Some.heard) c.takes-is_taken.result c.in-Ok.lines _ _
    (rw c.in-Ok-Some.field-0-is at (c.in-Ok-Some.ensures.heard (is_reported_in rows) (reported_leaves rows)
    (sym (single ∙ ap (λ (x : List RowRecord). is_reported_in x (pgn_of c.args.frame.now.id)) (sym same))) F h))
    (on_ok _ _ _ _ c.in-Ok-Some.is c.feed_as.follows.holds-at-none F h) (c.takes-is_taken.ensures which _ chosen)
    c.in-Ok.ensures.lines c.in-Ok.ensures.puts.written)) c.and-self-in-Ok.ensures

pub returns-in-Err-put_taken-clause-stops : goal.returns-in-Err-put_taken-clause-stops
returns-in-Err-put_taken-clause-stops g c = λ fails subject.
    let self = c.args.self.now in
    let rows = g.E.EntryForm.table_of self.form in
    let single = c.of-role.ensures.role.single ∙ ap (λ (x : FrameRecord). is_reported_in self.roles.groups.now (pgn_of x.id)) c.frame.view_is in
    report_stops g.E.EntryForm.text_by subject g.E.EntryForm.table_of self c.args.frame.now _ _
    (λ F same h chosen. stops_by g.E.EntryForm.text_by same
    (stops_heard g.E.EntryForm.text_by (record { rows = rows; which = subject.which }) F c.args.frame.now (hearing_of c.in-Ok-Some.heard) c.takes-is_taken.result _ _
    (rw c.in-Ok-Some.field-0-is at (c.in-Ok-Some.ensures.heard (is_reported_in rows) (reported_leaves rows)
    (sym (single ∙ ap (λ (x : List RowRecord). is_reported_in x (pgn_of c.args.frame.now.id)) (sym same))) F h))
    (c.takes-is_taken.ensures subject.which _ (c.note.ensures subject.which F chosen)) c.in-Err-put_taken.ensures.puts.front)) c.args.arg2.now
