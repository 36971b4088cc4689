-- What is heard at the frame goes to the rows.
use Rattle.j39_reports.proofs.Common.{◌∙◌, ap, refl, FrameRecord, pgn_of, is_reported_in}
use Rattle.j39_reports.specs.declared.summaries.account.SummaryAccount.{SummaryAccount}
use Rattle.j39_reports.proofs.SummaryAccountLemmas.{summary_asks, summary_meets}
use Rattle.j39_reports.proofs.summaries.account.SummaryAccountAccount.feed.Goals as goal

pub note-requires-2 : goal.note-requires-2
note-requires-2 g c = c.of-role.ensures.role.single ∙ ap (λ (x : FrameRecord). is_reported_in c.args.self.now.roles.groups.now (pgn_of x.id)) c.frame.view_is

pub returns-in-Ok-clause-met : goal.returns-in-Ok-clause-met
returns-in-Ok-clause-met g c =
    let after : SummaryAccount = record { roles = c.of-role.new.self; form = c.args.self.now.form; chooser = c.note.new.self; listener = c.note-2.new.listener; rows = c.note-2.new.rows; messages = c.saturating_add-self.result } in
    λ subject. summary_meets subject.form subject.which subject.rows c.args.self.now after c.of-role.ensures.table refl c.args.frame.now c.in-Ok.messages _ c.note.ensures c.in-Ok.ensures.noted c.saturating_add-self.ensures

pub returns-in-Err-clause-asked : goal.returns-in-Err-clause-asked
returns-in-Err-clause-asked g c = λ fails subject F output has.
    summary_asks subject.form subject.which subject.rows c.args.self.now c.note.new.self c.args.frame.now c.in-Err.ensures.asked c.note.ensures F output has
