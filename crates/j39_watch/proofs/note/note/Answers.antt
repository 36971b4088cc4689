-- A frame of a group that is heard, or of another.
use Rattle.j39_watch.proofs.Common.{◌≡◌, ◌∙◌, ap, false, sym, FrameRecord, pgn_of, is_reported_in}
use Rattle.std.proofs.lemmas.Bool.{or_from, or_parts}
use Rattle.j39_watch.proofs.NoteLemmas.{notes_other}
use Rattle.j39_fault_reports.specs.News.{is_fault_group}
use Rattle.j39_listen.specs.RolesSoFar.{is_heard}
use Rattle.j39_watch.proofs.note.note.Goals as goal

pub note_heard-requires-clause-reported : goal.note_heard-requires-clause-reported
note_heard-requires-clause-reported c = c.of-role.ensures.role.single ∙ ap (λ (x : FrameRecord). is_reported_in c.args.roles.now.groups.now (pgn_of x.id)) c.frame.view_is

pub note_heard-requires-clause-fault : goal.note_heard-requires-clause-fault
note_heard-requires-clause-fault c = c.is_of_fault_group-is_fault.ensures ∙ ap is_fault_group (ap (λ (x : FrameRecord). pgn_of x.id) c.frame.view_is)

pub returns-then-not-is_either-clause-noted : goal.returns-then-not-is_either-clause-noted
returns-then-not-is_either-clause-noted c = λ which F before ms h chosen are kept.
    let groups = c.args.roles.now.groups.now in
    let f = c.args.frame.now in
    let neither = or_parts _ _ (sym c.is_either.ensures ∙ c.if-not-is_either.true) in
    let unheard : is_heard groups f.id ≡ false = ap (λ (x : FrameRecord). is_heard groups x.id) (sym c.frame.view_is) ∙ sym c.of-role.ensures.role.heard ∙ neither.0 in
    let fault : is_fault_group (pgn_of f.id) ≡ false =
    ap is_fault_group (ap (λ (x : FrameRecord). pgn_of x.id) (sym c.frame.view_is)) ∙ sym c.is_of_fault_group-is_fault.ensures ∙ neither.1 in
    let both = or_parts _ _ unheard in
    notes_other groups which F f c.args.listener.now c.args.values.now c.args.places.now before ms (or_from _ _ both.0 fault) both.1 h are kept
