-- A message is heard at the frame, or none.
use Rattle.j39_fault_reports.proofs.Common.{◌∙◌, ◌++◌, ◌∷◌, List, [], Some, ap, inr, length, sym, FrameRecord, pgn_of, first_stamp, in_time, HeardAtWith, hearing_of, Hears, on_ok, on_err_from}
use Rattle.j39_fault_reports.specs.Spoken.{active_among}
use Rattle.j39_fault_reports.specs.FaultsSoFar.{with_heard}
use Rattle.j39_fault_reports.specs.News.{is_fault_group}
use Rattle.j39_fault_reports.specs.declared.fault_news.announced.Announced.{Announced}
use Rattle.j39_fault_reports.proofs.CurrentAccountLemmas.{takes_silent}
use Rattle.j39_fault_reports.proofs.CurrentLemmas.{first_here}
use Rattle.j39_fault_reports.proofs.FaultAccountLemmas.{faults_leave}
use Rattle.j39_fault_reports.proofs.HeardLemmas.{both_ok}
use Rattle.j39_fault_reports.proofs.current_faults.account.take_spoken.Goals as goal

pub returns-in-Ok-None-clause-taken : goal.returns-in-Ok-None-clause-taken
returns-in-Ok-None-clause-taken c = λ which F ms h chosen kept.
    let single = ap is_fault_group (sym (ap (λ (x : FrameRecord). pgn_of x.id) c.frame.view_is)) ∙ sym c.is_of_fault_group-is_single.ensures in
    takes_silent which c.args.conversions.now F c.args.frame.now _ c.args.places.now _ _ ms c.add_frame.ensures (rw c.in-Ok-None.field-0-is at (c.in-Ok-None.ensures.heard is_fault_group faults_leave single F h))
    (on_ok _ _ _ _ c.in-Ok-None.is c.feed_as.follows.holds-at-none F h) kept

-- the message is heard there
heard_here : (c : goal.After-listener-in-Ok-Some-1) (F : List FrameRecord) → Hears c.args.listener.now F
    → HeardAtWith is_fault_group (F ++ c.args.frame.now ∷ []) (length F) (Some (hearing_of c.in-Ok-Some.heard))
heard_here c F h =
    let single = ap is_fault_group (sym (ap (λ (x : FrameRecord). pgn_of x.id) c.frame.view_is)) ∙ sym c.is_of_fault_group-is_single.ensures in
    rw c.in-Ok-Some.field-0-is at (c.in-Ok-Some.ensures.heard is_fault_group faults_leave single F h)

pub returns-in-Ok-Some-clause-taken : goal.returns-in-Ok-Some-clause-taken
returns-in-Ok-Some-clause-taken c = both_ok c.take_heard.result (λ messages count taken which F ms h chosen kept. record {
  heard = Some (hearing_of c.in-Ok-Some.heard);
  heard_at = heard_here c F h;
  hears = on_ok _ _ _ _ c.in-Ok-Some.is c.feed_as.follows.holds-at-none F h;
  announced_is = c.add_heard.ensures ∙ ap (λ (x : Announced). with_heard x (hearing_of c.in-Ok-Some.heard)) c.add_frame.ensures;
  are_kept = taken which (first_stamp (F ++ c.args.frame.now ∷ [])) ms (c.is_in_time-is_timely.ensures which (F ++ c.args.frame.now ∷ []) chosen) kept;
  messages_are = count;
}) c.take_heard.ensures.counted c.take_heard.ensures.taken

pub returns-in-Ok-Some-clause-asked : goal.returns-in-Ok-Some-clause-asked
returns-in-Ok-Some-clause-asked c = on_err_from c.take_heard.result _ _ (λ asked which F heard h chosen are kept.
    inr (record {
      before = heard;
      are_heard = are;
      message = hearing_of c.in-Ok-Some.heard;
      is_heard = heard_here c F h;
      of_active = asked.0;
      now = sym (c.is_in_time-is_timely.ensures which (F ++ c.args.frame.now ∷ []) chosen) ∙ asked.1;
      first = first_here c.args.conversions.now c.args.places.now (in_time which (first_stamp (F ++ c.args.frame.now ∷ [])) (active_among heard)) _ kept c.take_heard.ensures.fits asked.2;
    })) c.take_heard.ensures.asked
