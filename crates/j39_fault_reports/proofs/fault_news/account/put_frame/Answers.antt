-- A message is heard at the frame, or none.
use Rattle.j39_fault_reports.proofs.Common.{◌≤◌, ◌∙◌, ◌++◌, ◌∷◌, List, [], None, Some, ap, inr, refl, length, subst, sym, FrameRecord, pgn_of, first_stamp, in_time, HeardAtWith, hearing_of, on_ok, if_ok, Hears}
use Rattle.j39_fault_reports.specs.News.{chosen_of, faults_among, is_fault_group}
use Rattle.j39_fault_reports.proofs.FaultAccountLemmas.{faults_leave, tells_nothing}
use Rattle.j39_fault_reports.proofs.HeardLemmas.{short_heard}
use Rattle.j39_fault_reports.specs.FaultsSoFar.{with_heard}
use Rattle.j39_fault_reports.specs.declared.fault_news.announced.Announced.{Announced}
use Rattle.j39_fault_reports.specs.FaultsSoFar.{manner_of}
use Rattle.j39_fault_reports.proofs.fault_news.account.put_frame.Given.{Over}
use Rattle.j39_fault_reports.proofs.fault_news.account.put_frame.Goals as goal

pub returns-in-Ok-None-clause-met : goal.returns-in-Ok-None-clause-met
returns-in-Ok-None-clause-met g c = λ F ms h chosen remembers.
    let single = ap is_fault_group (sym (ap (λ (x : FrameRecord). pgn_of x.id) c.frame.view_is)) ∙ sym c.is_of_fault_group-is_single.ensures in
    record {
      heard = None;
      announced_is = c.add_frame.ensures;
      heard_at = rw c.in-Ok-None.field-0-is at (c.in-Ok-None.ensures.heard is_fault_group faults_leave single F h);
      hears = on_ok _ _ _ _ c.in-Ok-None.is c.feed_as.follows.holds-at-none F h;
      tells = tells_nothing c.args.writing.form (manner_of c.args.writing) (chosen_of c.args.choice) (first_stamp (F ++ c.args.frame.now ∷ [])) c.args.last.now ms None c.default.result _ refl refl remembers c.default.ensures.0 c.default.ensures.1;
    }

-- a message is heard there, and it is short
heard_here : (g : Over) (c : goal.After-listener-in-Ok-Some-1 g) (F : List FrameRecord) → Hears c.args.listener.now F
    → HeardAtWith is_fault_group (F ++ c.args.frame.now ∷ []) (length F) (Some (hearing_of c.in-Ok-Some.heard))
heard_here g c F h =
    let single = ap is_fault_group (sym (ap (λ (x : FrameRecord). pgn_of x.id) c.frame.view_is)) ∙ sym c.is_of_fault_group-is_single.ensures in
    rw c.in-Ok-Some.field-0-is at (c.in-Ok-Some.ensures.heard is_fault_group faults_leave single F h)

short_here : (g : Over) (c : goal.After-listener-in-Ok-Some-1 g) (F : List FrameRecord) → Hears c.args.listener.now F → length (hearing_of c.in-Ok-Some.heard).message.bytes ≤ 1785
short_here g c F h =
    let few = subst (λ (x : FrameRecord). length x.bytes ≤ 8) c.frame.view_is c.frame.invariant.len in
    short_heard is_fault_group F c.args.frame.now (hearing_of c.in-Ok-Some.heard) few (heard_here g c F h)

pub returns-in-Ok-Some-clause-met : goal.returns-in-Ok-Some-clause-met
returns-in-Ok-Some-clause-met g c = if_ok c.put_heard.result _ _ (λ made met F ms h chosen remembers. record {
  heard = Some (hearing_of c.in-Ok-Some.heard);
  announced_is = c.add_heard.ensures ∙ ap (λ (x : Announced). with_heard x (hearing_of c.in-Ok-Some.heard)) c.add_frame.ensures;
  heard_at = heard_here g c F h;
  hears = on_ok _ _ _ _ c.in-Ok-Some.is c.feed_as.follows.holds-at-none F h;
  tells = met (first_stamp (F ++ c.args.frame.now ∷ [])) ms (c.is_in_time.ensures (chosen_of c.args.choice).asked (F ++ c.args.frame.now ∷ []) chosen) (c.takes.ensures (chosen_of c.args.choice).asked (F ++ c.args.frame.now ∷ []) chosen) remembers (short_here g c F h);
})
    c.put_heard.ensures.met

pub returns-in-Ok-Some-clause-stops : goal.returns-in-Ok-Some-clause-stops
returns-in-Ok-Some-clause-stops g c = λ fails F ms h chosen remembers. record {
  heard = Some (hearing_of c.in-Ok-Some.heard);
  heard_at = heard_here g c F h;
  front = c.put_heard.ensures.stops fails (first_stamp (F ++ c.args.frame.now ∷ [])) ms (c.takes.ensures (chosen_of c.args.choice).asked (F ++ c.args.frame.now ∷ []) chosen) remembers (short_here g c F h);
}

pub returns-in-Ok-Some-clause-asked : goal.returns-in-Ok-Some-clause-asked
returns-in-Ok-Some-clause-asked g c = λ fails F heard h are chosen remembers.
    let which = (chosen_of c.args.choice).asked in
    inr (record {
      before = heard;
      are_heard = are;
      message = hearing_of c.in-Ok-Some.heard;
      is_heard = heard_here g c F h;
      of_faults = c.put_heard.ensures.of_faults fails;
      now = sym (c.is_in_time.ensures which (F ++ c.args.frame.now ∷ []) chosen) ∙ c.put_heard.ensures.now fails;
      first = c.put_heard.ensures.first fails (in_time which (first_stamp (F ++ c.args.frame.now ∷ [])) (faults_among heard)) remembers;
    })
