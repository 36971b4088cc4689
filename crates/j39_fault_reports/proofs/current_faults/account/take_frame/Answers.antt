-- At a frame that is passed over nothing is heard.
use Rattle.j39_fault_reports.proofs.Common.{◌∙◌, ap, sym, FrameRecord, pgn_of}
use Rattle.j39_groups.specs.Readings.{is_network_group}
use Rattle.j39_listen.proofs.ListenerLemmas.{hears_single, outside_claims, silent_outside}
use Rattle.j39_fault_reports.specs.News.{is_fault_group}
use Rattle.j39_fault_reports.proofs.CurrentAccountLemmas.{takes_silent}
use Rattle.j39_fault_reports.proofs.FaultAccountLemmas.{faults_leave}
use Rattle.j39_fault_reports.proofs.current_faults.account.take_frame.Goals as goal

pub returns-then-is_passed_over-clause-taken : goal.returns-then-is_passed_over-clause-taken
returns-then-is_passed_over-clause-taken c = λ which F ms h chosen kept.
    let same = sym (ap (λ (x : FrameRecord). pgn_of x.id) c.frame.view_is) in
    let other = ap is_fault_group same ∙ c.is_passed_over.ensures.faults c.if-is_passed_over.true in
    let free = ap is_network_group same ∙ c.is_passed_over.ensures.network c.if-is_passed_over.true in
    let f = c.args.frame.now in
    takes_silent which c.args.conversions.now F f _ c.args.places.now _ _ ms c.add_frame.ensures
    (silent_outside is_fault_group faults_leave c.args.listener.now F f free other h)
    (hears_single c.args.listener.now F f free (outside_claims f free) h) kept
