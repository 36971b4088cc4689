use Rattle.j39_fault_reports.proofs.Common.{◌∙◌, List, ap, length, refl, sym, first_stamp, Hearing, all_heard, heard_below_unique}
use Rattle.j39_fault_reports.specs.Spoken.{active_among}
use Rattle.j39_fault_reports.specs.Silence.{last_stamp}
use Rattle.j39_fault_reports.specs.FaultsNowRun.{faults_now_of}
use Rattle.j39_fault_reports.specs.News.{is_fault_group}
use Rattle.j39_fault_reports.proofs.FaultAccountLemmas.{faults_leave}
use Rattle.j39_fault_reports.proofs.current_faults.laws.one_text.Goals as goal

pub returns-clause-some : goal.returns-clause-some
returns-clause-some c = λ form manner conversions which bus F.
    let h = all_heard is_fault_group faults_leave F in
    (faults_now_of form manner conversions which (first_stamp F) (last_stamp which F) (active_among h.0), (h.0, h.1, refl))

pub returns-clause-one : goal.returns-clause-one
returns-clause-one c = λ form manner conversions which bus F a b (hs, are_a, is_a) (ks, are_b, is_b).
    is_a ∙ ap (λ (ms : List Hearing). faults_now_of form manner conversions which (first_stamp F) (last_stamp which F) (active_among ms)) (heard_below_unique is_fault_group faults_leave F (length F) hs ks are_a are_b) ∙ sym is_b
