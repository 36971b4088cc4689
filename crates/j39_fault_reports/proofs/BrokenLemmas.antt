-- What a run that tells faults counts, by the account that it leaves.
use Rattle.j39_fault_reports.proofs.Common.{◌≡◌, ◌==◌, ℕ, false, List, Option, ap, subst, sym, pgn_of, transport_control_group, IfSome_then, Err, IfOk, IfSome, Ok, OnOk, Result, Turn, FrameRecord, Wanting, Making, Meeting, Output}
use Rattle.j39_listen.proofs.Reported.{announced_none}
use Rattle.j39_listen.specs.Ran.{Ran}
use Rattle.j39_listen.specs.Run.{HasMetLog}
use Rattle.j39_listen.specs.declared.counts.Counts.{Counts}
use Rattle.j39_listen.specs.declared.running.RunFault.{RunFault}
use Rattle.j39_fault_reports.specs.Broken.{AreBroken, ToldFaults, announces_codes, counts_in, is_code_group}
use Rattle.j39_fault_reports.specs.FaultsSoFar.{IsBroken}
use Rattle.j39_fault_reports.specs.declared.fault_news.run.FaultCounts.{FaultCounts}

-- a frame of another group than that of announcements announces nothing
pub announces_none : (f : FrameRecord) → (pgn_of f.id == transport_control_group) ≡ false → announces_codes f ≡ false
announces_none f other = ap is_code_group (announced_none f other)

-- the account, and how many it knows to be broken
module _ {A : Type 0} (has_met : Meeting A) (given : Option (List ℕ)) (account : A) (n : ℕ)
    (knows : (bus : List ℕ) (F : List FrameRecord) (output : Output) → has_met bus account F output → IsBroken F n) where
  abbrev HasMet_log : List ℕ → Type 0
  HasMet_log log = HasMetLog has_met given log account

  broken_in_log : (log : List ℕ) → HasMet_log log → AreBroken given log n
  broken_in_log log met =
      let b = knows _ _ met.output met.met in
      record { spelled = met.spelled; is_log = met.is_log; heard = b.heard; are_heard = b.are_heard; broken_is = b.broken_is }

  broken_at_end : (r : Result FaultCounts RunFault) (bytes : Option (List ℕ)) → IfOk r (λ told. told.broken ≡ n)
      → OnOk (counts_in r) (IfSome bytes HasMet_log) → IfOk r (λ told. IfSome bytes (λ log. AreBroken given log told.broken))
  broken_at_end (Ok told) bytes is met = rw is (IfSome_then bytes met broken_in_log)
  broken_at_end (Err fault) bytes is met = tt

  pub told_faults : (makes : Making) (asks : Wanting) (limit : ℕ) (r : Result FaultCounts RunFault) (ran : Result Counts RunFault) (log out : Turn) → counts_in r ≡ ran
      → Ran makes asks given limit ran log out → IfOk r (λ told. told.broken ≡ n) → OnOk ran (IfSome log.old.bytes HasMet_log)
      → ToldFaults makes asks given limit r log out
  told_faults makes asks limit r ran log out is run broken met = record {
    ran = subst (λ (x : Result Counts RunFault). Ran makes asks given limit x log out) (sym is) run;
    broken = broken_at_end r log.old.bytes broken (subst (λ (x : Result Counts RunFault). OnOk x (IfSome log.old.bytes HasMet_log)) (sym is) met);
  }
