-- A message of active codes is taken.
use Rattle.j39_fault_reports.proofs.Common.{◌≡◌, ◌++◌, ◌∙◌, List, ap, rules, subst, sym, true, cond-true, Hearing, hearing_of, in_time}
use Rattle.j39_fault_reports.specs.CurrentSoFar.{AreKept}
use Rattle.j39_fault_reports.specs.Spoken.{is_active_message}
use Rattle.j39_fault_reports.proofs.CurrentLemmas.{kept_more}
use Rattle.j39_fault_reports.proofs.FaultAccountLemmas.{in_time_yes}
use Rattle.j39_fault_reports.proofs.current_faults.account.take_heard.Goals as goal

pub returns-in-Ok-clause-taken : goal.returns-in-Ok-clause-taken
returns-in-Ok-clause-taken c =
    let active : is_active_message (hearing_of c.args.heard.now) ≡ true = search rules in
    λ which first ms now kept.
    subst (λ (xs : List Hearing). AreKept c.args.conversions.now c.take.new.self (ms ++ xs))
    (sym (ap (in_time which first) (cond-true _ _ _ active) ∙ in_time_yes which first (hearing_of c.args.heard.now) (sym now ∙ c.if-not-is_timely.false)))
    (kept_more c.args.conversions.now ms (hearing_of c.args.heard.now) c.in-Some.lamps c.args.places.now c.take.new.self (rw c.in-Some.is at (sym c.lamps_of.ensures)) c.is_byte-fits.ensures kept c.in-Ok.ensures.taken)
