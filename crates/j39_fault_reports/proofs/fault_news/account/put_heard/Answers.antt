-- A message of another kind, or one of faults that is told or not.
use Rattle.j39_fault_reports.proofs.Common.{◌≡◌, ◌∙◌, true, false, not-false, not-true, refl, ◌<◌, ◌≤◌, ◌&&◌, ◌∷◌, [], ℕ, List, Result, Ok, Err, Some, length, sym, IfOk, OnOk, Turn, is_in_time, takes_message, Hearing, hearing_of, LineFault, Made}
use Rattle.j39_fault_reports.specs.Faults.{clearing_of}
use Rattle.j39_fault_reports.specs.News.{chosen_of}
use Rattle.j39_fault_reports.specs.Remembered.{Remembers, before_of, noted, said_in, tells_changes}
use Rattle.j39_fault_reports.specs.LastMessages.{name_of}
use Rattle.j39_fault_reports.specs.Places.{HaveTaken}
use Rattle.j39_fault_reports.specs.FaultsSoFar.{Tells, TellsFaults, tells_clearing, told_faults, told_since}
use Rattle.j39_fault_reports.proofs.PutLemmas.{clearing_front, no_group, no_lamps, of_faults, tells_asking, tells_front, tells_message, tells_other, tells_passed}
use Rattle.j39_fault_reports.proofs.TellLemmas.{first_is}
use Rattle.j39_fault_reports.specs.FaultsSoFar.{manner_of}
use Rattle.j39_fault_reports.proofs.fault_news.account.put_heard.Given.{Over}
use Rattle.j39_fault_reports.proofs.fault_news.account.put_heard.Goals as goal

pub returns-in_default-fault_group-clause-met : goal.returns-in_default-fault_group-clause-met
returns-in_default-fault_group-clause-met g c = λ first ms now asked h short.
    tells_other c.args.writing.form (manner_of c.args.writing) (chosen_of c.args.choice) first c.args.last.now ms (hearing_of c.args.heard.now) c.default.result _ (no_group (hearing_of c.args.heard.now) (sym c.cleared_in.ensures ∙ c.in_default.is) (sym c.fault_group.ensures ∙ c.in_default-fault_group.is)) h
    c.default.ensures.0 c.default.ensures.1

pub returns-in_default-lamps_of-clause-met : goal.returns-in_default-lamps_of-clause-met
returns-in_default-lamps_of-clause-met g c = λ first ms now asked h short.
    tells_other c.args.writing.form (manner_of c.args.writing) (chosen_of c.args.choice) first c.args.last.now ms (hearing_of c.args.heard.now) c.default-in_default-lamps_of.result _
    (no_lamps (hearing_of c.args.heard.now) c.in-Some-fault_group.kind (sym c.cleared_in.ensures ∙ c.in_default.is) (sym c.fault_group.ensures ∙ c.in-Some-fault_group.is) (sym c.lamps_of.ensures ∙ c.in_default-lamps_of.is)) h c.default-in_default-lamps_of.ensures.0 c.default-in_default-lamps_of.ensures.1

-- ---- one of codes

below : (g : Over) (c : goal.After-put_since g) → c.args.heard.now.message.source < 256
below g c = c.is_byte-fits.ensures

pub returns-then-not-asked-clause-met : goal.returns-then-not-asked-clause-met
returns-then-not-asked-clause-met g c = λ first ms now asked h short.
    tells_passed c.args.writing.form (manner_of c.args.writing) (chosen_of c.args.choice) first c.args.last.now ms (hearing_of c.args.heard.now) c.in-Some-fault_group.kind c.in-Some-lamps_of.lamps c.args.asked.is_taken asked _
    refl (sym c.cleared_in.ensures ∙ c.in_default.is) (sym c.fault_group.ensures ∙ c.in-Some-fault_group.is)
    (sym c.lamps_of.ensures ∙ c.in-Some-lamps_of.is) c.is_byte-fits.ensures h _ _ (sym now ∙ not-true _ c.if-not-asked.true) refl refl

pub returns-clause-met : goal.returns-clause-met
returns-clause-met g c = met c.put_since.result _ c.put_since.ensures.tells c.put_since.ensures.noted c.put_since.ensures.alone c.put_since.ensures.moved
  where
    met : (r : Result Made LineFault) (sink : Turn)
        → TellsFaults c.args.writing.form (manner_of c.args.writing) (told_faults c.args.asked.is_taken (told_since c.args.choice.telling c.version_of-version.result (before_of c.args.choice.telling c.args.last.now c.in-Some-fault_group.kind (hearing_of c.args.heard.now))
        (hearing_of c.args.heard.now) c.in-Some-fault_group.kind c.in-Some-lamps_of.lamps)) r sink
        → OnOk r (tells_changes c.args.choice.telling c.in-Some-fault_group.kind ≡ false
        → c.put_since.new.last ≡ noted c.args.last.now c.in-Some-fault_group.kind c.args.heard.now.message.source (said_in (hearing_of c.args.heard.now)))
        → OnOk r (tells_changes c.args.choice.telling c.in-Some-fault_group.kind ≡ true → c.put_since.new.last ≡ record c.args.last.now { active = c.put_since.new.last.active })
        → OnOk r (tells_changes c.args.choice.telling c.in-Some-fault_group.kind ≡ true
        → HaveTaken name_of c.args.last.now.active (hearing_of c.args.heard.now).name c.args.heard.now.message.source (said_in (hearing_of c.args.heard.now)) c.put_since.new.last.active)
        → IfOk r (λ made. (first : ℕ) (ms : List Hearing) → c.args.asked.is_in_time ≡ is_in_time (chosen_of c.args.choice).asked first (hearing_of c.args.heard.now).stamp → c.args.asked.is_taken ≡ takes_message (chosen_of c.args.choice).asked first (hearing_of c.args.heard.now) → Remembers c.args.choice.telling c.args.last.now ms → length c.args.heard.now.message.payload.now ≤ 1785
        → Tells c.args.writing.form (manner_of c.args.writing) (chosen_of c.args.choice) first c.put_since.new.last ms (Some (hearing_of c.args.heard.now)) made sink.old.bytes sink.new.bytes)
    met (Err e) sink tells notes alone moved = tt
    met (Ok made) sink tells notes alone moved = λ first ms now asked h short.
        tells_message c.args.writing.form (manner_of c.args.writing) (chosen_of c.args.choice) first c.args.last.now ms (hearing_of c.args.heard.now) c.in-Some-fault_group.kind c.in-Some-lamps_of.lamps c.args.asked.is_taken asked _
        c.version_of-version.ensures (sym c.cleared_in.ensures ∙ c.in_default.is) (sym c.fault_group.ensures ∙ c.in-Some-fault_group.is)
        (sym c.lamps_of.ensures ∙ c.in-Some-lamps_of.is) (below g c) h c.put_since.new.last made _ _ (sym now ∙ not-false _ c.if-not-asked.false) short notes alone moved tells.made.0 tells.made.1 tells.made.2 tells.written

pub returns-clause-stops : goal.returns-clause-stops
returns-clause-stops g c = λ fails first ms asked h short.
    tells_front c.args.writing.form (manner_of c.args.writing) (chosen_of c.args.choice) first c.args.last.now ms (hearing_of c.args.heard.now) c.in-Some-fault_group.kind c.in-Some-lamps_of.lamps c.args.asked.is_taken asked _
    c.version_of-version.ensures (sym c.cleared_in.ensures ∙ c.in_default.is) (sym c.fault_group.ensures ∙ c.in-Some-fault_group.is)
    (sym c.lamps_of.ensures ∙ c.in-Some-lamps_of.is) (below g c) h _ _ (c.put_since.ensures.tells.stops fails)

pub returns-clause-writer : goal.returns-clause-writer
returns-clause-writer g c = c.put_since.ensures.tells.writer

pub returns-clause-of_faults : goal.returns-clause-of_faults
returns-clause-of_faults g c = λ fails.
    of_faults (hearing_of c.args.heard.now) c.in-Some-fault_group.kind c.in-Some-lamps_of.lamps (sym c.fault_group.ensures ∙ c.in-Some-fault_group.is) (sym c.lamps_of.ensures ∙ c.in-Some-lamps_of.is)

pub returns-clause-now : goal.returns-clause-now
returns-clause-now g c = λ fails. not-false _ c.if-not-asked.false

pub returns-clause-first : goal.returns-clause-first
returns-clause-first g c = λ fails ms h.
    first_is c.args.choice.telling c.args.last.now ms (hearing_of c.args.heard.now) c.in-Some-fault_group.kind h (sym c.fault_group.ensures ∙ c.in-Some-fault_group.is) (below g c) (c.put_since.ensures.first fails)

-- ---- one that asks to clear codes

pub returns-in-Some-clause-met : goal.returns-in-Some-clause-met
returns-in-Some-clause-met g c = met c.put_asked.result _ (rw c.tells_clearing-is_told.ensures at c.put_asked.ensures.tells)
  where
    met : (r : Result Made LineFault) (sink : Turn)
        → TellsFaults c.args.writing.form (manner_of c.args.writing) (told_faults (tells_clearing c.args.choice.telling && c.args.asked.is_taken) (clearing_of (hearing_of c.args.heard.now) c.in-Some.kind ∷ [])) r sink
        → IfOk r (λ made. (first : ℕ) (ms : List Hearing) → c.args.asked.is_in_time ≡ is_in_time (chosen_of c.args.choice).asked first (hearing_of c.args.heard.now).stamp → c.args.asked.is_taken ≡ takes_message (chosen_of c.args.choice).asked first (hearing_of c.args.heard.now) → Remembers c.args.choice.telling c.args.last.now ms → length c.args.heard.now.message.payload.now ≤ 1785
        → Tells c.args.writing.form (manner_of c.args.writing) (chosen_of c.args.choice) first c.args.last.now ms (Some (hearing_of c.args.heard.now)) made sink.old.bytes sink.new.bytes)
    met (Err e) sink tells = tt
    met (Ok made) sink tells = λ first ms now asked h short.
        tells_asking c.args.writing.form (manner_of c.args.writing) (chosen_of c.args.choice) first c.args.last.now ms (hearing_of c.args.heard.now) c.in-Some.kind c.args.asked.is_taken asked
        (sym c.cleared_in.ensures ∙ c.in-Some.is) made _ _ h short tells.made.0 tells.made.1 tells.made.2 tells.written

pub returns-in-Some-clause-stops : goal.returns-in-Some-clause-stops
returns-in-Some-clause-stops g c = λ fails first ms asked h short.
    let tells : TellsFaults c.args.writing.form (manner_of c.args.writing) (told_faults (tells_clearing c.args.choice.telling && c.args.asked.is_taken) (clearing_of (hearing_of c.args.heard.now) c.in-Some.kind ∷ [])) c.put_asked.result _ =
    rw c.tells_clearing-is_told.ensures at c.put_asked.ensures.tells in
    clearing_front c.args.writing.form (manner_of c.args.writing) (chosen_of c.args.choice) first c.args.last.now ms (hearing_of c.args.heard.now) c.in-Some.kind c.args.asked.is_taken asked
    (sym c.cleared_in.ensures ∙ c.in-Some.is) _ _ (tells.stops fails)

pub returns-in-Some-clause-writer : goal.returns-in-Some-clause-writer
returns-in-Some-clause-writer g c = c.put_asked.ensures.tells.writer
