-- Nothing stands there, or what a message says.
use Rattle.j39_fault_reports.proofs.Common.{◌≡◌, ◌∙◌, List, Option, None, Some, ap, subst, sym, IfOk, FrameRecord, puts_as, puts_nothing, Chooses, FilterRecord, first_stamp}
use Rattle.j39_fault_reports.specs.CurrentPlaces.{LastRecord, at}
use Rattle.j39_fault_reports.specs.CurrentSoFar.{told_shown}
use Rattle.j39_fault_reports.specs.FaultsNow.{now_taken}
use Rattle.j39_fault_reports.specs.FaultsNowRun.{now_lines, now_text}
use Rattle.j39_fault_reports.proofs.NowLineLemmas.{no_text}
use Rattle.j39_fault_reports.specs.FaultsSoFar.{manner_of}
use Rattle.std.specs.Option.{option_map}
use Rattle.j39_frame.specs.Stamp.{stamp_micros}
use Rattle.j39_fault_reports.proofs.current_faults.lines.put_place.Goals as goal

pub returns-in-None-clause-puts : goal.returns-in-None-clause-puts
returns-in-None-clause-puts g c = λ which F chosen.
    let none : None ≡ at c.args.places.now c.args.address = rw c.in-None.is at c.get.ensures in
    puts_as _ _ _ _ (sym (no_text c.args.writing.form (manner_of c.args.writing) (option_map stamp_micros c.args.till))
    ∙ ap (λ place. now_text c.args.writing.form (manner_of c.args.writing) (option_map stamp_micros c.args.till) (now_taken which (first_stamp F) (told_shown c.args.address place))) none) (puts_nothing _ _)

pub returns-in-Some-clause-lines : goal.returns-in-Some-clause-lines
returns-in-Some-clause-lines g c =
    let some : Some c.in-Some.last.now ≡ at c.args.places.now c.args.address = rw c.in-Some.is at c.get.ensures in
    subst (λ (place : Option LastRecord). IfOk c.put_asked.result (λ n. (which : FilterRecord) (F : List FrameRecord) → Chooses which c.args.chooser.now F
    → n ≡ now_lines (manner_of c.args.writing) (now_taken which (first_stamp F) (told_shown c.args.address place)))) some c.put_asked.ensures.lines

pub returns-in-Some-clause-puts : goal.returns-in-Some-clause-puts
returns-in-Some-clause-puts g c = λ which F chosen.
    let some : Some c.in-Some.last.now ≡ at c.args.places.now c.args.address = rw c.in-Some.is at c.get.ensures in
    puts_as _ _ _ _ (ap (λ place. now_text c.args.writing.form (manner_of c.args.writing) (option_map stamp_micros c.args.till) (now_taken which (first_stamp F) (told_shown c.args.address place))) some)
    (c.put_asked.ensures.puts which F chosen)
