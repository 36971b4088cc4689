-- The last message of the address is asked for, or not.
use Rattle.j39_fault_reports.proofs.Common.{◌≡◌, ◌∙◌, Bool, ℕ, List, ap, sym, FrameRecord, puts_as, puts_nothing, FilterRecord, asks_for, first_stamp, if_ok}
use Rattle.j39_fault_reports.specs.CurrentPlaces.{LastRecord}
use Rattle.j39_fault_reports.specs.FaultsNow.{Told}
use Rattle.j39_fault_reports.specs.FaultsNowRun.{now_lines, now_text}
use Rattle.j39_fault_reports.proofs.NowLineLemmas.{asked_there, no_text, unasked_there}
use Rattle.j39_fault_reports.specs.FaultsSoFar.{manner_of}
use Rattle.std.specs.Option.{option_map}
use Rattle.j39_frame.specs.Stamp.{stamp_micros}
use Rattle.j39_fault_reports.proofs.current_faults.lines.put_asked.Goals as goal

-- what the chooser answered of it
answered : (which : FilterRecord) (F : List FrameRecord) (a raw : ℕ) (view last : LastRecord) (r : Bool) → view ≡ last → raw ≡ view.pgn
    → r ≡ asks_for which (first_stamp F) view.stamp a view.name view.destination raw
    → asks_for which (first_stamp F) last.stamp a last.name last.destination last.pgn ≡ r
answered which F a raw view last r same pgn is =
    sym (is ∙ ap (λ n. asks_for which (first_stamp F) view.stamp a view.name view.destination n) pgn
    ∙ ap (λ (l : LastRecord). asks_for which (first_stamp F) l.stamp a l.name l.destination l.pgn) same)

pub returns-then-asks_for-clause-lines : goal.returns-then-asks_for-clause-lines
returns-then-asks_for-clause-lines g c = if_ok c.put_last.result _ _ (λ n is which F chosen.
    is ∙ sym (ap (λ (ns : List Told). now_lines (manner_of c.args.writing) ns) (asked_there which (first_stamp F) c.args.address c.args.last.now (answered which F c.args.address c.raw-pgn.result _ c.args.last.now c.asks_for.result c.last.view_is c.raw-pgn.ensures.value (c.asks_for.ensures which F chosen) ∙ c.if-asks_for.true)))) c.put_last.ensures.lines

pub returns-then-asks_for-clause-puts : goal.returns-then-asks_for-clause-puts
returns-then-asks_for-clause-puts g c = λ which F chosen.
    puts_as _ _ _ _ (sym (ap (now_text c.args.writing.form (manner_of c.args.writing) (option_map stamp_micros c.args.till))
    (asked_there which (first_stamp F) c.args.address c.args.last.now (answered which F c.args.address c.raw-pgn.result _ c.args.last.now c.asks_for.result c.last.view_is c.raw-pgn.ensures.value (c.asks_for.ensures which F chosen) ∙ c.if-asks_for.true)))) c.put_last.ensures.puts

pub returns-else-asks_for-clause-lines : goal.returns-else-asks_for-clause-lines
returns-else-asks_for-clause-lines g c = λ which F chosen.
    sym (ap (λ (ns : List Told). now_lines (manner_of c.args.writing) ns) (unasked_there which (first_stamp F) c.args.address c.args.last.now (answered which F c.args.address c.raw-pgn.result _ c.args.last.now c.asks_for.result c.last.view_is c.raw-pgn.ensures.value (c.asks_for.ensures which F chosen) ∙ c.if-asks_for.false)))

pub returns-else-asks_for-clause-puts : goal.returns-else-asks_for-clause-puts
returns-else-asks_for-clause-puts g c = λ which F chosen.
    puts_as _ _ _ _ (sym (no_text c.args.writing.form (manner_of c.args.writing) (option_map stamp_micros c.args.till))
    ∙ sym (ap (now_text c.args.writing.form (manner_of c.args.writing) (option_map stamp_micros c.args.till))
    (unasked_there which (first_stamp F) c.args.address c.args.last.now (answered which F c.args.address c.raw-pgn.result _ c.args.last.now c.asks_for.result c.last.view_is c.raw-pgn.ensures.value (c.asks_for.ensures which F chosen) ∙ c.if-asks_for.false)))) (puts_nothing _ _)
