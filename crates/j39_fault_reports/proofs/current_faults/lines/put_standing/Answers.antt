-- The row of what is said.
use Rattle.j39_fault_reports.proofs.Common.{◌∙◌, List, ap, codes, Active, Is, puts_as, head_of, ColumnRecord, HeadRecord, seconds}
use Rattle.j39_fault_reports.specs.CurrentPlaces.{LastRecord, standing_record}
use Rattle.j39_fault_reports.specs.CurrentSoFar.{now_shown}
use Rattle.j39_fault_reports.specs.FaultsSoFar.{line_of}
use Rattle.j39_fault_reports.proofs.NowLineLemmas.{one_text}
use Rattle.j39_fault_reports.specs.FaultsSoFar.{manner_of}
use Rattle.std.specs.Option.{option_map}
use Rattle.j39_frame.specs.Stamp.{stamp_micros}
use Rattle.j39_fault_reports.proofs.current_faults.lines.put_standing.Goals as goal

pub returns-clause-puts : goal.returns-clause-puts
returns-clause-puts g c =
    let n = now_shown c.args.address c.args.last.now (standing_record c.args.standing) in
    let head : List ColumnRecord → HeadRecord = λ cs. record { name = codes "first_stamp"; first = seconds n.since; columns = cs } in
    let is = c.now_head-head.ensures ∙ ap head c.columns_of-columns.ensures in
    puts_as _ _ _ _ (ap (λ lamps. line_of c.args.writing.form (head_of c.now_head-head.result) (manner_of c.args.writing) (Is Active) lamps n.code) (ap (λ (l : LastRecord). l.lamps) c.last.view_is)
    ∙ ap (λ h. line_of c.args.writing.form h (manner_of c.args.writing) (Is Active) n.lamps n.code) is
    ∙ one_text c.args.writing.form (manner_of c.args.writing) (option_map stamp_micros c.args.till) n) c.put_fault.ensures.puts
