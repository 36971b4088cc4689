-- The line of the lamps, and those of the codes.
use Rattle.j39_fault_reports.proofs.Common.{puts_as, puts_done, puts_failed, puts_first, puts_then}
use Rattle.j39_fault_reports.specs.FaultsSoFar.{manner_of}
use Rattle.std.specs.Option.{option_map}
use Rattle.j39_frame.specs.Stamp.{stamp_micros}
use Rattle.j39_fault_reports.proofs.NowLineLemmas.{lit_count, lit_text}
use Rattle.j39_fault_reports.proofs.current_faults.lines.put_last.Goals as goal

pub returns-in_err-lit-clause-puts : goal.returns-in_err-lit-clause-puts
returns-in_err-lit-clause-puts g c =
    puts_as _ _ _ _ (lit_text c.args.writing.form (manner_of c.args.writing) (option_map stamp_micros c.args.till) c.args.address _ c.args.last.now c.last.view_is _ _ c.moment_head-head.ensures c.sender_columns-columns.ensures)
    (puts_first _ _ _ _ _ c.from_residual.ensures.0 c.in_err-lit.ensures.puts)

pub returns-in_err-coded-clause-puts : goal.returns-in_err-coded-clause-puts
returns-in_err-coded-clause-puts g c =
    puts_as _ _ _ _ (lit_text c.args.writing.form (manner_of c.args.writing) (option_map stamp_micros c.args.till) c.args.address _ c.args.last.now c.last.view_is _ _ c.moment_head-head.ensures c.sender_columns-columns.ensures)
    (puts_then _ _ _ _ _ _ _ c.in_ok-lit.ensures.puts (puts_failed _ _ _ _ c.from_residual-in_err-coded.ensures.0 c.in_err-coded.ensures.puts))

pub returns-clause-puts : goal.returns-clause-puts
returns-clause-puts g c =
    puts_as _ _ _ _ (lit_text c.args.writing.form (manner_of c.args.writing) (option_map stamp_micros c.args.till) c.args.address _ c.args.last.now c.last.view_is _ _ c.moment_head-head.ensures c.sender_columns-columns.ensures)
    (puts_then _ _ _ _ _ _ _ c.in_ok-lit.ensures.puts (puts_done _ _ _ _ c.in_ok-coded.ensures.puts))

pub returns-clause-lines : goal.returns-clause-lines
returns-clause-lines g c =
    lit_count c.args.writing.form (manner_of c.args.writing) (option_map stamp_micros c.args.till) c.args.address _ c.args.last.now c.last.view_is _ _ c.moment_head-head.ensures c.sender_columns-columns.ensures _ _ c.in_ok-lit.ensures.lines c.in_ok-coded.ensures.lines
