-- A line more; after a fault a front of the lines that are left was written.
use Rattle.j39_fault_reports.proofs.Common.{◌∙◌, ap, map, refl, puts_as, puts_nothing}
use Rattle.j39_fault_reports.specs.CurrentPlaces.{LastRecord, standing_record}
use Rattle.j39_fault_reports.specs.CurrentSoFar.{now_shown}
use Rattle.j39_fault_reports.specs.FaultsNow.{named}
use Rattle.j39_fault_reports.specs.FaultsNowRun.{now_text}
use Rattle.j39_fault_reports.proofs.NowLineLemmas.{count_more, line_more, line_stops, none_put}
use Rattle.j39_fault_reports.specs.FaultsSoFar.{manner_of}
use Rattle.std.specs.Option.{option_map}
use Rattle.j39_frame.specs.Stamp.{stamp_micros}
use Rattle.j39_fault_reports.proofs.current_faults.lines.put_standings.Goals as goal

pub loop-standing-init : goal.loop-standing-init
loop-standing-init g c = (
  refl,
  puts_as _ _ _ _ (none_put c.args.writing.form (manner_of c.args.writing) (option_map stamp_micros c.args.till) c.args.address c.args.last.now c.as_slice-standings.result.now) (puts_nothing _ _),
)

pub loop-standing-preserved : goal.loop-standing-preserved
loop-standing-preserved g c = (
  count_more c.args.writing.form (manner_of c.args.writing) (option_map stamp_micros c.args.till) c.args.address c.args.last.now c.as_slice-standings.result.now c.loop-standing.standing-index c.standing-item.result c.loop-standing.lines c.in_ok-lines.field-0
      c.loop-standing-test.true c.standing-item.is c.loop-standing.invariant.0 c.in_ok-lines.ensures.lines,
  line_more c.args.writing.form (manner_of c.args.writing) (option_map stamp_micros c.args.till) c.args.address c.args.last.now c.as_slice-standings.result.now c.loop-standing.standing-index c.standing-item.result c.in_ok-lines.field-0 _ _ _
      c.loop-standing-test.true c.standing-item.is c.loop-standing.invariant.1 c.in_ok-lines.ensures.puts,
)

pub returns-in_err-lines-clause-puts : goal.returns-in_err-lines-clause-puts
returns-in_err-lines-clause-puts g c =
    puts_as _ _ _ _ (ap (λ ss. now_text c.args.writing.form (manner_of c.args.writing) (option_map stamp_micros c.args.till) (map (λ n. named n) (map (now_shown c.args.address c.args.last.now) ss)))
    (ap (map standing_record) c.as_slice-standings.ensures.value ∙ ap (λ (l : LastRecord). l.standings) c.last.view_is))
    (line_stops c.args.writing.form (manner_of c.args.writing) (option_map stamp_micros c.args.till) c.args.address c.args.last.now c.as_slice-standings.result.now c.loop-standing.standing-index c.standing-item.result _ _ _ _ _
    c.loop-standing-test.true c.standing-item.is c.from_residual.ensures.0 c.loop-standing.invariant.1 c.in_err-lines.ensures.puts)
