-- An address more; after a fault a front of what is left was written.
use Rattle.j39_fault_reports.proofs.Common.{◌≡◌, ◌∙◌, ap, arith, refl, puts_as, puts_done, puts_nothing, capped, first_stamp}
use Rattle.j39_fault_reports.specs.CurrentSoFar.{taken_below}
use Rattle.j39_fault_reports.specs.FaultsNowRun.{now_lines}
use Rattle.j39_fault_reports.proofs.NowLineLemmas.{lines_more, no_lines, no_places, place_more, place_stops, text}
use Rattle.j39_fault_reports.specs.FaultsSoFar.{manner_of}
use Rattle.std.specs.Option.{option_map}
use Rattle.j39_frame.specs.Stamp.{stamp_micros}
use Rattle.j39_fault_reports.proofs.current_faults.lines.put_places.Goals as goal

pub loop-address-init : goal.loop-address-init
loop-address-init g c = (
  refl,
  λ which F chosen. (
    no_lines c.args.writing.form (manner_of c.args.writing) (option_map stamp_micros c.args.till) which (first_stamp F) c.args.places.now,
    puts_as _ _ _ _ (no_places c.args.writing.form (manner_of c.args.writing) (option_map stamp_micros c.args.till) which (first_stamp F) c.args.places.now) (puts_nothing _ _),
  ),
)

pub loop-address-preserved : goal.loop-address-preserved
loop-address-preserved g c = (
  c.in_ok-put_place.ensures.mark ∙ c.loop-address.invariant.0,
  λ which F chosen.
      let before = c.loop-address.invariant.1 which F chosen in (
        c.saturating_add-lines.ensures
            ∙ lines_more c.args.writing.form (manner_of c.args.writing) (option_map stamp_micros c.args.till) which (first_stamp F) c.args.places.now c.loop-address.address c.loop-address.lines c.in_ok-put_place.field-0 before.0 (c.in_ok-put_place.ensures.lines which F chosen),
        place_more c.args.writing.form (manner_of c.args.writing) (option_map stamp_micros c.args.till) which (first_stamp F) c.args.places.now c.loop-address.address _ _ _ _ before.1 (c.in_ok-put_place.ensures.puts which F chosen),
      ),
)

pub returns-in_err-put_place-clause-puts : goal.returns-in_err-put_place-clause-puts
returns-in_err-put_place-clause-puts g c = λ which F chosen.
    place_stops c.args.writing.form (manner_of c.args.writing) (option_map stamp_micros c.args.till) which (first_stamp F) c.args.places.now c.loop-address.address _ _ _ _ _ c.loop-address-test.true c.from_residual.ensures.0
    (c.loop-address.invariant.1 which F chosen).1 (c.in_err-put_place.ensures.puts which F chosen)

pub returns-clause-lines : goal.returns-clause-lines
returns-clause-lines g c = λ which F chosen.
    let end : c.loop-address.address ≡ 256 = omega (arith, c.loop-address-test.false, c.loop-address.auto.address-end) in
    (c.loop-address.invariant.1 which F chosen).0 ∙ ap (λ n. capped (now_lines (manner_of c.args.writing) (taken_below which (first_stamp F) c.args.places.now n))) end

pub returns-clause-puts : goal.returns-clause-puts
returns-clause-puts g c = λ which F chosen.
    let end : c.loop-address.address ≡ 256 = omega (arith, c.loop-address-test.false, c.loop-address.auto.address-end) in
    puts_as _ _ _ _ (ap (text c.args.writing.form (manner_of c.args.writing) (option_map stamp_micros c.args.till) which (first_stamp F) c.args.places.now) end)
    (puts_done _ _ _ _ (c.loop-address.invariant.1 which F chosen).1)
