-- One group after another.
use Rattle.std.proofs.Common.{◌≡◌, ◌∙◌, ap, arith, slice_get, subst}
use borrow.Author.Count.{below_more}
use Rattle.j39_address.specs.Name.{name_raw}
use Rattle.j39_frame.specs.Stamp.{stamp_micros}
use Rattle.bus_demo.specs.Calls.{is_handing}
use Rattle.bus_demo.specs.Publishing.{AreNoted, group_due, rate_after}
use Rattle.bus_demo.specs.declared.bus.publisher.Publisher.{Publisher}
use Rattle.bus_demo.proofs.CallLemmas.{calls_then}
use Rattle.bus_demo.proofs.NotedLemmas.{all_due, noted_then}
use Rattle.bus_demo.proofs.bus.publisher.Publisher.measure.Goals as goal

pub loop-place-preserved : goal.loop-place-preserved
loop-place-preserved c =
    let inv = c.loop-place.invariant in
    let n = c.loop-place.place in
    let now = stamp_micros c.args.now in
    let new = c.measure_at.new.self in
    let same_name : name_raw c.loop-place.self.name ≡ name_raw c.args.self.now.name = ap (λ (p : Publisher). name_raw p.name) inv.4 in (
      noted_then (name_raw c.args.self.now.name) c.args.book.now.handed.items c.loop-place.book.handed.items c.measure_at.new.book.handed.items inv.0
          (subst (λ name. AreNoted name c.loop-place.book.handed.items c.measure_at.new.book.handed.items) same_name c.in_ok-measure_at.ensures.noted),
      below_more (λ k. slice_get new.rates k ≡ rate_after now (slice_get c.args.self.now.rates k)) n
          (λ k less. c.measure_at.ensures.others k (λ e. omega (arith, less, e)) ∙ inv.1 k less)
          (c.measure_at.ensures.rate ∙ ap (rate_after now) (inv.2 n (omega arith))),
      (λ k past. c.measure_at.ensures.others k (λ e. omega (arith, past, e)) ∙ inv.2 k (omega (arith, past))),
      (λ quiet.
          let same = inv.3 quiet in
          let step = c.measure_at.ensures.quiet (ap (group_due now) (inv.2 n (omega arith)) ∙ quiet n) in
          (step.1 ∙ same.0, step.2 ∙ same.1, step.3 ∙ same.2)),
      c.measure_at.ensures.rest ∙ ap (λ (p : Publisher). record p { gauges = new.gauges; rates = new.rates }) inv.4,
      calls_then (is_handing now) c.args.station.now.controller c.loop-place.station.controller c.measure_at.new.station.controller inv.5 c.measure_at.ensures.calls,
    )

pub returns-clause-due : goal.returns-clause-due
returns-clause-due c =
    let inv = c.loop-place.invariant in
    all_due (stamp_micros c.args.now) c.loop-place.place c.args.self.now.rates c.loop-place.self.rates (omega arith) inv.1 inv.2

pub returns-in_err-measure_at-clause-calls : goal.returns-in_err-measure_at-clause-calls
returns-in_err-measure_at-clause-calls c =
    calls_then (is_handing (stamp_micros c.args.now)) c.args.station.now.controller c.loop-place.station.controller c.measure_at.new.station.controller
    c.loop-place.invariant.5 c.measure_at.ensures.calls
