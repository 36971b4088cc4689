-- What is noted of the groups, of the faults, and of the planned message.
use Rattle.std.proofs.Common.{◌∙◌, ap, subst}
use Rattle.j39_address.specs.Name.{name_raw}
use Rattle.j39_frame.specs.Stamp.{stamp_micros}
use Rattle.bus_demo.specs.Calls.{is_handing}
use Rattle.bus_demo.specs.Publishing.{AreNoted}
use Rattle.bus_demo.specs.declared.bus.publisher.Publisher.{Publisher}
use Rattle.bus_demo.proofs.CallLemmas.{calls_then}
use Rattle.bus_demo.proofs.NotedLemmas.{noted_then}
use Rattle.bus_demo.proofs.PlayerLemmas.{on_ok}
use Rattle.bus_demo.proofs.bus.publisher.Publisher.turn.Goals as goal

pub returns-in_err-tell_faults-clause-calls : goal.returns-in_err-tell_faults-clause-calls
returns-in_err-tell_faults-clause-calls c =
    calls_then (is_handing (stamp_micros c.args.now)) c.args.station.now.controller c.measure.new.station.controller c.tell_faults.new.station.controller
    c.measure.ensures.calls c.tell_faults.ensures.calls

pub returns-clause-calls : goal.returns-clause-calls
returns-clause-calls c =
    let kind = is_handing (stamp_micros c.args.now) in
    let old = c.args.station.now.controller in
    let told = c.tell_faults.new.station.controller in
    calls_then kind old told c.begin.new.station.controller
    (calls_then kind old c.measure.new.station.controller told c.measure.ensures.calls c.tell_faults.ensures.calls)
    c.begin.ensures.calls

pub returns-clause-noted : goal.returns-clause-noted
returns-clause-noted c =
    let name = name_raw c.args.self.now.name in
    let old = c.args.book.now.handed.items in
    let measured = c.measure.new.book.handed.items in
    let told = c.tell_faults.new.book.handed.items in
    let new = c.begin.new.book.handed.items in
    let first = ap (λ (p : Publisher). name_raw p.name) c.measure.ensures.rest in
    let second = ap (λ (p : Publisher). name_raw p.name) c.tell_faults.ensures.rest ∙ first in
    on_ok c.begin.result _ _ (λ third.
    noted_then name old told new
    (noted_then name old measured told c.in_ok-measure.ensures.noted (subst (λ n. AreNoted n measured told) first c.in_ok-tell_faults.ensures.noted))
    (subst (λ n. AreNoted n told new) second third))
    c.begin.ensures.noted
