-- The parts by the fields of the body.
use Rattle.std.proofs.Common.{arith}
use Rattle.j39_log.proofs.LineLemmas.{is_blank, has_parts, odd_has_no_parts, three_has_no_parts}
use Rattle.j39_log.proofs.line.line_parts.Goals as goal

pub returns-in-Blank : goal.returns-in-Blank
returns-in-Blank c = is_blank c.args.line.now c.body_of.result.now (omega arith) c.body_of.ensures c.in-Blank.ensures

pub returns-in-Odd : goal.returns-in-Odd
returns-in-Odd c = odd_has_no_parts c.args.line.now c.body_of.result.now c.body_of.ensures c.in-Odd.ensures.0 c.in-Odd.ensures.1

pub returns-in-None : goal.returns-in-None
returns-in-None c =
    let e = c.in-Three.ensures in
    three_has_no_parts c.args.line.now c.body_of.result.now _ _ _ e.0 c.body_of.ensures e.2 (λ s text name. c.in-None.ensures.only s text)

pub returns-then-is_bus_name : goal.returns-then-is_bus_name
returns-then-is_bus_name c =
    let e = c.in-Three.ensures in
    has_parts c.args.line.now c.body_of.result.now _ _ _ e.0 _ (omega arith) c.body_of.ensures e.2 e.1 c.in-Some.ensures.found (c.is_bus_name.ensures.0 c.if-is_bus_name.true)

pub returns-else-is_bus_name : goal.returns-else-is_bus_name
returns-else-is_bus_name c =
    let e = c.in-Three.ensures in
    three_has_no_parts c.args.line.now c.body_of.result.now _ _ _ e.0 c.body_of.ensures e.2 (λ s text name. cc (c.is_bus_name.ensures.1 name))
