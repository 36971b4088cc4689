-- The line of the lamps, and those of the codes.
use Rattle.j39_fault_reports.proofs.Common.{[], arith, refl, codes_by, map, Is, puts_as, puts_done, puts_failed, puts_first, puts_then, hearing_of}
use Rattle.j39_fault_reports.specs.Faults.{codes_or_none, fault_of, said_at}
use Rattle.j39_fault_reports.specs.FaultsSoFar.{manner_of}
use Rattle.j39_fault_reports.proofs.LightLemmas.{both_count, both_text}
use Rattle.j39_fault_reports.proofs.fault_news.lines.put_message.Goals as goal

pub returns-in_err-lit-clause-puts : goal.returns-in_err-lit-clause-puts
returns-in_err-lit-clause-puts g c =
    let m = hearing_of c.args.message.heard.now in
    let coded = map (fault_of m (Is c.args.message.kind) c.args.message.lamps) (codes_or_none (codes_by c.args.message.version c.args.message.heard.now.message.payload.now)) in
    puts_as _ _ _ _ (both_text c.args.writing.form (manner_of c.args.writing) [] c.args.message.lamps (said_at m) _ refl c.message_head-head.ensures coded)
    (puts_first _ _ _ _ _ c.from_residual.ensures.0 c.in_err-lit.ensures.puts)

pub returns-in_err-coded-clause-puts : goal.returns-in_err-coded-clause-puts
returns-in_err-coded-clause-puts g c =
    let m = hearing_of c.args.message.heard.now in
    let coded = map (fault_of m (Is c.args.message.kind) c.args.message.lamps) (codes_or_none (codes_by c.args.message.version c.args.message.heard.now.message.payload.now)) in
    puts_as _ _ _ _ (both_text c.args.writing.form (manner_of c.args.writing) [] c.args.message.lamps (said_at m) _ refl c.message_head-head.ensures coded)
    (puts_then _ _ _ _ _ _ _ c.in_ok-lit.ensures.puts (puts_failed _ _ _ _ c.from_residual-in_err-coded.ensures.0 c.in_err-coded.ensures.puts))

pub returns-clause-puts : goal.returns-clause-puts
returns-clause-puts g c =
    let m = hearing_of c.args.message.heard.now in
    let coded = map (fault_of m (Is c.args.message.kind) c.args.message.lamps) (codes_or_none (codes_by c.args.message.version c.args.message.heard.now.message.payload.now)) in
    puts_as _ _ _ _ (both_text c.args.writing.form (manner_of c.args.writing) [] c.args.message.lamps (said_at m) _ refl c.message_head-head.ensures coded)
    (puts_then _ _ _ _ _ _ _ c.in_ok-lit.ensures.puts (puts_done _ _ _ _ c.in_ok-coded.ensures.puts))

pub returns-clause-lines : goal.returns-clause-lines
returns-clause-lines g c =
    let m = hearing_of c.args.message.heard.now in
    let coded = map (fault_of m (Is c.args.message.kind) c.args.message.lamps) (codes_or_none (codes_by c.args.message.version c.args.message.heard.now.message.payload.now)) in
    both_count c.args.writing.form (manner_of c.args.writing) [] c.args.message.lamps (said_at m) _ refl c.message_head-head.ensures coded _ _ c.in_ok-lit.ensures.lines c.in_ok-coded.ensures.lines

pub overflow_add-result : goal.overflow_add-result
overflow_add-result g c =
    let lit = c.in_ok-lit.ensures.few in
    let few = c.in_ok-coded.ensures.few in
    omega (arith, lit, few)
