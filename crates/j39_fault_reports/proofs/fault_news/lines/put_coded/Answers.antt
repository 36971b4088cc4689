-- The lines of the codes, or the line of none.
use Rattle.j39_fault_reports.proofs.Common.{◌∙◌, arith, sym, codes_by, Is, if_ok, hearing_of}
use Rattle.j39_fault_reports.proofs.FaultLineLemmas.{codes_put, codes_stop, count_none, count_some, none_put, one_at_most}
use Rattle.j39_fault_reports.specs.FaultsSoFar.{manner_of}
use Rattle.j39_fault_reports.proofs.fault_news.lines.put_coded.Goals as goal

pub returns-in_err-lines-clause-puts : goal.returns-in_err-lines-clause-puts
returns-in_err-lines-clause-puts g c =
    codes_stop c.args.writing.form (manner_of c.args.writing) (hearing_of c.args.message.heard.now) (Is c.args.message.kind) c.args.message.lamps _ c.requires
    (codes_by c.args.message.version c.args.message.heard.now.message.payload.now) _ _ _ c.from_residual.ensures.0 c.in_err-lines.ensures.puts

pub returns-then-lines-gt0-clause-puts : goal.returns-then-lines-gt0-clause-puts
returns-then-lines-gt0-clause-puts g c =
    let count = c.in_ok-lines.ensures.lines in
    let some = c.if-lines-gt0.true in
    codes_put c.args.writing.form (manner_of c.args.writing) (hearing_of c.args.message.heard.now) (Is c.args.message.kind) c.args.message.lamps _ c.requires
    (codes_by c.args.message.version c.args.message.heard.now.message.payload.now) _ _ _ (omega arith) c.in_ok-lines.ensures.puts

pub returns-then-lines-gt0-clause-lines : goal.returns-then-lines-gt0-clause-lines
returns-then-lines-gt0-clause-lines g c =
    let cs = codes_by c.args.message.version c.args.message.heard.now.message.payload.now in
    let count = c.in_ok-lines.ensures.lines in
    let some = c.if-lines-gt0.true in
    count ∙ sym (count_some (manner_of c.args.writing) (hearing_of c.args.message.heard.now) (Is c.args.message.kind) c.args.message.lamps cs (omega arith))

pub returns-clause-puts : goal.returns-clause-puts
returns-clause-puts g c =
    let count = c.in_ok-lines.ensures.lines in
    let none = c.if-lines-gt0.false in
    none_put c.args.writing.form (manner_of c.args.writing) (hearing_of c.args.message.heard.now) (Is c.args.message.kind) c.args.message.lamps _ c.requires
    (codes_by c.args.message.version c.args.message.heard.now.message.payload.now) _ _ _ _ _ (omega arith) c.in_ok-lines.ensures.puts c.put_fault.ensures.puts

pub returns-clause-lines : goal.returns-clause-lines
returns-clause-lines g c =
    let cs = codes_by c.args.message.version c.args.message.heard.now.message.payload.now in
    let count = c.in_ok-lines.ensures.lines in
    let none = c.if-lines-gt0.false in
    if_ok c.put_fault.result _ _ (λ n is. count_none (manner_of c.args.writing) (hearing_of c.args.message.heard.now) (Is c.args.message.kind) c.args.message.lamps cs n (omega arith) is) c.put_fault.ensures.lines

pub returns-then-lines-gt0-clause-few : goal.returns-then-lines-gt0-clause-few
returns-then-lines-gt0-clause-few g c = c.in_ok-lines.ensures.few

pub returns-clause-few : goal.returns-clause-few
returns-clause-few g c = if_ok c.put_fault.result _ _ (λ n is. let one = one_at_most _ n is in omega (arith, one)) c.put_fault.ensures.lines
