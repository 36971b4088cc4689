-- One code after the other.
use Rattle.j39_fault_reports.proofs.Common.{◌≡◌, [], ap, arith, map, refl, rules, sym, codes_of, codes_left, code_by, Is, puts_nothing, head_of}
use Rattle.j39_fault_reports.proofs.FaultLineLemmas.{code_more, code_stops, few_put}
use Rattle.j39_fault_reports.specs.FaultsSoFar.{manner_of}
use Rattle.j39_fault_reports.proofs.fault_news.lines.put_codes.Goals as goal

pub loop-code-init : goal.loop-code-init
loop-code-init g c =
    let left : codes_left c.into_iter-code-iterator.result ≡ codes_of c.args.payload.now = search rules in
    record { before = []; all_are = ap (map (code_by c.args.message.version)) (sym left); count_is = refl; written = puts_nothing _ _ }

pub loop-code-preserved : goal.loop-code-preserved
loop-code-preserved g c =
    code_more c.args.writing.form (head_of c.args.head) (manner_of c.args.writing) c.args.message.version (Is c.args.message.kind) c.args.message.lamps c.args.payload.now c.in-Some.code _ _ c.loop-code.lines c.in_ok-lines.field-0 _ _ _
    c.loop-code.invariant c.in-Some.ensures.steps (rw c.code_by.ensures at c.in_ok-lines.ensures.lines) (rw c.code_by.ensures at c.in_ok-lines.ensures.puts)

pub returns-in_err-lines-clause-puts : goal.returns-in_err-lines-clause-puts
returns-in_err-lines-clause-puts g c =
    code_stops c.args.writing.form (head_of c.args.head) (manner_of c.args.writing) c.args.message.version (Is c.args.message.kind) c.args.message.lamps c.args.payload.now c.in-Some.code _ _ c.loop-code.lines _ _ _ _ _
    c.from_residual.ensures.0 c.loop-code.invariant c.in-Some.ensures.steps (rw c.code_by.ensures at c.in_err-lines.ensures.puts)

pub overflow_add-lines : goal.overflow_add-lines
overflow_add-lines g c =
    let few = few_put c.args.writing.form (head_of c.args.head) (manner_of c.args.writing) c.args.message.version (Is c.args.message.kind) c.args.message.lamps c.args.payload.now _ _ _
    (code_more c.args.writing.form (head_of c.args.head) (manner_of c.args.writing) c.args.message.version (Is c.args.message.kind) c.args.message.lamps c.args.payload.now c.in-Some.code _ _ c.loop-code.lines c.in_ok-lines.field-0 _ _ _
    c.loop-code.invariant c.in-Some.ensures.steps (rw c.code_by.ensures at c.in_ok-lines.ensures.lines) (rw c.code_by.ensures at c.in_ok-lines.ensures.puts)) in
    let fits = c.type_inv.payload in
    omega arith

pub returns-clause-few : goal.returns-clause-few
returns-clause-few g c =
    let few = few_put c.args.writing.form (head_of c.args.head) (manner_of c.args.writing) c.args.message.version (Is c.args.message.kind) c.args.message.lamps c.args.payload.now _ _ _ c.loop-code.invariant in
    let fits = c.type_inv.payload in
    omega (arith, few, fits)
