-- One code after the other.
use Rattle.j39_fault_reports.proofs.Common.{◌≡◌, ◌+◌, [], ap, arith, map, refl, rules, sym, codes_of, codes_left, code_by, codes_by, turn, puts_as, puts_nothing, hearing_of}
use Rattle.j39_fault_reports.proofs.ChangeLemmas.{HasChanged, change_more, change_stops, few_changed}
use Rattle.j39_fault_reports.proofs.FaultAccountLemmas.{faults_text-none}
use Rattle.j39_fault_reports.specs.FaultsSoFar.{manner_of}
use Rattle.j39_fault_reports.proofs.fault_news.changes.put_changed.Given.{Over}
use Rattle.j39_fault_reports.proofs.fault_news.changes.put_changed.Goals as goal

pub loop-code-init : goal.loop-code-init
loop-code-init g c =
    let left : codes_left c.into_iter-code-iterator.result ≡ codes_of c.args.payload.now = search rules in
    record {
      before = [];
      all_are = ap (map (code_by c.args.message.version)) (sym left);
      count_is = refl;
      few = omega arith;
      written = puts_as _ _ _ _ (sym (faults_text-none c.args.writing.form (manner_of c.args.writing))) (puts_nothing _ _);
    }

pub returns-in_err-lines-clause-puts : goal.returns-in_err-lines-clause-puts
returns-in_err-lines-clause-puts g c =
    change_stops c.args.writing.form (manner_of c.args.writing) (hearing_of c.args.message.heard.now) c.args.message.lamps c.args.side (codes_by c.args.message.version c.args.others.now) c.args.message.version c.args.payload.now
    c.in-Some.code _ _ c.loop-code.lines _ _ _ _ _ c.from_residual.ensures.0 c.loop-code.invariant c.in-Some.ensures.steps
    (rw (c.change_by-change.ensures, c.code_by-code.ensures) at c.in_err-lines.ensures.puts)

-- what was written with the code
more : (g : Over) (c : goal.In_ok-lines g)
    → HasChanged c.args.writing.form (manner_of c.args.writing) (hearing_of c.args.message.heard.now) c.args.message.lamps c.args.side (codes_by c.args.message.version c.args.others.now) c.args.message.version c.args.payload.now
    (codes_left c.next.new.self) (c.loop-code.lines + c.in_ok-lines.field-0) (turn g.W.Sink.written g.W.Sink.has_failed c.args.sink.now c.put_change.new.sink)
more g c =
    change_more c.args.writing.form (manner_of c.args.writing) (hearing_of c.args.message.heard.now) c.args.message.lamps c.args.side (codes_by c.args.message.version c.args.others.now) c.args.message.version c.args.payload.now
    c.in-Some.code _ _ c.loop-code.lines c.in_ok-lines.field-0 _ _ _ c.loop-code.invariant c.in-Some.ensures.steps
    (rw (c.change_by-change.ensures, c.code_by-code.ensures) at c.in_ok-lines.ensures.lines)
    (rw (c.change_by-change.ensures, c.code_by-code.ensures) at c.in_ok-lines.ensures.puts)

pub loop-code-preserved : goal.loop-code-preserved
loop-code-preserved g c = more g c

pub overflow_add-lines : goal.overflow_add-lines
overflow_add-lines g c =
    let few = few_changed c.args.writing.form (manner_of c.args.writing) (hearing_of c.args.message.heard.now) c.args.message.lamps c.args.side (codes_by c.args.message.version c.args.others.now) c.args.message.version c.args.payload.now _ _ _ (more g c) in
    let fits = c.type_inv.payload in
    omega arith

pub returns-clause-few : goal.returns-clause-few
returns-clause-few g c =
    few_changed c.args.writing.form (manner_of c.args.writing) (hearing_of c.args.message.heard.now) c.args.message.lamps c.args.side (codes_by c.args.message.version c.args.others.now) c.args.message.version c.args.payload.now _ _ _ c.loop-code.invariant
