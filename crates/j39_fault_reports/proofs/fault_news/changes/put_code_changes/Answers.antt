-- What became of the codes of the message, and then of those before it.
use Rattle.j39_fault_reports.proofs.Common.{sym, codes_by, puts_as, puts_done, puts_failed, puts_first, puts_then, hearing_of}
use Rattle.j39_fault_reports.specs.FaultRows.{faults_text}
use Rattle.j39_fault_reports.specs.FaultsSoFar.{changed}
use Rattle.j39_fault_reports.specs.declared.fault_news.changes.Side.TheVariants.{Earlier, Later}
use Rattle.j39_fault_reports.proofs.FaultAccountLemmas.{faults_text-append}
use Rattle.j39_fault_reports.specs.FaultsSoFar.{manner_of}
use Rattle.j39_fault_reports.proofs.fault_news.changes.put_code_changes.Goals as goal

pub returns-in_err-later-clause-puts : goal.returns-in_err-later-clause-puts
returns-in_err-later-clause-puts g c =
    let now = codes_by c.args.message.version c.args.message.heard.now.message.payload.now in
    let before = codes_by c.args.message.version c.args.before.now in
    let later = changed Later (hearing_of c.args.message.heard.now) c.args.message.lamps before now in
    let earlier = changed Earlier (hearing_of c.args.message.heard.now) c.args.message.lamps now before in
    puts_as _ _ _ _ (sym (faults_text-append c.args.writing.form (manner_of c.args.writing) later earlier))
    (puts_first _ (faults_text c.args.writing.form (manner_of c.args.writing) earlier) _ _ _ c.from_residual.ensures.0 c.in_err-later.ensures.puts)

pub returns-in_err-earlier-clause-puts : goal.returns-in_err-earlier-clause-puts
returns-in_err-earlier-clause-puts g c =
    let now = codes_by c.args.message.version c.args.message.heard.now.message.payload.now in
    let before = codes_by c.args.message.version c.args.before.now in
    let later = changed Later (hearing_of c.args.message.heard.now) c.args.message.lamps before now in
    let earlier = changed Earlier (hearing_of c.args.message.heard.now) c.args.message.lamps now before in
    puts_as _ _ _ _ (sym (faults_text-append c.args.writing.form (manner_of c.args.writing) later earlier))
    (puts_then _ _ _ _ _ _ _ c.in_ok-later.ensures.puts (puts_failed _ _ _ _ c.from_residual-in_err-earlier.ensures.0 c.in_err-earlier.ensures.puts))

pub returns-clause-puts : goal.returns-clause-puts
returns-clause-puts g c =
    let now = codes_by c.args.message.version c.args.message.heard.now.message.payload.now in
    let before = codes_by c.args.message.version c.args.before.now in
    let later = changed Later (hearing_of c.args.message.heard.now) c.args.message.lamps before now in
    let earlier = changed Earlier (hearing_of c.args.message.heard.now) c.args.message.lamps now before in
    puts_as _ _ _ _ (sym (faults_text-append c.args.writing.form (manner_of c.args.writing) later earlier))
    (puts_then _ _ _ _ _ _ _ c.in_ok-later.ensures.puts (puts_done _ _ _ _ c.in_ok-earlier.ensures.puts))
