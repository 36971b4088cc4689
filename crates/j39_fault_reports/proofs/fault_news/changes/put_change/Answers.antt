-- Nothing, or the line of the change.
use Rattle.j39_fault_reports.proofs.Common.{◌∙◌, Some, sym, puts_as, puts_nothing, Became, if_ok, hearing_of}
use Rattle.j39_fault_reports.specs.Faults.{fault_of, says_asked}
use Rattle.j39_listen.proofs.CountLemmas.{count_here}
use Rattle.j39_fault_reports.proofs.FaultAccountLemmas.{faults_text-none}
use Rattle.j39_fault_reports.proofs.ChangeLemmas.{change_put}
use Rattle.j39_fault_reports.specs.FaultsSoFar.{manner_of}
use Rattle.j39_fault_reports.proofs.fault_news.changes.put_change.Goals as goal

pub returns-in_default-clause-puts : goal.returns-in_default-clause-puts
returns-in_default-clause-puts g c =
    rw c.in_default.is (puts_as _ _ _ _ (sym (faults_text-none c.args.writing.form (manner_of c.args.writing))) (puts_nothing _ _))

pub returns-clause-puts : goal.returns-clause-puts
returns-clause-puts g c =
    rw c.in-Some.is (change_put c.args.writing.form (manner_of c.args.writing) (hearing_of c.args.message.heard.now) c.args.message.lamps c.args.code c.in-Some.change _ _ _ c.requires c.put_fault.ensures.puts)

pub returns-clause-lines : goal.returns-clause-lines
returns-clause-lines g c =
    let m = hearing_of c.args.message.heard.now in
    rw c.in-Some.is (if_ok c.put_fault.result _ _ (λ n is. is ∙ count_here (says_asked (manner_of c.args.writing)) (fault_of m (Became c.in-Some.change) c.args.message.lamps (Some c.args.code))) c.put_fault.ensures.lines)
