-- Nothing is told, or the head and that codes are to be cleared.
use Rattle.j39_fault_reports.proofs.Common.{◌∙◌, arith, refl, sym, puts_as, puts_done, puts_failed, hearing_of}
use Rattle.j39_fault_reports.proofs.FaultLineLemmas.{clearing_text}
use Rattle.j39_fault_reports.proofs.PutLemmas.{lines_of_clearing, tells_faults, tells_none, tells_unnamed}
use Rattle.j39_fault_reports.specs.FaultsSoFar.{manner_of}
use Rattle.j39_fault_reports.proofs.fault_news.account.put_asked.Goals as goal

pub returns-then-not-is_told-clause-tells : goal.returns-then-not-is_told-clause-tells
returns-then-not-is_told-clause-tells g c = rw c.if-not-is_told.true (tells_none _ _ _ _ refl refl)

pub returns-then-not-names_asked-clause-tells : goal.returns-then-not-names_asked-clause-tells
returns-then-not-names_asked-clause-tells g c =
    rw c.if-not-is_told.false (tells_unnamed c.args.writing.form (manner_of c.args.writing) (hearing_of c.args.heard.now) c.args.kind _ _ (sym c.names_asked.ensures ∙ c.if-not-names_asked.true) refl refl)

pub returns-in-Ok-clause-tells : goal.returns-in-Ok-clause-tells
returns-in-Ok-clause-tells g c =
    rw c.if-not-is_told.false (tells_faults _ _ _ _ _ (refl, sym (lines_of_clearing (manner_of c.args.writing) (hearing_of c.args.heard.now) c.args.kind (sym c.names_asked.ensures ∙ c.if-not-names_asked.false)), omega arith)
    (puts_as _ _ _ _ (clearing_text c.args.writing.form (manner_of c.args.writing) (hearing_of c.args.heard.now) c.args.kind (sym c.names_asked.ensures ∙ c.if-not-names_asked.false)) (puts_done _ _ _ _ c.in-Ok.ensures)) (λ is. cc))

pub returns-in-Err-clause-tells : goal.returns-in-Err-clause-tells
returns-in-Err-clause-tells g c =
    rw c.if-not-is_told.false (tells_faults _ _ _ _ _ tt
    (puts_as _ _ _ _ (clearing_text c.args.writing.form (manner_of c.args.writing) (hearing_of c.args.heard.now) c.args.kind (sym c.names_asked.ensures ∙ c.if-not-names_asked.false)) (puts_failed _ _ _ _ refl c.in-Err.ensures)) (λ is. cc))
