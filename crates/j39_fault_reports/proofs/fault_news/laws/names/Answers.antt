-- The names, case by case.
use Rattle.j39_fault_reports.proofs.Common.{◌≡◌, List, None, Some, refl, Became, Is, NamingRecord, names_text}
use Rattle.j39_fault_reports.specs.FaultRows.{columns_with, message_head, saying_columns, saying_name}
use Rattle.j39_fault_reports.specs.Faults.{Fault, Saying, clears, lights, says}
use Rattle.j39_fault_reports.proofs.fault_news.laws.names.Goals as goal

named : (naming : NamingRecord) (f : Fault) (saying : Saying)
    → names_text (message_head f.stamp f.address f.destination f.name) (saying_columns naming saying) ≡ columns_with (saying_name saying)
named naming f (lights lamps) = refl
named naming f (says (Is kind) lamps None) = refl
named naming f (says (Is kind) lamps (Some code)) = refl
named naming f (says (Became change) lamps None) = refl
named naming f (says (Became change) lamps (Some code)) = refl
named naming f (clears kind) = refl

pub returns : goal.returns
returns c = λ naming f. named naming f f.saying
