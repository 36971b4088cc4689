-- The names, with a code and without.
use Rattle.j39_fault_reports.proofs.Common.{◌≡◌, ℕ, List, Option, None, Some, refl, Code, Active, Is, NamingRecord, names_text}
use Rattle.j39_fault_reports.specs.FaultRows.{said_columns}
use Rattle.j39_fault_reports.specs.FaultsNow.{Now}
use Rattle.j39_fault_reports.specs.FaultsNowRun.{now_columns, now_head}
use Rattle.j39_fault_reports.proofs.current_faults.laws.names.Goals as goal

named : (naming : NamingRecord) (till : Option ℕ) (n : Now) (code : Option Code) → names_text (now_head till n) (said_columns naming (Is Active) n.lamps code) ≡ now_columns
named naming till n None = refl
named naming till n (Some code) = refl

pub returns : goal.returns
returns c = λ naming till n. named naming till n n.code
