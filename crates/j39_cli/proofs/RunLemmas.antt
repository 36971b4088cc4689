-- From what a run ensures to what its command promises.
use Rattle.j39_cli.proofs.Common.{◌≡◌, ◌∙◌, ◌⊎◌, ℕ, List, Option, Some, inl, inr, subst, sym, IfSome, OnOk, Result, Ok, Err, result_map_both, Turn, AsksForBoxes, Wanting, Making}
use Rattle.j39_groups.specs.Row.{RowRecord}
use Rattle.j39_listen.specs.Filter.{FilterRecord, no_filter}
use Rattle.j39_listen.specs.Ran.{Ran}
use Rattle.j39_listen.specs.Run.{WritesAsked, WritesPublished, WritesWholeLines}
use Rattle.j39_listen.specs.declared.format.Format.{Format}
use Rattle.j39_listen.specs.declared.format.Clock.TheVariants.{Seconds}
use Rattle.j39_listen.specs.declared.format.Format.TheVariants.{Line}
use Rattle.j39_listen.specs.declared.counts.Counts.{Counts}
use Rattle.j39_listen.specs.declared.running.RunFault.{RunFault}
use Rattle.j39_listen.specs.declared.running.RunFault.TheVariants.{Read}
use Rattle.j39_cli.specs.LogCommand.{IsRun, IsTold, log_limit}
use Rattle.j39_cli.specs.ReportCommand.{IsReported, form_in, head_in, makes_in}

known : (bus : Option (List ℕ)) (r : Result Counts RunFault) (status : ℕ) (err : Turn) → IsTold bus r status err → (status ≡ 0) ⊎ (status ≡ 1)
known bus (Ok counts) status err told = inl told.0
known bus (Err fault) status err told = inr told.0

-- a run on the task's own bus that ended, and whose end was told, is one
pub is_run : (asks : Wanting) (makes : Making) (bus bus' : Option (List ℕ)) (r : Result Counts RunFault) (status : ℕ)
    → (log out err : Turn) → bus ≡ bus' → Ran makes asks bus log_limit r log out → IsTold bus' r status err
    → IsRun asks makes bus' status log out err
is_run asks makes bus bus' r status log out err is ran told = record {
  known = known bus' r status err told;
  result = r;
  ran = subst (λ (b : Option (List ℕ)). Ran makes asks b log_limit r log out) is ran;
  told = told;
}

-- a run of the report that ended, and whose end was told, is one
pub is_reported : (which : FilterRecord) (format : Format) (bus : Option (List ℕ)) (rows : List RowRecord) (r : Result Counts RunFault) (status : ℕ) (log out err : Turn)
    → Ran (makes_in format which rows) AsksForBoxes bus log_limit r log out → IsTold bus r status err
    → (format ≡ Line Seconds → which ≡ no_filter → OnOk r (IfSome log.old.bytes (λ bytes. WritesPublished rows bus bytes out.old.bytes out.new.bytes)))
    → OnOk r (IfSome log.old.bytes (λ bytes. WritesAsked (head_in format) (form_in format) which rows bus bytes out.old.bytes out.new.bytes))
    → (r ≡ Err Read → WritesWholeLines (makes_in format which rows) bus log.old.bytes log.new.bytes out.old.bytes out.new.bytes)
    → IsReported which format bus rows status log out err
is_reported which format bus rows (Ok counts) status log out err ran told published asked kept = record {
  run = record { known = inl told.0; result = Ok counts; ran = ran; told = told };
  published = λ zero. published;
  asked = λ zero. asked;
  kept_up = kept;
}
is_reported which format bus rows (Err fault) status log out err ran told published asked kept = record {
  run = record { known = inr told.0; result = Err fault; ran = ran; told = told };
  published = λ zero. absurd (let no : 0 ≡ 1 = sym zero ∙ told.0 in cc);
  asked = λ zero. absurd (let no : 0 ≡ 1 = sym zero ∙ told.0 in cc);
  kept_up = kept;
}

-- how the run of an answer ended, by what was answered
pub ended_some : (r : Result Counts RunFault) (counts : Counts)
    → (let a : Result (Option Counts) RunFault = Ok (Some counts) in a) ≡ result_map_both Some (λ fault. fault) r → r ≡ Ok counts
ended_some (Ok x) counts e = cc
ended_some (Err x) counts e = absurd (cc)

pub ended_err : (r : Result Counts RunFault) (fault : RunFault)
    → (let a : Result (Option Counts) RunFault = Err fault in a) ≡ result_map_both Some (λ fault. fault) r → r ≡ Err fault
ended_err (Ok x) fault e = absurd (cc)
ended_err (Err x) fault e = cc

pub told_as : (bus : Option (List ℕ)) (r end : Result Counts RunFault) (status : ℕ) (err : Turn) → r ≡ end → IsTold bus end status err → IsTold bus r status err
told_as bus r end status err is told = subst (λ (x : Result Counts RunFault). IsTold bus x status err) (sym is) told
