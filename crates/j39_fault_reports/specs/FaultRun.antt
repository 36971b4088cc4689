-- What is made of the frames of a log.
use Rattle.std.specs.Prelude.{◌≡◌, ℕ, List, length}
use Rattle.j39_listen.specs.Filter.{first_stamp, in_time}
use Rattle.j39_listen.specs.Heard.{AreHeardWith, Hearing}
use Rattle.j39_listen.specs.Headed.{Columned}
use Rattle.j39_listen.specs.Output.{Making, Output}
use Rattle.j39_fault_reports.specs.News.{Chosen, faults_among, is_fault_group}
use Rattle.j39_fault_reports.specs.Faults.{Manner, faults_taken, lines_in}
use Rattle.j39_fault_reports.specs.Told.{told}
use Rattle.j39_fault_reports.specs.FaultRows.{fault_columns, faults_text}
use Rattle.j39_listen.specs.declared.format.Format.{Format}

-- the text of each fault that is told of the messages of faults between the moments, and that is asked for; each message of faults
-- counts
abbrev pub faults_of : Format → Manner → Chosen → ℕ → List Hearing → Output
faults_of form manner which first ms = record {
  text = faults_text form manner (faults_taken which.asked first (told which (in_time which.asked first ms)));
  messages = length ms;
  lines = lines_in manner (faults_taken which.asked first (told which (in_time which.asked first ms)));
}

-- the faults that are told in the frames, whatever their bus is called, in either form
abbrev pub MakesFaultsIn : Format → Manner → Chosen → Making
MakesFaultsIn form manner which bus F output =
    (heard : List Hearing) × AreHeardWith is_fault_group F heard
    × (output ≡ faults_of form manner which (first_stamp F) (faults_among heard))

-- a line, a record or an object for each
abbrev pub MakesFaults : Format → Manner → Chosen → Making
MakesFaults form manner which = Columned (fault_columns which.telling) form (MakesFaultsIn form manner which)
