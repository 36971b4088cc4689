-- Where a run that tells faults may want memory.
use Rattle.std.specs.Prelude.{◌≡◌, ◌⊎◌, ◌++◌, ◌∷◌, [], List, length, true}
use Rattle.j39_frame.specs.Frame.{FrameRecord}
use Rattle.j39_listen.specs.Asking.{AsksForBoxes, Wanting}
use Rattle.j39_listen.specs.Filter.{FilterRecord, first_stamp, in_time, is_in_time}
use Rattle.j39_listen.specs.Heard.{AreHeardWith, Hearing, IsHeardWith}
use Rattle.j39_fault_reports.specs.News.{faults_among, is_fault_group, is_of_faults}
use Rattle.j39_fault_reports.specs.Remembered.{IsFirst}
use Rattle.j39_fault_reports.specs.declared.fault_news.telling.Telling.{Telling}

-- behind the frames F a message of faults is heard at the frame, between the moments the first that is remembered of its place
pub record IsFirstOfFaults (telling : Telling) (which : FilterRecord) (F : List FrameRecord) (frame : FrameRecord) : Type 0 where
  pub before : List Hearing
  pub are_heard : AreHeardWith is_fault_group F before
  pub message : Hearing
  pub is_heard : IsHeardWith is_fault_group (F ++ frame ∷ []) (length F) message
  pub of_faults : is_of_faults message ≡ true
  pub now : is_in_time which (first_stamp (F ++ frame ∷ [])) message.stamp ≡ true
  pub first : IsFirst telling (in_time which (first_stamp (F ++ frame ∷ [])) (faults_among before)) message

-- where a message in packets is announced that needs a box, or a message of faults is the first of its place
abbrev pub AsksForFaults : Telling → FilterRecord → Wanting
AsksForFaults telling which F frame = AsksForBoxes F frame ⊎ IsFirstOfFaults telling which F frame
