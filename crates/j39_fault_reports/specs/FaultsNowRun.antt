-- The text of what the last messages of active codes name, what a run makes of the frames, and where it may want memory.
use Rattle.std.specs.Prelude.{◌≡◌, ◌⊎◌, ◌++◌, ◌∷◌, [], true, Bool, ℕ, List, Option, codes, count_by, if◌then◌else◌, length}
use Rattle.std.specs.List.{flat_map}
use Rattle.j39_frame.specs.Frame.{FrameRecord}
use Rattle.j39_faults.specs.declared.conversion.Conversion.{Conversion}
use Rattle.j39_faults.specs.declared.kind.Kind.TheVariants.{Active}
use Rattle.j39_faults.specs.declared.text.State.TheVariants.{Is}
use Rattle.j39_listen.specs.Asking.{AsksForBoxes, Wanting}
use Rattle.j39_listen.specs.Filter.{FilterRecord, first_stamp, in_time, is_in_time}
use Rattle.j39_listen.specs.Headed.{Columned}
use Rattle.j39_listen.specs.Heard.{AreHeardWith, Hearing, IsHeardWith}
use Rattle.j39_listen.specs.Output.{Making, Output}
use Rattle.j39_listen.specs.declared.format.Format.{Format}
use Rattle.j39_fault_reports.specs.FaultRows.{fault_in, said_columns}
use Rattle.j39_rows.specs.Row.{dash, name_column}
use Rattle.j39_fault_reports.specs.Faults.{Manner, names_asked, says_asked}
use Rattle.j39_rows.specs.Row.{HeadRecord, address_cell, beside_lines, if_any, in_all, micros_cell, number_cell, or_nothing, row_text, seconds, seconds_cell, utc_cell}
use Rattle.j39_fault_reports.specs.FaultsNow.{Now, Told, lit, named, now_taken, told_now}
use Rattle.j39_fault_reports.specs.Silence.{last_stamp, silent_since}
use Rattle.j39_fault_reports.specs.Spoken.{active_among, is_active_message, spoken_in}
use Rattle.j39_fault_reports.specs.News.{is_fault_group}

-- the names of the columns
abbrev pub now_columns : List ℕ
now_columns = codes "first_stamp,first_utc,address,name,last_stamp,last_utc,messages,silent,state,spn,fmi,count,lamps,parameter,meaning\r\n"

-- what its row begins with: since when, the address and the NAME, up to when, how often, and how long the bus went on till then
abbrev pub now_head : Option ℕ → Now → HeadRecord
now_head till n = record {
  name = codes "first_stamp";
  first = seconds n.since;
  columns =
      beside_lines (codes "first_utc") (utc_cell n.since) ∷ in_all (codes "address") dash (address_cell n.address)
      ∷ name_column n.name ∷ in_all (codes "last_stamp") dash (seconds_cell n.last)
      ∷ beside_lines (codes "last_utc") (utc_cell n.last) ∷ in_all (codes "messages") dash (number_cell n.often)
      ∷ in_all (codes "silent") (if_any (codes " silent ")) (or_nothing micros_cell (silent_since n.last till)) ∷ [];
}

-- if its code is asked for
abbrev pub now_line : Format → Manner → Option ℕ → Now → List ℕ
now_line form manner till n =
    if names_asked manner.spns n.code then row_text form (now_head till n) (said_columns manner.naming (Is Active) n.lamps n.code) else []

abbrev pub told_line : Format → Manner → Option ℕ → Told → List ℕ
told_line form manner till (lit f) = fault_in form manner f
told_line form manner till (named n) = now_line form manner till n

unfoldable pub now_text : Format → Manner → Option ℕ → List Told → List ℕ
now_text form manner till ts = flat_map (told_line form manner till) ts

abbrev pub told_asked : Manner → Told → Bool
told_asked manner (lit f) = says_asked manner f
told_asked manner (named n) = names_asked manner.spns n.code

abbrev pub now_lines : Manner → List Told → ℕ
now_lines manner ts = count_by (told_asked manner) ts

-- of the messages between the moments what is asked for; each message of active codes counts
abbrev pub faults_now_of : Format → Manner → List Conversion → FilterRecord → ℕ → Option ℕ → List Hearing → Output
faults_now_of form manner conversions which first till ms = record {
  text = now_text form manner till (now_taken which first (told_now conversions (in_time which first ms)));
  messages = length ms;
  lines = now_lines manner (now_taken which first (told_now conversions (in_time which first ms)));
}

-- of the frames, whatever their bus is called, in either form
abbrev pub MakesFaultsNowIn : Format → Manner → List Conversion → FilterRecord → Making
MakesFaultsNowIn form manner conversions which bus F output =
    (heard : List Hearing) × AreHeardWith is_fault_group F heard
    × (output ≡ faults_now_of form manner conversions which (first_stamp F) (last_stamp which F) (active_among heard))

-- a line, a record or an object for each
abbrev pub MakesFaultsNow : Format → Manner → List Conversion → FilterRecord → Making
MakesFaultsNow form manner conversions which = Columned now_columns form (MakesFaultsNowIn form manner conversions which)

-- behind the frames F a message of active codes is heard at the frame, between the moments, where no controller spoke last at its
-- address
pub record IsFirstActive (which : FilterRecord) (F : List FrameRecord) (frame : FrameRecord) : Type 0 where
  pub before : List Hearing
  pub are_heard : AreHeardWith is_fault_group F before
  pub message : Hearing
  pub is_heard : IsHeardWith is_fault_group (F ++ frame ∷ []) (length F) message
  pub of_active : is_active_message message ≡ true
  pub now : is_in_time which (first_stamp (F ++ frame ∷ [])) message.stamp ≡ true
  pub first : spoken_in (in_time which (first_stamp (F ++ frame ∷ [])) (active_among before)) message.message.source ≡ []

-- where a message in packets is announced that needs a box, or one of active codes is the first of its address
abbrev pub AsksForFaultsNow : FilterRecord → Wanting
AsksForFaultsNow which F frame = AsksForBoxes F frame ⊎ IsFirstActive which F frame
