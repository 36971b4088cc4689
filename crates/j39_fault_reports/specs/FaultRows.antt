-- The row of a fault (own).
use Rattle.std.specs.Prelude.{◌∷◌, ◌++◌, ℕ, List, [], Option, Some, None, codes, if◌then◌else◌, unwrap_or}
use Rattle.std.specs.List.{flat_map}
use Rattle.j39_faults.specs.Text.{clear_text, lamps_told, parameter_words, state_text}
use Rattle.j39_faults.specs.Words.{fmi_words}
use Rattle.j39_faults.specs.declared.code.Code.{Code}
use Rattle.j39_faults.specs.declared.code.Parameter.{Parameter}
use Rattle.j39_faults.specs.declared.code.Parameter.TheVariants.{Known, OneOf}
use Rattle.j39_faults.specs.declared.kind.Kind.{Kind}
use Rattle.j39_faults.specs.declared.lamps.Lamps.{Lamps}
use Rattle.j39_faults.specs.declared.text.State.{State}
use Rattle.j39_faults.specs.declared.text.State.TheVariants.{Is, Became}
use Rattle.j39_names.specs.Naming.{NamingRecord}
use Rattle.j39_listen.specs.declared.format.Clock.TheVariants.{Seconds}
use Rattle.j39_listen.specs.declared.format.Format.{Format}
use Rattle.j39_listen.specs.declared.format.Format.TheVariants.{Line}
use Rattle.j39_fault_reports.specs.Faults.{Fault, Manner, Saying, clears, lights, name_in, says, says_asked}
use Rattle.j39_fault_reports.specs.declared.fault_news.telling.Telling.{Telling}
use Rattle.j39_fault_reports.specs.declared.fault_news.telling.Telling.TheVariants.{Changes}
use Rattle.j39_rows.specs.Row.{CellRecord, ColumnRecord, HeadRecord, address_cell, aside, beside_lines, column_text, dash, if_any, in_all, name_column, nothing, number_cell, or_nothing, plain, row_text, seconds, text, text_or_nothing, utc_cell, word}

-- the names of the columns of records, with this one for the state
abbrev pub columns_with : List ℕ → List ℕ
columns_with state =
    codes "stamp,utc,address,destination,name," ++ (state ++ codes ",spn,fmi,count,lamps,parameter,meaning\r\n")

abbrev pub fault_columns : Telling → List ℕ
fault_columns Changes = columns_with (codes "change")
fault_columns telling = columns_with (codes "state")

-- what the rows of a message begin with: the moment, the address, the destination and the NAME
abbrev pub message_columns : ℕ → ℕ → Option ℕ → Option ℕ → List ColumnRecord
message_columns stamp address destination name =
    beside_lines (codes "utc") (utc_cell stamp) ∷ in_all (codes "address") dash (address_cell address)
    ∷ in_all (codes "destination") (if_any (codes ">")) (or_nothing address_cell destination) ∷ name_column name ∷ []

abbrev pub message_head : ℕ → ℕ → Option ℕ → Option ℕ → HeadRecord
message_head stamp address destination name = record {
  name = codes "stamp";
  first = seconds stamp;
  columns = message_columns stamp address destination name;
}

-- what is said where there is no code: in a line what stands for the parameter, else what it means
abbrev pub uncoded : List ℕ → List ℕ → List ℕ → CellRecord → List ℕ → List ColumnRecord
uncoded name how spn lamps meaning =
    in_all name dash (plain (word how)) ∷ in_all (codes "spn") dash (aside spn) ∷ in_all (codes "fmi") dash nothing
    ∷ in_all (codes "count") (if_any (codes " ")) nothing ∷ beside_lines (codes "lamps") lamps
    ∷ in_all (codes "parameter") (if_any (codes " ")) nothing ∷ beside_lines (codes "meaning") (text meaning) ∷ []

-- the parameter's number, where it is known
abbrev pub spn_cell : Parameter → CellRecord
spn_cell (Known spn) = number_cell spn
spn_cell (OneOf spns) = nothing

-- what is said of a code of a parameter that is called so
abbrev pub coded : List ℕ → List ℕ → CellRecord → List ℕ → Code → List ColumnRecord
coded name how lamps parameter code =
    in_all name dash (plain (word how)) ∷ in_all (codes "spn") dash (spn_cell code.parameter)
    ∷ in_all (codes "fmi") dash (number_cell code.fmi) ∷ in_all (codes "count") dash (or_nothing number_cell code.count)
    ∷ beside_lines (codes "lamps") lamps ∷ in_all (codes "parameter") (if_any (codes " ")) (text parameter)
    ∷ in_all (codes "meaning") (if_any (codes ": ")) (text (fmi_words code.fmi)) ∷ []

-- the state, or what became of a code
abbrev pub state_name : State → List ℕ
state_name (Is kind) = codes "state"
state_name (Became change) = codes "change"

-- by what the parameter is called; where it has no name by a word and its number, or its candidates
abbrev pub said_columns : NamingRecord → State → Lamps → Option Code → List ColumnRecord
said_columns naming how lamps None =
    uncoded (state_name how) (state_text how) (codes "none") (text_or_nothing (lamps_told lamps)) (codes "no code")
said_columns naming how lamps (Some code) =
    coded (state_name how) (state_text how) (text_or_nothing (lamps_told lamps))
    (unwrap_or (name_in naming code) (parameter_words code.parameter)) code

-- a line of lamps has these alone behind what it begins with
abbrev pub lights_columns : CellRecord → List ColumnRecord
lights_columns lamps =
    in_all (codes "state") dash (plain (word (codes "lamps"))) ∷ beside_lines (codes "spn") nothing
    ∷ beside_lines (codes "fmi") nothing ∷ beside_lines (codes "count") nothing ∷ in_all (codes "lamps") dash lamps
    ∷ beside_lines (codes "parameter") nothing ∷ beside_lines (codes "meaning") nothing ∷ []

-- that the codes of a kind are to be cleared
abbrev pub clearing_columns : Kind → List ColumnRecord
clearing_columns kind = uncoded (codes "state") (clear_text kind) (codes "all") nothing (codes "all codes")

abbrev pub saying_columns : NamingRecord → Saying → List ColumnRecord
saying_columns naming (lights lamps) = lights_columns (text_or_nothing (lamps_told lamps))
saying_columns naming (says how lamps code) = said_columns naming how lamps code
saying_columns naming (clears kind) = clearing_columns kind

-- as it stands in a line, behind what that begins with
abbrev pub saying_text : NamingRecord → Saying → List ℕ
saying_text naming saying = flat_map (column_text (Line Seconds)) (saying_columns naming saying)

-- what the column of the state is called in its row
abbrev pub saying_name : Saying → List ℕ
saying_name (lights lamps) = codes "state"
saying_name (says how lamps code) = state_name how
saying_name (clears kind) = codes "state"

-- if its code is asked for
abbrev pub fault_in : Format → Manner → Fault → List ℕ
fault_in form manner f =
    if says_asked manner f
    then row_text form (message_head f.stamp f.address f.destination f.name) (saying_columns manner.naming f.saying) else []

unfoldable pub faults_text : Format → Manner → List Fault → List ℕ
faults_text form manner faults = flat_map (fault_in form manner) faults
