-- The lines that the code's values show.
use Rattle.std.specs.Prelude.{◌++◌, ◌∷◌, [], ℕ, Bool, List, None, Option, if◌then◌else◌}
use Rattle.std.specs.List.{flat_map}
use Rattle.j39_frame.specs.Stamp.{stamp_micros}
use Rattle.j39_names.specs.Naming.{NamingRecord, naming_of}
use Rattle.j39_listen.specs.Listening.{holder_of}
use Rattle.j39_listen.specs.declared.format.Clock.{Clock}
use Rattle.j39_listen.specs.declared.listener.Listener.{Listener}
use Rattle.j39_memory.specs.ByOrigin.{pairs_of}
use Rattle.j39_fault_reports.specs.CurrentPlaces.{LastActives, LastRecord}
use Rattle.j39_fault_reports.specs.CurrentSoFar.{told_so_far}
use Rattle.j39_fault_reports.specs.Faults.{active_or_lights}
use Rattle.j39_fault_reports.specs.FaultsNow.{Told}
use Rattle.j39_faults.specs.declared.code.Code.{Code}
use Rattle.j39_watch.specs.Watch.{Line, fault_line, is_there, moment_text, plain}
use Rattle.j39_watch.specs.WatchSoFar.{fault_lines, value_lines}
use Rattle.j39_watch.specs.declared.values.Values.{Values}
use Rattle.j39_watch.specs.declared.view.View.{View}

abbrev pub lines_of_faults : Clock → NamingRecord → Listener → ℕ → List Told → Values → List Line
lines_of_faults clock naming listener now faults values =
    plain (moment_text clock now) ∷ (flat_map (fault_lines naming (holder_of listener) now) faults
    ++ flat_map (value_lines naming (holder_of listener) now) (pairs_of values.rows))

-- from a view
abbrev pub lines_of_view : View → LastActives → Values → List Line
lines_of_view view places values =
    lines_of_faults view.size.clock (naming_of view.naming) view.listener.now (stamp_micros view.now) (told_so_far places 256) values

-- the line of a code of the last message of an address, or, of none, of its lamps, if it is shown
abbrev pub said_lines : View → ℕ → LastRecord → Option Code → List Line
said_lines view a last code =
    if is_there (holder_of view.listener.now) a last.name
    then fault_line (naming_of view.naming) (stamp_micros view.now) a last.name last.stamp (active_or_lights last.lamps code) ∷ []
    else []

-- the places that are asked for; the others are empty
unfoldable pub kept_where : List Bool → LastActives → LastActives
kept_where [] places = []
kept_where (is_asked ∷ asked) [] = []
kept_where (is_asked ∷ asked) (place ∷ places) = (if is_asked then place else None) ∷ kept_where asked places
