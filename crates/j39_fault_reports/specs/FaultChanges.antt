-- What becomes of a controller's active codes, from one message of DM1 to the next (own).
use Rattle.std.specs.Prelude.{◌++◌, ◌∷◌, [], ℕ, List, Option, Some, None, if◌then◌else◌}
use Rattle.std.specs.List.{flat_map}
use Rattle.j39_faults.specs.Changes.{change_since, clearing_by}
use Rattle.j39_faults.specs.Conversions.{codes_by, version_for}
use Rattle.j39_faults.specs.FaultGroups.{kind_of}
use Rattle.j39_faults.specs.LampBits.{lamps_of}
use Rattle.j39_faults.specs.Text.{lamps_told}
use Rattle.j39_faults.specs.declared.change.Change.{Change}
use Rattle.j39_faults.specs.declared.code.Code.{Code}
use Rattle.j39_faults.specs.declared.conversion.Conversion.{Conversion}
use Rattle.j39_faults.specs.declared.conversion.Version.{Version}
use Rattle.j39_faults.specs.declared.kind.Kind.{Kind}
use Rattle.j39_faults.specs.declared.lamps.Lamps.{Lamps}
use Rattle.j39_faults.specs.declared.text.State.TheVariants.{Became}
use Rattle.j39_listen.specs.Heard.{Hearing}
use Rattle.j39_fault_reports.specs.Faults.{Fault, fault_of, lights_since, said_at}
use Rattle.j39_fault_reports.specs.Spoken.{active_among, is_active, sent_before, spoken_in}

-- what the last of these says
abbrev pub last_bytes : List Hearing → List ℕ
last_bytes [] = []
last_bytes (m ∷ ms) = m.message.bytes

-- what became of a code, if anything did
abbrev pub became : Hearing → Lamps → Code → Option Change → List Fault
became m lamps code None = []
became m lamps code (Some change) = fault_of m (Became change) lamps (Some code) ∷ []

-- what was told of the lamps; nothing where nothing was said
abbrev pub words_of : Option Lamps → List ℕ
words_of None = []
words_of (Some lamps) = lamps_told lamps

-- of each code that the message names, in order, that it is set or came again; then of each that the message before names, and
-- this one doesn't, that it is cleared, with the count that it had
abbrev pub code_changes : Option Version → List ℕ → Hearing → Lamps → List Fault
code_changes version before m lamps =
    flat_map (λ code. became m lamps code (change_since (codes_by version before) code)) (codes_by version m.message.bytes)
    ++ flat_map (λ code. became m lamps code (clearing_by (codes_by version m.message.bytes) code)) (codes_by version before)

-- before them the lamps, if they changed
abbrev pub changes_by : Option Version → List ℕ → Hearing → Lamps → List Fault
changes_by version before m lamps =
    lights_since (words_of (lamps_of before)) lamps (said_at m) ++ code_changes version before m lamps

abbrev pub changes_of : Option Version → List ℕ → Hearing → Option Kind → Option Lamps → List Fault
changes_of version before m None lamps = []
changes_of version before m (Some kind) None = []
changes_of version before m (Some kind) (Some lamps) = if is_active kind then changes_by version before m lamps else []

-- in DM1, behind these messages: since what its controller said before
abbrev pub changes_in : List Conversion → List Hearing → Hearing → List Fault
changes_in conversions before m =
    changes_of (version_for conversions m.name) (last_bytes (sent_before (spoken_in (active_among before)) m)) m
    (kind_of m.message.pgn) (lamps_of m.message.bytes)
