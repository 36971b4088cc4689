-- The words for a code and for the lamps (own).
use Rattle.std.specs.Prelude.{◌&&◌, ◌++◌, ◌∷◌, ℕ, List, [], Bool, true, false, Option, Some, None, if◌then◌else◌, codes, decimal}
use Rattle.std.specs.List.{join_with_byte}
use Rattle.j39_faults.specs.declared.change.Change.{Change}
use Rattle.j39_faults.specs.declared.change.Change.TheVariants.{Set, Again, Cleared}
use Rattle.j39_faults.specs.declared.code.Candidates.{Candidates}
use Rattle.j39_faults.specs.declared.code.Parameter.{Parameter}
use Rattle.j39_faults.specs.declared.code.Parameter.TheVariants.{Known, OneOf}
use Rattle.j39_faults.specs.declared.kind.Kind.{Kind}
use Rattle.j39_faults.specs.declared.kind.Kind.TheVariants.{Active, Previous, EmissionPending, EmissionActive, EmissionPrevious, Pending, Permanent}
use Rattle.j39_faults.specs.declared.lamps.Flash.{Flash}
use Rattle.j39_faults.specs.declared.lamps.Flash.TheVariants as flash
use Rattle.j39_faults.specs.declared.lamps.Lamp.{Lamp}
use Rattle.j39_faults.specs.declared.lamps.LampState.{LampState}
use Rattle.j39_faults.specs.declared.lamps.LampState.TheVariants as state
use Rattle.j39_faults.specs.declared.lamps.Lamps.{Lamps}
use Rattle.j39_faults.specs.declared.text.State.{State}
use Rattle.j39_faults.specs.declared.text.State.TheVariants.{Is, Became}

abbrev pub kind_text : Kind → List ℕ
kind_text Active = codes "active"
kind_text Previous = codes "previous"
kind_text EmissionPending = codes "emission-pending"
kind_text EmissionActive = codes "emission-active"
kind_text EmissionPrevious = codes "emission-previous"
kind_text Pending = codes "pending"
kind_text Permanent = codes "permanent"

abbrev pub change_text : Change → List ℕ
change_text Set = codes "set"
change_text Again = codes "again"
change_text Cleared = codes "cleared"

-- of which kind a code is, or what became of it
abbrev pub state_text : State → List ℕ
state_text (Is kind) = kind_text kind
state_text (Became change) = change_text change

-- as `clear-active`, where the codes of a kind are to be cleared
unfoldable pub clear_text : Kind → List ℕ
clear_text kind = codes "clear-" ++ kind_text kind

-- ---- the lamps

abbrev pub is_told : LampState → Bool
is_told state.Off = false
is_told state.On = true
is_told state.Reserved = true
is_told state.NotAvailable = true

abbrev pub is_absent : LampState → Bool
is_absent state.Off = false
is_absent state.On = false
is_absent state.Reserved = false
is_absent state.NotAvailable = true

-- a `*` where it flashes
abbrev pub star_of : Flash → List ℕ
star_of flash.Slow = codes "*"
star_of flash.Fast = codes "*"
star_of flash.Reserved = []
star_of flash.Steady = []

-- what stands behind the name: whether a lamp flashes that is on, or that it is neither on nor off
abbrev pub ending_of : LampState → Flash → List ℕ
ending_of state.Off how = []
ending_of state.On how = star_of how
ending_of state.Reserved how = codes ":reserved"
ending_of state.NotAvailable how = codes ":n/a"

-- of a lamp that isn't off
abbrev pub lamp_words : List ℕ → Lamp → List (List ℕ)
lamp_words name lamp = if is_told lamp.state then (name ++ ending_of lamp.state lamp.flash) ∷ [] else []

abbrev pub all_lamp_words : Lamps → List (List ℕ)
all_lamp_words lamps =
    lamp_words (codes "malfunction") lamps.malfunction ++ (lamp_words (codes "red") lamps.red
    ++ (lamp_words (codes "amber") lamps.amber ++ lamp_words (codes "protect") lamps.protect))

-- with a comma (44) between each two
unfoldable pub lamps_in_words : Lamps → List ℕ
lamps_in_words lamps = join_with_byte 44 (all_lamp_words lamps)

-- none is available
abbrev pub no_lamp : Lamps → Bool
no_lamp lamps =
    is_absent lamps.malfunction.state && (is_absent lamps.red.state
    && (is_absent lamps.amber.state && is_absent lamps.protect.state))

-- nothing where all are off
unfoldable pub lamps_told : Lamps → List ℕ
lamps_told lamps = if no_lamp lamps then codes "n/a" else lamps_in_words lamps

-- a dash for nothing
abbrev pub or_dash : List ℕ → List ℕ
or_dash [] = codes "-"
or_dash (x ∷ xs) = x ∷ xs

unfoldable pub lamps_text : Lamps → List ℕ
lamps_text lamps = or_dash (lamps_told lamps)

-- ---- a parameter without a name

abbrev pub candidates_words : Candidates → List ℕ
candidates_words spns =
    codes "SPN " ++ decimal spns.version_1 ++ codes ", " ++ decimal spns.version_2 ++ codes " or "
    ++ decimal spns.version_3 ++ codes " by conversion 1, 2 or 3"

-- what stands for its name
abbrev pub parameter_words : Parameter → List ℕ
parameter_words (Known spn) = codes "SPN " ++ decimal spn
parameter_words (OneOf spns) = candidates_words spns
