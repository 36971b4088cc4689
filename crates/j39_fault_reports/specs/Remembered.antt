-- What is kept of the messages of faults: for each address and group what was said last.
use Rattle.std.specs.Prelude.{◌≡◌, ◌<◌, [], ℕ, Bool, true, false, List, Option, None, Some, if◌then◌else◌, length, option_map, slice_set, take}
use Rattle.j39_faults.specs.FaultGroups.{kind_of}
use Rattle.j39_faults.specs.declared.kind.Kind.{Kind}
use Rattle.j39_faults.specs.declared.kind.Kind.TheVariants.{Active, Previous, EmissionPending, EmissionActive, EmissionPrevious, Pending, Permanent}
use Rattle.j39_listen.specs.Heard.{Hearing}
use Rattle.j39_fault_reports.specs.News.{last_from}
use Rattle.j39_fault_reports.specs.LastMessages.{LastMessages, LastRecord, at, name_of, said_by}
use Rattle.j39_fault_reports.specs.Places.{IsKept, kept_before}
use Rattle.j39_fault_reports.specs.Spoken.{active_among, is_active, spoken_in}
use Rattle.j39_fault_reports.specs.declared.fault_news.telling.Telling.{Telling}
use Rattle.j39_fault_reports.specs.declared.fault_news.telling.Telling.TheVariants.{Changes}
use Rattle.j39_fault_reports.specs.declared.fault_news.last_faults.LastFaults.{LastFaults}

-- of codes of each kind
abbrev pub kept : LastFaults → Kind → LastMessages
kept last Active = last.active
kept last Previous = last.previous
kept last EmissionPending = last.emission_pending
kept last EmissionActive = last.emission_active
kept last EmissionPrevious = last.emission_previous
kept last Pending = last.pending
kept last Permanent = last.permanent

abbrev pub said_at : LastFaults → Kind → ℕ → Option LastRecord
said_at last kind a = at (kept last kind) a

-- an address said this of them, and nothing else has changed
abbrev pub noted : LastFaults → Kind → ℕ → LastRecord → LastFaults
noted last Active a s = record last { active = slice_set last.active a (Some s) }
noted last Previous a s = record last { previous = slice_set last.previous a (Some s) }
noted last EmissionPending a s = record last { emission_pending = slice_set last.emission_pending a (Some s) }
noted last EmissionActive a s = record last { emission_active = slice_set last.emission_active a (Some s) }
noted last EmissionPrevious a s = record last { emission_previous = slice_set last.emission_previous a (Some s) }
noted last Pending a s = record last { pending = slice_set last.pending a (Some s) }
noted last Permanent a s = record last { permanent = slice_set last.permanent a (Some s) }

abbrev pub said_in : Hearing → LastRecord
said_in h = said_by h.message.bytes h.name

abbrev pub IsSaid : Hearing → List Hearing → LastRecord → Type 0
IsSaid m before said = (said ≡ said_in m) × (take 1785 m.message.bytes ≡ m.message.bytes)

-- whether it is told what became of the codes of a kind
abbrev pub tells_changes : Telling → Kind → Bool
tells_changes Changes kind = is_active kind
tells_changes telling kind = false

-- what was said of them before a message: by its controller, where that is told, or else by its address
abbrev pub before_of : Telling → LastFaults → Kind → Hearing → Option LastRecord
before_of telling last kind h =
    if tells_changes telling kind then kept_before name_of (kept last kind) h.name h.message.source
    else said_at last kind h.message.source

-- of each address it has what was said last in these messages; of the codes of which changes are told, what its controller said
pub record Remembers (telling : Telling) (last : LastFaults) (ms : List Hearing) : Type 0 where
  pub places : (kind : Kind) → length (kept last kind) ≡ 256
  pub said : (pgn a : ℕ) (kind : Kind) → kind_of pgn ≡ Some kind → tells_changes telling kind ≡ false → a < 256
      → said_at last kind a ≡ option_map said_in (last_from pgn a ms)
  pub follows : tells_changes telling Active ≡ true → (a : ℕ) → a < 256
      → IsKept name_of IsSaid (spoken_in (active_among ms) a) (said_at last Active a)
  -- none was cut short
  pub whole : (m : Hearing) (pgn a : ℕ) → last_from pgn a ms ≡ Some m → take 1785 m.message.bytes ≡ m.message.bytes

-- a message of the kind is the first that is remembered there
abbrev pub IsFirstBy : Bool → List Hearing → Hearing → Type 0
IsFirstBy true ms m = spoken_in (active_among ms) m.message.source ≡ []
IsFirstBy false ms m = last_from m.message.pgn m.message.source ms ≡ None

abbrev pub tells_changes_of : Telling → Option Kind → Bool
tells_changes_of telling None = false
tells_changes_of telling (Some kind) = tells_changes telling kind

-- behind these messages: of its group from its address, or, where it is told what became of codes, of the controllers that spoke
-- last at their address
abbrev pub IsFirst : Telling → List Hearing → Hearing → Type 0
IsFirst telling ms m = IsFirstBy (tells_changes_of telling (kind_of m.message.pgn)) ms m
