-- What becomes of a code from a message of faults to the next (own).
use Rattle.std.specs.Prelude.{◌==◌, ◌&&◌, ℕ, List, [], ◌∷◌, Bool, false, Option, Some, None, if◌then◌else◌, nat_lt}
use Rattle.j39_faults.specs.declared.change.Change.{Change}
use Rattle.j39_faults.specs.declared.change.Change.TheVariants.{Set, Again, Cleared}
use Rattle.j39_faults.specs.declared.code.Code.{Code}
use Rattle.j39_faults.specs.Sameness.{is_same_parameter}

-- a code is named by its SPN and FMI, whatever its count
abbrev pub is_same_fault : Code → Code → Bool
is_same_fault a b = is_same_parameter a.parameter b.parameter && a.fmi == b.fmi

-- the first of these codes that names it
abbrev pub named_in : List Code → Code → Option Code
named_in [] code = None
named_in (one ∷ more) code = if is_same_fault one code then Some one else named_in more code

-- a count that is not available says nothing (J1939-73, 5.7.1)
abbrev pub grew : Option ℕ → Option ℕ → Bool
grew None now = false
grew (Some before) None = false
grew (Some before) (Some now) = nat_lt before now

-- ---- a code of a message

abbrev pub change_from : Option Code → Code → Option Change
change_from None code = Some Set
change_from (Some last) code = if grew last.count code.count then Some Again else None

-- behind these codes of the message before
abbrev pub change_since : List Code → Code → Option Change
change_since before code = change_from (named_in before code) code

-- ---- a code of the message before

abbrev pub clearing_from : Option Code → Option Change
clearing_from None = Some Cleared
clearing_from (Some one) = None

-- by these codes of the message
abbrev pub clearing_by : List Code → Code → Option Change
clearing_by now code = clearing_from (named_in now code)
