-- By which version the SPN of a code of conversion method 1 is read (J1939-73, 5.7.1).
use Rattle.std.specs.Prelude.{◌==◌, ℕ, List, [], ◌∷◌, Bool, true, false, Option, Some, None, if◌then◌else◌, map}
use Rattle.j39_faults.specs.declared.code.Candidates.{Candidates}
use Rattle.j39_faults.specs.declared.code.Code.{Code}
use Rattle.j39_faults.specs.declared.code.Parameter.{Parameter}
use Rattle.j39_faults.specs.declared.code.Parameter.TheVariants.{Known, OneOf}
use Rattle.j39_faults.specs.declared.conversion.Conversion.{Conversion}
use Rattle.j39_faults.specs.declared.conversion.Version.{Version}
use Rattle.j39_faults.specs.declared.conversion.Version.TheVariants.{One, Two, Three}
use Rattle.j39_faults.specs.Codes.{codes_of}

abbrev pub spn_by : Version → Candidates → ℕ
spn_by One spns = spns.version_1
spn_by Two spns = spns.version_2
spn_by Three spns = spns.version_3

-- where no version is known, its candidates are
abbrev pub parameter_by : Option Version → Parameter → Parameter
parameter_by None parameter = parameter
parameter_by (Some version) (Known spn) = Known spn
parameter_by (Some version) (OneOf spns) = Known (spn_by version spns)

abbrev pub code_by : Option Version → Code → Code
code_by version code = record code { parameter = parameter_by version code.parameter }

-- the codes of a payload
abbrev pub codes_by : Option Version → List ℕ → List Code
codes_by version payload = map (code_by version) (codes_of payload)

-- ---- whose version it is (own)

-- a conversion is for the controller of its NAME, or for all
abbrev pub is_for : Option ℕ → Option ℕ → Bool
is_for None name = true
is_for (Some one) None = false
is_for (Some one) (Some name) = one == name

-- the version of the first that is for the controller
abbrev pub version_for : List Conversion → Option ℕ → Option Version
version_for [] name = None
version_for (c ∷ more) name = if is_for c.name name then Some c.version else version_for more name
