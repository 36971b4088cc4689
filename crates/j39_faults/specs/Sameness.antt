-- Which messages of faults tell the same (own).
use Rattle.std.specs.Prelude.{◌==◌, ◌&&◌, ℕ, List, [], ◌∷◌, Bool, true, false, Option, Some, None, bytes_eq, option_map}
use Rattle.j39_faults.specs.declared.code.Candidates.{Candidates}
use Rattle.j39_faults.specs.declared.code.Code.{Code}
use Rattle.j39_faults.specs.declared.code.Parameter.{Parameter}
use Rattle.j39_faults.specs.declared.code.Parameter.TheVariants.{Known, OneOf}
use Rattle.j39_faults.specs.declared.lamps.Lamps.{Lamps}
use Rattle.j39_faults.specs.declared.conversion.Version.{Version}
use Rattle.j39_faults.specs.Conversions.{codes_by}
use Rattle.j39_faults.specs.LampBits.{lamps_of}
use Rattle.j39_faults.specs.Text.{lamps_text}

-- what a payload says: what is told of the lamps, and the codes, by a version of the conversion where one is known
pub record Said : Type 0 where
  pub lamps : Option (List ℕ)
  pub codes : List Code

abbrev pub said_by : Option Version → List ℕ → Said
said_by version payload =
    record { lamps = option_map lamps_text (lamps_of payload); codes = codes_by version payload }

-- ---- the test for it

abbrev pub is_same_spns : Candidates → Candidates → Bool
is_same_spns a b = a.version_1 == b.version_1 && a.version_2 == b.version_2 && a.version_3 == b.version_3

abbrev pub is_same_parameter : Parameter → Parameter → Bool
is_same_parameter (Known a) (Known b) = a == b
is_same_parameter (Known a) (OneOf b) = false
is_same_parameter (OneOf a) (Known b) = false
is_same_parameter (OneOf a) (OneOf b) = is_same_spns a b

abbrev pub is_same_count : Option ℕ → Option ℕ → Bool
is_same_count None None = true
is_same_count None (Some b) = false
is_same_count (Some a) None = false
is_same_count (Some a) (Some b) = a == b

abbrev pub is_same_code : Code → Code → Bool
is_same_code a b = is_same_parameter a.parameter b.parameter && a.fmi == b.fmi && is_same_count a.count b.count

abbrev pub same_codes : List Code → List Code → Bool
same_codes [] [] = true
same_codes [] (b ∷ others) = false
same_codes (a ∷ codes) [] = false
same_codes (a ∷ codes) (b ∷ others) = is_same_code a b && same_codes codes others

abbrev pub same_lamps : Option Lamps → Option Lamps → Bool
same_lamps None None = true
same_lamps None (Some b) = false
same_lamps (Some a) None = false
same_lamps (Some a) (Some b) = bytes_eq (lamps_text a) (lamps_text b)

abbrev pub tells_same : Option Version → List ℕ → List ℕ → Bool
tells_same version a b =
    same_lamps (lamps_of a) (lamps_of b) && same_codes (codes_by version a) (codes_by version b)
