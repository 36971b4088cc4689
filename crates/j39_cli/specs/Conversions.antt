-- By which versions of the conversion SPNs are read: `--conversion 1`, or `--conversion NAME=1,..` (J1939-73, 5.7.1).
use Rattle.std.specs.Prelude.{◌≡◌, ◌≤◌, ◌<◌, ◌⊎◌, ℕ, List, Some, None, codes, drop, if◌then◌else◌, length, nat_le, take}
use Rattle.std.specs.Str.{bytes_eq}
use Rattle.std.specs.Str.Parse.{digits_value}
use Rattle.j39_faults.specs.declared.conversion.Conversion.{Conversion}
use Rattle.j39_faults.specs.declared.conversion.Version.{Version}
use Rattle.j39_faults.specs.declared.conversion.Version.TheVariants.{One, Two, Three}
use Rattle.j39_cli.specs.Lists.{IsListOf, values_in}
use Rattle.j39_cli.specs.NameCommand.{IsNameText}

-- the number of a version
abbrev pub IsVersion : List ℕ → Type 0
IsVersion text = (text ≡ codes "1") ⊎ ((text ≡ codes "2") ⊎ (text ≡ codes "3"))

abbrev pub version_in : List ℕ → Version
version_in text = if bytes_eq text (codes "1") then One else (if bytes_eq text (codes "2") then Two else Three)

-- the digits of a NAME, and `=` and the number of a version behind them
abbrev pub IsNamed : List ℕ → List ℕ → Type 0
IsNamed name behind = IsNameText name × ((take 1 behind ≡ codes "=") × IsVersion (drop 1 behind))

abbrev pub named_in : List ℕ → List ℕ → Conversion
named_in name behind = record { name = Some (digits_value 16 name); version = version_in (drop 1 behind) }

-- a version alone, which is for all, or a NAME's
pub record IsConversion (word : List ℕ) : Type 0 where
  pub alone : length word ≤ 16 → IsVersion word
  pub named : 16 < length word → IsNamed (take 16 word) (drop 16 word)

abbrev pub conversion_in : List ℕ → Conversion
conversion_in word =
    if nat_le (length word) 16 then record { name = None; version = version_in word }
    else named_in (take 16 word) (drop 16 word)

abbrev pub IsConversionList : List ℕ → Type 0
IsConversionList = IsListOf IsConversion

abbrev pub conversions_in : List ℕ → List Conversion
conversions_in = values_in conversion_in
