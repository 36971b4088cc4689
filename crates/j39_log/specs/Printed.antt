-- Lines that `candump` prints where it is not asked for a log: `can0  18FEF100   [8]  01 02 03 04 05 06 07 08`.
use Rattle.std.specs.Prelude.{◌==◌, ◌&&◌, ◌||◌, ℕ, List, [], ◌∷◌, Bool, false, length, nat_eq, nat_le, codes, if◌then◌else◌}
use Rattle.std.specs.Char.{is_ascii_digit, is_ascii_hexdigit}
use Rattle.std.specs.List.{list_all, starts_with}
use Rattle.j39_log.specs.Fields.{fields_in}

-- an identifier: 3 or 8 hex digits
abbrev pub is_identifier : List ℕ → Bool
is_identifier field = (length field == 3 || length field == 8) && list_all is_ascii_hexdigit field

-- how many bytes of data follow: one digit or two, in brackets
abbrev pub is_bracketed : List ℕ → Bool
is_bracketed [] = false
is_bracketed (first ∷ []) = false
is_bracketed (first ∷ digit ∷ []) = false
is_bracketed (first ∷ digit ∷ last ∷ []) = first == 0x5B && (is_ascii_digit digit && last == 0x5D)
is_bracketed (first ∷ digit ∷ next ∷ last ∷ []) =
    first == 0x5B && (is_ascii_digit digit && (is_ascii_digit next && last == 0x5D))
is_bracketed (a ∷ b ∷ c ∷ d ∷ e ∷ field) = false

-- an interface, an identifier and a length in brackets
abbrev pub are_printed : List (List ℕ) → Bool
are_printed [] = false
are_printed (a ∷ []) = false
are_printed (a ∷ b ∷ []) = false
are_printed (bus ∷ id ∷ len ∷ fields) = is_identifier id && is_bracketed len

-- behind a stamp in parentheses, or none
abbrev pub are_printed_fields : List (List ℕ) → Bool
are_printed_fields [] = false
are_printed_fields (f ∷ fields) =
    if starts_with nat_eq f (codes "(") then are_printed fields else are_printed (f ∷ fields)

unfoldable pub is_printed : List ℕ → Bool
is_printed line = nat_le (length line) 256 && are_printed_fields (fields_in line)
