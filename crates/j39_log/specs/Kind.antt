-- What another line holds, by its third field: an identifier, `#`, and what follows.
use Rattle.std.specs.Prelude.{◌==◌, ◌&&◌, ◌||◌, ℕ, List, [], ◌∷◌, Bool, not, length, take, drop, nat_eq, codes, if◌then◌else◌}
use Rattle.std.specs.Char.{is_ascii_hexdigit}
use Rattle.std.specs.List.{list_all, prefix_len, starts_with}
use Rattle.j39_io.specs.Chars.{hash}
use Rattle.j39_log.specs.Fields.{fields_in}
use Rattle.j39_log.specs.declared.kind.OtherKind.{OtherKind}
use Rattle.j39_log.specs.declared.kind.OtherKind.TheVariants.{Standard, Remote, Flexible, Error, Odd}

-- an identifier of 11 bits: three hex digits
abbrev pub is_standard : List ℕ → Bool
is_standard id = length id == 3 && list_all is_ascii_hexdigit id

-- an identifier of an error frame: eight hex digits, of which the first is 2 or 3, for it has the bit above all 29
abbrev pub is_error : List ℕ → Bool
is_error id = length id == 8 && (list_all is_ascii_hexdigit id
    && (starts_with nat_eq id (codes "2") || starts_with nat_eq id (codes "3")))

abbrev pub is_not_hash : ℕ → Bool
is_not_hash b = not (b == hash)

-- by the identifier, and what follows it from the first `#` on: two of them are CAN FD, an `R` is a remote frame
abbrev pub kind_by : List ℕ → List ℕ → OtherKind
kind_by id rest =
    if starts_with nat_eq rest (codes "##") then Flexible
    else if starts_with nat_eq rest (codes "#R") then Remote
    else if is_standard id then Standard
    else if is_error id then Error
    else Odd

abbrev pub kind_of_field : List ℕ → OtherKind
kind_of_field field = kind_by (take (prefix_len is_not_hash field) field) (drop (prefix_len is_not_hash field) field)

abbrev pub kind_of_fields : List (List ℕ) → OtherKind
kind_of_fields [] = Odd
kind_of_fields (a ∷ []) = Odd
kind_of_fields (a ∷ b ∷ []) = Odd
kind_of_fields (a ∷ b ∷ third ∷ fields) = kind_of_field third

-- of what kind a line is that is another one
unfoldable pub kind_of : List ℕ → OtherKind
kind_of line = kind_of_fields (fields_in line)
