-- Where a parameter stands, as a line says it.
use Rattle.std.specs.Prelude.{◌≡◌, ◌==◌, ◌+◌, ◌-◌, ◌/◌, ◌%◌, ◌<◌, ◌≤◌, ◌++◌, ◌∷◌, ⊤, ℕ, List, [], Bool, false, if◌then◌else◌, codes, decimal}
use Rattle.std.specs.Prelude.{◌&&◌, nat_le}
use Rattle.j39_groups.specs.Printed.{bits_end, bits_text, bytes_or_bits_text, mark, range_text}
use Rattle.j39_table.specs.declared.position.Position.{Position}
use Rattle.j39_table.specs.declared.position.Position.TheVariants.{Bytes, Bits, Full, Part, Texts}

abbrev pub text_of_place : Position → List ℕ
text_of_place (Bytes first last) = range_text first last
text_of_place (Bits byte low count) = bits_text byte low (bits_end low count)
text_of_place (Full byte low count is_signed) = bytes_or_bits_text byte low count ++ mark is_signed ∷ []
text_of_place (Part part) = codes "*" ++ decimal part
text_of_place (Texts byte) = decimal byte ++ codes "-"

-- one to four bytes
pub record IsGoodBytes (first last : ℕ) : Type 0 where
  pub starts : 0 < first
  pub ordered : first ≤ last
  pub narrow : last < first + 4
  pub ends : last ≤ 255

-- one to 32 bits
pub record IsGoodBits (byte low count : ℕ) : Type 0 where
  pub byte_starts : 0 < byte
  pub byte_ends : byte + bits_end low count / 8 ≤ 255
  pub starts : 0 < low
  pub ends : low ≤ 8
  pub some : 0 < count
  pub narrow : count ≤ 32

-- bytes, bits and parts count from 1, bytes and parts to 255
abbrev pub IsGoodPlace : Position → Type 0
IsGoodPlace (Bytes first last) = IsGoodBytes first last
IsGoodPlace (Bits byte low count) = IsGoodBits byte low count
IsGoodPlace (Full byte low count is_signed) = IsGoodBits byte low count
IsGoodPlace (Part part) = (0 < part) × (part ≤ 255)
IsGoodPlace (Texts byte) = (0 < byte) × (byte ≤ 255)

-- ---- the same without a mark

abbrev pub IsPlainPlace : Position → Type 0
IsPlainPlace (Bytes first last) = ⊤
IsPlainPlace (Bits byte low count) = ⊤
IsPlainPlace (Full byte low count is_signed) = ⊥
IsPlainPlace (Part part) = ⊤
IsPlainPlace (Texts byte) = ⊤

-- the place that such a number's text says but for its last byte
abbrev pub without_mark : ℕ → ℕ → ℕ → Position
without_mark byte low count =
    if low == 1 && count % 8 == 0 then Bytes byte (byte + count / 8 - 1) else Bits byte low count

-- ---- the same text cut behind its first number

abbrev pub is_digit : ℕ → Bool
is_digit b = nat_le 48 b && nat_le b 57

abbrev pub IsAfterDigits : List ℕ → Type 0
IsAfterDigits [] = ⊤
IsAfterDigits (b ∷ rest) = is_digit b ≡ false

abbrev pub behind_first_byte : ℕ → ℕ → List ℕ
behind_first_byte first last = if first == last then [] else codes "-" ++ decimal last

-- the end of bits, behind `-`
abbrev pub end_text : ℕ → ℕ → List ℕ
end_text byte last = if last / 8 == 0 then decimal (last + 1) else decimal (byte + last / 8)
    ++ (46 ∷ decimal (last % 8 + 1))

abbrev pub behind_low_bit : ℕ → ℕ → ℕ → List ℕ
behind_low_bit byte low last = if last + 1 == low then [] else 45 ∷ end_text byte last
