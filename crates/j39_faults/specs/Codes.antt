-- The codes in a message of faults, from byte 3 on (J1939-73, 5.7.1).
use Rattle.std.specs.Prelude.{◌==◌, ◌+◌, ◌-◌, ◌*◌, ◌/◌, ◌%◌, ◌&&◌, ◌||◌, ℕ, List, Bool, Option, Some, None, length, if◌then◌else◌, slice_index}
use Rattle.std.specs.List.{filter_map, range_with_len}
use Rattle.j39_faults.specs.declared.code.Candidates.{Candidates}
use Rattle.j39_faults.specs.declared.code.Code.{Code}
use Rattle.j39_faults.specs.declared.code.Parameter.{Parameter}
use Rattle.j39_faults.specs.declared.code.Parameter.TheVariants.{Known, OneOf}

-- 19 bits: the low 16 first, the low byte before the high one, and the upper 3 in the top of the third byte
abbrev pub spn_of : ℕ → ℕ → ℕ → ℕ
spn_of first second third = first + 256 * second + 65536 * (third / 32)

-- the older versions of the conversion: in 1 and 2 the top of the third byte has the lowest 3 bits, behind the high byte and the
-- middle one, or the other way round; 3 is as today's
abbrev pub candidates_of : ℕ → ℕ → ℕ → Candidates
candidates_of first second third = record {
  version_1 = 2048 * first + 8 * second + third / 32;
  version_2 = 8 * first + 2048 * second + third / 32;
  version_3 = spn_of first second third;
}

-- by the conversion method; behind 1 stands one of the older versions
abbrev pub parameter_of : ℕ → ℕ → ℕ → ℕ → Parameter
parameter_of first second third method =
    if method == 0 then Known (spn_of first second third) else OneOf (candidates_of first second third)

-- 7 bits; 127 is not available
abbrev pub count_of : ℕ → Option ℕ
count_of bits = if bits == 127 then None else Some bits

-- SPN 0 with FMI 0, or bytes FF alone
abbrev pub is_no_code : ℕ → ℕ → ℕ → ℕ → Bool
is_no_code first second third fourth =
    (first == 0xFF && (second == 0xFF && (third == 0xFF && fourth == 0xFF)))
    || (spn_of first second third == 0 && third % 32 == 0)

-- the FMI is the low 5 bits of the third byte, the conversion method the top bit of the fourth, and the count the bits below
unfoldable pub code_of : ℕ → ℕ → ℕ → ℕ → Option Code
code_of first second third fourth =
    if is_no_code first second third fourth then None else Some (record {
      parameter = parameter_of first second third (fourth / 128);
      fmi = third % 32;
      count = count_of (fourth % 128);
    })

-- the code i, counted from 0, has the bytes 3 + 4 i to 6 + 4 i, counted from 1
abbrev pub code_at : List ℕ → ℕ → Option Code
code_at payload i =
    code_of (slice_index payload (2 + 4 * i)) (slice_index payload (3 + 4 * i)) (slice_index payload (4 + 4 * i))
    (slice_index payload (5 + 4 * i))

-- how many times four bytes stand behind byte 2
abbrev pub places_of : List ℕ → ℕ
places_of payload = (length payload - 2) / 4

-- the codes at all places, in order
unfoldable pub codes_of : List ℕ → List Code
codes_of payload = filter_map (code_at payload) (range_with_len 0 (places_of payload))
