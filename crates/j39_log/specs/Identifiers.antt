-- What is remembered of identifiers.
use Rattle.std.specs.Prelude.{◌≡◌, ◌<◌, ◌^◌, ℕ, List, Ok, slice_index_or}
use Rattle.std.specs.Int.{to_be_bytes, to_le_bytes, w32, w64}
use Rattle.hex.specs.Hex.{decode_of}
use Rattle.j39_frame.specs.Identifier.{id_raw}
use Rattle.j39_frame.specs.declared.identifier.Id.{Id}
use Rattle.j39_log.specs.declared.fast.identifiers.Known.{Known}

-- these hex digits write this identifier
pub record IsWritten (digits : List ℕ) (id : Id) : Type 0 where
  pub digits_are : decode_of digits ≡ Ok (to_be_bytes w32 (id_raw id))
  pub fits : id_raw id < 2 ^ 29

-- the identifier that is remembered is what the digits write
abbrev pub AreKnown : List Known → Type 0
AreKnown all = (place : ℕ) (d : Known) → place < 2048 → IsWritten (to_le_bytes w64 (slice_index_or all place d).digits) (slice_index_or all place d).id
