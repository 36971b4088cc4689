-- What is remembered of identifiers.
use Rattle.std.specs.Prelude.{◌≡◌, ◌<◌, ◌^◌, ◌||◌, ℕ, Bool, List, slice_index_or}
use Rattle.j39_frame.specs.Identifier.{pgn_of}
use Rattle.j39_groups.specs.Readings.{is_network_group, is_reported_in}
use Rattle.j39_groups.specs.Row.{RowRecord}
use Rattle.j39_listen.specs.declared.roles.Known.{Known}
use Rattle.j39_listen.specs.declared.roles.Role.{Role}

-- frames of this identifier are messages that are reported, or of the network's groups
abbrev pub is_heard : List RowRecord → ℕ → Bool
is_heard rows id = is_reported_in rows (pgn_of id) || is_network_group (pgn_of id)

-- the frames of this identifier are this
pub record IsRole (rows : List RowRecord) (id : ℕ) (role : Role) : Type 0 where
  pub single : role.is_single ≡ is_reported_in rows (pgn_of id)
  pub heard : role.is_heard ≡ is_heard rows id

-- what is remembered of an identifier is so
abbrev pub IsKnown : List RowRecord → Known → Type 0
IsKnown rows known = known.id < 2 ^ 29 → IsRole rows known.id known.role

abbrev pub AreKnown : List RowRecord → List Known → Type 0
AreKnown rows all = (place : ℕ) (d : Known) → place < 2048 → IsKnown rows (slice_index_or all place d)
