-- The parts of a payload between the bytes `*`.
use Rattle.std.specs.Prelude.{◌≡◌, ◌≢◌, ◌<◌, ◌==◌, ℕ, List, All, length}
use Rattle.std.specs.List.{slice_split, join_with_byte}
use Rattle.j39_io.specs.Chars.{star}

-- these parts hold no `*` and, joined by it, are the payload
pub record AreParts (bytes : List ℕ) (parts : List (List ℕ)) : Type 0 where
  pub some : 0 < length parts
  pub star_free : All (λ part. All (λ b. b ≢ star) part) parts
  pub joined : join_with_byte star parts ≡ bytes

-- the only such list
abbrev pub parts_of : List ℕ → List (List ℕ)
parts_of bytes = slice_split (λ b. b == star) bytes
