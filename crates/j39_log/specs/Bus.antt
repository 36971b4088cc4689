-- Names of buses.
use Rattle.std.specs.Prelude.{◌≡◌, ◌∷◌, ◌+◌, ◌-◌, ◌^◌, if◌then◌else◌, nat_le, ◌≤◌, ◌<◌, ◌≢◌, ◌++◌, ℕ, List, length, All, codes, drop, take}
use Rattle.std.specs.Prelude.{replicate}
use Rattle.j39_log.specs.declared.fast.form.Form.{Form}
use Rattle.j39_io.specs.Chars.{delete, space}

-- 1 to 15 bytes, each above the space and no delete
abbrev pub IsBusName : List ℕ → Type 0
IsBusName name = (0 < length name) × (length name ≤ 15) × All (λ b. (space < b) × (b ≢ delete)) name

-- what stands from the fifth decimal of a stamp on: two digits, `)`, a space, the name and a space, and then any bytes; of a name
-- above 11 bytes its front
pub record IsBetween (name : List ℕ) (form : Form) : Type 0 where
  pub least_is : form.least ≡ codes "00) " ++ (take 11 name ++ drop (4 + length (take 11 name)) (replicate 16 space))
  pub above_is : form.above ≡ 9 ∷ 9 ∷ (replicate (3 + length (take 11 name)) 0 ++ drop (5 + length (take 11 name)) (replicate 16 255))

-- where the identifier then stands: behind every line where the block is too short for the name
abbrev pub third_of : List ℕ → ℕ
third_of name = if nat_le (length name) 11 then length name + 21 else 2 ^ 64 - 1
