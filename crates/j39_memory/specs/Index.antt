-- Where the values stand that were changed.
use Rattle.std.specs.Prelude.{◌≡◌, ◌+◌, ◌≤◌, ◌<◌, ◌==◌, ℕ, List, get_or, if◌then◌else◌}
use Rattle.std.specs.List.{sum_by}

-- no place is past the last one of 16 bits
abbrev pub untouched : ℕ
untouched = 65535

abbrev pub one_untouched : ℕ → ℕ
one_untouched at = if at == untouched then 1 else 0

-- a group's value is one of n, and no other group's, or untouched; and there is room for all that are
pub record IsIndex (index : List ℕ) (n : ℕ) : Type 0 where
  pub each : (p : ℕ) → p < 17344 → n ≤ get_or index p 65535 → get_or index p 65535 ≡ 65535
  pub apart : (p q : ℕ) → p < 17344 → q < 17344 → get_or index p 65535 ≡ get_or index q 65535 → get_or index p 65535 < n → p ≡ q
  pub room : n + sum_by one_untouched index ≤ 17344
