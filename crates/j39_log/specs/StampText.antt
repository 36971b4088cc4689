-- The text of a stamp that is written.
use Rattle.std.specs.Prelude.{◌/◌, ◌%◌, ◌^◌, ℕ, List, ◌++◌, codes}
use Rattle.j39_io.specs.Printing.{last_digits}

-- seconds in ten digits, `.`, microseconds in six digits
abbrev pub seconds_text : ℕ → List ℕ
seconds_text stamp = last_digits 10 (stamp / 10 ^ 6) ++ codes "." ++ last_digits 6 (stamp % 10 ^ 6)

-- `(`, seconds in ten digits, `.`, microseconds in six digits, `)`
abbrev pub stamp_text : ℕ → List ℕ
stamp_text stamp = codes "(" ++ last_digits 10 (stamp / 10 ^ 6) ++ codes "." ++ last_digits 6 (stamp % 10 ^ 6)
    ++ codes ")"
