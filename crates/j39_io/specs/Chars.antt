-- Characters that have a meaning of their own in logs and texts, as bytes.
use Rattle.std.specs.Prelude.{◌==◌, ℕ, Bool, not}

abbrev pub newline : ℕ
newline = 0x0A

abbrev pub carriage_return : ℕ
carriage_return = 0x0D

abbrev pub space : ℕ
space = 0x20

abbrev pub quote : ℕ
quote = 0x22

abbrev pub hash : ℕ
hash = 0x23

abbrev pub star : ℕ
star = 0x2A

abbrev pub backslash : ℕ
backslash = 0x5C

abbrev pub delete : ℕ
delete = 0x7F

abbrev pub is_space : ℕ → Bool
is_space b = b == space

abbrev pub is_not_space : ℕ → Bool
is_not_space b = not (b == space)
