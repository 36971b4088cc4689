-- Parameters (SPN) that are asked for.
use Rattle.std.specs.Prelude.{◌^◌, ℕ, List}
use Rattle.std.specs.Str.Parse.{digits_value}
use Rattle.j39_cli.specs.Lists.{IsListOf, values_in}
use Rattle.j39_cli.specs.Numbers.{IsNumberBelow}

-- numbers of 19 bits, in decimal
abbrev pub IsSpnList : List ℕ → Type 0
IsSpnList = IsListOf (IsNumberBelow (2 ^ 19))

-- these numbers
abbrev pub spns_in : List ℕ → List ℕ
spns_in = values_in (digits_value 10)
