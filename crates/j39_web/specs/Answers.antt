-- What a call answers, and the bus that it is given.
use Rattle.std.specs.Prelude.{◌≢◌, ℕ, List, [], ◌∷◌, Option, None, Some}
use Rattle.j39_log.specs.Bus.{IsBusName}

abbrev pub done : ℕ
done = 0

abbrev pub no_memory : ℕ
no_memory = 1

abbrev pub too_small : ℕ
too_small = 2

abbrev pub wrong_bus : ℕ
wrong_bus = 3

abbrev pub wrong_table : ℕ
wrong_table = 4

-- no bytes give no bus
abbrev pub given_bus : List ℕ → Option (List ℕ)
given_bus [] = None
given_bus (b ∷ bs) = Some (b ∷ bs)

-- bytes that name no bus
abbrev pub IsWrongBus : List ℕ → Type 0
IsWrongBus bytes = (bytes ≢ []) × (IsBusName bytes → ⊥)
