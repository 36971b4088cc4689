-- The value that is stored.
use Rattle.std.specs.Borrow.{Lends, Fml, RattleType, MutBor}
use Rattle.j39_memory.specs.declared.stored.Stored.{Stored}
use Rattle.j39_memory.specs.contracts.stored.Stored.{the_row}

abbrev pub value_of : {T : Type 0} → Stored T → T
value_of s = s.place.value

-- the same place with another value
abbrev pub with_value : {T : Type 0} → Stored T → T → Stored T
with_value s v = record s { place = record s.place { value = v } }

-- once the borrow r ends, what was last written through it is stored
abbrev pub LendsValue : (T : RattleType) → MutBor (Stored T.Denot) → MutBor T.Denot → Fml
LendsValue T s r = Lends (the_row T) T s r (with_value s.now)
