-- The raw number that a value was read from stands behind it.
use Rattle.j39_groups.proofs.RawStateLemmas.{bits_behind, byte_behind, switch_behind}
use Rattle.j39_groups.proofs.laws.states_are_of_raw_numbers.Goals as goal

pub returns-clause-bits : goal.returns-clause-bits
returns-clause-bits c = bits_behind

pub returns-clause-byte : goal.returns-clause-byte
returns-clause-byte c = byte_behind

pub returns-clause-switch : goal.returns-clause-switch
returns-clause-switch c = switch_behind
