-- Origins, and where one stands.
use Rattle.std.specs.Prelude.{◌==◌, ◌&&◌, ℕ, Bool, true, false, List, Option, Some, None, position}
use Rattle.std.specs.Map.{keys_of}
use Rattle.std.specs.Option.{option_cmp}
use Rattle.std.specs.Ordering.{nat_cmp, ordering_then}
use Rattle.std.specs.declared.cmp.Ordering.{Ordering}
use Rattle.j39_frame.specs.declared.origin.Origin.{Origin}

-- both are the same number, or neither is there
abbrev pub is_same_or_none : Option ℕ → Option ℕ → Bool
is_same_or_none None None = true
is_same_or_none None (Some b) = false
is_same_or_none (Some a) None = false
is_same_or_none (Some a) (Some b) = a == b

-- two origins are the same: address, destination, NAME, PGN and SPN are
abbrev pub is_same : Origin → Origin → Bool
is_same a b = a.address == b.address && (is_same_or_none a.destination b.destination
    && (is_same_or_none a.name b.name && (a.pgn == b.pgn && a.spn == b.spn)))

-- which of two origins is the lesser: by address, destination, NAME, PGN and SPN
abbrev pub origin_cmp : Origin → Origin → Ordering
origin_cmp a b =
    ordering_then (nat_cmp a.address b.address) (ordering_then (option_cmp nat_cmp a.destination b.destination)
    (ordering_then (option_cmp nat_cmp a.name b.name) (ordering_then (nat_cmp a.pgn b.pgn) (nat_cmp a.spn b.spn))))

-- where an origin stands, if it has a value
abbrev pub place_in : {T : Type 0} → List (Origin × T) → Origin → Option ℕ
place_in pairs origin = position (is_same origin) (keys_of pairs)
