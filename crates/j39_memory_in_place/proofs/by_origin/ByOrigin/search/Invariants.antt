use Rattle.std.proofs.Common.{◌≡◌, ◌<◌, ℕ, Some}
use Rattle.j39_memory_in_place.specs.ByOrigin.{pairs_of}
use Rattle.j39_frame.specs.Origin.{place_in}
use Rattle.j39_memory_in_place.proofs.by_origin.ByOrigin.search.Given as goal

-- it stands at none of the places so far
abbrev pub invariant-loop-place : goal.invariant-loop-place
invariant-loop-place g l = (k : ℕ) → k < l.place → place_in (pairs_of l.self) l.origin ≡ Some k → ⊥
