use Rattle.std.proofs.Common.{◌≡◌, ◌==◌, take, length, []}
use Rattle.std.specs.List.{filter_map, slice_split}
use Rattle.j39_groups.specs.States.{state_words}
use Rattle.j39_groups.proofs.states.first_state.Given as goal

-- no state so far has the number
abbrev pub invariant-loop-state : goal.invariant-loop-state
invariant-loop-state l =
    filter_map (state_words l.raw) (take (length l.yielded) (slice_split (λ b. b == 44) l.states)) ≡ []
