-- The states are behind the `=`.
use Rattle.std.proofs.Common.{◌∙◌, ◌==◌, ap, drop, sym}
use Rattle.std.specs.Prelude.{slice_get}
use Rattle.std.specs.List.{filter_map, slice_split}
use Rattle.j39_groups.specs.States.{state_named, state_words, states_part}
use Rattle.j39_groups.proofs.StateLemmas.{behind_two, none_there}
use Rattle.j39_groups.proofs.states.state_named.Goals as goal

pub returns-then-part-lt2 : goal.returns-then-part-lt2
unfolding state_named
returns-then-part-lt2 c =
    let short = c.if-part-lt2.true in
    sym (none_there c.args.raw (states_part c.args.name.now) (rw (← c.split_states.ensures.states) short))

pub returns : goal.returns
unfolding state_named
returns c =
    c.first_state.ensures
    ∙ ap (λ t. slice_get (filter_map (state_words c.args.raw) (slice_split (λ b. b == 44) t)) 0) (behind_two c.split_states.result.1.now)
    ∙ ap (λ part. slice_get (filter_map (state_words c.args.raw) (slice_split (λ b. b == 44) (drop 2 part))) 0) c.split_states.ensures.states
