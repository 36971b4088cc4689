-- The premises of laws are met.
use Rattle.j39_transfers.proofs.Common.{[], ◌∷◌, ◌≡◌, answer, arith, awake, has_some, None, of, Ok, option_map, refl, Some, to, turn, true}
use Rattle.j39_transport.specs.Sending.{new_sender, send_step, ticks_in}
use Rattle.j39_transfers.specs.Course.{ArePrompt}
use Rattle.j39_transfers.specs.Events.{after, Begins, PassesBy, Sends}
use Rattle.j39_transfers.specs.Example.{beginning, both, later, order}

pub begins : answer (order 1 11) (awake 0 (after 128 2 [])) ≡ Ok tt
begins = refl

pub first : option_map to (turn 1000 (after 128 2 beginning).running) ≡ Some 11
unfolding new_sender send_step ticks_in
first = refl

pub other : has_some (of 12 (after 128 2 beginning).running) ≡ true
unfolding new_sender
other = refl

pub passes : PassesBy 128 2 12 later (Sends 1000 ∷ beginning)
passes = (tt, tt)

pub second : option_map to (turn 2000 (after 128 2 (Sends 1000 ∷ beginning)).running) ≡ Some 12
unfolding new_sender send_step ticks_in
second = refl

pub prompt : ArePrompt 128 2 10000 11 both (Begins (order 1 11) None 0 ∷ [])
unfolding new_sender send_step ticks_in
prompt = ((λ e. omega arith), ((λ e. omega arith), (tt, tt)))
