-- What one transfer does.
use Rattle.j39_transfers.proofs.Common.{◌≡◌, arith, due_in, is_due, nat_eq, Transfer, ℕ, Option, Bool, None, Some, false}
use Rattle.j39_transport.specs.Sending.{ticks_in, send_step, sends_packet}

abbrev pub is_zero : Option ℕ → Bool
is_zero None = false
is_zero (Some n) = nat_eq n 0

-- it sends a frame where it does so in no time
pub due_now : (now : ℕ) (x : Transfer) → is_zero (due_in now x) ≡ is_due now x
unfolding send_step ticks_in sends_packet
due_now now x = grind arith
