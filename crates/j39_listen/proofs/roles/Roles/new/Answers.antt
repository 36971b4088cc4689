-- No identifier has so many bits.
use Rattle.std.proofs.Common.{arith, false}
use Rattle.std.proofs.lemmas.List.{get_or-replicate}
use Rattle.j39_listen.proofs.roles.Roles.new.Goals as goal

pub invariant_of-result : goal.invariant_of-result
invariant_of-result c = record {
  sound = λ place d below.
      let at = get_or-replicate 2048 place (record { id = 4294967295; role = record { is_single = false; is_heard = false } }) d below in
      rw at (λ fits. absurd (omega (arith, fits)));
}
