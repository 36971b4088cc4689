-- What is told of nothing.
use Rattle.j39_cli.proofs.Common.{[], ℕ, Bool, List, Option, refl, Appends-nil, turn}
use Rattle.j39_cli.specs.Tells.{Tells}

pub tells_nothing : {T : Type 0} (written : T → Option (List ℕ)) (has_failed : T → Bool) (stream : T) → Tells (turn written has_failed stream stream) []
tells_nothing written has_failed stream = record {
  whole = λ sound. Appends-nil (written stream);
  front = ([], [], refl, Appends-nil (written stream));
}
