-- What waits in boxes.
use Rattle.std.specs.Prelude.{◌∷◌, [], ℕ, Option, Some, None, List, map}
use Rattle.std.specs.declared.boxed.Box.{Box}
use Rattle.std.specs.Global.{Global}
use Rattle.j39_transfers.specs.Transfers.{sooner}

-- what boxes show
abbrev pub views : {X S : Type 0} → (X → S) → List (Box X Global) → List S
views shown boxes = map (λ b. shown b.value) boxes

-- how long the first may still wait
abbrev pub soonest : {S : Type 0} → (S → ℕ) → List S → Option ℕ
soonest left [] = None
soonest left (o ∷ os) = sooner (Some (left o)) (soonest left os)

-- what isn't ended stays
abbrev pub stays : {E S : Type 0} → Option E → S → List S
stays None o = o ∷ []
stays (Some e) o = []
