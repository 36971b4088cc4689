use Rattle.j39_watch.proofs.Common.{◌≡◌, ◌<◌, ℕ, length, List, FrameRecord, Chooses, FilterRecord, first_stamp}
use Rattle.j39_watch.proofs.AskedLemmas.{IsAskedAt}
use Rattle.j39_watch.proofs.asked_places.AskedPlaces.new.Given as goal

-- of the places so far it is known
abbrev pub invariant-loop-address : goal.invariant-loop-address
invariant-loop-address l = (length l.are_asked ≡ 256) × ((which : FilterRecord) (F : List FrameRecord) → Chooses which l.chooser F → (a : ℕ) → a < l.address
    → IsAskedAt which (first_stamp F) l.places l.are_asked a)
