-- The places where the last messages of active codes are kept.
use Rattle.j39_fault_reports.proofs.Common.{◌≡◌, ◌∙◌, ◌<◌, ℕ, zero, suc, List, ◌∷◌, Option, None, refl, ap, length, replicate, slice_index_or, slice_set, map-set, get_or-map, Stored}
use Rattle.j39_fault_reports.specs.CurrentPlaces.{LastRecord, at, shown, stored_in}

abbrev pub Boxes : Type 0
Boxes = List (Option (Stored LastRecord))

-- a place filled, or left empty
pub put_in : (ps : Boxes) (i : ℕ) (b : Option (Stored LastRecord)) → shown (slice_set ps i b) ≡ slice_set (shown ps) i (stored_in b)
put_in ps i b = map-set stored_in ps i b

-- a place left empty
pub left_empty : (ps : Boxes) (i : ℕ) → shown (slice_set ps i None) ≡ slice_set (shown ps) i None
left_empty ps i = map-set stored_in ps i None

-- what stands at a place
pub at_shown : (ps : Boxes) (i : ℕ) (d : Option (Stored LastRecord)) → i < length ps → at (shown ps) i ≡ stored_in (slice_index_or ps i d)
at_shown ps i d l = get_or-map stored_in ps i d None l

none_shown : (n : ℕ) → shown (replicate n None) ≡ replicate n None
none_shown zero = refl
none_shown (suc n) = ap (λ t. None ∷ t) (none_shown n)

pub shown_new : (n : ℕ) (ps : Boxes) → ps ≡ replicate n None → shown ps ≡ replicate n None
shown_new n ps e = ap shown e ∙ none_shown n
