-- The places where what was said is stored.
use Rattle.j39_fault_reports.proofs.Common.{◌≡◌, ◌∙◌, ◌<◌, ℕ, zero, suc, List, ◌∷◌, Option, Some, None, refl, ap, slice_set, sym, slice_index_or, length, replicate, set-set, map-set, get_or-map, set-get_or, Stored}
use Rattle.j39_memory.specs.Stored.{value_of}
use Rattle.j39_fault_reports.specs.LastMessages.{LastMessages, LastRecord, at, stored_in, shown}

abbrev pub SaidPlace : Type 0
SaidPlace = Stored LastRecord

abbrev pub SaidPlaces : Type 0
SaidPlaces = List (Option SaidPlace)

-- a place filled
pub put_in : (ps : SaidPlaces) (i s : ℕ) (b : SaidPlace) (v : LastRecord) → i ≡ s → value_of b ≡ v → shown (slice_set ps i (Some b)) ≡ slice_set (shown ps) s (Some v)
put_in ps i s b v e f = map-set stored_in ps i (Some b) ∙ (λ k. slice_set (shown ps) (e k) (Some (f k)))

-- a place left empty
pub left_empty : (ps : SaidPlaces) (i s : ℕ) → i ≡ s → shown (slice_set ps i None) ≡ slice_set (shown ps) s None
left_empty ps i s e = map-set stored_in ps i None ∙ ap (λ k. slice_set (shown ps) k None) e

-- a place that was taken is filled
pub set_again : (t : LastMessages) (s : ℕ) (x o : Option LastRecord) → slice_set (slice_set t s x) s o ≡ slice_set t s o
set_again t s x o = set-set t s x o

-- an empty place that is left empty
pub empty_again : (t : LastMessages) (s : ℕ) → at t s ≡ None → slice_set t s None ≡ t
empty_again t s e = ap (slice_set t s) (sym e) ∙ set-get_or t s None

-- what stands at a place
pub shown_at : (ps : SaidPlaces) (i : ℕ) (d : Option SaidPlace) → i < length ps → at (shown ps) i ≡ stored_in (slice_index_or ps i d)
shown_at ps i d l = get_or-map stored_in ps i d None l

none_shown : (n : ℕ) → shown (replicate n None) ≡ replicate n None
none_shown zero = refl
none_shown (suc n) = ap (λ t. None ∷ t) (none_shown n)

pub shown_new : (n : ℕ) (ps : SaidPlaces) → ps ≡ replicate n None → shown ps ≡ replicate n None
shown_new n ps e = ap shown e ∙ none_shown n
