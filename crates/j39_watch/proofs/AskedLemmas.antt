-- What stands at the places that are asked for.
use Rattle.j39_watch.proofs.Common.{◌≡◌, ◌<◌, ◌+◌, ◌++◌, ◌∷◌, ◌∙◌, [], ℕ, zero, suc, Bool, true, false, List, Option, Some, None, ap, ap₂, arith, if◌then◌else◌, inl, inr, length, refl, slice_set, subst, sym, filter-append, FilterRecord, naming_of}
use Rattle.std.specs.Prelude.{slice_index_or}
use Rattle.std.proofs.lemmas.Bool.{cases_eq}
use Rattle.std.proofs.lemmas.List.{get_or-set_other, get_or-set_same}
use Rattle.j39_fault_reports.proofs.NowLineLemmas.{asked_there, unasked_there}
use Rattle.j39_fault_reports.specs.CurrentPlaces.{LastActives, LastRecord, at}
use Rattle.j39_fault_reports.specs.CurrentSoFar.{told_shown, told_so_far}
use Rattle.j39_fault_reports.specs.FaultsNow.{Told, asks_now, now_taken}
use Rattle.j39_listen.specs.Filter.{asks_for}
use Rattle.j39_watch.specs.NotesSoFar.{lines_of_watch, moment_of}
use Rattle.j39_watch.specs.ScreenSoFar.{kept_where, lines_of_faults}
use Rattle.j39_watch.specs.declared.account.Screens.{Screens}

none_either : {T : Type 0} (b : Bool) (o : T) → o ≡ (if b then o else o)
none_either true o = refl
none_either false o = refl

pub kept_at : (asked : List Bool) (places : LastActives) (a : ℕ) → at (kept_where asked places) a ≡ (if slice_index_or asked a false then at places a else None)
unfolding kept_where
kept_at [] places a = refl
kept_at (is_asked ∷ asked) [] a = none_either (slice_index_or (is_asked ∷ asked) a false) None
kept_at (is_asked ∷ asked) (place ∷ places) zero = refl
kept_at (is_asked ∷ asked) (place ∷ places) (suc a) = kept_at asked places a

-- it is known of a place whether it is asked for
abbrev pub shown_if : Bool → LastActives → ℕ → List Told
shown_if is_asked places a = if is_asked then told_shown a (at places a) else []

abbrev pub IsAskedAt : FilterRecord → ℕ → LastActives → List Bool → ℕ → Type 0
IsAskedAt which first places asked a = shown_if (slice_index_or asked a false) places a ≡ now_taken which first (told_shown a (at places a))

pub asked_more : (which : FilterRecord) (first : ℕ) (places : LastActives) (asked : List Bool) (n : ℕ) (one : Bool) → n < length asked
    → ((a : ℕ) → a < n → IsAskedAt which first places asked a) → shown_if one places n ≡ now_taken which first (told_shown n (at places n))
    → (a : ℕ) → a < n + 1 → IsAskedAt which first places (slice_set asked n one) a
asked_more which first places asked n one fits before here a below = elim (cases_eq a n) [
  | inl e ↦ ap (λ k. shown_if (slice_index_or (slice_set asked n one) k false) places k) e
      ∙ ap (λ b. shown_if b places n) (get_or-set_same asked n one false fits) ∙ here ∙ ap (λ k. now_taken which first (told_shown k (at places k))) (sym e)
  | inr e ↦ ap (λ b. shown_if b places a) (get_or-set_other asked n a one false e) ∙ before a (omega (arith, below, e))
]

shown_either : (b : Bool) (places : LastActives) (a : ℕ) → told_shown a (if b then at places a else None) ≡ shown_if b places a
shown_either true places a = refl
shown_either false places a = refl

pub shown_where : (which : FilterRecord) (first : ℕ) (places : LastActives) (asked : List Bool) (a : ℕ) → IsAskedAt which first places asked a
    → told_shown a (at (kept_where asked places) a) ≡ now_taken which first (told_shown a (at places a))
shown_where which first places asked a is =
    ap (told_shown a) (kept_at asked places a) ∙ shown_either (slice_index_or asked a false) places a ∙ is

pub kept_there : (asked : List Bool) (places t : LastActives) (a : ℕ) → kept_where asked places ≡ t → slice_index_or asked a false ≡ true → at places a ≡ at t a
kept_there asked places t a is there = sym (ap (λ b. if b then at places a else None) there) ∙ sym (kept_at asked places a) ∙ ap (λ ps. at ps a) is

pub kept_else : (asked : List Bool) (places t : LastActives) (a : ℕ) → kept_where asked places ≡ t → slice_index_or asked a false ≡ false → None ≡ at t a
kept_else asked places t a is there = sym (ap (λ b. if b then at places a else None) there) ∙ sym (kept_at asked places a) ∙ ap (λ ps. at ps a) is

-- what a chooser answers of what stands there
pub answered : (which : FilterRecord) (first a raw : ℕ) (view last : LastRecord) (place : Option LastRecord) (r : Bool) → Some last ≡ place → view ≡ last → raw ≡ view.pgn
    → r ≡ asks_for which first view.stamp a view.name view.destination raw → (if r then told_shown a place else []) ≡ now_taken which first (told_shown a place)
answered which first a raw view last place r there same pgn is =
    subst (λ (o : Option LastRecord). (if r then told_shown a o else []) ≡ now_taken which first (told_shown a o)) there (by r refl)
  where
    of_last : asks_for which first last.stamp a last.name last.destination last.pgn ≡ r
    of_last =
        sym (is ∙ ap (λ n. asks_for which first view.stamp a view.name view.destination n) pgn
        ∙ ap (λ (l : LastRecord). asks_for which first l.stamp a l.name l.destination l.pgn) same)

    by : (b : Bool) → r ≡ b → (if b then told_shown a (Some last) else []) ≡ now_taken which first (told_shown a (Some last))
    by true so = sym (asked_there which first a last (of_last ∙ so))
    by false so = sym (unasked_there which first a last (of_last ∙ so))

-- at each place stands what is asked for of it
abbrev pub AreAsked : FilterRecord → ℕ → LastActives → LastActives → ℕ → Type 0
AreAsked which first places asked n = (a : ℕ) → a < n → told_shown a (at asked a) ≡ now_taken which first (told_shown a (at places a))

asked_below : (which : FilterRecord) (first : ℕ) (places asked : LastActives) (n : ℕ) → AreAsked which first places asked n → told_so_far asked n ≡ now_taken which first (told_so_far places n)
unfolding told_so_far
asked_below which first places asked zero each = refl
asked_below which first places asked (suc n) each =
    ap₂ (λ xs ys. xs ++ ys) (asked_below which first places asked n (λ a below. each a (omega (arith, below)))) (each n (omega arith))
    ∙ sym (filter-append (asks_now which first) (told_so_far places n) (told_shown n (at places n)))

pub asked_lines : (which : FilterRecord) (first : ℕ) (w : Screens) (asked : LastActives) (now : ℕ) → AreAsked which first w.places asked 256 → now ≡ moment_of w
    → lines_of_faults w.size.clock (naming_of w.naming) w.listener now (told_so_far asked 256) w.values ≡ lines_of_watch which first w
asked_lines which first w asked now each is =
    ap₂ (λ (m : ℕ) (ns : List Told). lines_of_faults w.size.clock (naming_of w.naming) w.listener m ns w.values) is (asked_below which first w.places asked 256 each)
