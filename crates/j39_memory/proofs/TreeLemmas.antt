-- The tree of the places of origins.
use Rattle.std.proofs.Common.{◌≡◌, ◌∷◌, [], ◌++◌, ◌∙◌, ℕ, List, Some, None, ap, ap₂, cond, length, subst, sym}
use Rattle.std.proofs.lemmas.List.{map-append}
use Rattle.std.specs.BTreeMap.{BTreeMap, IsEmpty, get}
use Rattle.std.specs.List.{IsDistinct}
use Rattle.std.specs.Map.{keys_of, lookup}
use Rattle.std.specs.Ordering.{is_eq}
use Rattle.j39_frame.specs.Origin.{is_same, origin_cmp, place_in}
use Rattle.j39_frame.specs.declared.origin.Origin.{Origin}
use Rattle.j39_frame.proofs.OriginLemmas.{same_cmp}
use Rattle.j39_frame.proofs.PlaceLemmas.{absent, distinct_more, place_more}

-- each place stands in the tree
abbrev pub Placed : {T : Type 0} → BTreeMap Origin ℕ → List (Origin × T) → Type 0
Placed tree es = (q : Origin) → get origin_cmp tree q ≡ place_in es q

pub placed_none : {T : Type 0} (tree : BTreeMap Origin ℕ) (es : List (Origin × T)) → es ≡ [] → IsEmpty tree → Placed tree es
placed_none tree es none empty = λ q. ap (lookup (λ k. is_eq (origin_cmp q k))) empty ∙ ap (λ xs. place_in xs q) (sym none)

-- with one more at the end
pub placed_more : {T : Type 0} (old new : BTreeMap Origin ℕ) (es es' : List (Origin × T)) (k : Origin) (v : T) (n : ℕ) → place_in es k ≡ None → n ≡ length es → es' ≡ es ++ (k, v) ∷ []
    → Placed old es → ((q : Origin) → get origin_cmp new q ≡ cond (is_eq (origin_cmp k q)) (Some n) (get origin_cmp old q)) → Placed new es'
placed_more old new es es' k v n nowhere count is placed updates = λ q.
    updates q ∙ ap₂ (λ b m. cond b (Some m) (get origin_cmp old q)) (same_cmp k q) count ∙ ap (cond (is_same k q) (Some (length es))) (placed q)
    ∙ sym (place_more es k v q nowhere) ∙ ap (λ xs. place_in xs q) (sym is)

pub apart_more : {T : Type 0} (es es' : List (Origin × T)) (k : Origin) (v : T) → place_in es k ≡ None → es' ≡ es ++ (k, v) ∷ []
    → IsDistinct is_same (keys_of es) → IsDistinct is_same (keys_of es')
apart_more es es' k v nowhere is apart =
    subst (IsDistinct is_same) (sym (ap keys_of is ∙ map-append (λ e. e.0) es ((k, v) ∷ []))) (distinct_more (keys_of es) k apart (absent es k nowhere))

nothing_apart : IsDistinct is_same []
unfolding IsDistinct
nothing_apart = tt

pub apart_none : {T : Type 0} (es : List (Origin × T)) → es ≡ [] → IsDistinct is_same (keys_of es)
apart_none {T} es none = subst (λ (xs : List (Origin × T)). IsDistinct is_same (keys_of xs)) (sym none) nothing_apart
