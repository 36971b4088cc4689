-- The first entries of their origins, with one entry more.
use Rattle.j39_reports.proofs.Common.{◌≡◌, Bool, true, false, not, List, [], ◌∷◌, ◌++◌, refl, sym, ap, ◌∙◌, filter, if◌then◌else◌, list_any, both_ways, filter-append, Entry}
use Rattle.std.proofs.lemmas.Map.Views.{any-filter_same}
use Rattle.j39_reports.specs.Summary.{AreApart, firsts, have_one_origin}
use Rattle.j39_reports.proofs.OriginLemmas.{same_like, same_sym}

-- the entry, where none is of its origin
abbrev pub if_new : Entry → List Entry → List Entry
if_new e es = if list_any (have_one_origin e) es then [] else e ∷ []

-- an origin that is not that of x has entries among those that are not of it
others : (e x : Entry) (es : List Entry) → have_one_origin e x ≡ false
    → list_any (have_one_origin e) (filter (λ f. not (have_one_origin x f)) es) ≡ list_any (have_one_origin e) es
others e x es other = any-filter_same (have_one_origin e) (λ f. not (have_one_origin x f)) true (λ f one.
    ap not (same_sym x f ∙ sym (same_like e f x one) ∙ other)) es

-- none of the origin of x is left
none_left : (x : Entry) (es : List Entry) → list_any (have_one_origin x) (filter (λ f. not (have_one_origin x f)) es) ≡ false
none_left x es = any-filter_same (have_one_origin x) (λ f. not (have_one_origin x f)) false (λ f one. ap not one) es

pub first_of_each : (e : Entry) (es : List Entry) → list_any (have_one_origin e) (firsts es) ≡ list_any (have_one_origin e) es
unfolding firsts
first_of_each e [] = refl
first_of_each e (x ∷ es) = by (have_one_origin e x) refl (first_of_each e es)
  where
    by : (b : Bool) → have_one_origin e x ≡ b → list_any (have_one_origin e) (firsts es) ≡ list_any (have_one_origin e) es
        → list_any (have_one_origin e) (x ∷ filter (λ f. not (have_one_origin x f)) (firsts es)) ≡ list_any (have_one_origin e) (x ∷ es)
    by true one rest = rw one refl
    by false other rest = rw other (others e x (firsts es) other ∙ rest)

-- what is kept of the new entry
kept : (x e : Entry) (es : List Entry) → have_one_origin e x ≡ false → filter (λ f. not (have_one_origin x f)) (if_new e es) ≡ if_new e es
kept x e es other = by (list_any (have_one_origin e) es)
  where
    apart : not (have_one_origin x e) ≡ true
    apart = ap not (same_sym x e ∙ other)

    by : (b : Bool) → filter (λ f. not (have_one_origin x f)) (if b then [] else e ∷ []) ≡ (if b then [] else e ∷ [])
    by true = refl
    by false = rw apart refl

dropped : (x e : Entry) (b : Bool) → have_one_origin e x ≡ true → filter (λ f. not (have_one_origin x f)) (if b then [] else e ∷ []) ≡ []
dropped x e true one = refl
dropped x e false one =
    let gone : not (have_one_origin x e) ≡ false = ap not (same_sym x e ∙ one) in
    rw gone refl

pub firsts-more : (es : List Entry) (e : Entry) → firsts (es ++ e ∷ []) ≡ firsts es ++ if_new e es
unfolding firsts
firsts-more [] e = refl
firsts-more (x ∷ es) e = by (have_one_origin e x) refl (firsts-more es e)
  where
    by : (b : Bool) → have_one_origin e x ≡ b → firsts (es ++ e ∷ []) ≡ firsts es ++ if_new e es
        → x ∷ filter (λ f. not (have_one_origin x f)) (firsts (es ++ e ∷ [])) ≡ (x ∷ filter (λ f. not (have_one_origin x f)) (firsts es)) ++ if_new e (x ∷ es)
    by true one rest =
        let cut = ap (filter (λ f. not (have_one_origin x f))) rest ∙ filter-append (λ f. not (have_one_origin x f)) (firsts es) (if_new e es)
        ∙ ap (λ fs. filter (λ f. not (have_one_origin x f)) (firsts es) ++ fs) (dropped x e (list_any (have_one_origin e) es) one) in
        rw one (ap (λ fs. x ∷ fs) cut)
    by false other rest =
        let cut = ap (filter (λ f. not (have_one_origin x f))) rest ∙ filter-append (λ f. not (have_one_origin x f)) (firsts es) (if_new e es)
        ∙ ap (λ fs. filter (λ f. not (have_one_origin x f)) (firsts es) ++ fs) (kept x e es other) in
        rw other (ap (λ fs. x ∷ fs) cut)

fewer : (x : Entry) (p : Entry → Bool) (es : List Entry) → list_any (have_one_origin x) es ≡ false → list_any (have_one_origin x) (filter p es) ≡ false
fewer x p [] h = refl
fewer x p (f ∷ es) h = by (have_one_origin x f) refl (p f) refl (fewer x p es)
  where
    by : (a : Bool) → have_one_origin x f ≡ a → (b : Bool) → p f ≡ b → (list_any (have_one_origin x) es ≡ false → list_any (have_one_origin x) (filter p es) ≡ false)
        → list_any (have_one_origin x) (filter p (f ∷ es)) ≡ false
    by true one b is rest = absurd (both_ways _ h (rw one refl))
    by false other true is rest = rw (is, other) (rest (rw other at h))
    by false other false is rest = rw is (rest (rw other at h))

apart_still : (p : Entry → Bool) (es : List Entry) → AreApart es → AreApart (filter p es)
apart_still p [] h = tt
apart_still p (x ∷ es) h = by (p x) refl (apart_still p es h.1)
  where
    by : (b : Bool) → p x ≡ b → AreApart (filter p es) → AreApart (filter p (x ∷ es))
    by true is rest = rw is (fewer x p es h.0, rest)
    by false is rest = rw is rest

pub firsts_apart : (es : List Entry) → AreApart (firsts es)
unfolding firsts
firsts_apart [] = tt
firsts_apart (x ∷ es) = (none_left x (firsts es), apart_still (λ f. not (have_one_origin x f)) (firsts es) (firsts_apart es))
