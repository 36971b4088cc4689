-- The counts of what is not available, with one more.
use Rattle.j39_reports.proofs.Common.{◌≡◌, ◌==◌, ◌<◌, ◌+◌, ◌∷◌, ◌++◌, [], ℕ, zero, suc, Bool, true, false, not, List, Some, None, arith, get_or, is_some, refl, sym, ap, ◌∙◌, true≢false, unwrap_or, Err, Ok, OnOk, Result, if◌then◌else◌, count_by, slice_get, slice_set, list_any, keys_of, position-Some, fold-append, length-filter, is_same, place_in, Origin, same_self, same_sym, same_true, stands, any_by_filter, capped}
use Rattle.j39_frame.proofs.PlaceLemmas.{absent}
use Rattle.j39_reports.specs.RowsSoFar.{AreCounted, counted, one_if}
use Rattle.j39_reports.specs.Summary.{how_often}
use Rattle.j39_reports.proofs.RowLemmas.{capped-more}

often_more : (absences : List Origin) (k o : Origin) → how_often (absences ++ k ∷ []) o ≡ capped (how_often absences o + one_if (is_same o k))
often_more absences k o =
    let more : count_by (is_same o) (absences ++ k ∷ []) ≡ count_by (is_same o) absences + one_if (is_same o k) =
    fold-append (λ n x. n + one_if (is_same o x)) 0 absences (k ∷ []) in
    ap capped more ∙ capped-more (count_by (is_same o) absences) (one_if (is_same o k))

-- what is the one is not the other
other_than : (o p k : Origin) → is_same o p ≡ true → is_same k p ≡ false → is_same o k ≡ false
other_than o p k one other = ap (λ x. is_same x k) (same_true o p one) ∙ same_sym p k ∙ other

-- the count of an origin that stands first at this place is another one
set_counted : (k o : Origin) (n n' : ℕ) (pairs : List (Origin × ℕ)) (at : ℕ) → slice_get pairs at ≡ Some (k, n)
    → ((j : ℕ) → j < at → is_same k (get_or (keys_of pairs) j k) ≡ false)
    → counted (slice_set pairs at (k, n')) o ≡ (if is_same o k then n' else counted pairs o)
unfolding counted
set_counted k o n n' [] at here before = absurd (true≢false (sym (ap is_some here)))
set_counted k o n n' (p ∷ pairs) zero here before =
    let is : p ≡ (k, n) = ap (λ r. unwrap_or r p) here in
    by (is_same o k) refl is
  where
    by : (b : Bool) → is_same o k ≡ b → p ≡ (k, n)
        → (if is_same o k then n' else counted pairs o) ≡ (if is_same o k then n' else (if is_same o p.0 then p.1 else counted pairs o))
    by true one is = rw one refl
    by false other is =
        let apart : is_same o p.0 ≡ false = ap (λ (q : Origin × ℕ). is_same o q.0) is ∙ other in
        rw (other, apart) refl
set_counted k o n n' (p ∷ pairs) (suc at) here before =
    by (is_same o p.0) refl (set_counted k o n n' pairs at here (λ j b. before (suc j) (omega arith)))
  where
    by : (b : Bool) → is_same o p.0 ≡ b → counted (slice_set pairs at (k, n')) o ≡ (if is_same o k then n' else counted pairs o)
        → (if is_same o p.0 then p.1 else counted (slice_set pairs at (k, n')) o)
        ≡ (if is_same o k then n' else (if is_same o p.0 then p.1 else counted pairs o))
    by true one rest =
        let apart : is_same o k ≡ false = other_than o p.0 k one (before 0 (omega arith)) in
        rw (one, apart) refl
    by false other rest = rw other rest

-- what stands there is its count
counted_here : (k : Origin) (n : ℕ) (pairs : List (Origin × ℕ)) (at : ℕ) → slice_get pairs at ≡ Some (k, n)
    → ((j : ℕ) → j < at → is_same k (get_or (keys_of pairs) j k) ≡ false) → counted pairs k ≡ n
unfolding counted
counted_here k n [] at here before = absurd (true≢false (sym (ap is_some here)))
counted_here k n (p ∷ pairs) zero here before =
    let is : p ≡ (k, n) = ap (λ r. unwrap_or r p) here in
    let one : is_same k p.0 ≡ true = ap (λ (q : Origin × ℕ). is_same k q.0) is ∙ same_self k in
    rw one (ap (λ (q : Origin × ℕ). q.1) is)
counted_here k n (p ∷ pairs) (suc at) here before =
    let other : is_same k p.0 ≡ false = before 0 (omega arith) in
    rw other (counted_here k n pairs at here (λ j b. before (suc j) (omega arith)))

-- a new origin has its count last
added_counted : (k o : Origin) (n : ℕ) (pairs : List (Origin × ℕ)) → list_any (is_same k) (keys_of pairs) ≡ false
    → counted (pairs ++ (k, n) ∷ []) o ≡ (if is_same o k then n else counted pairs o)
unfolding counted
added_counted k o n [] none = refl
added_counted k o n (p ∷ pairs) none = by (is_same k p.0) refl (added_counted k o n pairs)
  where
    at_first : (b : Bool) → is_same o p.0 ≡ b → is_same k p.0 ≡ false → counted (pairs ++ (k, n) ∷ []) o ≡ (if is_same o k then n else counted pairs o)
        → (if is_same o p.0 then p.1 else counted (pairs ++ (k, n) ∷ []) o)
        ≡ (if is_same o k then n else (if is_same o p.0 then p.1 else counted pairs o))
    at_first true one other rest =
        let apart : is_same o k ≡ false = other_than o p.0 k one other in
        rw (one, apart) refl
    at_first false there other rest = rw there rest

    by : (b : Bool) → is_same k p.0 ≡ b
        → (list_any (is_same k) (keys_of pairs) ≡ false → counted (pairs ++ (k, n) ∷ []) o ≡ (if is_same o k then n else counted pairs o))
        → (if is_same o p.0 then p.1 else counted (pairs ++ (k, n) ∷ []) o)
        ≡ (if is_same o k then n else (if is_same o p.0 then p.1 else counted pairs o))
    by true one rest = absurd (true≢false (rw one at none))
    by false other rest = at_first (is_same o p.0) refl other (rest (rw other at none))

nowhere_counted : (k : Origin) (pairs : List (Origin × ℕ)) → list_any (is_same k) (keys_of pairs) ≡ false → counted pairs k ≡ 0
unfolding counted
nowhere_counted k [] none = refl
nowhere_counted k (p ∷ pairs) none = by (is_same k p.0) refl (nowhere_counted k pairs)
  where
    by : (b : Bool) → is_same k p.0 ≡ b → (list_any (is_same k) (keys_of pairs) ≡ false → counted pairs k ≡ 0)
        → (if is_same k p.0 then p.1 else counted pairs k) ≡ 0
    by true one rest = absurd (true≢false (rw one at none))
    by false other rest = rw other (rest (rw other at none))

capped-again : (n : ℕ) → capped n ≡ capped (capped n + 0)
capped-again n = omega arith

-- the origin k once more, where its count was n
one_more : (k : Origin) (n : ℕ) (absences : List Origin) (pairs : List (Origin × ℕ)) → AreCounted pairs absences → n ≡ how_often absences k
    → (o : Origin) → (if is_same o k then capped (n + 1) else counted pairs o) ≡ how_often (absences ++ k ∷ []) o
one_more k n absences pairs are is o = by (is_same o k) refl ∙ sym (often_more absences k o)
  where
    by : (b : Bool) → is_same o k ≡ b → (if is_same o k then capped (n + 1) else counted pairs o) ≡ capped (how_often absences o + one_if (is_same o k))
    by true one = rw one (ap (λ m. capped (m + 1)) (is ∙ ap (how_often absences) (sym (same_true o k one))))
    by false other = rw other (are o ∙ capped-again (count_by (is_same o) absences))

-- ---- as calls have it

pub whatever : {T E : Type 0} (r : Result T E) (Q : Type 0) → Q → OnOk r Q
whatever (Ok x) Q q = q
whatever (Err e) Q q = tt

pub counts_more : (k stored : Origin) (n n' : ℕ) (pairs pairs' : List (Origin × ℕ)) (at : ℕ) (absences : List Origin)
    → place_in pairs k ≡ Some at → slice_get pairs at ≡ Some (stored, n) → n' ≡ capped (n + 1)
    → pairs' ≡ slice_set pairs at (stored, n') → AreCounted pairs absences → AreCounted pairs' (absences ++ k ∷ [])
counts_more k stored n n' pairs pairs' at absences place here sum is are = λ o.
    let own : stored ≡ k = same_true stored k (stands pairs at (stored, n) k here place) in
    let at_k : slice_get pairs at ≡ Some (k, n) = here ∙ ap (λ (x : Origin). Some (x, n)) own in
    let first = (position-Some (is_same k) (keys_of pairs) at k place).2 in
    let n_is : n ≡ how_often absences k = sym (counted_here k n pairs at at_k first) ∙ are k in
    ap (λ (ps : List (Origin × ℕ)). counted ps o) (is ∙ ap (λ (x : Origin). slice_set pairs at (x, n')) own) ∙ set_counted k o n n' pairs at at_k first
    ∙ ap (λ m. if is_same o k then m else counted pairs o) sum ∙ one_more k n absences pairs are n_is o

pub counts_begin : (k : Origin) (pairs pairs' : List (Origin × ℕ)) (absences : List Origin) → place_in pairs k ≡ None
    → pairs' ≡ pairs ++ (k, 1) ∷ [] → AreCounted pairs absences → AreCounted pairs' (absences ++ k ∷ [])
counts_begin k pairs pairs' absences nowhere is are = λ o.
    let none = absent pairs k nowhere in
    let zero_is : 0 ≡ how_often absences k = sym (nowhere_counted k pairs none) ∙ are k in
    ap (λ (ps : List (Origin × ℕ)). counted ps o) is ∙ added_counted k o 1 pairs none ∙ one_more k 0 absences pairs are zero_is o

capped-none : (n : ℕ) → 0 ≡ capped n → n ≡ 0
capped-none n h = omega (arith, h)

pub is_new_absence : (k : Origin) (pairs : List (Origin × ℕ)) (absences : List Origin) → place_in pairs k ≡ None → AreCounted pairs absences
    → list_any (is_same k) absences ≡ false
is_new_absence k pairs absences nowhere are =
    let none = capped-none (count_by (is_same k) absences) (sym (nowhere_counted k pairs (absent pairs k nowhere)) ∙ are k) in
    sym (any_by_filter (is_same k) absences) ∙ ap (λ n. not (n == 0)) (length-filter (is_same k) absences ∙ none)

pub counted_at : (k stored : Origin) (n : ℕ) (pairs : List (Origin × ℕ)) (at : ℕ) → place_in pairs k ≡ Some at → slice_get pairs at ≡ Some (stored, n)
    → n ≡ counted pairs k
counted_at k stored n pairs at place here =
    let own : stored ≡ k = same_true stored k (stands pairs at (stored, n) k here place) in
    sym (counted_here k n pairs at (here ∙ ap (λ (x : Origin). Some (x, n)) own) (position-Some (is_same k) (keys_of pairs) at k place).2)

pub counted_nowhere : (k : Origin) (pairs : List (Origin × ℕ)) → place_in pairs k ≡ None → 0 ≡ counted pairs k
counted_nowhere k pairs nowhere = sym (nowhere_counted k pairs (absent pairs k nowhere))

pub no_counts : (pairs : List (Origin × ℕ)) → pairs ≡ [] → AreCounted pairs []
unfolding counted
no_counts pairs none = λ o. ap (λ (ps : List (Origin × ℕ)). counted ps o) none
