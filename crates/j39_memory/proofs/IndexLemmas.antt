-- The values of an index, and of one that has a value more.
use Rattle.std.proofs.Common.{◌≡◌, ◌≤◌, ◌<◌, ◌+◌, ◌∙◌, ◌++◌, ◌∷◌, [], ℕ, List, Result, Ok, Err, length, map, get_or, replicate, refl, sym, ap, subst, arith, inl, inr}
use Rattle.std.specs.Prelude.{IsOk, is_ok, if◌then◌else◌}
use Rattle.std.specs.List.{sum_by}
use Rattle.std.proofs.Math.ListN.{set, get_or-append, get_or-map}
use Rattle.std.proofs.Math.Seq.{get_or-append_seam}
use Rattle.std.proofs.lemmas.Bool.{cases_eq, cases_lt, ne_eqb}
use Rattle.std.proofs.lemmas.List.{ext_get_or, get_or_default, get_or_past, get_or-replicate, get_or-set_same, get_or-set_other, length-append, length-map, length-replicate, length-set, map-set}
use Rattle.std.proofs.lemmas.List.Folds.{sum_by-replicate}
use Rattle.std.proofs.lemmas.List.Sums.{sum_by-set}
use Rattle.std.proofs.lemmas.Simd.{splat_is_map}
use Rattle.j39_memory.specs.Index.{IsIndex, one_untouched}

-- what a place shows, whatever stands where nothing does
pub shown_at : {T : Type 0} (index : List ℕ) (values : List T) (start other : T) (p : ℕ) → p < length index
    → get_or (map (λ at. get_or values at start) index) p other ≡ get_or values (get_or index p 65535) start
shown_at {T = T} index values start other p within =
    let f : ℕ → T = λ at. get_or values at start in
    get_or_default (map f index) p other (f 65535) (omega (arith, within, length-map index f)) ∙ get_or-map f index p 65535

-- two lists of values that show the same at each place
same_shown : {T : Type 0} (index : List ℕ) (old new : List T) (start : T)
    → ((p : ℕ) → p < length index → get_or new (get_or index p 65535) start ≡ get_or old (get_or index p 65535) start)
    → map (λ at. get_or new at start) index ≡ map (λ at. get_or old at start) index
same_shown {T = T} index old new start same =
    let f : ℕ → T = λ at. get_or new at start in
    let g : ℕ → T = λ at. get_or old at start in
    ext_get_or start (map f index) (map g index) (length-map index f ∙ sym (length-map index g)) (λ p within.
    let inside : p < length index = omega (arith, within, length-map index f) in
    shown_at index new start start p inside ∙ same p inside ∙ sym (shown_at index old start start p inside))

module _ {T : Type 0} (index : List ℕ) (values : List T) (start : T) (size : length index ≡ 17344) (is : IsIndex index (length values)) (place : ℕ) (below : place < 17344) where
  abbrev shown : List T → List T
  shown vs = map (λ at. get_or vs at start) index

  -- a value that was changed before is changed
  pub changed : (at : ℕ) (value : T) → at ≡ get_or index place 65535 → at < length values → shown (set values at value) ≡ set (shown values) place value
  changed at value here some =
      let f : ℕ → T = λ i. get_or (set values at value) i start in
      let g : ℕ → T = λ i. get_or values i start in
      let long = length-map index f in
      let long_too = length-map index g in
      let still = length-set (shown values) place value in
      ext_get_or start (shown (set values at value)) (set (shown values) place value) (long ∙ sym (still ∙ long_too)) (λ q within.
      let inside : q < length index = omega (arith, within, long) in
      let placed : place < length (shown values) = omega (arith, below, size, long_too) in
      let first = shown_at index (set values at value) start start q inside in
      elim (cases_eq q place) [
        | inl same ↦
            let there : get_or index q 65535 ≡ at = ap (λ p. get_or index p 65535) same ∙ sym here in
            first ∙ ap (λ i. get_or (set values at value) i start) there ∙ get_or-set_same values at value start some
            ∙ sym (ap (λ p. get_or (set (shown values) place value) p start) same ∙ get_or-set_same (shown values) place value start placed)
        | inr other ↦
            let apart : get_or index q 65535 ≡ at → ⊥ = λ e.
            other (is.apart q place (omega (arith, inside, size)) below (e ∙ here) (subst (λ i. i < length values) (sym e) some)) in
            first ∙ get_or-set_other values at (get_or index q 65535) value start apart
            ∙ sym (get_or-set_other (shown values) place q value start other ∙ shown_at index values start start q inside)
      ])

  -- a value that wasn't
  pub untouched_here : length values ≤ get_or index place 65535 → get_or index place 65535 ≡ 65535
  untouched_here none = is.each place below none

  sum_less : length values ≤ get_or index place 65535 → sum_by one_untouched (set index place (length values)) + 1 ≡ sum_by one_untouched index + one_untouched (length values)
  sum_less none =
      let sum = sum_by-set one_untouched index place (length values) 65535 (omega (arith, below, size)) in
      ap (λ n. sum_by one_untouched (set index place (length values)) + one_untouched n) (sym (untouched_here none)) ∙ sum

  few : length values < 65535
  few = omega (arith, is.room)

  counts_none : one_untouched (length values) ≡ 0
  counts_none = rw (ne_eqb (length values) 65535 (λ e. absurd (omega (arith, few, e)))) refl

  pub has_room : length values ≤ get_or index place 65535 → length values < 17344
  has_room none = omega (arith, sum_less none, counts_none, is.room)

  pub begun : (value : T) → length values ≤ get_or index place 65535
      → map (λ at. get_or (values ++ (value ∷ [])) at start) (set index place (length values)) ≡ set (shown values) place value
  begun value none =
      let more = values ++ (value ∷ []) in
      let long = length-append values (value ∷ []) in
      map-set (λ at. get_or more at start) index place (length values)
      ∙ ap (λ v. set (shown more) place v) (get_or-append_seam values value [] start)
      ∙ ap (λ vs. set vs place value) (same_shown index values more start (λ p within. elim (cases_lt (get_or index p 65535) (length values)) [
        | inl one ↦ get_or-append values (value ∷ []) start (get_or index p 65535) one
        | inr past ↦
            let last = is.each p (omega (arith, within, size)) past in
            ap (λ i. get_or more i start) last ∙ get_or_past more 65535 start (omega (arith, long, few))
            ∙ sym (ap (λ i. get_or values i start) last ∙ get_or_past values 65535 start (omega (arith, few)))
      ]))

  pub begun_by : (vs : List T) (n : ℕ) (value : T) → vs ≡ values ++ (value ∷ []) → n ≡ length values → length values ≤ get_or index place 65535
      → map (λ at. get_or vs at start) (set index place n) ≡ set (shown values) place value
  begun_by vs n value same long none =
      ap (λ ws. map (λ at. get_or ws at start) (set index place n)) same
      ∙ ap (λ k. map (λ at. get_or (values ++ (value ∷ [])) at start) (set index place k)) long ∙ begun value none

  pub index_more : length values ≤ get_or index place 65535 → IsIndex (set index place (length values)) (length values + 1)
  index_more none =
      let n = length values in
      let next = set index place n in
      let placed : place < length index = omega (arith, below, size) in
      let here : get_or next place 65535 ≡ n = get_or-set_same index place n 65535 placed in
      let there : (p : ℕ) → (p ≡ place → ⊥) → get_or next p 65535 ≡ get_or index p 65535 = λ p other. get_or-set_other index place p n 65535 other in
      let fresh : (p : ℕ) → p < 17344 → (p ≡ place → ⊥) → get_or next p 65535 ≡ n → ⊥ = λ p within other e.
      let was : get_or index p 65535 ≡ n = sym (there p other) ∙ e in
      let last = is.each p within (omega (arith, was)) in
      absurd (omega (arith, few, was, last)) in
      record {
        each = λ p within past. elim (cases_eq p place) [
          | inl same ↦ absurd (let this = ap (λ q. get_or next q 65535) same ∙ here in omega (arith, past, this))
          | inr other ↦ let was = there p other in was ∙ is.each p within (omega (arith, past, was))
        ];
        apart = λ p q p_in q_in e some. elim (cases_eq p place) [
          | inl p_here ↦ elim (cases_eq q place) [
            | inl q_here ↦ p_here ∙ sym q_here
            | inr q_other ↦ absurd (fresh q q_in q_other (sym e ∙ ap (λ r. get_or next r 65535) p_here ∙ here))
          ]
          | inr p_other ↦ elim (cases_eq q place) [
            | inl q_here ↦ absurd (fresh p p_in p_other (e ∙ ap (λ r. get_or next r 65535) q_here ∙ here))
            | inr q_other ↦ is.apart p q p_in q_in (sym (there p p_other) ∙ e ∙ there q q_other) (elim (cases_lt (get_or index p 65535) n) [
              | inl one ↦ one
              | inr past ↦ let last = is.each p p_in past in let was = there p p_other in absurd (omega (arith, few, some, was, last))
            ])
          ]
        ];
        room = omega (arith, sum_less none, counts_none, is.room);
      }

-- at the start
pub index_start : (index : List ℕ) → index ≡ replicate 17344 65535 → IsIndex index 0
index_start index all =
    let at : (p : ℕ) → p < 17344 → get_or index p 65535 ≡ 65535 = λ p within. ap (λ xs. get_or xs p 65535) all ∙ get_or-replicate 17344 p 65535 65535 within in
    record {
      each = λ p within past. at p within;
      apart = λ p q p_in q_in e some. absurd (omega (arith, some));
      room = let sum = ap (sum_by one_untouched) all ∙ sum_by-replicate one_untouched 17344 65535 in omega (arith, sum);
    }

pub shown_start : {T : Type 0} (index : List ℕ) (values : List T) (start : T) → index ≡ replicate 17344 65535 → values ≡ []
    → map (λ at. get_or values at start) index ≡ replicate 17344 start
shown_start index values start all none =
    ap (λ vs. map (λ at. get_or vs at start) index) none ∙ sym (splat_is_map index 17344 start (ap length all ∙ length-replicate {A = ℕ} 17344 65535))

-- what a push with room leaves
pub pushed : {X E : Type 0} (r : Result (Unit {0}) E) (a b : X) → IsOk r → (if is_ok r then a else b) ≡ a
pushed (Ok x) a b ok = refl
pushed (Err e) a b ok = absurd (cc ok)
