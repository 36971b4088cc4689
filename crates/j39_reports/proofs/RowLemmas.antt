-- The rows of a summary, with one entry more.
use Rattle.j39_reports.proofs.Common.{◌≡◌, ◌||◌, ◌+◌, ℕ, ℤ, Bool, true, false, List, [], ◌∷◌, ◌++◌, Option, None, Some, length, length-append, append-nil, map, refl, sym, ap, ◌∙◌, arith, filter, fold, count_by, if◌then◌else◌, int_max, int_min, filter_map, list_any, map-append, filter-append, filter_map-append, fold-append, capped, Entry}
use Rattle.j39_reports.specs.RowsSoFar.{begun, grown, one_if, widened}
use Rattle.j39_reports.specs.Summary.{Number, Range, Row, are_comparable, comparable_with, firsts, have_one_origin, is_word, last_of, number_of, range_of, row_of, summary_of}
use Rattle.j39_reports.proofs.FirstLemmas.{first_of_each}

-- ---- one value more

pub capped-more : (n k : ℕ) → capped (n + k) ≡ capped (capped n + k)
capped-more n k = omega arith

pub last_of-more : (d : Entry) (es : List Entry) (e : Entry) → last_of d (es ++ e ∷ []) ≡ e
unfolding last_of
last_of-more d [] e = refl
last_of-more d (x ∷ es) e = last_of-more x es e

count-more : (es : List Entry) (e : Entry) → capped (length (es ++ e ∷ [])) ≡ capped (capped (length es) + 1)
count-more es e = let len = length-append es (e ∷ []) in omega (arith, len)

words-more : (es : List Entry) (e : Entry) → capped (count_by is_word (es ++ e ∷ [])) ≡ capped (capped (count_by is_word es) + one_if (is_word e))
words-more es e =
    let more : count_by is_word (es ++ e ∷ []) ≡ count_by is_word es + one_if (is_word e) = fold-append (λ n x. n + one_if (is_word x)) 0 es (e ∷ []) in
    ap capped more ∙ capped-more (count_by is_word es) (one_if (is_word e))

-- ---- one number more

comparable-more : (n : Number) (ns : List Number) (m : Number)
    → comparable_with n (ns ++ m ∷ []) ≡ comparable_with n ns ++ (if are_comparable n.slot m.slot then m.value ∷ [] else [])
comparable-more n ns m =
    ap (map (λ (x : Number). x.value)) (filter-append (λ x. are_comparable n.slot x.slot) ns (m ∷ []))
    ∙ map-append (λ (x : Number). x.value) (filter (λ x. are_comparable n.slot x.slot) ns) (filter (λ x. are_comparable n.slot x.slot) (m ∷ []))
    ∙ ap (λ vs. comparable_with n ns ++ vs) (last (are_comparable n.slot m.slot) refl)
  where
    last : (b : Bool) → are_comparable n.slot m.slot ≡ b
        → map (λ (x : Number). x.value) (filter (λ x. are_comparable n.slot x.slot) (m ∷ [])) ≡ (if are_comparable n.slot m.slot then m.value ∷ [] else [])
    last true e = rw e refl
    last false e = rw e refl

range_of-more : (ns : List Number) (m : Number) → range_of (ns ++ m ∷ []) ≡ widened (range_of ns) (Some m)
unfolding range_of
range_of-more [] m = refl
range_of-more (n ∷ ns) m = by (are_comparable n.slot m.slot) refl
  where
    cs : List ℤ
    cs = comparable_with n ns

    Made : List ℤ → Option Range
    Made vs = Some (record { slot = n.slot; least = fold int_min n.value vs; most = fold int_max n.value vs })

    by : (b : Bool) → are_comparable n.slot m.slot ≡ b → Made (comparable_with n (ns ++ m ∷ [])) ≡ widened (Made cs) (Some m)
    by true e =
        ap Made (comparable-more n ns m) ∙ (rw e (λ i. Some (record {
          slot = n.slot;
          least = fold-append int_min n.value cs (m.value ∷ []) i;
          most = fold-append int_max n.value cs (m.value ∷ []) i;
        })))
    by false e = ap Made (comparable-more n ns m) ∙ (rw e (ap Made (append-nil cs)))

numbers-more : (es : List Entry) (e : Entry) → range_of (filter_map number_of (es ++ e ∷ [])) ≡ widened (range_of (filter_map number_of es)) (number_of e)
numbers-more es e = ap range_of (filter_map-append number_of es (e ∷ [])) ∙ by (number_of e) refl
  where
    ns : List Number
    ns = filter_map number_of es

    by : (o : Option Number) → number_of e ≡ o → range_of (ns ++ filter_map number_of (e ∷ [])) ≡ widened (range_of ns) (number_of e)
    by None is = rw is (ap range_of (append-nil ns) ∙ sym (kept (range_of ns)))
      where
        kept : (r : Option Range) → widened r None ≡ r
        kept None = refl
        kept (Some r) = refl
    by (Some m) is = rw is (range_of-more ns m)

-- ---- a row with one entry more

abbrev pub row_over : Entry → List Entry → Row
row_over first es = record {
  first = first;
  last = last_of first es;
  count = capped (length es);
  words = capped (count_by is_word es);
  range = range_of (filter_map number_of es);
}

pub row_over-more : (first : Entry) (es : List Entry) (e : Entry) → row_over first (es ++ e ∷ []) ≡ grown (row_over first es) e
row_over-more first es e = λ i. record {
  first = first;
  last = last_of-more first es e i;
  count = count-more es e i;
  words = words-more es e i;
  range = numbers-more es e i;
}

pub begun_row : (e : Entry) → row_over e (e ∷ []) ≡ begun e
unfolding last_of range_of
begun_row e = λ i. record {
  first = e;
  last = e;
  count = 1;
  words = one_word (is_word e) i;
  range = one_number (number_of e) refl i;
}
  where
    one_word : (b : Bool) → capped (0 + one_if b) ≡ one_if b
    one_word true = refl
    one_word false = refl

    one_number : (o : Option Number) → number_of e ≡ o → range_of (filter_map number_of (e ∷ [])) ≡ widened None (number_of e)
    one_number None is = rw is refl
    one_number (Some m) is = rw is refl

-- the rows have the origins of the entries
pub origins_listed : (es : List Entry) (e : Entry) → list_any (λ r. have_one_origin e r.first) (summary_of es) ≡ list_any (have_one_origin e) es
origins_listed es e = by (firsts es) ∙ first_of_each e es
  where
    by : (fs : List Entry) → list_any (λ r. have_one_origin e r.first) (map (row_of es) fs) ≡ list_any (have_one_origin e) fs
    by [] = refl
    by (f ∷ fs) = ap (λ b. have_one_origin e f || b) (by fs)
