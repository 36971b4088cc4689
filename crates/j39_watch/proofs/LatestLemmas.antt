-- The last value of an origin, and how many came of late, with one entry more.
use Rattle.j39_watch.proofs.Common.{◌≡◌, ◌==◌, ◌+◌, ◌++◌, ◌∷◌, [], ℕ, zero, suc, Bool, true, false, List, arith, drop, if◌then◌else◌, refl, reverse, sym, ap, ap₂, ◌∙◌, prefix_len, reverse-append, capped, Entry}
use Rattle.j39_reports.proofs.RowLemmas.{last_of-more}
use Rattle.j39_watch.specs.LatestSoFar.{came_before, latest_begun, latest_grown, latest_over, second_of}
use Rattle.j39_reports.specs.Summary.{last_of, origin_of}
use Rattle.j39_watch.specs.Watch.{came, is_in}

-- ---- some entries, the last first

-- how many of these, from the first on, are of this second
abbrev within : ℕ → List Entry → ℕ
within s back = prefix_len (is_in s) back

-- behind those, how many are of the second before
abbrev before : ℕ → List Entry → ℕ
before zero back = 0
before (suc s) back = prefix_len (is_in s) (drop (prefix_len (is_in (suc s)) back) back)

before_is : (s : ℕ) (es : List Entry) → before s (reverse es) ≡ came s es
before_is zero es = refl
before_is (suc s) es = refl

-- the first is of this second, or there is none
abbrev Heads : ℕ → List Entry → Type 0
Heads s [] = Unit {0}
Heads s (e ∷ back) = second_of e ≡ s

same_number : (m n : ℕ) → (m == n) ≡ true → m ≡ n
same_number m n e = grind arith

equal_number : (m n : ℕ) → m ≡ n → (m == n) ≡ true
equal_number m n e = grind arith

other_number : (m n : ℕ) → (m ≡ n → ⊥) → (m == n) ≡ false
other_number m n e = grind arith

unequal : (m n : ℕ) → (m == n) ≡ false → m ≡ n → ⊥
unequal m n e = grind arith

-- of another second none is
none_within : (s t : ℕ) (back : List Entry) → Heads s back → (s == t) ≡ false → within t back ≡ 0
none_within s t [] heads other = refl
none_within s t (e ∷ back) heads other =
    let out : is_in t e ≡ false = ap (λ n. n == t) heads ∙ other in
    rw out refl

one_within : (e : Entry) (back : List Entry) → within (second_of e) (e ∷ back) ≡ 1 + within (second_of e) back
one_within e back =
    let own : is_in (second_of e) e ≡ true = equal_number (second_of e) (second_of e) refl in
    rw own refl

-- how many are of its second, with one more
within_more : (s : ℕ) (e : Entry) (back : List Entry) → Heads s back
    → capped (within (second_of e) (e ∷ back)) ≡ (if second_of e == s then capped (capped (within s back) + 1) else 1)
within_more s e back heads = ap capped (one_within e back) ∙ by (second_of e == s) refl
  where
    by : (b : Bool) → (second_of e == s) ≡ b → capped (1 + within (second_of e) back) ≡ (if b then capped (capped (within s back) + 1) else 1)
    by true same =
        ap (λ t. capped (1 + within t back)) (same_number (second_of e) s same) ∙ step (within s back)
      where
        step : (n : ℕ) → capped (1 + n) ≡ capped (capped n + 1)
        step n = omega arith
    by false other =
        let turned : (s == second_of e) ≡ false = other_number s (second_of e) (λ is. unequal (second_of e) s other (sym is)) in
        ap (λ n. capped (1 + n)) (none_within s (second_of e) back heads turned)

one_more : (n : ℕ) → 1 + n ≡ suc n
one_more n = omega arith

-- how many are of the second before, with one more
before_more : (s : ℕ) (e : Entry) (back : List Entry) → Heads s back
    → capped (before (second_of e) (e ∷ back))
    ≡ (if second_of e == s then capped (before s back) else (if second_of e == s + 1 then capped (within s back) else 0))
before_more s e back heads = start (second_of e) refl
  where
    start : (n : ℕ) → second_of e ≡ n → capped (before (second_of e) (e ∷ back))
        ≡ (if second_of e == s then capped (before s back) else (if second_of e == s + 1 then capped (within s back) else 0))
    start zero is = rw is (zero_is (zero == s) refl)
      where
        zero_is : (b : Bool) → (zero == s) ≡ b → 0 ≡ (if b then capped (before s back) else (if zero == s + 1 then capped (within s back) else 0))
        zero_is true same = ap (λ t. capped (before t back)) (same_number zero s same)
        zero_is false other = rw (other_number zero (s + 1) (λ x. absurd (omega (arith, x)))) refl
    start (suc k) is =
        let own : is_in (suc k) e ≡ true = equal_number (second_of e) (suc k) is in
        let cut : before (suc k) (e ∷ back) ≡ prefix_len (is_in k) (drop (within (suc k) back) back) =
        rw own (ap (λ m. prefix_len (is_in k) (drop m (e ∷ back))) (one_more (within (suc k) back))) in
        ap (λ n. capped (before n (e ∷ back))) is ∙ ap capped cut ∙ by (suc k == s) refl
        ∙ ap (λ n. if n == s then capped (before s back) else (if n == s + 1 then capped (within s back) else 0)) (sym is)
      where
        by : (b : Bool) → (suc k == s) ≡ b → capped (prefix_len (is_in k) (drop (within (suc k) back) back))
            ≡ (if b then capped (before s back) else (if suc k == s + 1 then capped (within s back) else 0))
        by true same = ap (λ t. capped (before t back)) (same_number (suc k) s same)
        by false other =
            let turned : (s == suc k) ≡ false = other_number s (suc k) (λ x. unequal (suc k) s other (sym x)) in
            ap (λ n. capped (prefix_len (is_in k) (drop n back))) (none_within s (suc k) back heads turned) ∙ next (suc k == s + 1) refl
          where
            next : (b : Bool) → (suc k == s + 1) ≡ b → capped (within k back) ≡ (if b then capped (within s back) else 0)
            next true same =
                let x = same_number (suc k) (s + 1) same in
                let is : k ≡ s = omega (arith, x) in ap (λ t. capped (within t back)) is
            next false apart =
                ap capped (none_within s k back heads (other_number s k (λ x. unequal (suc k) (s + 1) apart (omega (arith, x)))))

-- ---- the last entry

last_first : (f x : Entry) (es : List Entry) → (rest : List Entry) × (reverse (x ∷ es) ≡ last_of f (x ∷ es) ∷ rest)
unfolding last_of
last_first f x [] = ([], refl)
last_first f x (y ∷ es) =
    let (rest, is) = last_first x y es in
    (rest ++ x ∷ [], reverse-append (x ∷ []) (y ∷ es) ∙ ap (λ back. back ++ x ∷ []) is)

heads : (f : Entry) (es : List Entry) → Heads (second_of (last_of f es)) (reverse es)
heads f [] = tt
heads f (x ∷ es) =
    let (rest, is) = last_first f x es in
    subst_heads (reverse (x ∷ es)) rest is
  where
    subst_heads : (back rest : List Entry) → back ≡ last_of f (x ∷ es) ∷ rest → Heads (second_of (last_of f (x ∷ es))) back
    subst_heads back rest is = rw is refl

-- ---- as the code keeps it

pub latest_one : (e : Entry) → latest_over e (e ∷ []) ≡ latest_begun e
unfolding last_of
latest_one e = λ i. record {
  origin = origin_of e;
  last = e;
  within = (within_more (second_of e) e [] tt ∙ one) i;
  before = (ap capped (sym (before_is (second_of e) (e ∷ []))) ∙ before_more (second_of e) e [] tt ∙ none (second_of e)) i;
}
  where
    own : (second_of e == second_of e) ≡ true
    own = equal_number (second_of e) (second_of e) refl

    one : (if second_of e == second_of e then capped (capped (within (second_of e) []) + 1) else 1) ≡ 1
    one = rw own refl

    nothing : (s : ℕ) → capped (before s []) ≡ 0
    nothing zero = refl
    nothing (suc s) = refl

    none : (s : ℕ) → (if second_of e == second_of e then capped (before (second_of e) []) else (if second_of e == second_of e + 1 then capped (within (second_of e) []) else 0)) ≡ 0
    none s = rw own (nothing (second_of e))

pub latest_more : (f : Entry) (es : List Entry) (e : Entry) → latest_over f (es ++ e ∷ []) ≡ latest_grown (latest_over f es) e
latest_more f es e =
    let back = reverse-append es (e ∷ []) in
    let last = last_of-more f es e in
    let s = second_of (last_of f es) in
    λ i. record {
      origin = origin_of f;
      last = last i;
      within = (ap₂ (λ (l : Entry) (b : List Entry). capped (within (second_of l) b)) last back ∙ within_more s e (reverse es) (heads f es)) i;
      before = (ap capped (sym (before_is (second_of (last_of f (es ++ e ∷ []))) (es ++ e ∷ [])))
          ∙ ap₂ (λ (l : Entry) (b : List Entry). capped (before (second_of l) b)) last back ∙ before_more s e (reverse es) (heads f es)
          ∙ ap (λ n. if second_of e == s then capped n else (if second_of e == s + 1 then capped (within s (reverse es)) else 0)) (before_is s es)) i;
    }

-- ---- what is shown of it

pub came_is : (f : Entry) (es : List Entry) (now : ℕ) → came_before (latest_over f es) now ≡ capped (came now es)
came_is f es now = start now ∙ ap capped (before_is now es)
  where
    s : ℕ
    s = second_of (last_of f es)

    back : List Entry
    back = reverse es

    known : Heads s back
    known = heads f es

    start : (now : ℕ) → came_before (latest_over f es) now ≡ capped (before now back)
    start now = by (now == s) refl
      where
        by : (b : Bool) → (now == s) ≡ b
            → (if b then capped (came s es) else (if now == s + 1 then capped (within s back) else 0)) ≡ capped (before now back)
        by true same = ap capped (sym (before_is s es)) ∙ ap (λ t. capped (before t back)) (sym (same_number now s same))
        by false other = next now other
          where
            next : (now : ℕ) → (now == s) ≡ false → (if now == s + 1 then capped (within s back) else 0) ≡ capped (before now back)
            next zero other = rw (other_number zero (s + 1) (λ x. absurd (omega (arith, x)))) refl
            next (suc k) other =
                let turned : (s == suc k) ≡ false = other_number s (suc k) (λ x. unequal (suc k) s other (sym x)) in
                last (suc k == s + 1) refl ∙ ap (λ n. capped (prefix_len (is_in k) (drop n back))) (sym (none_within s (suc k) back known turned))
              where
                last : (b : Bool) → (suc k == s + 1) ≡ b → (if b then capped (within s back) else 0) ≡ capped (within k back)
                last true same =
                    let x = same_number (suc k) (s + 1) same in
                    let is : s ≡ k = omega (arith, x) in ap (λ t. capped (within t back)) is
                last false apart =
                    ap capped (sym (none_within s k back known (other_number s k (λ x. unequal (suc k) (s + 1) apart (omega (arith, x))))))
