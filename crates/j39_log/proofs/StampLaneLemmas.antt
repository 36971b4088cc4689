-- The digits of a stamp, as vectors read them.
use Rattle.std.proofs.Common.{◌≡◌, ◌<◌, ◌≤◌, ◌/◌, ◌+◌, ◌-◌, ◌*◌, ◌%◌, ◌^◌, ◌⊎◌, ℕ, List, [], ◌∷◌, ◌++◌, zero, suc, length, map, take, drop, get_or, refl, ap, ap₂, ◌∙◌, append_assoc, arith, subst, sym, take-append-drop, length-take, lit<}
use Rattle.std.specs.List.{AllByRecursion, range_with_len}
use Rattle.std.specs.Char.{digit_value}
use Rattle.std.specs.Str.Parse.{AllDigits, digits_value, digits_value_after}
use Rattle.std.proofs.lemmas.Simd.{pick_l_whole}
use Rattle.std.proofs.lemmas.Str.Parse.{digit_at}
use Rattle.std.proofs.lemmas.Int.Digits.{digits_value-lt, digits_value_push}
use Rattle.std.proofs.lemmas.List.{take_all, take_more}
use Rattle.j39_io.specs.Printing.{last_digits}
use Rattle.j39_log.specs.Lanes.{pair_at, stamp_lanes}
use Rattle.j39_log.specs.LastSecond.{AreDecimals, IsSecond}
use Rattle.j39_log.specs.StampText.{stamp_text}
use Rattle.j39_log.specs.Text.{IsStampText}

abbrev pub dec_lane : ℕ → ℕ
dec_lane b = (b + 208) % 256

-- the number that values write after n
abbrev value_after : ℕ → List ℕ → ℕ
value_after n [] = n
value_after n (d ∷ ds) = value_after (n * 10 + d) ds

digits_read : (n : ℕ) (cs : List ℕ) → AllByRecursion (λ c. c < 256) cs → AllByRecursion (λ d. d < 10) (map dec_lane cs)
    → AllDigits 10 cs × (digits_value_after 10 n cs ≡ value_after n (map dec_lane cs))
digits_read n [] fits small = (tt, refl)
digits_read n (c ∷ cs) fits small =
    let same = digit c fits.0 small.0 in
    let rest = digits_read (n * 10 + dec_lane c) cs fits.1 small.1 in
    ((rw same small.0, rest.0), ap (λ d. digits_value_after 10 (n * 10 + d) cs) same ∙ rest.1)
  where
    digit : (c : ℕ) → c < 256 → (c + 208) % 256 < 10 → digit_value c ≡ (c + 208) % 256
    digit c fits small = let e : (c + 208) % 256 ≡ c - 48 = omega arith in let low : 47 < c = omega arith in let high : c < 58 = omega arith in grind arith

pub digits_of_lanes : (cs : List ℕ) → AllByRecursion (λ d. d < 10) (map dec_lane cs) → AllByRecursion (λ c. c < 256) cs → AllDigits 10 cs
digits_of_lanes cs small fits = (digits_read 0 cs fits small).0

digits_from : (c : ℕ) (cs : List ℕ) → AllByRecursion (λ c. c < 256) (c ∷ cs) → AllByRecursion (λ d. d < 10) (map dec_lane (c ∷ cs))
    → AllDigits 10 (c ∷ cs) × (digits_value 10 (c ∷ cs) ≡ value_after (dec_lane c) (map dec_lane cs))
digits_from c cs fits small =
    let read = digits_read 0 (c ∷ cs) fits small in
    (read.0, read.1 ∙ ap (λ n. value_after n (map dec_lane cs)) (zero (dec_lane c)))
  where
    zero : (d : ℕ) → 0 * 10 + d ≡ d
    zero d = omega arith

All-left : (xs ys : List ℕ) (P : ℕ → Type 0) → AllByRecursion P (xs ++ ys) → AllByRecursion P xs
All-left [] ys P h = tt
All-left (x ∷ xs) ys P h = (h.0, All-left xs ys P h.1)

All-right : (xs ys : List ℕ) (P : ℕ → Type 0) → AllByRecursion P (xs ++ ys) → AllByRecursion P ys
All-right [] ys P h = h
All-right (x ∷ xs) ys P h = All-right xs ys P h.1

All-map : (t : ℕ → ℕ) (P : ℕ → Type 0) → ((i : ℕ) → P (t i)) → (ks : List ℕ) → AllByRecursion P (map t ks)
All-map t P h [] = tt
All-map t P h (k ∷ ks) = (h k, All-map t P h ks)

-- the microseconds that a first value and pairs write, before the second and within it
abbrev pub second_at : ℕ → List ℕ → ℕ
second_at first p = first * 10 ^ 15 + get_or p 0 0 * 10 ^ 13 + get_or p 1 0 * 10 ^ 11 + get_or p 2 0 * 10 ^ 9 + get_or p 3 0 * 10 ^ 7 + get_or p 4 0 * 10 ^ 5

abbrev pub decimals_at : List ℕ → ℕ
decimals_at p = get_or p 5 0 * 10 ^ 4 + get_or p 6 0 * 100 + get_or p 7 0

pair_is : (a b : ℕ) → a < 10 → b < 10 → (a * 10 % 256 + b) % 256 ≡ a * 10 + b
pair_is a b p q = omega arith

abbrev pairs_of : (ℕ → ℕ) → (ℕ → ℕ) → List ℕ
pairs_of a b = map (λ k. (a k * 10 % 256 + b k) % 256) (range_with_len 0 8)

paired : (a b : ℕ → ℕ) (first : ℕ) → ((k : ℕ) → (a k < 10) × (b k < 10)) → b 4 ≡ 0
    → second_at first (pairs_of a b) ≡ value_after first (a 0 ∷ b 0 ∷ a 1 ∷ b 1 ∷ a 2 ∷ b 2 ∷ a 3 ∷ b 3 ∷ a 4 ∷ []) * 10 ^ 6
paired a b first small none =
    let e : (k : ℕ) → (a k * 10 % 256 + b k) % 256 ≡ a k * 10 + b k = λ k. pair_is (a k) (b k) (small k).0 (small k).1 in
    (λ i. first * 10 ^ 15 + e 0 i * 10 ^ 13 + e 1 i * 10 ^ 11 + e 2 i * 10 ^ 9 + e 3 i * 10 ^ 7 + e 4 i * 10 ^ 5)
    ∙ total (a 0) (b 0) (a 1) (b 1) (a 2) (b 2) (a 3) (b 3) (a 4) (b 4) none
  where
    total : (c d e f g h i j k l : ℕ) → l ≡ 0
        → first * 10 ^ 15 + (c * 10 + d) * 10 ^ 13 + (e * 10 + f) * 10 ^ 11 + (g * 10 + h) * 10 ^ 9 + (i * 10 + j) * 10 ^ 7 + (k * 10 + l) * 10 ^ 5
        ≡ value_after first (c ∷ d ∷ e ∷ f ∷ g ∷ h ∷ i ∷ j ∷ k ∷ []) * 10 ^ 6
    total c d e f g h i j k l none = omega (arith, none)

paired_decimals : (a b : ℕ → ℕ) → ((k : ℕ) → (a k < 10) × (b k < 10)) → decimals_at (pairs_of a b) ≡ value_after (a 5) (b 5 ∷ a 6 ∷ b 6 ∷ a 7 ∷ b 7 ∷ [])
paired_decimals a b small =
    let e : (k : ℕ) → (a k * 10 % 256 + b k) % 256 ≡ a k * 10 + b k = λ k. pair_is (a k) (b k) (small k).0 (small k).1 in
    (λ i. e 5 i * 10 ^ 4 + e 6 i * 100 + e 7 i) ∙ total (a 5) (b 5) (a 6) (b 6) (a 7) (b 7)
  where
    total : (m n o p q r : ℕ) → (m * 10 + n) * 10 ^ 4 + (o * 10 + p) * 100 + (q * 10 + r) ≡ value_after m (n ∷ o ∷ p ∷ q ∷ r ∷ [])
    total m n o p q r = omega arith

All-at : (xs : List ℕ) (i : ℕ) → AllByRecursion (λ d. d < 10) xs → get_or xs i 0 < 10
All-at [] i h = lit< tt
All-at (x ∷ xs) zero h = h.0
All-at (x ∷ xs) (suc i) h = All-at xs i h.1

All-append : (xs ys : List ℕ) → AllByRecursion (λ d. d < 10) xs → AllByRecursion (λ d. d < 10) ys → AllByRecursion (λ d. d < 10) (xs ++ ys)
All-append [] ys p q = q
All-append (x ∷ xs) ys p q = (p.0, All-append xs ys p.1 q)

abbrev front_of : (ℕ → ℕ) → List ℕ
front_of t = map t (range_with_len 0 18)

abbrev twice : (ℕ → ℕ) → List ℕ
twice t = stamp_lanes (front_of t) ++ stamp_lanes (front_of t)

twice-small : (t : ℕ → ℕ) → AllByRecursion (λ d. d < 10) (stamp_lanes (front_of t)) → (k : ℕ) → (get_or (twice t) (2 * k) 0 < 10) × (get_or (twice t) (2 * k + 1) 0 < 10)
twice-small t small k =
    let both = All-append (stamp_lanes (front_of t)) (stamp_lanes (front_of t)) small small in
    (All-at (twice t) (2 * k) both, All-at (twice t) (2 * k + 1) both)

second_read : (t : ℕ → ℕ) → ((i : ℕ) → t i < 256) → t 0 ≡ 40 → t 11 ≡ 46 → dec_lane (t 1) < 10 → AllByRecursion (λ d. d < 10) (stamp_lanes (front_of t))
    → IsSecond (take 12 (front_of t)) (second_at (dec_lane (t 1)) (map (pair_at 10 (stamp_lanes (front_of t))) (range_with_len 0 8)))
second_read t fits opened dot first small =
    let front : List ℕ = map dec_lane (map t (range_with_len 2 9)) in
    let back : List ℕ = (t 11 + 210) % 256 ∷ map dec_lane (map t (range_with_len 12 6)) in
    let s = digits_from (t 1) (map t (range_with_len 2 9)) (All-map t (λ c. c < 256) fits (range_with_len 1 10)) (first, All-left front back (λ d. d < 10) small) in
    record {
      seconds = map t (range_with_len 1 10);
      text_is = rw (opened, dot) refl;
      seconds_fit = refl;
      seconds_are = s.0;
      micros_are = rw s.1 (paired (λ k. get_or (twice t) (2 * k) 0) (λ k. get_or (twice t) (2 * k + 1) 0) (dec_lane (t 1)) (twice-small t small) (ap (λ b. (b + 210) % 256) dot));
    }

decimals_read : (t : ℕ → ℕ) → ((i : ℕ) → t i < 256) → AllByRecursion (λ d. d < 10) (stamp_lanes (front_of t))
    → AreDecimals (drop 12 (front_of t)) (decimals_at (map (pair_at 10 (stamp_lanes (front_of t))) (range_with_len 0 8)))
decimals_read t fits small =
    let front : List ℕ = map dec_lane (map t (range_with_len 2 9)) in
    let back : List ℕ = (t 11 + 210) % 256 ∷ map dec_lane (map t (range_with_len 12 6)) in
    let u = digits_from (t 12) (map t (range_with_len 13 5)) (All-map t (λ c. c < 256) fits (range_with_len 12 6)) (All-right front back (λ d. d < 10) small).1 in
    record {
      fit = refl;
      are = u.0;
      micros_are = rw u.1 (paired_decimals (λ k. get_or (twice t) (2 * k) 0) (λ k. get_or (twice t) (2 * k + 1) 0) (twice-small t small));
    }

pub second_lanes : (front : List ℕ) → length front ≡ 18 → ((i : ℕ) → get_or front i 0 < 256) → get_or front 0 0 ≡ 40 → get_or front 11 0 ≡ 46 → dec_lane (get_or front 1 0) < 10
    → AllByRecursion (λ d. d < 10) (stamp_lanes front) → IsSecond (take 12 front) (second_at (dec_lane (get_or front 1 0)) (map (pair_at 10 (stamp_lanes front)) (range_with_len 0 8)))
second_lanes front long fits opened dot first small =
    let whole = pick_l_whole 0 front 18 long in
    subst (λ u. IsSecond (take 12 u) (second_at (dec_lane (get_or front 1 0)) (map (pair_at 10 (stamp_lanes u)) (range_with_len 0 8)))) whole
    (second_read (λ i. get_or front i 0) fits opened dot first (subst (λ u. AllByRecursion (λ d. d < 10) (stamp_lanes u)) (sym whole) small))

pub decimals_lanes : (front : List ℕ) → length front ≡ 18 → ((i : ℕ) → get_or front i 0 < 256) → AllByRecursion (λ d. d < 10) (stamp_lanes front)
    → AreDecimals (drop 12 front) (decimals_at (map (pair_at 10 (stamp_lanes front)) (range_with_len 0 8)))
decimals_lanes front long fits small =
    let whole = pick_l_whole 0 front 18 long in
    subst (λ u. AreDecimals (drop 12 u) (decimals_at (map (pair_at 10 (stamp_lanes u)) (range_with_len 0 8)))) whole
    (decimals_read (λ i. get_or front i 0) fits (subst (λ u. AllByRecursion (λ d. d < 10) (stamp_lanes u)) (sym whole) small))

-- a second and decimals are a stamp
pub stamp_read : (front cut : List ℕ) (micros more : ℕ) → IsSecond (take 12 front) micros → AreDecimals (drop 12 front) more → AllDigits 10 cut → (length cut ≡ 0) ⊎ (length cut ≡ 3)
    → IsStampText (front ++ (cut ++ (41 ∷ []))) (micros + more)
stamp_read front cut micros more s d are short =
    let some = s.seconds_fit in
    record {
      seconds = s.seconds;
      micros = drop 12 front;
      cut = cut;
      parts = record {
        text_is = ap (λ f. f ++ (cut ++ (41 ∷ []))) (sym (take-append-drop 12 front)) ∙ ap (λ f. (f ++ drop 12 front) ++ (cut ++ (41 ∷ []))) s.text_is ∙ simp append_assoc refl;
        some = omega (arith, some);
        seconds_fit = omega (arith, some);
        micros_fit = d.fit;
        cut_fits = short;
      };
      seconds_are = s.seconds_are;
      micros_are = d.are;
      cut_are = are;
      stamp_is = ap₂ (λ a b. a + b) s.micros_are d.micros_are;
    }

-- the lanes of a stamp's front are digits
small_lane : (b : ℕ) → digit_value b < 10 → dec_lane b < 10
small_lane b h = let r = digit_at (b ∷ []) 0 (h, tt) (omega arith) in omega (arith, r.0, r.1)

small_lanes : (bs : List ℕ) → AllDigits 10 bs → AllByRecursion (λ d. d < 10) (map dec_lane bs)
small_lanes [] h = tt
small_lanes (b ∷ bs) h = (small_lane b h.0, small_lanes bs h.1)

ends : (xs ys : List ℕ) (x y : ℕ) → length xs ≡ length ys → xs ++ (x ∷ []) ≡ ys ++ (y ∷ []) → (xs ≡ ys) × (x ≡ y)
ends [] [] x y e h = (refl, cc)
ends [] (b ∷ ys) x y e h = absurd (omega arith)
ends (a ∷ xs) [] x y e h = absurd (omega arith)
ends (a ∷ xs) (b ∷ ys) x y e h =
    let r = ends xs ys x y (omega arith) (cc) in
    let first : a ≡ b = cc in
    (ap₂ (λ z zs. z ∷ zs) first r.0, r.1)

lanes_small_of : (t : ℕ → ℕ) (micros : ℕ) → IsSecond (take 12 (front_of t)) micros → AllDigits 10 (drop 12 (front_of t)) → AllByRecursion (λ d. d < 10) (stamp_lanes (front_of t))
lanes_small_of t micros s d =
    let front : List ℕ = map dec_lane (map t (range_with_len 2 9)) in
    let back : List ℕ = (t 11 + 210) % 256 ∷ map dec_lane (map t (range_with_len 12 6)) in
    let text : t 0 ∷ (map t (range_with_len 1 10) ++ (t 11 ∷ [])) ≡ 40 ∷ (s.seconds ++ (46 ∷ [])) = s.text_is in
    let both = ends (map t (range_with_len 1 10)) s.seconds (t 11) 46 (sym s.seconds_fit) (cc) in
    let digits : AllDigits 10 (map t (range_with_len 1 10)) = subst (AllDigits 10) (sym both.0) s.seconds_are in
    let point : (t 11 + 210) % 256 < 10 = omega (arith, both.1) in
    All-append front back (small_lanes (map t (range_with_len 2 9)) digits.1) (point, small_lanes (map t (range_with_len 12 6)) d)

pub lanes_small : (front : List ℕ) (micros : ℕ) → length front ≡ 18 → IsSecond (take 12 front) micros → AllDigits 10 (drop 12 front) → AllByRecursion (λ d. d < 10) (stamp_lanes front)
lanes_small front micros long s d =
    let whole = pick_l_whole 0 front 18 long in
    let t : ℕ → ℕ = λ i. get_or front i 0 in
    subst (λ u. AllByRecursion (λ x. x < 10) (stamp_lanes u)) whole
    (lanes_small_of t micros (subst (λ u. IsSecond (take 12 u) micros) (sym whole) s) (subst (λ u. AllDigits 10 (drop 12 u)) (sym whole) d))

-- ---- the text of a stamp

pub digits_front : (n : ℕ) (xs : List ℕ) → AllDigits 10 xs → AllDigits 10 (take n xs)
digits_front zero xs p = tt
digits_front (suc n) [] p = tt
digits_front (suc n) (x ∷ xs) p = (p.0, digits_front n xs p.1)

digits_written : (count : ℕ) (ds : List ℕ) → length ds ≡ count → AllDigits 10 ds → last_digits count (digits_value 10 ds) ≡ ds
unfolding last_digits
digits_written zero [] e h = refl
digits_written zero (d ∷ ds) e h = absurd (omega arith)
digits_written (suc n) ds e h =
    let front = take n ds in
    let d = get_or ds n 0 in
    let whole : front ++ (d ∷ []) ≡ ds = sym (take_more ds n 0 (omega arith)) ∙ take_all (n + 1) ds (omega arith) in
    let are : AllDigits 10 front = digits_front n ds h in
    let at = digit_at ds n h (omega arith) in
    let value : digits_value 10 ds ≡ digits_value 10 front * 10 + (d - 48) =
    ap (digits_value 10) (sym whole) ∙ digits_value_push 10 front d ∙ ap (λ v. digits_value 10 front * 10 + v) (digit at.0 at.1) in
    let rest : digits_value 10 ds / 10 ≡ digits_value 10 front = omega (arith, value, at.0, at.1) in
    let last : 48 + digits_value 10 ds % 10 ≡ d = omega (arith, value, at.0, at.1) in
    ap₂ (λ xs x. xs ++ (x ∷ [])) (ap (last_digits n) rest ∙ digits_written n front (simp length-take (omega (arith, e))) are) last ∙ whole
  where
    digit : {d : ℕ} → 48 ≤ d → d ≤ 57 → digit_value d ≡ d - 48
    digit low high = grind arith

-- a second and decimals are the text of their stamp
pub stamp_written : (front : List ℕ) (second more : ℕ) → IsSecond (take 12 front) second → AreDecimals (drop 12 front) more → front ++ (41 ∷ []) ≡ stamp_text (second + more)
stamp_written front second more s d =
    let small : digits_value 10 (drop 12 front) < 10 ^ 6 = subst (λ n. digits_value 10 (drop 12 front) < 10 ^ n) d.fit (digits_value-lt 10 (drop 12 front) d.are) in
    let before : (second + more) / 10 ^ 6 ≡ digits_value 10 s.seconds = let a = s.micros_are in let b = d.micros_are in omega (arith, a, b, small) in
    let within : (second + more) % 10 ^ 6 ≡ digits_value 10 (drop 12 front) = let a = s.micros_are in let b = d.micros_are in omega (arith, a, b, small) in
    let seconds : s.seconds ≡ last_digits 10 ((second + more) / 10 ^ 6) = sym (ap (last_digits 10) before ∙ digits_written 10 s.seconds s.seconds_fit s.seconds_are) in
    let decimals : drop 12 front ≡ last_digits 6 ((second + more) % 10 ^ 6) = sym (ap (last_digits 6) within ∙ digits_written 6 (drop 12 front) d.fit d.are) in
    ap (λ f. f ++ (41 ∷ [])) (sym (take-append-drop 12 front) ∙ ap₂ (λ a b. a ++ b) (s.text_is ∙ ap (λ x. 40 ∷ (x ++ (46 ∷ []))) seconds) decimals)
