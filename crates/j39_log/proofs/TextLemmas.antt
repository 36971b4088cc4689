-- The parts of a text.
use Rattle.std.proofs.Common.{◌≡◌, ◌<◌, ◌≤◌, ℕ, ◌+◌, ◌-◌, ◌^◌, List, [], ◌∷◌, ◌++◌, length, take, drop, refl, sym, ap, ◌∙◌, arith, append_assoc, length-append, append-nil, length-take, length-drop, ◌⊎◌, lit<, get_or, zero, suc, inl, inr, take-append-drop, drop_of_length-le}
use Rattle.std.specs.Prelude.{codes}
use Rattle.std.proofs.Math.Seq.{drop-cons}
use Rattle.std.proofs.lemmas.List.{drop-drop}
use Rattle.std.proofs.lemmas.Grind.{common_steps}
use Rattle.std.proofs.lemmas.Int.Digits.{digits_value-lt}
use Rattle.std.proofs.Math.Nat.{pow-le-pow_right}
use Rattle.std.specs.Str.Parse.{AllDigits, digits_value}
use Rattle.std.specs.Char.{digit_value}
use Rattle.j39_log.specs.Text.{HasStampParts, IsStampText, HasFrameParts}

-- a part by where it stands
part_at : (text front middle back : List ℕ) (i j : ℕ) → text ≡ front ++ (middle ++ back) → i ≡ length front → j ≡ length middle
    → take j (drop i text) ≡ middle
part_at text front middle back i j e p q = rw (e, p, q) (grind (arith, common_steps))

pub stamp_only : (text seconds micros cut : List ℕ) (k : ℕ) → HasStampParts text seconds micros cut → length cut ≡ k
    → (take (length text - k - 1 - 7 - 1) (drop 1 text) ≡ seconds)
    × (take (length text - k - 1 - (length text - k - 1 - 6)) (drop (length text - k - 1 - 6) text) ≡ micros)
    × (take (length text - 1 - (length text - k - 1)) (drop (length text - k - 1) text) ≡ cut)
stamp_only text seconds micros cut k h len =
    let n : length text ≡ length seconds + 9 + k = ap length h.text_is ∙ simp length-append (omega (arith, h.micros_fit)) in
    let front : length (codes "(" ++ (seconds ++ codes ".")) ≡ length seconds + 2 = simp length-append (omega arith) in
    let middle : length ((codes "(" ++ (seconds ++ codes ".")) ++ micros) ≡ length seconds + 8 = simp length-append (omega (arith, h.micros_fit)) in (
      part_at text (codes "(") seconds (codes "." ++ (micros ++ (cut ++ codes ")"))) 1 (length text - k - 1 - 7 - 1) h.text_is refl (omega arith),
      part_at text (codes "(" ++ (seconds ++ codes ".")) micros (cut ++ codes ")") (length text - k - 1 - 6) (length text - k - 1 - (length text - k - 1 - 6))
          (h.text_is ∙ simp append_assoc refl) (omega arith) (omega (arith, h.micros_fit)),
      part_at text ((codes "(" ++ (seconds ++ codes ".")) ++ micros) cut (codes ")") (length text - k - 1) (length text - 1 - (length text - k - 1))
          (h.text_is ∙ simp append_assoc refl) (omega arith) (omega arith),
    )

-- a text from one place to another, and a byte of it
piece : (text : List ℕ) (i j : ℕ) → i ≤ j → drop i text ≡ take (j - i) (drop i text) ++ drop j text
piece text i j le =
    let there : i + (j - i) ≡ j = omega arith in
    sym (take-append-drop (j - i) (drop i text)) ∙ ap (λ t. take (j - i) (drop i text) ++ t) (drop-drop (j - i) i text ∙ ap (λ k. drop k text) there)

length-piece : (text : List ℕ) (i k : ℕ) → i + k ≤ length text → length (take k (drop i text)) ≡ k
length-piece text i k fits = simp (length-take, length-drop) (omega arith)

byte : (text : List ℕ) (i j b : ℕ) → i < length text → j ≡ i + 1 → get_or text i 0 ≡ b → drop i text ≡ b ∷ drop j text
byte text i j b below e is =
    let next : suc i ≡ j = omega arith in
    drop-cons text i 0 below ∙ (λ k. is k ∷ drop (next k) text)

-- with the three marks in their places a text has the parts of a stamp
pub stamp_found : (text : List ℕ) (k : ℕ) → (k ≡ 0) ⊎ (k ≡ 3) → 10 + k ≤ length text → length text ≤ 19 + k
    → get_or text 0 0 ≡ 40 → get_or text (length text - k - 8) 0 ≡ 46 → get_or text (length text - 1) 0 ≡ 41
    → HasStampParts text (take (length text - k - 1 - 7 - 1) (drop 1 text)) (take (length text - k - 1 - (length text - k - 1 - 6)) (drop (length text - k - 1 - 6) text))
    (take (length text - 1 - (length text - k - 1)) (drop (length text - k - 1) text))
stamp_found text k cut room fits opened dot closed =
    let n = length text in
    let end = n - k - 1 in
    let at : end - 7 ≡ n - k - 8 = omega arith in
    let whole : n - 1 - end ≡ k = omega arith in
    let last = length-piece text end (n - 1 - end) (omega arith) ∙ whole in
    let first = length-piece text 1 (end - 7 - 1) (omega arith) in
    record {
      text_is =
          byte text 0 1 40 (omega arith) refl opened
          ∙ ap (λ t. 40 ∷ t) (piece text 1 (end - 7) (omega arith)
          ∙ ap (λ t. take (end - 7 - 1) (drop 1 text) ++ t) (byte text (end - 7) (end - 6) 46 (omega arith) (omega arith) (ap (λ i. get_or text i 0) at ∙ dot)
          ∙ ap (λ t. 46 ∷ t) (piece text (end - 6) end (omega arith)
          ∙ ap (λ t. take (end - (end - 6)) (drop (end - 6) text) ++ t) (piece text end (n - 1) (omega arith)
          ∙ ap (λ t. take (n - 1 - end) (drop end text) ++ t) (byte text (n - 1) n 41 (omega arith) (omega arith) closed
          ∙ ap (λ t. 41 ∷ t) (drop_of_length-le text (omega arith)))))));
      some = omega (arith, first);
      seconds_fit = omega (arith, first);
      micros_fit = length-piece text (end - 6) (end - (end - 6)) (omega arith) ∙ omega arith;
      cut_fits = rw last cut;
    }

pub frame_only : (text digits pairs : List ℕ) → HasFrameParts text digits pairs
    → (take 8 text ≡ digits) × (take (length text - 9) (drop 9 text) ≡ pairs)
frame_only text digits pairs h =
    let n : length text ≡ length pairs + 9 = ap length h.text_is ∙ simp length-append (omega (arith, h.digits_fit)) in
    let regrouped : text ≡ (digits ++ (35 ∷ [])) ++ (pairs ++ []) = h.text_is ∙ simp (append_assoc, append-nil) refl in
    let front : length (digits ++ (35 ∷ [])) ≡ 9 = simp length-append (omega (arith, h.digits_fit)) in (
      part_at text [] digits (35 ∷ pairs) 0 8 h.text_is refl (sym h.digits_fit),
      part_at text (digits ++ (35 ∷ [])) pairs [] 9 (length text - 9) regrouped (sym front) (omega arith),
    )

-- what ten digits write fits
pub number_fits : (digits : List ℕ) (i v : ℕ) → length digits ≤ 10 → i < length digits → AllDigits 10 (take i digits) → v ≡ digits_value 10 (take i digits) → v < 10 ^ 9
number_fits digits i v short below all is =
    let small = digits_value-lt 10 (take i digits) all in
    let len : length (take i digits) ≤ 9 = simp length-take (omega arith) in
    let ten : 0 < 10 = lit< tt in
    let pow = pow-le-pow_right {n = 10} ten len in
    omega (arith, small, pow)

-- a byte of a numeral is a digit
pub digit_below : (digits : List ℕ) (i : ℕ) → AllDigits 10 digits → i < length digits → digit_value (get_or digits i 0) < 10
digit_below [] i all below = absurd (omega arith)
digit_below (c ∷ cs) zero all below = all.0
digit_below (c ∷ cs) (suc i) all below = digit_below cs i all.1 (omega arith)

byte_at : (text front back : List ℕ) (i k : ℕ) → text ≡ front ++ back → i ≡ length front + k → get_or text i 0 ≡ get_or back k 0
byte_at text front back i k e p = rw (e, p) (grind (arith, common_steps))

byte_within : (xs ys : List ℕ) (i : ℕ) → i < length xs → get_or (xs ++ ys) i 0 ≡ get_or xs i 0
byte_within xs ys i h = grind (arith, common_steps)

-- where six decimals have their point, nine have a digit
two_points : (text : List ℕ) (m n : ℕ) (p : IsStampText text m) (q : IsStampText text n) → length p.cut ≡ 0 → length q.cut ≡ 3 → ⊥
two_points text m n p q none three =
    let short : length text ≡ length p.seconds + 9 = ap length p.parts.text_is ∙ simp length-append (omega (arith, p.parts.micros_fit)) in
    let long : length text ≡ length q.seconds + 12 = ap length q.parts.text_is ∙ simp length-append (omega (arith, q.parts.micros_fit)) in
    let point : get_or text (length text - 8) 0 ≡ 46 =
    byte_at text (codes "(" ++ p.seconds) (codes "." ++ (p.micros ++ (p.cut ++ codes ")"))) (length text - 8) 0 p.parts.text_is (omega arith) in
    let digit : get_or text (length text - 8) 0 ≡ get_or q.micros 2 0 =
    byte_at text (codes "(" ++ (q.seconds ++ codes ".")) (q.micros ++ (q.cut ++ codes ")")) (length text - 8) 2
    (q.parts.text_is ∙ simp append_assoc refl) (simp length-append (omega arith)) ∙ byte_within q.micros (q.cut ++ codes ")") 2 (omega (arith, q.parts.micros_fit)) in
    let small = digit_below q.micros 2 q.micros_are (omega (arith, q.parts.micros_fit)) in
    let below : digit_value 46 < 10 = rw (sym digit ∙ point) at small in
    omega (arith, below)

same_cut : (text : List ℕ) (m n : ℕ) (p : IsStampText text m) (q : IsStampText text n) → length p.cut ≡ length q.cut
same_cut text m n p q =
    elim p.parts.cut_fits [
      | inl a ↦ elim q.parts.cut_fits [
        | inl b ↦ a ∙ sym b
        | inr b ↦ absurd (two_points text m n p q a b)
      ]
      | inr a ↦ elim q.parts.cut_fits [
        | inl b ↦ absurd (two_points text n m q p b a)
        | inr b ↦ a ∙ sym b
      ]
    ]

-- a text spells one stamp
pub one_stamp : (text : List ℕ) (m n : ℕ) → IsStampText text m → IsStampText text n → m ≡ n
one_stamp text m n p q =
    let a = stamp_only text p.seconds p.micros p.cut (length q.cut) p.parts (same_cut text m n p q) in
    let b = stamp_only text q.seconds q.micros q.cut (length q.cut) q.parts refl in
    let s : p.seconds ≡ q.seconds = sym a.0 ∙ b.0 in
    let u : p.micros ≡ q.micros = sym a.1 ∙ b.1 in
    p.stamp_is ∙ rw (s, u) (sym q.stamp_is)
