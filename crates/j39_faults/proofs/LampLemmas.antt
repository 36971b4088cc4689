-- The text of the lamps, a lamp after another.
use Rattle.std.proofs.Common.{◌≡◌, ℕ, ◌<◌, List, [], ◌∷◌, ◌++◌, Bool, true, false, length, refl, ap, append_assoc, arith}
use Rattle.std.specs.Prelude.{codes, if◌then◌else◌}
use Rattle.std.specs.List.{join_with_byte}
use Rattle.j39_faults.specs.declared.lamps.Lamps.{Lamps}
use Rattle.j39_faults.specs.LampText.{with_words}
use Rattle.j39_faults.specs.Text.{is_told, lamp_words, lamps_in_words, lamps_text, lamps_told, or_dash}

abbrev word_if : Bool → List ℕ → List (List ℕ)
word_if b word = if b then word ∷ [] else []

apart : (p : ℕ) (v more last : List ℕ) → p ∷ (v ++ more ++ last) ≡ p ∷ (v ++ (more ++ last))
apart p v more last = ap (λ text. p ∷ text) (append_assoc v more last)

-- four words, each of which may be missing
in_a_row : (a b c d : Bool) (p q r s : ℕ) (v w x y : List ℕ)
    → with_words (with_words (with_words (with_words [] (word_if a (p ∷ v))) (word_if b (q ∷ w))) (word_if c (r ∷ x))) (word_if d (s ∷ y))
    ≡ join_with_byte 44 (word_if a (p ∷ v) ++ (word_if b (q ∷ w) ++ (word_if c (r ∷ x) ++ word_if d (s ∷ y))))
in_a_row true true true true p q r s v w x y = rw (append_assoc (v ++ 44 ∷ q ∷ w)) (apart p v (44 ∷ q ∷ w) (44 ∷ r ∷ (x ++ 44 ∷ s ∷ y)))
in_a_row true true true false p q r s v w x y = apart p v (44 ∷ q ∷ w) (44 ∷ r ∷ x)
in_a_row true true false true p q r s v w x y = apart p v (44 ∷ q ∷ w) (44 ∷ s ∷ y)
in_a_row true true false false p q r s v w x y = refl
in_a_row true false true true p q r s v w x y = apart p v (44 ∷ r ∷ x) (44 ∷ s ∷ y)
in_a_row true false true false p q r s v w x y = refl
in_a_row true false false true p q r s v w x y = refl
in_a_row true false false false p q r s v w x y = refl
in_a_row false true true true p q r s v w x y = apart q w (44 ∷ r ∷ x) (44 ∷ s ∷ y)
in_a_row false true true false p q r s v w x y = refl
in_a_row false true false true p q r s v w x y = refl
in_a_row false true false false p q r s v w x y = refl
in_a_row false false true true p q r s v w x y = refl
in_a_row false false true false p q r s v w x y = refl
in_a_row false false false true p q r s v w x y = refl
in_a_row false false false false p q r s v w x y = refl

-- the words of the lamps, one behind another
abbrev pub lamps_in_a_row : Lamps → List ℕ
lamps_in_a_row lamps =
    with_words (with_words (with_words (with_words [] (lamp_words (codes "malfunction") lamps.malfunction)) (lamp_words (codes "red") lamps.red))
    (lamp_words (codes "amber") lamps.amber)) (lamp_words (codes "protect") lamps.protect)

pub all_joined : (lamps : Lamps) → lamps_in_a_row lamps ≡ lamps_in_words lamps
unfolding lamps_in_words
all_joined lamps = in_a_row (is_told lamps.malfunction.state) (is_told lamps.red.state) (is_told lamps.amber.state) (is_told lamps.protect.state) _ _ _ _ _ _ _ _

pub dash_for_none : (lamps : Lamps) (text : List ℕ) → text ≡ lamps_told lamps → length text ≡ 0 → text ++ codes "-" ≡ lamps_text lamps
unfolding lamps_text
dash_for_none lamps [] same none = ap or_dash same
dash_for_none lamps (x ∷ text) same none = absurd (omega arith)

pub lamps_that_are_told : (lamps : Lamps) (text : List ℕ) → text ≡ lamps_told lamps → 0 < length text → text ≡ lamps_text lamps
unfolding lamps_text
lamps_that_are_told lamps [] same some = absurd (omega arith)
lamps_that_are_told lamps (x ∷ text) same some = ap or_dash same
