-- The fields of a line, by function and by relation.
use Rattle.std.proofs.Common.{◌≡◌, ◌<◌, ◌≤◌, ℕ, Bool, true, false, ◌==◌, List, [], ◌∷◌, ◌++◌, length, take, drop, refl, sym, ap, ◌∙◌, arith, get_or, drop_of_length-le, inl, inr, take-append-drop, length-take, take_all, subst}
use Rattle.std.specs.List.{AllByRecursion, prefix_len}
use Rattle.std.proofs.lemmas.Grind.{common_steps}
use Rattle.std.proofs.lemmas.Bool.{cond_both, eqb-true, eqb-false, cases_lt, not-true, not-false}
use Rattle.std.proofs.lemmas.List.Elements.{recursion_from_All, All-from_get_or}
use Rattle.std.proofs.lemmas.List.Sums.{prefix_len_passes, prefix_len_stops, prefix_len-le-length}
use Rattle.std.proofs.Math.Seq.{drop-cons}
use Rattle.j39_io.specs.Chars.{is_space, is_not_space}
use Rattle.j39_log.specs.Fields.{with_byte, fields_in, IsSpaces, IsField, IsAfterField, TakesField, IsSpaced}

-- spaces before a text change no field
pub fields_in-spaces : (spaces text : List ℕ) → IsSpaces spaces → fields_in (spaces ++ text) ≡ fields_in text
unfolding fields_in
fields_in-spaces [] text h = refl
fields_in-spaces (b ∷ bs) text h = rw h.0 (fields_in-spaces bs text h.1)

with_byte-space : (b : ℕ) (bs : List ℕ) (fs : List (List ℕ)) → with_byte b (32 ∷ bs) fs ≡ (b ∷ []) ∷ fs
with_byte-space b bs [] = refl
with_byte-space b bs (f ∷ fs) = refl

-- a field before a space or the end
pub fields_in-field : (field rest : List ℕ) → IsField field → IsAfterField rest → fields_in (field ++ rest) ≡ field ∷ fields_in rest
unfolding fields_in
fields_in-field [] rest h after = absurd (omega (arith, h.0))
fields_in-field (b ∷ []) [] h after = rw h.1.0 refl
fields_in-field (b ∷ []) (c ∷ rest) h after = rw (h.1.0, after) (with_byte-space b rest (fields_in rest))
fields_in-field (b ∷ c ∷ bs) rest h after =
    let inner : IsField (c ∷ bs) = (omega arith, h.1.1) in
    rw h.1.0 (ap (with_byte b (c ∷ (bs ++ rest))) (fields_in-field (c ∷ bs) rest inner after) ∙ rw h.1.1.0 refl)

-- a text begins with its first field
pub fields_in-takes : (text field rest : List ℕ) → TakesField text field rest → fields_in text ≡ field ∷ fields_in rest
fields_in-takes text field rest h =
    ap fields_in h.text_is ∙ fields_in-spaces h.spaces (field ++ rest) h.spaces_are ∙ fields_in-field field rest h.field_is h.rest_is

fields_in-all_spaces : (text : List ℕ) → IsSpaces text → fields_in text ≡ []
unfolding fields_in
fields_in-all_spaces [] h = refl
fields_in-all_spaces (b ∷ bs) h = rw h.0 (fields_in-all_spaces bs h.1)

-- a text has no other fields
pub fields_in-spaced : (fs : List (List ℕ)) (text : List ℕ) → IsSpaced fs text → fields_in text ≡ fs
fields_in-spaced [] text h = fields_in-all_spaces text h
fields_in-spaced (f ∷ fs) text h =
    fields_in-takes text f h.0 h.1 ∙ ap (λ gs. f ∷ gs) (fields_in-spaced fs h.0 h.2)

-- a space is not before a text that begins with another byte
no_spaces : (c : ℕ) (cs spaces xs : List ℕ) → c == 32 ≡ false → c ∷ cs ≡ spaces ++ xs → IsSpaces spaces → spaces ≡ []
no_spaces c cs [] xs h e all = refl
no_spaces c cs (s ∷ ss) xs h e all = let same : c ≡ s = cc in absurd (eqb-false c 32 h (same ∙ all.0))

longer_field : (b c : ℕ) (cs f rest : List ℕ) → b == 32 ≡ false → c == 32 ≡ false → TakesField (c ∷ cs) f rest → TakesField (b ∷ c ∷ cs) (b ∷ f) rest
longer_field b c cs f rest h k t =
    let none = no_spaces c cs t.spaces (f ++ rest) k t.text_is t.spaces_are in
    let text_is : c ∷ cs ≡ f ++ rest = t.text_is ∙ ap (λ s. s ++ (f ++ rest)) none in
    record { spaces = []; text_is = ap (λ xs. b ∷ xs) text_is; spaces_are = tt; field_is = (omega arith, (h, t.field_is.1)); rest_is = t.rest_is }

one_byte_field : (b : ℕ) (rest : List ℕ) → b == 32 ≡ false → IsAfterField rest → TakesField (b ∷ rest) (b ∷ []) rest
one_byte_field b rest h after = record { spaces = []; text_is = refl; spaces_are = tt; field_is = (omega arith, (h, tt)); rest_is = after }

-- one more byte before the fields of bs
spaced_with_byte : (b : ℕ) (bs : List ℕ) (fs : List (List ℕ)) → b == 32 ≡ false → IsSpaced fs bs → IsSpaced (with_byte b bs fs) (b ∷ bs)
spaced_with_byte b [] fs h spaced = ([], one_byte_field b [] h tt, spaced)
spaced_with_byte b (c ∷ cs) [] h spaced = (c ∷ cs, one_byte_field b (c ∷ cs) h spaced.0, spaced)
spaced_with_byte b (c ∷ cs) (f ∷ fs) h spaced =
    cond_both (c == 32) ((b ∷ []) ∷ f ∷ fs) ((b ∷ f) ∷ fs) (λ gs. IsSpaced gs (b ∷ c ∷ cs))
    (λ e. (c ∷ cs, one_byte_field b (c ∷ cs) h (eqb-true c 32 e), spaced))
    (λ e. (spaced.0, longer_field b c cs f spaced.0 h e spaced.1, spaced.2))

-- a space more before the fields
spaced_with_space : (b : ℕ) (bs : List ℕ) (fs : List (List ℕ)) → b ≡ 32 → IsSpaced fs bs → IsSpaced fs (b ∷ bs)
spaced_with_space b bs [] h spaced = (h, spaced)
spaced_with_space b bs (f ∷ fs) h spaced =
    let t = spaced.1 in
    (spaced.0, record { spaces = b ∷ t.spaces; text_is = ap (λ xs. b ∷ xs) t.text_is; spaces_are = (h, t.spaces_are); field_is = t.field_is; rest_is = t.rest_is }, spaced.2)

-- a text is its fields with spaces between
pub IsSpaced-fields_in : (text : List ℕ) → IsSpaced (fields_in text) text
unfolding fields_in
IsSpaced-fields_in [] = tt
IsSpaced-fields_in (b ∷ bs) =
    cond_both (b == 32) (fields_in bs) (with_byte b bs (fields_in bs)) (λ fs. IsSpaced fs (b ∷ bs))
    (λ e. spaced_with_space b bs (fields_in bs) (eqb-true b 32 e) (IsSpaced-fields_in bs))
    (λ e. spaced_with_byte b bs (fields_in bs) e (IsSpaced-fields_in bs))

-- ---- the first field by index

front_passes : (p : ℕ → Bool) (xs : List ℕ) → AllByRecursion (λ x. p x ≡ true) (take (prefix_len p xs) xs)
front_passes p xs =
    recursion_from_All (λ x. p x ≡ true) (take (prefix_len p xs) xs)
    (All-from_get_or (λ x. p x ≡ true) (take (prefix_len p xs) xs) 0 (λ i lt. let e = prefix_len_passes p xs i 0 in grind (arith, common_steps)))

AllByRecursion-weaker : (P Q : ℕ → Type 0) → ((x : ℕ) → P x → Q x) → (xs : List ℕ) → AllByRecursion P xs → AllByRecursion Q xs
AllByRecursion-weaker P Q f [] h = tt
AllByRecursion-weaker P Q f (x ∷ xs) h = (f x h.0, AllByRecursion-weaker P Q f xs h.1)

after_at : (text : List ℕ) (m : ℕ) → (m < length text → get_or text m 0 ≡ 32) → IsAfterField (drop m text)
after_at text m h =
    elim (cases_lt m (length text)) [
      | inl below ↦ rw (drop-cons text m 0) (h below)
      | inr past ↦ rw (drop_of_length-le text past) tt
    ]

-- the first field by where the spaces end, and where the next one stands
pub TakesField-cut : (text : List ℕ) (n m : ℕ) → n ≡ prefix_len is_space text → m ≡ prefix_len is_not_space (drop n text)
    → n < length text → TakesField text (take m (drop n text)) (drop m (drop n text))
TakesField-cut text n m p q below =
    let u = drop n text in
    let stop : prefix_len is_space text < length text = omega arith in
    let first : is_space (get_or text n 0) ≡ false = rw p (prefix_len_stops is_space text 0 stop) in
    let some : 0 < prefix_len is_not_space (drop n text) = rw (drop-cons text n 0, first) (omega arith) in
    let fits : prefix_len is_not_space u ≤ length u = prefix_len-le-length is_not_space u in
    record {
      spaces = take n text;
      text_is = rw (take-append-drop m (drop n text)) (sym (take-append-drop n text));
      spaces_are = rw p (AllByRecursion-weaker _ _ (λ x e. eqb-true x 32 e) (take (prefix_len is_space text) text) (front_passes is_space text));
      field_is = (simp length-take (omega arith), rw q (AllByRecursion-weaker _ _ (λ x e. not-true (x == 32) e) (take (prefix_len is_not_space u) u) (front_passes is_not_space u)));
      rest_is = after_at u m (λ lt.
          let before : prefix_len is_not_space u < length u = omega arith in
          eqb-true _ 32 (not-false _ (rw q (prefix_len_stops is_not_space u 0 before))));
    }

pub IsSpaces-all : (text : List ℕ) (n : ℕ) → n ≡ prefix_len is_space text → length text ≤ n → IsSpaces text
IsSpaces-all text n p past =
    let all : take (prefix_len is_space text) text ≡ text = take_all (prefix_len is_space text) text (omega arith) in
    subst IsSpaces all (AllByRecursion-weaker _ _ (λ x e. eqb-true x 32 e) (take (prefix_len is_space text) text) (front_passes is_space text))

-- what the first field leaves of the fields
pub first_field : (text : List ℕ) (n m : ℕ) → n ≡ prefix_len is_space text → m ≡ prefix_len is_not_space (drop n text)
    → n < length text → fields_in text ≡ take m (drop n text) ∷ fields_in (drop m (drop n text))
first_field text n m p q below = fields_in-takes text _ _ (TakesField-cut text n m p q below)

pub no_field : (text : List ℕ) (n : ℕ) → n ≡ prefix_len is_space text → length text ≤ n → fields_in text ≡ []
no_field text n p past = fields_in-all_spaces text (IsSpaces-all text n p past)
