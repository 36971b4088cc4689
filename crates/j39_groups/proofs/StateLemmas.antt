-- Names of states.
use Rattle.std.proofs.Common.{◌++◌, append_assoc, inl, inr, take-append-drop, ◌≡◌, ◌<◌, ◌≤◌, ◌+◌, ◌-◌, ◌^◌, ◌∙◌, ℕ, suc, Bool, List, [], ◌∷◌, true, false, length, get_or, take, take_all, drop, drop-cons, codes, refl, ap, sym, arith}
use Rattle.std.specs.Prelude.{◌==◌, Option, None, Some, nat_eq, slice_get}
use Rattle.std.specs.List.{filter_map, list_any, slice_split, starts_with}
use Rattle.std.proofs.lemmas.Bool.{cases_Bool, false_from_ne_true, false≢true, or_parts}
use Rattle.std.proofs.lemmas.Bool.Decides.{Decides-eqb}
use Rattle.std.proofs.lemmas.List.{drop_all, length-drop}
use Rattle.std.proofs.lemmas.Slice.Eq.{starts_is}
use Rattle.std.specs.Option.{option_and_then}
use Rattle.j39_groups.specs.Row.{RowRecord}
use Rattle.j39_groups.specs.States.{called, name_len, raw_behind, state_by, state_front, state_named, state_words, states_in, states_part}
use Rattle.j39_groups.specs.Value.{ValueRecord}
use Rattle.j39_groups.proofs.SlotLemmas.{none_more}
use Rattle.std.specs.Fmt.{decimal}
use Rattle.std.proofs.lemmas.Fmt.{length-decimal-le}

-- a number of 64 bits has twenty digits at most
pub short_decimal : (n : ℕ) → n < 2 ^ 64 → length (decimal n) ≤ 20
short_decimal n h = length-decimal-le 20 n (omega arith) (omega arith) h

-- ---- how long a name is

pub name_ends : (text : List ℕ) → starts_with nat_eq text (codes " = ") ≡ true → name_len text ≡ 0
unfolding name_len
name_ends [] h = refl
name_ends (b ∷ rest) h = rw h refl

name_goes_on : (b : ℕ) (rest : List ℕ) → starts_with nat_eq (b ∷ rest) (codes " = ") ≡ false → name_len (b ∷ rest) ≡ suc (name_len rest)
unfolding name_len
name_goes_on b rest h = rw h refl

pub name_more : (name : List ℕ) (i : ℕ) → i < length name → starts_with nat_eq (drop i name) (codes " = ") ≡ false
    → i + name_len (drop i name) ≡ i + 1 + name_len (drop (i + 1) name)
name_more name i below h =
    let cut = drop-cons name i 0 below in
    let more : name_len (drop i name) ≡ suc (name_len (drop (suc i) name)) =
    ap name_len cut ∙ name_goes_on _ _ (ap (λ t. starts_with nat_eq t (codes " = ")) (sym cut) ∙ h) in
    let next : suc i ≡ i + 1 = omega arith in
    let same = ap (λ k. name_len (drop k name)) next in
    omega (arith, more, same)

pub name_whole : (name : List ℕ) (i : ℕ) → length name ≤ i → name_len (drop i name) ≡ 0
unfolding name_len
name_whole name i past = rw (drop_all i name past) refl

-- the front of a slice's end is that end
tail_whole : (name : List ℕ) (i : ℕ) → take (length name - i) (drop i name) ≡ drop i name
tail_whole name i = take_all (length name - i) (drop i name) (let len = length-drop i name in omega (arith, len))

pub tail_is : (name : List ℕ) (i : ℕ) (b r : Bool) → r ≡ starts_with nat_eq (take (length name - i) (drop i name)) (codes " = ") → r ≡ b
    → starts_with nat_eq (drop i name) (codes " = ") ≡ b
tail_is name i b r told is = ap (λ t. starts_with nat_eq t (codes " = ")) (sym (tail_whole name i)) ∙ sym told ∙ is

-- ---- the first state of a number

pub none_named : {X Y : Type 0} (f : X → Option Y) (xs : List X) (i j : ℕ) (x : X) → i < length xs → j ≡ i + 1 → x ≡ get_or xs i x
    → filter_map f (take i xs) ≡ [] → f x ≡ None → filter_map f (take j xs) ≡ []
none_named f xs i j x below next is none here =
    ap (λ k. filter_map f (take k xs)) next ∙ none_more f xs i x below none (ap f (sym is) ∙ here)

pub none_there : (raw : ℕ) (part : List ℕ) → length part < 2 → slice_get (filter_map (state_words raw) (states_in part)) 0 ≡ None
unfolding state_words
none_there raw part short =
    let nothing : drop 2 part ≡ [] = drop_all 2 part (omega (arith, short)) in
    ap (λ t. slice_get (filter_map (state_words raw) (slice_split (λ b. b == 44) t)) 0) nothing

pub behind_two : (part : List ℕ) → take (length part - 2) (drop 2 part) ≡ drop 2 part
behind_two part = tail_whole part 2

-- ---- what a parameter is called has no states

pub front_of : (text needle : List ℕ) → starts_with nat_eq text needle ≡ true → text ≡ needle ++ drop (length needle) text
front_of text needle h = (starts_is Decides-eqb text needle true (sym h)).0 refl

pub starts_by : (needle rest : List ℕ) → starts_with nat_eq (needle ++ rest) needle ≡ true
starts_by needle rest = (starts_is Decides-eqb (needle ++ rest) needle (starts_with nat_eq (needle ++ rest) needle) refl).1 rest refl

-- what a front begins with the whole begins with
front_starts : (needle front rest : List ℕ) → starts_with nat_eq front needle ≡ true → starts_with nat_eq (front ++ rest) needle ≡ true
front_starts needle front rest h =
    let whole : front ++ rest ≡ needle ++ (drop (length needle) front ++ rest) =
    ap (λ t. t ++ rest) (front_of front needle h) ∙ append_assoc needle (drop (length needle) front) rest in
    ap (λ t. starts_with nat_eq t needle) whole ∙ starts_by needle (drop (length needle) front ++ rest)

len_of_called : (name : List ℕ) → name_len (called name) ≡ length (called name)
unfolding name_len
len_of_called [] = refl
len_of_called (b ∷ rest) = elim (cases_Bool (starts_with nat_eq (b ∷ rest) (codes " = "))) [
  | inl ends ↦ rw ends refl
  | inr goes ↦
      let other : starts_with nat_eq (b ∷ called rest) (codes " = ") ≡ false =
      false_from_ne_true _ (λ yes. false≢true (sym goes ∙ ap (λ t. starts_with nat_eq (b ∷ t) (codes " = ")) (sym (take-append-drop (name_len rest) rest))
      ∙ front_starts (codes " = ") (b ∷ called rest) (drop (name_len rest) rest) yes)) in
      rw goes (rw other (ap suc (len_of_called rest)))
]

pub called_called : (name : List ℕ) → called (called name) ≡ called name
called_called name = take_all (name_len (called name)) (called name) (let len = len_of_called name in omega (arith, len))

pub no_part : (name : List ℕ) → states_part (called name) ≡ []
no_part name = drop_all (name_len (called name)) (called name) (let len = len_of_called name in omega (arith, len))

-- ---- a name's first byte, and what stands behind it

pub called_first : (b : ℕ) (rest : List ℕ) → 0 < length (called (b ∷ rest)) → called (b ∷ rest) ≡ b ∷ called rest
unfolding name_len
called_first b rest some = elim (cases_Bool (starts_with nat_eq (b ∷ rest) (codes " = "))) [
  | inl ends ↦ let none : 0 < length (take 0 (b ∷ rest)) = rw ends at some in absurd (omega (arith, none))
  | inr goes ↦ rw goes refl
]

pub part_begins : (name : List ℕ) → 0 < length (states_part name) → starts_with nat_eq (states_part name) (codes " = ") ≡ true
unfolding name_len
part_begins [] some = absurd (omega (arith, some))
part_begins (b ∷ rest) some = elim (cases_Bool (starts_with nat_eq (b ∷ rest) (codes " = "))) [
  | inl ends ↦ rw ends ends
  | inr goes ↦
      let more : 0 < length (states_part rest) = rw goes at some in
      rw goes (part_begins rest more)
]

-- a state begins with its front
pub words_front : (raw : ℕ) (state words : List ℕ) → state_words raw state ≡ Some words → state ≡ state_front raw ++ words
unfolding state_words
words_front raw state words h = elim (cases_Bool (starts_with nat_eq state (state_front raw))) [
  | inl begins ↦
      let same : Some (drop (length (state_front raw)) state) ≡ Some words = rw begins at h in
      front_of state (state_front raw) begins ∙ ap (λ t. state_front raw ++ t) (cc)
  | inr other ↦ let none : None ≡ Some words = rw other at h in absurd (cc)
]

pub whole_name : (name : List ℕ) → list_any (λ b. b == 61) name ≡ false → name_len name ≡ length name
unfolding name_len
whole_name [] h = refl
whole_name (b ∷ rest) h =
    let goes : starts_with nat_eq (b ∷ rest) (codes " = ") ≡ false =
    false_from_ne_true _ (λ begins. false≢true (sym h ∙ ap (list_any (λ (c : ℕ). c == 61)) (front_of (b ∷ rest) (codes " = ") begins))) in
    let later : list_any (λ b. b == 61) rest ≡ false = (or_parts (b == 61) (list_any (λ c. c == 61) rest) h).1 in
    rw goes (ap suc (whole_name rest later))

none_of : (name : List ℕ) → length (states_part name) ≡ 0 → (raw : Option ℕ) → option_and_then (state_named name) raw ≡ None
unfolding state_named
none_of name none None = refl
none_of name none (Some raw) = none_there raw (states_part name) (omega (arith, none))

-- a row whose name has no states has none of any value
pub none_by : (value : ValueRecord) (row : RowRecord) → length (states_part row.name) ≡ 0 → state_by value row ≡ None
unfolding state_by
none_by value row none = none_of row.name none (raw_behind row.field value)
