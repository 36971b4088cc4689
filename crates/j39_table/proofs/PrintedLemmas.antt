-- The columns of a line that is printed.
use Rattle.std.proofs.Common.{take-append-drop, ◌≡◌, ◌<◌, ◌≤◌, ◌+◌, ◌-◌, ◌*◌, ◌/◌, ◌%◌, ◌^◌, ◌==◌, ◌&&◌, ◌∙◌, ◌++◌, ℕ, ℤ, zero, suc, true, false, List, [], ◌∷◌, All, length, take, drop, refl, sym, ap, append_assoc, subst, arith, codes, decimal, div-le_self, length-append, pos, unsigned_abs, get_or, map}
use Rattle.std.proofs.lemmas.List.Elements.{All-from_recursion}
use Rattle.std.proofs.lemmas.List.Splits.{join_with_byte-slice_split, slice_split_at}
use Rattle.j39_table.specs.Tables.{bare_line, is_no_comment, is_row_line, lines_of, row_lines}
use Rattle.std.specs.Prelude.{if◌then◌else◌, nat_eq, slice_index, ◌≢◌}
use Rattle.std.specs.Char.{digit_value}
use Rattle.std.specs.Fmt.{sign_text}
use Rattle.std.specs.Int.{is_negative}
use Rattle.std.specs.List.{AllByRecursion, prefix_len, flat_map, join_with_byte, slice_split, starts_with}
use Rattle.std.specs.Str.Parse.{AllDigits}
use Rattle.std.proofs.lemmas.Bool.{cond_both}
use Rattle.std.proofs.lemmas.Fmt.{decimal_is_IsNumeral}
use Rattle.std.proofs.lemmas.Grind.{common_steps}
use Rattle.j39_io.proofs.PrintingLemmas.{AllDigits-last_digits}
use Rattle.j39_io.specs.Chars.{is_not_space, is_space}
use Rattle.j39_groups.specs.Printed.{bits_end, bits_text, bytes_or_bits_text, mark, place_text, range_text, row_text, scale_text}
use Rattle.j39_groups.specs.Row.{FieldRecord, number_field, bits_field, full_field, switch_field, text_field, texts_field, RowRecord}
use Rattle.j39_groups.specs.Value.{SlotRecord}
use Rattle.j39_groups.specs.ValueText.{magnitude_text, places_text, scaled_text}
use Rattle.j39_table.proofs.ColumnLemmas.{drop_front, prefix_of, take_front}
use Rattle.j39_table.proofs.ScaleLemmas.{its_step, step_below}
use Rattle.j39_table.specs.ReadsBack.{PrintedLinesSpell, PrintedTablesSpell}
use Rattle.j39_table.specs.Lines.{behind_word, first_word, line_columns, without_spaces, words_and_rest}
use Rattle.j39_table.specs.Rows.{IsGoodField, IsGoodScale, field_columns, IsGoodRow}
use Rattle.j39_groups.specs.States.{called, name_len, state_front, states_part}
use Rattle.j39_groups.proofs.StateLemmas.{called_first, front_of, part_begins, words_front}
use Rattle.j39_table.proofs.StateLemmas.{limit_fits}
use Rattle.j39_table.specs.States.{AreGoodStates, AreStates, IsState, states_limit}
use Rattle.j39_table.specs.Words.{IsName, IsWord}

-- ---- words, and what they are made of

abbrev NoSpace : List ℕ → Type 0
NoSpace text = AllByRecursion (λ b. 32 < b) text

pub record Plain (text : List ℕ) : Type 0 where
  pub some : 0 < length text
  pub free : NoSpace text

NoSpace-append : (a b : List ℕ) → NoSpace a → NoSpace b → NoSpace (a ++ b)
NoSpace-append [] b one two = two
NoSpace-append (x ∷ a) b one two = (one.0, NoSpace-append a b one.1 two)

Plain-append : (a b : List ℕ) → Plain a → NoSpace b → Plain (a ++ b)
Plain-append [] b one two = let some = one.some in absurd (omega (arith, some))
Plain-append (x ∷ a) b one two = record { some = omega arith; free = NoSpace-append (x ∷ a) b one.free two }

digit_free : (c : ℕ) → digit_value c < 10 → 32 < c
digit_free c h = grind arith

NoSpace-digits : (ds : List ℕ) → AllDigits 10 ds → NoSpace ds
NoSpace-digits [] h = tt
NoSpace-digits (d ∷ ds) h = (digit_free d h.0, NoSpace-digits ds h.1)

Plain-decimal : (n : ℕ) → n < 2 ^ 64 → Plain (decimal n)
Plain-decimal n fits = let numeral = decimal_is_IsNumeral n fits in record { some = numeral.0.0; free = NoSpace-digits (decimal n) numeral.0.1 }

NoSpace-word : (text : List ℕ) → All (λ b. (32 < b) × (b ≡ 127 → ⊥)) text → NoSpace text
NoSpace-word [] all = tt
NoSpace-word (b ∷ text) all = ((all 0 0 (omega arith)).0, NoSpace-word text (λ k d below. all (suc k) d (omega arith)))

not_space : (b : ℕ) → 32 < b → is_not_space b ≡ true
not_space b h = grind (arith, common_steps)

NoSpace-passes : (text : List ℕ) → NoSpace text → AllByRecursion (λ b. is_not_space b ≡ true) text
NoSpace-passes [] free = tt
NoSpace-passes (b ∷ text) free = (not_space b free.0, NoSpace-passes text free.1)

Plain-word : (text : List ℕ) → IsWord text → Plain text
Plain-word text word = record { some = word.0; free = NoSpace-word text word.1 }

NoSpace-range : (first last : ℕ) → last < 2 ^ 64 → NoSpace (if first == last then [] else codes "-" ++ decimal last)
NoSpace-range first last fits =
    cond_both (first == last) [] (codes "-" ++ decimal last) NoSpace (λ e. tt) (λ e. (omega arith, (Plain-decimal last fits).free))

Plain-range : (first last : ℕ) → first < 2 ^ 64 → last < 2 ^ 64 → Plain (range_text first last)
Plain-range first last one two = Plain-append (decimal first) _ (Plain-decimal first one) (NoSpace-range first last two)

Plain-bits : (byte low last : ℕ) → byte ≤ 255 → low ≤ 8 → last ≤ 40 → Plain (bits_text byte low last)
Plain-bits byte low last few bit ends =
    let front = Plain-append (decimal byte) (codes ".") (Plain-decimal byte (omega arith)) (omega arith, tt) in
    cond_both (last / 8 == 0) (decimal byte ++ codes "." ++ range_text low (last + 1))
    (decimal byte ++ codes "." ++ decimal low ++ codes "-" ++ decimal (byte + last / 8) ++ codes "." ++ decimal (last % 8 + 1)) Plain
    (λ e. Plain-append _ (range_text low (last + 1)) front (Plain-range low (last + 1) (omega arith) (omega arith)).free)
    (λ e.
    Plain-append _ (decimal (last % 8 + 1))
    (Plain-append _ (codes ".")
    (Plain-append _ (decimal (byte + last / 8))
    (Plain-append _ (codes "-") (Plain-append _ (decimal low) front (Plain-decimal low (omega arith)).free) (omega arith, tt))
    (Plain-decimal (byte + last / 8) (omega arith)).free) (omega arith, tt))
    (Plain-decimal (last % 8 + 1) (omega arith)).free)

Plain-bytes_or_bits : (byte low count : ℕ) → byte ≤ 255 → low ≤ 8 → count ≤ 32 → Plain (bytes_or_bits_text byte low count)
Plain-bytes_or_bits byte low count ends bit narrow =
    cond_both (low == 1 && count % 8 == 0) (range_text byte (byte + count / 8 - 1)) (bits_text byte low (bits_end low count)) Plain
    (λ e. Plain-range byte (byte + count / 8 - 1) (omega (arith, ends)) (omega (arith, ends, narrow)))
    (λ e. Plain-bits byte low (bits_end low count) ends bit (omega (arith, bit, narrow)))

Plain-place : (field : FieldRecord) → IsGoodField field → Plain (place_text field)
Plain-place (number_field first last slot) good =
    let ends = good.0.ends in let ordered = good.0.ordered in Plain-range first last (omega (arith, ends, ordered)) (omega (arith, ends))
Plain-place (bits_field byte low count slot) good =
    let ends = good.0.byte_ends in let bit = good.0.ends in let narrow = good.0.narrow in
    Plain-bits byte low (low + count - 2) (omega (arith, ends)) bit (omega (arith, bit, narrow))
Plain-place (full_field byte low count is_signed slot) good =
    let ends = good.0.byte_ends in let bit = good.0.ends in let narrow = good.0.narrow in
    let letter : 32 < mark is_signed = cond_both is_signed 115 117 (λ b. 32 < b) (λ e. omega arith) (λ e. omega arith) in
    Plain-append (bytes_or_bits_text byte low count) (mark is_signed ∷ []) (Plain-bytes_or_bits byte low count (omega (arith, ends)) bit narrow) (letter, tt)
Plain-place (switch_field byte low high) good =
    let ends = good.byte_ends in let two = good.two in let to = good.ends in
    Plain-append _ (range_text low high) (Plain-append (decimal byte) (codes ".") (Plain-decimal byte (omega (arith, ends))) (omega arith, tt))
    (Plain-range low high (omega (arith, two, to)) (omega (arith, to))).free
Plain-place (text_field part) good = let few = good.1 in record { some = omega arith; free = (omega arith, (Plain-decimal part (omega (arith, few))).free) }
Plain-place (texts_field byte count) good = let few = good.1 in Plain-append (decimal byte) (codes "-") (Plain-decimal byte (omega (arith, few))) (omega arith, tt)

NoSpace-places : (places magnitude : ℕ) → NoSpace (places_text places magnitude)
NoSpace-places zero magnitude = tt
NoSpace-places (suc more) magnitude = (omega arith, NoSpace-digits _ (AllDigits-last_digits (suc more) magnitude))

Plain-magnitude : (places magnitude : ℕ) → magnitude < 2 ^ 64 → Plain (magnitude_text places magnitude)
unfolding magnitude_text
Plain-magnitude places magnitude fits =
    let less : magnitude / 10 ^ places ≤ magnitude = div-le_self magnitude (10 ^ places) in
    Plain-append (decimal (magnitude / 10 ^ places)) _ (Plain-decimal (magnitude / 10 ^ places) (omega (arith, less, fits))) (NoSpace-places places magnitude)

Plain-scaled : (places : ℕ) (n : ℤ) → unsigned_abs n < 2 ^ 64 → Plain (scaled_text places n)
Plain-scaled places n fits =
    let digits = Plain-magnitude places (unsigned_abs n) fits in
    elim (is_negative n) as (λ b. Plain (sign_text b ++ magnitude_text places (unsigned_abs n))) [
      | true ↦ record { some = omega arith; free = (omega arith, digits.free) }
      | false ↦ digits
    ]

-- ---- cutting

without_first : (text : List ℕ) → without_spaces (32 ∷ text) ≡ without_spaces text
unfolding without_spaces
without_first text =
    let len : prefix_len is_space (32 ∷ text) ≡ suc (prefix_len is_space text) = omega arith in
    ap (λ k. drop k (32 ∷ text)) len

skip_space : (n : ℕ) (text : List ℕ) → words_and_rest n (32 ∷ text) ≡ words_and_rest n text
unfolding first_word behind_word
skip_space zero text = ap (λ t. called t ∷ states_part t ∷ []) (without_first text)
skip_space (suc n) text =
    ap (λ t. take (prefix_len is_not_space t) t ∷ words_and_rest n (drop (prefix_len is_not_space t) t)) (without_first text)

no_spaces : (b : ℕ) (text : List ℕ) → is_not_space b ≡ true → without_spaces (b ∷ text) ≡ b ∷ text
unfolding without_spaces
no_spaces b text h = let other : is_space b ≡ false = grind (arith, common_steps) in rw other refl

word_first : (word rest : List ℕ) → Plain word → without_spaces (word ++ (32 ∷ rest)) ≡ word ++ (32 ∷ rest)
word_first [] rest plain = let some = plain.some in absurd (omega (arith, some))
word_first (b ∷ word) rest plain = no_spaces b (word ++ (32 ∷ rest)) (not_space b plain.free.0)

first_is : (word rest : List ℕ) → Plain word → first_word (word ++ (32 ∷ rest)) ≡ word
unfolding first_word
first_is word rest plain =
    rw (word_first word rest plain) (ap (λ k. take k (word ++ (32 ∷ rest))) (prefix_of is_not_space word 32 rest (NoSpace-passes word plain.free) refl) ∙ take_front word (32 ∷ rest))

behind_is : (word rest : List ℕ) → Plain word → behind_word (word ++ (32 ∷ rest)) ≡ 32 ∷ rest
unfolding behind_word
behind_is word rest plain =
    rw (word_first word rest plain) (ap (λ k. drop k (word ++ (32 ∷ rest))) (prefix_of is_not_space word 32 rest (NoSpace-passes word plain.free) refl) ∙ drop_front word (32 ∷ rest))

pub cut : (n : ℕ) (word rest : List ℕ) → Plain word → words_and_rest (suc n) (word ++ (32 ∷ rest)) ≡ word ∷ words_and_rest n rest
cut n word rest plain =
    ap (λ w. w ∷ words_and_rest n (behind_word (word ++ (32 ∷ rest)))) (first_is word rest plain)
    ∙ ap (λ t. word ∷ words_and_rest n t) (behind_is word rest plain) ∙ ap (λ xs. word ∷ xs) (skip_space n rest)

name_is : (name : List ℕ) → IsName (called name) → without_spaces name ≡ name
unfolding name_len
name_is [] named = absurd (omega (arith, named.0))
name_is (b ∷ name) named =
    let other : b ≢ 32 = subst (λ (t : List ℕ). slice_index t 0 ≢ 32) (called_first b name named.0) named.1 in
    let free : is_not_space b ≡ true = grind (arith, common_steps) in no_spaces b name free

-- ---- a row's line

pub seven : (a b c d e f g name : List ℕ) → Plain a → Plain b → Plain c → Plain d → Plain e → Plain f → Plain g → IsName (called name)
    → line_columns (a ++ (32 ∷ (b ++ (32 ∷ (c ++ (32 ∷ (d ++ (32 ∷ (e ++ (32 ∷ (f ++ (32 ∷ (g ++ (32 ∷ name))))))))))))))
    ≡ a ∷ b ∷ c ∷ d ∷ e ∷ f ∷ g ∷ called name ∷ states_part name ∷ []
seven a b c d e f g name pa pb pc pd pe pf pg named =
    cut 6 a _ pa
    ∙ ap (λ xs. a ∷ xs) (cut 5 b _ pb
    ∙ ap (λ xs. b ∷ xs) (cut 4 c _ pc
    ∙ ap (λ xs. c ∷ xs) (cut 3 d _ pd
    ∙ ap (λ xs. d ∷ xs) (cut 2 e _ pe
    ∙ ap (λ xs. e ∷ xs) (cut 1 f _ pf
    ∙ ap (λ xs. f ∷ xs) (cut 0 g _ pg
    ∙ ap (λ t. g ∷ called t ∷ states_part t ∷ []) (name_is name named)))))))

flat : (a b c d e f g name : List ℕ)
    → a ++ codes " " ++ b ++ codes " " ++ c ++ codes " " ++ d ++ codes " " ++ (e ++ codes " " ++ f ++ codes " " ++ g) ++ codes " " ++ name
    ≡ a ++ (32 ∷ (b ++ (32 ∷ (c ++ (32 ∷ (d ++ (32 ∷ (e ++ (32 ∷ (f ++ (32 ∷ (g ++ (32 ∷ name)))))))))))))
flat a b c d e f g name = simp append_assoc

Plain-dash : Plain (codes "-")
Plain-dash = record { some = omega arith; free = (omega arith, tt) }

Plain-step : (bits : ℕ) (slot : SlotRecord) → 0 < bits → IsGoodScale bits slot → Plain (scaled_text slot.places slot.step)
Plain-step bits slot some good =
    let below = step_below (scaled_text slot.places slot.step) bits good.step slot.places some (its_step (scaled_text slot.places slot.step) bits slot good refl) in
    subst (λ n. Plain (scaled_text slot.places n)) (sym good.step_is) (Plain-scaled slot.places (pos good.step) (omega (arith, below)))

Plain-offset : (bits : ℕ) (slot : SlotRecord) → IsGoodScale bits slot → Plain (scaled_text slot.places slot.offset)
Plain-offset bits slot good = let fits = good.fits in Plain-scaled slot.places slot.offset (omega (arith, fits))

printed_columns : (a b c name : List ℕ) (field : FieldRecord) → Plain a → Plain b → Plain c → IsGoodField field → IsName (called name)
    → line_columns (a ++ codes " " ++ b ++ codes " " ++ c ++ codes " " ++ place_text field ++ codes " " ++ scale_text field ++ codes " " ++ name)
    ≡ a ∷ b ∷ c ∷ (field_columns field ++ (called name ∷ states_part name ∷ []))
printed_columns a b c name (number_field first last slot) pa pb pc good named =
    ap line_columns (flat a b c (place_text (number_field first last slot)) (scaled_text slot.places slot.step) (scaled_text slot.places slot.offset) slot.unit name)
    ∙ seven a b c _ _ _ _ name pa pb pc (Plain-place (number_field first last slot) good) (Plain-step (8 * (last - first + 1)) slot (omega arith) good.1)
    (Plain-offset (8 * (last - first + 1)) slot good.1) (Plain-word slot.unit good.1.unit) named
printed_columns a b c name (bits_field byte low count slot) pa pb pc good named =
    ap line_columns (flat a b c (place_text (bits_field byte low count slot)) (scaled_text slot.places slot.step) (scaled_text slot.places slot.offset) slot.unit name)
    ∙ seven a b c _ _ _ _ name pa pb pc (Plain-place (bits_field byte low count slot) good) (Plain-step count slot good.0.some good.1)
    (Plain-offset count slot good.1) (Plain-word slot.unit good.1.unit) named
printed_columns a b c name (full_field byte low count is_signed slot) pa pb pc good named =
    ap line_columns (flat a b c (place_text (full_field byte low count is_signed slot)) (scaled_text slot.places slot.step) (scaled_text slot.places slot.offset) slot.unit name)
    ∙ seven a b c _ _ _ _ name pa pb pc (Plain-place (full_field byte low count is_signed slot) good) (Plain-step count slot good.0.some good.1)
    (Plain-offset count slot good.1) (Plain-word slot.unit good.1.unit) named
printed_columns a b c name (switch_field byte low high) pa pb pc good named =
    ap line_columns (flat a b c (place_text (switch_field byte low high)) (codes "-") (codes "-") (codes "-") name)
    ∙ seven a b c _ _ _ _ name pa pb pc (Plain-place (switch_field byte low high) good) Plain-dash Plain-dash Plain-dash named
printed_columns a b c name (text_field part) pa pb pc good named =
    ap line_columns (flat a b c (place_text (text_field part)) (codes "-") (codes "-") (codes "-") name)
    ∙ seven a b c _ _ _ _ name pa pb pc (Plain-place (text_field part) good) Plain-dash Plain-dash Plain-dash named
printed_columns a b c name (texts_field byte count) pa pb pc good named =
    ap line_columns (flat a b c (place_text (texts_field byte count)) (codes "-") (codes "-") (codes "-") name)
    ∙ seven a b c _ _ _ _ name pa pb pc (Plain-place (texts_field byte count) good) Plain-dash Plain-dash Plain-dash named

same_front : (xs ys : List ℕ) → xs ++ (10 ∷ []) ≡ ys ++ (10 ∷ []) → xs ≡ ys
same_front xs ys e =
    let both = ap length e in let one = length-append xs (10 ∷ []) in let two = length-append ys (10 ∷ []) in
    let len : length xs ≡ length ys = omega (arith, both, one, two) in
    sym (take_front xs (10 ∷ [])) ∙ ap (take (length xs)) e ∙ ap (λ n. take n (ys ++ (10 ∷ []))) len ∙ take_front ys (10 ∷ [])

pub printed_lines : PrintedLinesSpell
unfolding row_text
printed_lines row line good printed =
    let line_is = same_front _ line printed in (
      good,
      ap line_columns (sym line_is)
          ∙ printed_columns (decimal row.pgn) row.group (decimal row.spn) row.name row.field
          (let fits = good.pgn.fits in Plain-decimal row.pgn (omega (arith, fits))) (Plain-word row.group good.group)
          (let fits = good.spn in Plain-decimal row.spn (omega (arith, fits))) good.field good.name,
    )

-- ---- a whole table

-- no byte of a printed row is a control byte
abbrev Printable : List ℕ → Type 0
Printable text = AllByRecursion (λ b. 32 ≤ b) text

Printable-append : (a b : List ℕ) → Printable a → Printable b → Printable (a ++ b)
Printable-append [] b one two = two
Printable-append (x ∷ a) b one two = (one.0, Printable-append a b one.1 two)

Printable-plain : (text : List ℕ) → NoSpace text → Printable text
Printable-plain [] free = tt
Printable-plain (b ∷ text) free = let above = free.0 in (omega (arith, above), Printable-plain text free.1)

Printable-name : (text : List ℕ) → All (λ b. (32 ≤ b) × (b ≡ 127 → ⊥)) text → Printable text
Printable-name [] all = tt
Printable-name (b ∷ text) all = ((all 0 0 (omega arith)).0, Printable-name text (λ k d below. all (suc k) d (omega arith)))

Printable-slot : (bits : ℕ) (slot : SlotRecord) → 0 < bits → IsGoodScale bits slot
    → Printable (scaled_text slot.places slot.step ++ codes " " ++ scaled_text slot.places slot.offset ++ codes " " ++ slot.unit)
Printable-slot bits slot some good =
    Printable-append _ slot.unit
    (Printable-append _ (codes " ")
    (Printable-append _ (scaled_text slot.places slot.offset)
    (Printable-append _ (codes " ") (Printable-plain _ (Plain-step bits slot some good).free) (omega arith, tt))
    (Printable-plain _ (Plain-offset bits slot good).free)) (omega arith, tt))
    (Printable-plain _ (Plain-word slot.unit good.unit).free)

Printable-dashes : Printable (codes "- - -")
Printable-dashes = (omega arith, (omega arith, (omega arith, (omega arith, (omega arith, tt)))))

Printable-scale : (field : FieldRecord) → IsGoodField field → Printable (scale_text field)
Printable-scale (number_field first last slot) good = Printable-slot (8 * (last - first + 1)) slot (omega arith) good.1
Printable-scale (bits_field byte low count slot) good = Printable-slot count slot good.0.some good.1
Printable-scale (full_field byte low count is_signed slot) good = Printable-slot count slot good.0.some good.1
Printable-scale (switch_field byte low high) good = Printable-dashes
Printable-scale (text_field part) good = Printable-dashes
Printable-scale (texts_field byte count) good = Printable-dashes

abbrev line_text : RowRecord → List ℕ
line_text row =
    decimal row.pgn ++ codes " " ++ row.group ++ codes " " ++ decimal row.spn ++ codes " " ++ place_text row.field ++ codes " "
    ++ scale_text row.field ++ codes " " ++ row.name

Plain-pgn : (row : RowRecord) → IsGoodRow row → Plain (decimal row.pgn)
Plain-pgn row good = let fits = good.pgn.fits in Plain-decimal row.pgn (omega (arith, fits))

Plain-spn : (row : RowRecord) → IsGoodRow row → Plain (decimal row.spn)
Plain-spn row good = let fits = good.spn in Plain-decimal row.spn (omega (arith, fits))

Printable-state : (least limit raw : ℕ) (state : List ℕ) → limit ≤ 2 ^ 32 → IsState least limit state raw → Printable state
Printable-state least limit raw state few is =
    let below = is.below in
    let front : Printable (state_front raw) =
    (omega arith, Printable-append (decimal raw) (32 ∷ []) (Printable-plain _ (Plain-decimal raw (omega (arith, below, few))).free) (omega arith, tt)) in
    subst Printable (sym (words_front raw state is.words is.words_are)) (Printable-append (state_front raw) is.words front (Printable-name is.words is.named.2))

Printable-states : (least limit : ℕ) (states : List (List ℕ)) → limit ≤ 2 ^ 32 → AreStates least limit states → AllByRecursion Printable states
Printable-states least limit [] few all = tt
Printable-states least limit (state ∷ states) few all =
    (Printable-state least limit all.0 state few all.1, Printable-states (all.0 + 1) limit states few all.2)

Printable-joined : (parts : List (List ℕ)) → AllByRecursion Printable parts → Printable (join_with_byte 44 parts)
Printable-joined [] all = tt
Printable-joined (part ∷ []) all = all.0
Printable-joined (part ∷ next ∷ parts) all = Printable-append part _ all.0 (omega arith, Printable-joined (next ∷ parts) all.1)

Printable-part : (limit : ℕ) (part : List ℕ) → limit ≤ 2 ^ 32 → (0 < length part → starts_with nat_eq part (codes " = ") ≡ true)
    → AreGoodStates limit part → Printable part
Printable-part limit [] few begins good = tt
Printable-part limit (b ∷ part) few begins good =
    let rest : Printable (drop 2 (b ∷ part)) =
    subst Printable (join_with_byte-slice_split 44 (drop 2 (b ∷ part))) (Printable-joined _ (Printable-states 0 limit _ few good.1)) in
    let is = front_of (b ∷ part) (codes " = ") (begins (omega arith)) in
    let front : b ∷ part ≡ 32 ∷ 61 ∷ drop 2 (b ∷ part) = is ∙ ap (λ t. 32 ∷ 61 ∷ t) (sym (ap (drop 2) is)) in
    subst Printable (sym front) (omega arith, (omega arith, rest))

Printable-with_states : (row : RowRecord) → IsGoodRow row → Printable row.name
Printable-with_states row good =
    subst Printable (take-append-drop (name_len row.name) row.name)
    (Printable-append (called row.name) (states_part row.name) (Printable-name (called row.name) good.name.2)
    (Printable-part (states_limit row.field) (states_part row.name) (limit_fits row.field good.field) (part_begins row.name) good.states))

Printable-row : (row : RowRecord) → IsGoodRow row → Printable (line_text row)
Printable-row row good =
    let a = Printable-append (decimal row.pgn) (codes " ") (Printable-plain _ (Plain-pgn row good).free) (omega arith, tt) in
    let b = Printable-append _ (codes " ") (Printable-append _ row.group a (Printable-plain _ (Plain-word row.group good.group).free)) (omega arith, tt) in
    let c = Printable-append _ (codes " ") (Printable-append _ (decimal row.spn) b (Printable-plain _ (Plain-spn row good).free)) (omega arith, tt) in
    let d = Printable-append _ (codes " ") (Printable-append _ (place_text row.field) c (Printable-plain _ (Plain-place row.field good.field).free)) (omega arith, tt) in
    let e = Printable-append _ (codes " ") (Printable-append _ (scale_text row.field) d (Printable-scale row.field good.field)) (omega arith, tt) in
    Printable-append _ row.name e (Printable-with_states row good)

no_newline : (text : List ℕ) → Printable text → AllByRecursion (λ b. (b == 10) ≡ false) text
no_newline [] h = tt
no_newline (b ∷ text) h = let above = h.0 in let one : (b == 10) ≡ false = grind (arith, common_steps) in (one, no_newline text h.1)

bare_is : (text : List ℕ) → Printable text → bare_line text ≡ text
bare_is [] h = refl
bare_is (b ∷ []) h = let above = h.0 in let one : (b == 13) ≡ false = grind (arith, common_steps) in rw one refl
bare_is (b ∷ c ∷ text) h = ap (λ xs. b ∷ xs) (bare_is (c ∷ text) h.1)

digit_above : (c : ℕ) → digit_value c < 10 → 36 ≤ c
digit_above c h = grind arith

-- a number in front
record Digit (text : List ℕ) : Type 0 where
  some : 0 < length text
  above : 36 ≤ get_or text 0 0

Digit-decimal : (digits : List ℕ) → 0 < length digits → AllDigits 10 digits → Digit digits
Digit-decimal [] some all = absurd (omega arith)
Digit-decimal (d ∷ digits) some all = record { some = some; above = (let digit = all.0 in digit_above d digit) }

Digit-append : (a b : List ℕ) → Digit a → Digit (a ++ b)
Digit-append [] b h = let some = h.some in absurd (omega (arith, some))
Digit-append (x ∷ a) b h = record { some = omega arith; above = h.above }

Digit-row_line : (text : List ℕ) → Digit text → is_row_line text ≡ true
Digit-row_line [] h = let some = h.some in absurd (omega (arith, some))
Digit-row_line (b ∷ text) h =
    let above = h.above in
    let bare = no_spaces b text (not_space b (omega (arith, above))) in
    let other : (b == 35) ≡ false = grind (arith, common_steps) in
    ap is_no_comment bare ∙ rw other refl

row_is_line : (row : RowRecord) → IsGoodRow row → is_row_line (line_text row) ≡ true
row_is_line row good =
    let numeral = (let fits = good.pgn.fits in decimal_is_IsNumeral row.pgn (omega (arith, fits))) in
    let a = Digit-append (decimal row.pgn) (codes " ") (Digit-decimal (decimal row.pgn) numeral.0.0 numeral.0.1) in
    let c = Digit-append _ (codes " ") (Digit-append _ (decimal row.spn) (Digit-append _ (codes " ") (Digit-append _ row.group a))) in
    let e = Digit-append _ (codes " ") (Digit-append _ (scale_text row.field) (Digit-append _ (codes " ") (Digit-append _ (place_text row.field) c))) in
    Digit-row_line (line_text row) (Digit-append _ row.name e)

row_text_is : (row : RowRecord) → row_text row ≡ line_text row ++ (10 ∷ [])
unfolding row_text
row_text_is row = refl

nothing_there : is_row_line [] ≡ false
unfolding without_spaces
nothing_there = refl

lines_more : (row : RowRecord) (rest : List ℕ) → IsGoodRow row → row_lines (lines_of (row_text row ++ rest)) ≡ line_text row ∷ row_lines (lines_of rest)
unfolding row_text
lines_more row rest good =
    let text = line_text row in
    let apart : row_text row ++ rest ≡ text ++ (10 ∷ rest) = append_assoc text (10 ∷ []) rest in
    let split : slice_split (λ b. b == 10) (text ++ (10 ∷ rest)) ≡ text ∷ slice_split (λ b. b == 10) rest =
    slice_split_at (λ b. b == 10) text 10 rest (All-from_recursion _ text (no_newline text (Printable-row row good))) refl in
    let lines : lines_of (row_text row ++ rest) ≡ text ∷ lines_of rest =
    ap lines_of apart ∙ ap (map bare_line) split ∙ ap (λ t. t ∷ lines_of rest) (bare_is text (Printable-row row good)) in
    ap row_lines lines ∙ rw (row_is_line row good) refl

pub printed_tables : PrintedTablesSpell
printed_tables [] good = rw nothing_there tt
printed_tables (row ∷ rows) good =
    rw (lines_more row (flat_map row_text rows) good.0)
    (printed_lines row (line_text row) good.0 (row_text_is row), printed_tables rows good.1)
