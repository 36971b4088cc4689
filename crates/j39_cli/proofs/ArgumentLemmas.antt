-- How clap takes a command with its arguments, of which some may be left out.
--
-- What comes of every choice is computed at once: of a command it is one equation, and that of the choice at hand is a part
-- of it.
use Rattle.j39_cli.proofs.Common.{◌≡◌, ◌∙◌, ◌++◌, ◌∷◌, [], ℕ, Bool, true, false, List, Option, Some, None, ap, ap₂, append-nil, append_assoc, codes, map, refl, subst, sym, if◌then◌else◌, option_map, map-append, App, Row, Rule, Shape, Text, built, first_of, Waiting, Walk, arg_by_index, finished, nothing_held, positional, walk_from}
use Rattle.j39_cli.specs.Command.{line_app}
use Rattle.j39_cli.specs.CommandWords.{CommandWords, HasValues, form_of}
use Rattle.j39_cli.specs.Form.{AreValues, ArgumentText, HasText, HasValue, HaveTexts, HaveValues, argument_words, flag, option, spelled, texts_of, value, values, words_in}
use Rattle.j39_cli.proofs.EachLemmas.{EndsWith, TakesEach, behind_word, found_each, rows_of_each, taken_each, takes_each}
use Rattle.j39_cli.proofs.PartLemmas.{AreParts, Enters, Part, given, held_after, parts_walk, takes_parts, text_of, written}
use Rattle.j39_cli.proofs.TakenLemmas.{IsRead, leaf_of, read, rows_of_parts}

-- ---- arguments in parts

abbrev pub parts_of : ArgumentText → List Part
parts_of (option name None) = []
parts_of (option name (Some text)) = written (spelled name) ∷ given text ∷ []
parts_of (flag name false) = []
parts_of (flag name true) = written (spelled name) ∷ []
parts_of (value name None) = []
parts_of (value name (Some text)) = given text ∷ []
parts_of (values name texts) = map given texts

abbrev pub parts_in : List ArgumentText → List Part
parts_in [] = []
parts_in (x ∷ xs) = parts_of x ++ parts_in xs

parts_in-append : (xs ys : List ArgumentText) → parts_in (xs ++ ys) ≡ parts_in xs ++ parts_in ys
parts_in-append [] ys = refl
parts_in-append (x ∷ xs) ys = ap (λ (ps : List Part). parts_of x ++ ps) (parts_in-append xs ys)
    ∙ sym (append_assoc (parts_of x) (parts_in xs) (parts_in ys))

AreParts-append : (ps qs : List Part) → AreParts ps → AreParts qs → AreParts (ps ++ qs)
AreParts-append [] qs are also = also
AreParts-append (p ∷ ps) qs are also = (are.0, AreParts-append ps qs are.1 also)

are_given : (texts : List Text) → AreValues texts → AreParts (map given texts)
are_given [] are = tt
are_given (text ∷ texts) are = (are.0, are_given texts are.1)

texts-parts : (texts : List Text) → texts ≡ map text_of (map given texts)
texts-parts [] = refl
texts-parts (text ∷ texts) = ap (λ (ts : List Text). text ∷ ts) (texts-parts texts)

are_parts : (xs : List ArgumentText) → HaveValues xs → AreParts (parts_in xs)
are_parts [] have = tt
are_parts (x ∷ xs) have = AreParts-append (parts_of x) (parts_in xs) (of x have.0) (are_parts xs have.1)
  where
    of : (x : ArgumentText) → HasValue x → AreParts (parts_of x)
    of (option name None) has = tt
    of (option name (Some text)) has = (tt, (has, tt))
    of (flag name false) has = tt
    of (flag name true) has = (tt, tt)
    of (value name None) has = tt
    of (value name (Some text)) has = (has, tt)
    of (values name texts) has = are_given texts has

words-parts : (xs : List ArgumentText) → words_in xs ≡ map text_of (parts_in xs)
words-parts [] = refl
words-parts (x ∷ xs) = ap₂ (λ (a b : List Text). a ++ b) (of x) (words-parts xs)
    ∙ sym (map-append text_of (parts_of x) (parts_in xs))
  where
    of : (x : ArgumentText) → argument_words x ≡ map text_of (parts_of x)
    of (option name None) = refl
    of (option name (Some text)) = refl
    of (flag name false) = refl
    of (flag name true) = refl
    of (value name None) = refl
    of (value name (Some text)) = refl
    of (values name texts) = texts-parts texts

-- ---- texts that clap meets

-- what is known of the texts of an argument: its first, or all
abbrev pub Met : Type 0
Met = Option (List Text)

abbrev pub met_first : Option Text → Met
met_first text = option_map (λ t. t ∷ []) text

-- what clap meets of an argument
abbrev pub met_of : List Row → ArgumentText → Met
met_of rows (option name text) = met_first (first_of name rows)
met_of rows (flag name is_set) = met_first (first_of name rows)
met_of rows (value name text) = met_first (first_of name rows)
met_of rows (values name texts) = Some (texts_of name rows)

-- what it should
abbrev pub wanted_of : ArgumentText → Met
wanted_of (option name text) = met_first text
wanted_of (flag name is_set) = Some ((if is_set then codes "true" else codes "false") ∷ [])
wanted_of (value name text) = met_first text
wanted_of (values name texts) = Some texts

same_first : (a b : Option Text) → met_first a ≡ met_first b → a ≡ b
same_first None None e = refl
same_first None (Some text) e = absurd (cc)
same_first (Some text) None e = absurd (cc)
same_first (Some a) (Some b) e = cc

have_texts : (rows : List Row) (xs : List ArgumentText) → map (met_of rows) xs ≡ map wanted_of xs → HaveTexts rows xs
have_texts rows [] e = tt
have_texts rows (x ∷ xs) e =
    let first : met_of rows x ≡ wanted_of x = cc in
    let others : map (met_of rows) xs ≡ map wanted_of xs = cc in
    (of x first, have_texts rows xs others)
  where
    of : (x : ArgumentText) → met_of rows x ≡ wanted_of x → HasText rows x
    of (option name text) first = same_first (first_of name rows) text first
    of (flag name true) first = rw (same_first (first_of name rows) (Some (codes "true")) first)
    of (flag name false) first = rw (same_first (first_of name rows) (Some (codes "false")) first)
    of (value name text) first = same_first (first_of name rows) text first
    of (values name texts) first = cc

-- ---- every choice of arguments

abbrev text_in : Option Text → Text
text_in None = []
text_in (Some text) = text

abbrev pub left_out : ArgumentText → ArgumentText
left_out (option name text) = option name None
left_out (flag name is_set) = flag name false
left_out (value name text) = value name None
left_out (values name texts) = values name []

abbrev pub put_in : ArgumentText → ArgumentText
put_in (option name text) = option name (Some (text_in text))
put_in (flag name is_set) = flag name true
put_in (value name text) = value name (Some (text_in text))
put_in (values name texts) = values name texts

-- what comes of a command line; and of two, where an argument is left out and where it is given
pub data Outcome (L : Type 0) : Type 0 where
  one : L → Outcome L
  two : Outcome L → Outcome L → Outcome L

module _ {L : Type 0} (comes : List Part → L) (should : List Met → L) where
  -- what comes of these parts, with each choice of more arguments
  abbrev pub outcome : List Part → List ArgumentText → Outcome L
  outcome ps [] = one (comes ps)
  outcome ps (x ∷ xs) = two (outcome (ps ++ parts_of (left_out x)) xs) (outcome (ps ++ parts_of (put_in x)) xs)

  -- what should
  abbrev pub wanted : List Met → List ArgumentText → Outcome L
  wanted texts [] = one (should texts)
  wanted texts (x ∷ xs) = two (wanted (texts ++ wanted_of (left_out x) ∷ []) xs) (wanted (texts ++ wanted_of (put_in x) ∷ []) xs)

  pub chosen : (ps : List Part) (texts : List Met) (xs : List ArgumentText)
      → outcome ps xs ≡ wanted texts xs → comes (ps ++ parts_in xs) ≡ should (texts ++ map wanted_of xs)
  chosen ps texts [] e =
      let same : comes ps ≡ should texts = cc in
      rw (append-nil ps, append-nil texts) same
  chosen ps texts (x ∷ xs) e =
      ap comes (sym (append_assoc ps (parts_of x) (parts_in xs)))
      ∙ chosen (ps ++ parts_of x) (texts ++ wanted_of x ∷ []) xs (of x e)
      ∙ ap should (append_assoc texts (wanted_of x ∷ []) (map wanted_of xs))
    where
      of : (x : ArgumentText) → outcome ps (x ∷ xs) ≡ wanted texts (x ∷ xs)
          → outcome (ps ++ parts_of x) xs ≡ wanted (texts ++ wanted_of x ∷ []) xs
      of (option name None) e = cc
      of (option name (Some text)) e = cc
      of (flag name false) e = cc
      of (flag name true) e = cc
      of (value name None) e = cc
      of (value name (Some text)) e = cc
      of (values name []) e = cc
      of (values name (text ∷ texts)) e = cc

-- whether clap takes the parts, and what it meets of these arguments
abbrev pub taken_and_met : Shape → List ArgumentText → List Part → Bool × List Met
taken_and_met s all ps = (takes_parts s ps, map (met_of (finished s.rules (held_after s ps))) all)

abbrev pub all_taken : List Met → Bool × List Met
all_taken mets = (true, mets)

-- what is known of a command of these arguments
abbrev pub IsOf : Text → App → CommandWords → List ArgumentText → Type 0
IsOf program a s arguments =
    Enters (built line_app) (form_of s).called (leaf_of a) → (leaf_of a).name ≡ (form_of s).called
    → (form_of s).arguments ≡ arguments → HasValues s → IsRead program s

-- it is parsed where clap takes its parts and meets its texts
of_parts : (program : Text) (a : App) (s : CommandWords) (arguments : List ArgumentText)
    → taken_and_met (leaf_of a) arguments (parts_in arguments) ≡ all_taken (map wanted_of arguments) → IsOf program a s arguments
of_parts program a s arguments met enters named are have = read program (form_of s).called a enters (parts_in arguments) s
    (are_parts arguments (subst HaveValues are have))
    (ap (λ (xs : List ArgumentText). (form_of s).called ∷ words_in xs) are
    ∙ ap (λ (ws : List Text). (form_of s).called ∷ ws) (words-parts arguments))
    (ap (λ (q : Bool × List Met). q.0) met) (
      named,
      subst (λ (xs : List ArgumentText). HaveTexts (rows_of_parts a (parts_in arguments)).1 xs) (sym are)
          (have_texts (rows_of_parts a (parts_in arguments)).1 arguments (ap (λ (q : Bool × List Met). q.1) met)),
    )

-- clap takes a command whose arguments are these, of which the first must be given and the others may be left out
pub parsed : (program : Text) (a : App) (s : CommandWords) (must may : List ArgumentText)
    → outcome (taken_and_met (leaf_of a) (must ++ may)) all_taken (parts_in must) may
    ≡ wanted (taken_and_met (leaf_of a) (must ++ may)) all_taken (map wanted_of must) may
    → IsOf program a s (must ++ may)
parsed program a s must may computed = of_parts program a s (must ++ may)
    (ap (taken_and_met (leaf_of a) (must ++ may)) (parts_in-append must may)
    ∙ chosen (taken_and_met (leaf_of a) (must ++ may)) all_taken (parts_in must) (map wanted_of must) may computed
    ∙ ap all_taken (sym (map-append wanted_of must may)))

-- ---- a last argument that takes as many texts as there are

-- where clap stands behind a word of it
abbrev pub Place : Type 0
Place = Option (Text × List Text) × Waiting × ℕ × Bool × Option (Text × List Text)

abbrev pub place_of : Walk → Place
place_of w = (w.held.pending, w.waiting, w.position, w.is_trailing, w.stopped)

-- the same of the parts, the first text and the others: as far as it computes
abbrev pub each_taken_and_met : Shape → Rule → List ArgumentText → Text → List Text → List Part → (Bool × List Met) × Place
each_taken_and_met s rule all text texts ps =
    let first = ps ++ given text ∷ [] in (
      (takes_each s rule first texts, map (met_of (rows_of_each s rule (held_after s first) texts)) all),
      place_of (parts_walk s.rules (walk_from nothing_held) first),
    )

abbrev pub each_taken : Rule → Text → List Text → List Met → (Bool × List Met) × Place
each_taken rule text texts mets = (
  (true, mets ++ Some (text ∷ texts) ∷ []),
  (Some (rule.id, text ∷ []), positional, 1, false, None),
)

-- the arguments in front of it
abbrev pub before_each : List ArgumentText → List ArgumentText
before_each [] = []
before_each (option name text ∷ xs) = option name text ∷ before_each xs
before_each (flag name is_set ∷ xs) = flag name is_set ∷ before_each xs
before_each (value name text ∷ xs) = value name text ∷ before_each xs
before_each (values name texts ∷ xs) = []

-- the place that a walk stands at
stands_at : (rule : Rule) (text : Text) (w : Walk) → place_of w ≡ (Some (rule.id, text ∷ []), positional, 1, false, None)
    → w ≡ behind_word rule text w.held.rows w.held.skip 1
stands_at rule text w e = ap at e
  where
    at : Place → Walk
    at q = record {
      held = record { rows = w.held.rows; pending = q.0; skip = w.held.skip };
      waiting = q.1;
      position = q.2;
      is_trailing = q.3;
      stopped = q.4;
    }

module _ (program : Text) (a : App) (s : CommandWords) (must may : List ArgumentText) (rule : Rule) where
  abbrev with_each : List Text → List ArgumentText
  with_each texts = (must ++ may) ++ values rule.id texts ∷ []

  abbrev leaf : Shape
  leaf = leaf_of a

  abbrev options : List Part
  options = parts_in must ++ parts_in may

  parts_with : (texts : List Text) → parts_in (with_each texts) ≡ options ++ map given texts
  parts_with texts = parts_in-append (must ++ may) (values rule.id texts ∷ [])
      ∙ ap₂ (λ (ps qs : List Part). ps ++ qs) (parts_in-append must may) (append-nil (map given texts))

  wanted_with : (texts : List Text) → map wanted_of (with_each texts) ≡ (map wanted_of must ++ map wanted_of may) ++ Some texts ∷ []
  wanted_with texts = map-append wanted_of (must ++ may) (values rule.id texts ∷ [])
      ∙ ap (λ (ms : List Met). ms ++ Some texts ∷ []) (map-append wanted_of must may)

  -- where none is given
  abbrev pub ComesOfNone : Type 0
  ComesOfNone =
      outcome (taken_and_met leaf (with_each [])) (λ mets. (true, mets ++ Some [] ∷ [])) (parts_in must) may
      ≡ wanted (taken_and_met leaf (with_each [])) (λ mets. (true, mets ++ Some [] ∷ [])) (map wanted_of must) may

  -- what clap takes and meets then
  abbrev pub TakesNone : Type 0
  TakesNone = taken_and_met leaf (with_each []) options ≡ (true, (map wanted_of must ++ map wanted_of may) ++ Some [] ∷ [])

  none_met : TakesNone → taken_and_met leaf (with_each []) (parts_in (with_each [])) ≡ all_taken (map wanted_of (with_each []))
  none_met met = ap (taken_and_met leaf (with_each [])) (parts_with [] ∙ append-nil options) ∙ met ∙ ap all_taken (sym (wanted_with []))

  -- where some are
  abbrev pub ComesOfSome : Text → List Text → Type 0
  ComesOfSome text texts =
      outcome (each_taken_and_met leaf rule (with_each (text ∷ texts)) text texts) (each_taken rule text texts) (parts_in must) may
      ≡ wanted (each_taken_and_met leaf rule (with_each (text ∷ texts)) text texts) (each_taken rule text texts) (map wanted_of must) may

  -- what clap takes and meets of the first, and where it stands
  abbrev pub TakesSome : Text → List Text → Type 0
  TakesSome text texts =
      each_taken_and_met leaf rule (with_each (text ∷ texts)) text texts options ≡ each_taken rule text texts (map wanted_of must ++ map wanted_of may)

  some_met : (text : Text) (texts : List Text) → TakesEach leaf rule → arg_by_index leaf.rules 1 ≡ Some rule → TakesSome text texts
      → taken_and_met leaf (with_each (text ∷ texts)) (parts_in (with_each (text ∷ texts)))
      ≡ all_taken (map wanted_of (with_each (text ∷ texts)))
  some_met text texts takes here met =
      let all = with_each (text ∷ texts) in
      let first = options ++ given text ∷ [] in
      let ends : EndsWith leaf rule first text = record {
        takes = takes;
        position = 1;
        here = here;
        is = stands_at rule text (parts_walk leaf.rules (walk_from nothing_held) first) (ap (λ (q : (Bool × List Met) × Place). q.1) met);
      } in
      ap (taken_and_met leaf all) (parts_with (text ∷ texts) ∙ sym (append_assoc options (given text ∷ []) (map given texts)))
      ∙ ap₂ (λ (b : Bool) (rows : List Row). (b, map (met_of rows) all)) (taken_each leaf rule first text ends texts)
      (found_each leaf rule first text ends texts)
      ∙ ap (λ (q : (Bool × List Met) × Place). q.0) met
      ∙ ap all_taken (sym (wanted_with (text ∷ texts)))

  -- clap takes a command of which the first arguments must be given, others may be left out, and the last takes as many
  -- texts as there are
  pub taken_with : (texts : List Text) → TakesEach leaf rule → arg_by_index leaf.rules 1 ≡ Some rule → TakesNone
      → ((text : Text) (more : List Text) → TakesSome text more) → IsOf program a s (with_each texts)
  taken_with [] takes here none some = of_parts program a s (with_each []) (none_met none)
  taken_with (text ∷ texts) takes here none some =
      of_parts program a s (with_each (text ∷ texts)) (some_met text texts takes here (some text texts))

  pub parsed_each : (texts : List Text) → TakesEach leaf rule → arg_by_index leaf.rules 1 ≡ Some rule → ComesOfNone
      → ((text : Text) (more : List Text) → ComesOfSome text more) → IsOf program a s (with_each texts)
  parsed_each texts takes here none some = taken_with texts takes here
      (chosen (taken_and_met leaf (with_each [])) (λ mets. (true, mets ++ Some [] ∷ [])) (parts_in must) (map wanted_of must) may none)
      (λ text more. chosen (each_taken_and_met leaf rule (with_each (text ∷ more)) text more) (each_taken rule text more) (parts_in must) (map wanted_of must) may (some text more))
