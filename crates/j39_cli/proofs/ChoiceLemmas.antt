-- How clap takes a command whose options and flags may each be left out, one after the other.
--
-- Each that is given adds its row behind those of the arguments before it, whichever they are. So nothing is computed for a
-- choice of arguments: of each argument it is computed which rule its name finds.
use Rattle.j39_cli.proofs.Common.{true≢false, ◌≡◌, ◌∙◌, ◌++◌, ◌∷◌, ◌&&◌, ◌||◌, [], Bool, true, false, not, List, Option, Some, None, ap, ap₂, append-nil, append_assoc, codes, find, fold, map, refl, sym, subst, if◌then◌else◌, option_or, option_and_then, option_map, slice_get, unwrap_or, list_all, bytes_eq, and-false, and_parts, map-append, filled, App, Row, Rule, Shape, Text, Held, Walk, arg_by_index, finished, is_pending, settled, nothing_held, arg_by_id, arg_by_long, at_row, default_rows, has_row, more_values, reading_by, settled_rows, used, walk_from, with_default, with_values, without, default_passes, is_valid, settle_passes, Reading, CommandLine, DefaultValue}
use Rattle.std.proofs.lemmas.List.Folds.{find-append, list_any-append}
use Rattle.std.proofs.lemmas.Slice.Eq.{bytes_eq-Decides}
use Rattle.clap.specs.Lexer.{long_of}
use Rattle.clap.specs.Walk.{walked}
use Rattle.j39_cli.specs.CommandWords.{CommandWords}
use Rattle.j39_cli.specs.Form.{ArgumentText, flag, option, spelled, texts_of, value, values}
use Rattle.j39_cli.specs.Rules.{flag_rule, option_rule}
use Rattle.j39_cli.proofs.ArgumentLemmas.{IsOf, each_taken, each_taken_and_met, met_first, met_of, parts_in, parts_of, place_of, taken_and_met, taken_with, wanted_of}
use Rattle.j39_cli.proofs.EachLemmas.{TakesEach, added, added_twice, behind_word, parts_pass-append, parts_walk-append, rows_of_each, settles, takes_each}
use Rattle.j39_cli.proofs.PartLemmas.{Part, given, held_after, part_walked, parts_pass, parts_walk, takes_parts}
use Rattle.j39_cli.proofs.TakenLemmas.{leaf_of}

-- ---- rows

-- a name that no row has gets its row behind them
at_row-new : (id : Text) (change : Row → List Row) (missing rows : List Row) → has_row id rows ≡ false → at_row id change missing rows ≡ rows ++ missing
at_row-new id change missing [] new = refl
at_row-new id change missing (r ∷ rows) new = go (bytes_eq r.id id) refl new (at_row-new id change missing rows)
  where
    go : (b : Bool) → bytes_eq r.id id ≡ b → (b || has_row id rows) ≡ false → (has_row id rows ≡ false → at_row id change missing rows ≡ rows ++ missing)
        → at_row id change missing (r ∷ rows) ≡ r ∷ rows ++ missing
    go true e other behind = absurd (true≢false other)
    go false e other behind = rw e (ap (λ (rs : List Row). r ∷ rs) (behind other))

has_row-append : (id : Text) (xs ys : List Row) → has_row id xs ≡ false → has_row id ys ≡ false → has_row id (xs ++ ys) ≡ false
has_row-append id xs ys a b = list_any-append (λ (r : Row). bytes_eq r.id id) xs ys ∙ (λ i. a i || b i)

abbrev no_row : Option Row
no_row = None

abbrev find_row : Text → List Row → Option Row
find_row id rows = find (λ (r : Row). bytes_eq r.id id) rows

find_row-append : (id : Text) (xs ys : List Row) → find_row id (xs ++ ys) ≡ option_or (find_row id xs) (find_row id ys)
find_row-append id xs ys = find-append (λ (r : Row). bytes_eq r.id id) xs ys

none_found : (id : Text) (rows : List Row) → has_row id rows ≡ false → find_row id rows ≡ None
none_found id [] new = refl
none_found id (r ∷ rows) new = go (bytes_eq r.id id) refl new (none_found id rows)
  where
    go : (b : Bool) → bytes_eq r.id id ≡ b → (b || has_row id rows) ≡ false → (has_row id rows ≡ false → find_row id rows ≡ None) → find_row id (r ∷ rows) ≡ None
    go true e other behind = absurd (true≢false other)
    go false e other behind = rw e (behind other)

-- ---- arguments

abbrev name_of : ArgumentText → Text
name_of (option name text) = name
name_of (flag name is_set) = name
name_of (value name text) = name
name_of (values name texts) = name

-- an option and a flag as clap builds them
abbrev built_option : Text → Rule
built_option name = filled (option_rule name false)

abbrev built_flag : Text → Rule
built_flag name = filled (flag_rule name)

abbrev rule_for : ArgumentText → Rule
rule_for (option name text) = built_option name
rule_for (flag name is_set) = built_flag name
rule_for (value name text) = built_option name
rule_for (values name texts) = built_option name

-- options and flags alone
abbrev pub AreChoices : List ArgumentText → Type 0
AreChoices [] = Unit {0}
AreChoices (option name text ∷ xs) = AreChoices xs
AreChoices (flag name is_set ∷ xs) = AreChoices xs
AreChoices (value name text ∷ xs) = ⊥
AreChoices (values name texts ∷ xs) = ⊥

-- what clap makes of the name of an argument
abbrev Facts : Type 0
Facts = Bool × Option (Text × Option Text) × Option Rule × Option Rule

abbrev pub facts_of : List Rule → ArgumentText → Facts
facts_of rules x = (
  bytes_eq (spelled (name_of x)) (45 ∷ 45 ∷ []),
  long_of (spelled (name_of x)),
  arg_by_long rules (name_of x),
  arg_by_id rules (name_of x),
)

-- it is a long word, and its rule is found
abbrev pub known_facts : ArgumentText → Facts
known_facts x = (false, Some (name_of x, None), Some (rule_for x), Some (rule_for x))

-- neither is the name of the other
abbrev are_two : ArgumentText → ArgumentText → Bool
are_two x y = not (bytes_eq (name_of x) (name_of y)) && not (bytes_eq (name_of y) (name_of x))

abbrev pub are_apart : List ArgumentText → Bool
are_apart [] = true
are_apart (x ∷ xs) = list_all (are_two x) xs && are_apart xs

-- the row of an argument that is given
abbrev row_with : Rule → Text → Row
row_with a text = record { id = a.id; values = text ∷ []; count = None; source = Some CommandLine; reading = reading_by a }

abbrev rows_for : ArgumentText → List Row
rows_for (option name None) = []
rows_for (option name (Some text)) = row_with (built_option name) text ∷ []
rows_for (flag name false) = []
rows_for (flag name true) = row_with (built_flag name) (codes "true") ∷ []
rows_for (value name text) = []
rows_for (values name texts) = []

abbrev pub rows_in : List ArgumentText → List Row
rows_in [] = []
rows_in (x ∷ xs) = rows_for x ++ rows_in xs

-- ---- one argument

-- what clap holds settles to these rows
pub record Settles (s : Shape) (h : Held) (rows : List Row) : Type 0 where
  pub rows_are : settled_rows s.rules h.pending h.rows ≡ rows
  pub passes : settle_passes s.rules s.args_override_self h ≡ true

-- it takes these parts, and then holds what settles to these rows
pub record Goes (s : Shape) (h : Held) (ps : List Part) (rows : List Row) : Type 0 where
  pub held : Held
  pub walks : parts_walk s.rules (walk_from h) ps ≡ walk_from held
  pub passes : parts_pass s (walk_from h) ps ≡ true
  pub settles : Settles s held rows

same_self : (name : Text) → bytes_eq name name ≡ true
same_self name = (bytes_eq-Decides name name).1 refl

-- a use that takes the place of others, where there are none
replaced : (id : Text) (how : Reading) (text : Text) (rows : List Row) → has_row id rows ≡ false
    → with_values id how CommandLine (text ∷ []) (without id rows)
    ≡ rows ++ record { id = id; values = text ∷ []; count = None; source = Some CommandLine; reading = how } ∷ []
replaced id how text rows new =
    let same : without id rows ≡ rows = at_row-new id (λ r. []) [] rows new ∙ append-nil rows in
    ap (with_values id how CommandLine (text ∷ [])) same ∙ at_row-new id (more_values CommandLine (text ∷ [])) _ rows new

module _ (s : Shape) (h : Held) (rows : List Row) (settles : Settles s h rows) where
  stays : (ps : List Part) → ps ≡ [] → Goes s h ps (rows ++ [])
  unfolding parts_pass
  stays ps none = record {
    held = h;
    walks = ap (parts_walk s.rules (walk_from h)) none;
    passes = ap (parts_pass s (walk_from h)) none;
    settles = record { rows_are = settles.rows_are ∙ sym (append-nil rows); passes = settles.passes };
  }

  goes_option : (name text : Text) → facts_of s.rules (option name (Some text)) ≡ known_facts (option name (Some text)) → has_row name rows ≡ false
      → Goes s h (parts_of (option name (Some text))) (rows ++ rows_for (option name (Some text)))
  unfolding walked parts_pass
  goes_option name text known new =
      let before = settled_rows s.rules h.pending h.rows in
      let dashes : bytes_eq (spelled name) (45 ∷ 45 ∷ []) ≡ false = ap (λ (f : Facts). f.0) known in
      let long : long_of (spelled name) ≡ Some (name, None) = ap (λ (f : Facts). f.1) known in
      let by_long : arg_by_long s.rules name ≡ Some (built_option name) = ap (λ (f : Facts). f.2) known in
      let by_id : arg_by_id s.rules name ≡ Some (built_option name) = ap (λ (f : Facts). f.3) known in
      let self = same_self name in
      let fresh : has_row name before ≡ false = ap (has_row name) settles.rows_are ∙ new in
      record {
        held = record { rows = before; pending = Some (name, text ∷ []); skip = h.skip };
        walks = rw (dashes, long, by_long, by_id, self) refl;
        passes = rw (dashes, long, by_long, settles.passes) refl;
        settles = record {
          rows_are = rw by_id (replaced name (reading_by (built_option name)) text before fresh ∙ ap (λ (rs : List Row). rs ++ rows_for (option name (Some text))) settles.rows_are);
          passes = rw (by_id, fresh) refl;
        };
      }

  goes_flag : (name : Text) → facts_of s.rules (flag name true) ≡ known_facts (flag name true) → has_row name rows ≡ false
      → Goes s h (parts_of (flag name true)) (rows ++ rows_for (flag name true))
  unfolding walked parts_pass
  goes_flag name known new =
      let before = settled_rows s.rules h.pending h.rows in
      let dashes : bytes_eq (spelled name) (45 ∷ 45 ∷ []) ≡ false = ap (λ (f : Facts). f.0) known in
      let long : long_of (spelled name) ≡ Some (name, None) = ap (λ (f : Facts). f.1) known in
      let by_long : arg_by_long s.rules name ≡ Some (built_flag name) = ap (λ (f : Facts). f.2) known in
      let fresh : has_row name before ≡ false = ap (has_row name) settles.rows_are ∙ new in
      record {
        held = record { rows = used (built_flag name) [] before; pending = None; skip = h.skip };
        walks = rw (dashes, long, by_long) refl;
        passes = rw (dashes, long, by_long, settles.passes, fresh) refl;
        settles = record {
          rows_are = replaced name (reading_by (built_flag name)) (codes "true") before fresh ∙ ap (λ (rs : List Row). rs ++ rows_for (flag name true)) settles.rows_are;
          passes = refl;
        };
      }

  goes_one : (x : ArgumentText) → AreChoices (x ∷ []) → facts_of s.rules x ≡ known_facts x → has_row (name_of x) rows ≡ false → Goes s h (parts_of x) (rows ++ rows_for x)
  goes_one (option name None) is known new = stays [] refl
  goes_one (option name (Some text)) is known new = goes_option name text known new
  goes_one (flag name false) is known new = stays [] refl
  goes_one (flag name true) is known new = goes_flag name known new
  goes_one (value name text) is known new = absurd is
  goes_one (values name texts) is known new = absurd is

-- ---- one after the other

-- none of their names has a row
abbrev pub AreNew : List ArgumentText → List Row → Type 0
AreNew [] rows = Unit {0}
AreNew (x ∷ xs) rows = (has_row (name_of x) rows ≡ false) × AreNew xs rows

are_new_nowhere : (xs : List ArgumentText) → AreNew xs []
are_new_nowhere [] = tt
are_new_nowhere (x ∷ xs) = (refl, are_new_nowhere xs)

neither : (a b : Bool) → (not a && not b) ≡ true → (a ≡ false) × (b ≡ false)
neither false false e = (refl, refl)
neither false true e = absurd (true≢false (sym e))
neither true b e = absurd (true≢false (sym e))

-- the row of one has the name of no other
row_apart : (x : ArgumentText) (id : Text) → bytes_eq (name_of x) id ≡ false → has_row id (rows_for x) ≡ false
row_apart (option name None) id other = refl
row_apart (option name (Some text)) id other = rw other refl
row_apart (flag name false) id other = refl
row_apart (flag name true) id other = rw other refl
row_apart (value name text) id other = refl
row_apart (values name texts) id other = refl

still_new : (x : ArgumentText) (xs : List ArgumentText) (rows : List Row) → list_all (are_two x) xs ≡ true → AreNew xs rows → AreNew xs (rows ++ rows_for x)
still_new x [] rows apart new = tt
still_new x (y ∷ xs) rows apart new =
    let parts = and_parts (are_two x y) (list_all (are_two x) xs) apart in
    let here = neither (bytes_eq (name_of x) (name_of y)) (bytes_eq (name_of y) (name_of x)) parts.0 in
    (has_row-append (name_of y) rows (rows_for x) new.0 (row_apart x (name_of y) here.0), still_new x xs rows parts.1 new.1)

-- of more parts behind
goes_on : (s : Shape) (h : Held) (ps qs : List Part) (between rows : List Row) → (first : Goes s h ps between) → Goes s first.held qs rows → Goes s h (ps ++ qs) rows
goes_on s h ps qs between rows first next = record {
  held = next.held;
  walks = parts_walk-append s.rules (walk_from h) ps qs ∙ ap (λ (w : Walk). parts_walk s.rules w qs) first.walks ∙ next.walks;
  passes = parts_pass-append s (walk_from h) ps qs
      ∙ ap₂ (λ (b : Bool) (w : Walk). b && parts_pass s w qs) first.passes first.walks ∙ next.passes;
  settles = next.settles;
}

first_choice : (x : ArgumentText) (xs : List ArgumentText) → AreChoices (x ∷ xs) → AreChoices (x ∷ []) × AreChoices xs
first_choice (option name text) xs are = (tt, are)
first_choice (flag name is_set) xs are = (tt, are)
first_choice (value name text) xs are = absurd are
first_choice (values name texts) xs are = absurd are

first_known : (rules : List Rule) (x : ArgumentText) (xs : List ArgumentText) → map (facts_of rules) (x ∷ xs) ≡ map known_facts (x ∷ xs)
    → (facts_of rules x ≡ known_facts x) × (map (facts_of rules) xs ≡ map known_facts xs)
first_known rules x xs e = (ap (λ (fs : List Facts). head_or (known_facts x) fs) e, ap tail_of e)
  where
    head_or : Facts → List Facts → Facts
    head_or d [] = d
    head_or d (f ∷ fs) = f

    tail_of : List Facts → List Facts
    tail_of [] = []
    tail_of (f ∷ fs) = fs

pub goes_all : (s : Shape) (xs : List ArgumentText) → AreChoices xs → map (facts_of s.rules) xs ≡ map known_facts xs → are_apart xs ≡ true
    → (h : Held) (rows : List Row) → Settles s h rows → AreNew xs rows → Goes s h (parts_in xs) (rows ++ rows_in xs)
goes_all s [] choices known apart h rows settles new = stays s h rows settles [] refl
goes_all s (x ∷ xs) choices known apart h rows settles new =
    let c = first_choice x xs choices in
    let k = first_known s.rules x xs known in
    let a = and_parts (list_all (are_two x) xs) (are_apart xs) apart in
    let first = goes_one s h rows settles x c.0 k.0 new.0 in
    let next = goes_all s xs c.1 k.1 a.1 first.held (rows ++ rows_for x) first.settles (still_new x xs rows a.0 new.1) in
    subst (Goes s h (parts_of x ++ parts_in xs)) (append_assoc rows (rows_for x) (rows_in xs))
    (goes_on s h (parts_of x) (parts_in xs) (rows ++ rows_for x) ((rows ++ rows_for x) ++ rows_in xs) first next)

-- ---- what is found at the end

-- the row that a rule gets where it is not used
abbrev default_row : Rule → List Text → Option Row
default_row a [] = None
default_row a (v ∷ vs) = Some (record { id = a.id; values = v ∷ vs; count = None; source = Some DefaultValue; reading = reading_by a })

abbrev default_for : Text → Rule → Option Row
default_for id a = if bytes_eq a.id id then default_row a a.defaults else None

abbrev pub defaulted : Text → List Rule → Option Row
defaulted id [] = None
defaulted id (a ∷ rules) = option_or (default_for id a) (defaulted id rules)

or_none : {T : Type 0} (o : Option T) → option_or o None ≡ o
or_none None = refl
or_none (Some x) = refl

or_assoc : {T : Type 0} (a b c : Option T) → option_or (option_or a b) c ≡ option_or a (option_or b c)
or_assoc None b c = refl
or_assoc (Some x) b c = refl

some_found : (id : Text) (rows : List Row) (o : Option Row) → has_row id rows ≡ true → option_or (find_row id rows) o ≡ find_row id rows
some_found id [] o has = absurd (true≢false (sym has))
some_found id (r ∷ rows) o has = go (bytes_eq r.id id) refl has (some_found id rows o)
  where
    go : (b : Bool) → bytes_eq r.id id ≡ b → (b || has_row id rows) ≡ true → (has_row id rows ≡ true → option_or (find_row id rows) o ≡ find_row id rows)
        → option_or (find_row id (r ∷ rows)) o ≡ find_row id (r ∷ rows)
    go true e is behind = rw e refl
    go false e is behind = rw e (behind is)

with_default-found : (id : Text) (rows : List Row) (a : Rule) → find_row id (with_default rows a) ≡ option_or (find_row id rows) (default_for id a)
with_default-found id rows a = go (has_row a.id rows) refl
  where
    behind : (ds : List Text) → has_row a.id rows ≡ false
        → find_row id (default_rows a.id (reading_by a) ds rows) ≡ option_or (find_row id rows) (if bytes_eq a.id id then default_row a ds else None)
    behind [] new = sym (ap (option_or (find_row id rows)) (by (bytes_eq a.id id)) ∙ or_none (find_row id rows))
      where
        by : (b : Bool) → (if b then no_row else no_row) ≡ no_row
        by true = refl
        by false = refl
    behind (v ∷ vs) new = ap (find_row id) (at_row-new a.id (more_values DefaultValue (v ∷ vs)) _ rows new) ∙ find_row-append id rows _

    there : (b : Bool) → bytes_eq a.id id ≡ b → has_row a.id rows ≡ true → find_row id rows ≡ option_or (find_row id rows) (if b then default_row a a.defaults else None)
    there true e has = sym (some_found id rows _ (subst (λ (t : Text). has_row t rows ≡ true) ((bytes_eq-Decides a.id id).0 e) has))
    there false e has = sym (or_none (find_row id rows))

    go : (b : Bool) → has_row a.id rows ≡ b → find_row id (if b then rows else default_rows a.id (reading_by a) a.defaults rows) ≡ option_or (find_row id rows) (default_for id a)
    go true has = there (bytes_eq a.id id) refl has
    go false new = behind a.defaults new

pub defaults-found : (id : Text) (rules : List Rule) (rows : List Row) → find_row id (fold with_default rows rules) ≡ option_or (find_row id rows) (defaulted id rules)
defaults-found id [] rows = sym (or_none (find_row id rows))
defaults-found id (a ∷ rules) rows = defaults-found id rules (with_default rows a)
    ∙ ap (λ (o : Option Row). option_or o (defaulted id rules)) (with_default-found id rows a)
    ∙ or_assoc (find_row id rows) (default_for id a) (defaulted id rules)

-- ---- what is found of each argument

-- the row of its own
abbrev own_row : ArgumentText → Option Row
own_row (option name None) = None
own_row (option name (Some text)) = Some (row_with (built_option name) text)
own_row (flag name false) = None
own_row (flag name true) = Some (row_with (built_flag name) (codes "true"))
own_row (value name text) = None
own_row (values name texts) = None

-- that of its default
abbrev pub default_of : ArgumentText → Option Row
default_of (option name text) = None
default_of (flag name is_set) = default_row (built_flag name) (codes "false" ∷ [])
default_of (value name text) = None
default_of (values name texts) = None

own_found : (x : ArgumentText) → find_row (name_of x) (rows_for x) ≡ own_row x
own_found (option name None) = refl
own_found (option name (Some text)) = rw (same_self name) refl
own_found (flag name false) = refl
own_found (flag name true) = rw (same_self name) refl
own_found (value name text) = refl
own_found (values name texts) = refl

new_in : (x : ArgumentText) (xs : List ArgumentText) → list_all (are_two x) xs ≡ true → has_row (name_of x) (rows_in xs) ≡ false
new_in x [] apart = refl
new_in x (y ∷ xs) apart =
    let parts = and_parts (are_two x y) (list_all (are_two x) xs) apart in
    let here = neither (bytes_eq (name_of x) (name_of y)) (bytes_eq (name_of y) (name_of x)) parts.0 in
    has_row-append (name_of x) (rows_for y) (rows_in xs) (row_apart y (name_of x) here.1) (new_in x xs parts.1)

first_same : {A : Type 0} (x y : A) (xs ys : List A) → (x ∷ xs) ≡ (y ∷ ys) → x ≡ y
first_same x y xs ys e = cc

rest_same : {A : Type 0} (x y : A) (xs ys : List A) → (x ∷ xs) ≡ (y ∷ ys) → xs ≡ ys
rest_same x y xs ys e = cc

each_found : (xs : List ArgumentText) (before after : List Row) → are_apart xs ≡ true → AreNew xs before → AreNew xs after
    → map (λ x. find_row (name_of x) ((before ++ rows_in xs) ++ after)) xs ≡ map own_row xs
each_found [] before after apart new behind = refl
each_found (x ∷ xs) before after apart new behind =
    let a = and_parts (list_all (are_two x) xs) (are_apart xs) apart in
    let n = name_of x in
    let here : find_row n ((before ++ (rows_for x ++ rows_in xs)) ++ after) ≡ own_row x =
    find_row-append n (before ++ (rows_for x ++ rows_in xs)) after
    ∙ (λ i. option_or (find_row-append n before (rows_for x ++ rows_in xs) i) (none_found n after behind.0 i))
    ∙ or_none (option_or (find_row n before) (find_row n (rows_for x ++ rows_in xs)))
    ∙ (λ i. option_or (none_found n before new.0 i) (find_row-append n (rows_for x) (rows_in xs) i))
    ∙ (λ i. option_or (own_found x i) (none_found n (rows_in xs) (new_in x xs a.0) i)) ∙ or_none (own_row x) in
    let others = each_found xs (before ++ rows_for x) after a.1 (still_new x xs before a.0 new.1) behind.1 in
    let same : (before ++ rows_for x) ++ rows_in xs ≡ before ++ (rows_for x ++ rows_in xs) = append_assoc before (rows_for x) (rows_in xs) in
    λ i. here i ∷ (ap (λ (rs : List Row). map (λ y. find_row (name_of y) (rs ++ after)) xs) (sym same) ∙ others) i

one_met : (x : ArgumentText) → AreChoices (x ∷ []) → (rows : List Row) → find_row (name_of x) rows ≡ option_or (own_row x) (default_of x) → met_of rows x ≡ wanted_of x
one_met (option name None) is rows e = ap (λ (o : Option Row). met_first (option_and_then (λ r. slice_get r.values 0) o)) e
one_met (option name (Some text)) is rows e = ap (λ (o : Option Row). met_first (option_and_then (λ r. slice_get r.values 0) o)) e
one_met (flag name false) is rows e = ap (λ (o : Option Row). met_first (option_and_then (λ r. slice_get r.values 0) o)) e
one_met (flag name true) is rows e = ap (λ (o : Option Row). met_first (option_and_then (λ r. slice_get r.values 0) o)) e
one_met (value name text) is rows e = absurd is
one_met (values name texts) is rows e = absurd is

all_met : (xs : List ArgumentText) → AreChoices xs → (rules : List Rule) (rows : List Row) → map (λ x. find_row (name_of x) rows) xs ≡ map own_row xs
    → map (λ x. defaulted (name_of x) rules) xs ≡ map default_of xs → map (met_of (fold with_default rows rules)) xs ≡ map wanted_of xs
all_met [] choices rules rows found defaults = refl
all_met (x ∷ xs) choices rules rows found defaults =
    let c = first_choice x xs choices in
    let f = first_same (find_row (name_of x) rows) (own_row x) _ _ found in
    let d = first_same (defaulted (name_of x) rules) (default_of x) _ _ defaults in
    let here = one_met x c.0 (fold with_default rows rules) (defaults-found (name_of x) rules rows ∙ (λ i. option_or (f i) (d i))) in
    let others = all_met xs c.1 rules rows (rest_same (find_row (name_of x) rows) (own_row x) _ _ found) (rest_same (defaulted (name_of x) rules) (default_of x) _ _ defaults) in
    λ i. here i ∷ others i

-- ---- a command of options and flags, and of as many values behind them as there are

-- the names of its options and flags find their rules, and a default each flag; no two names are the same, nor is that of the values
pub record HasChoices (s : Shape) (rule : Rule) (xs : List ArgumentText) : Type 0 where
  pub choices : AreChoices xs
  pub known : map (facts_of s.rules) xs ≡ map known_facts xs
  pub apart : are_apart (values rule.id [] ∷ xs) ≡ true
  pub defaults : map (λ x. defaulted (name_of x) s.rules) xs ≡ map default_of xs
  pub none_by_default : defaulted rule.id s.rules ≡ None
  pub first : arg_by_index s.rules 1 ≡ Some rule
  pub valid : (rows : List Row) → (list_all default_passes s.rules && is_valid s rows false) ≡ true

nothing_settles : (s : Shape) → Settles s nothing_held []
nothing_settles s = record { rows_are = refl; passes = refl }

-- the row of the values
abbrev each_rows : Rule → List Text → List Row
each_rows rule [] = []
each_rows rule (text ∷ texts) = record { id = rule.id; values = text ∷ texts; count = None; source = Some CommandLine; reading = reading_by rule } ∷ []

each_texts : (rule : Rule) (texts : List Text) → unwrap_or (option_map (λ (r : Row). r.values) (find_row rule.id (each_rows rule texts))) [] ≡ texts
each_texts rule [] = refl
each_texts rule (text ∷ texts) = rw (same_self rule.id) refl

each_new : (rule : Rule) (texts : List Text) (xs : List ArgumentText) → list_all (are_two (values rule.id [])) xs ≡ true → AreNew xs (each_rows rule texts)
each_new rule texts [] apart = tt
each_new rule texts (x ∷ xs) apart =
    let parts = and_parts (are_two (values rule.id []) x) (list_all (are_two (values rule.id [])) xs) apart in
    (here texts (neither (bytes_eq rule.id (name_of x)) (bytes_eq (name_of x) rule.id) parts.0).0, each_new rule texts xs parts.1)
  where
    here : (texts : List Text) → bytes_eq rule.id (name_of x) ≡ false → has_row (name_of x) (each_rows rule texts) ≡ false
    here [] other = refl
    here (text ∷ texts) other = rw other refl

module _ (s : Shape) (rule : Rule) (xs : List ArgumentText) (has : HasChoices s rule xs) where
  apart_from : (list_all (are_two (values rule.id [])) xs ≡ true) × (are_apart xs ≡ true)
  apart_from = and_parts (list_all (are_two (values rule.id [])) xs) (are_apart xs) has.apart

  goes : Goes s nothing_held (parts_in xs) (rows_in xs)
  goes = goes_all s xs has.choices has.known apart_from.1 nothing_held [] (nothing_settles s) (are_new_nowhere xs)

  new_values : has_row rule.id (rows_in xs) ≡ false
  new_values = new_in (values rule.id []) xs apart_from.0

  -- behind their rows stands that of the values
  mets_are : (texts : List Text) → map (met_of (fold with_default (rows_in xs ++ each_rows rule texts) s.rules)) (xs ++ values rule.id texts ∷ [])
      ≡ map wanted_of xs ++ Some texts ∷ []
  mets_are texts =
      let rows = fold with_default (rows_in xs ++ each_rows rule texts) s.rules in
      let choices = all_met xs has.choices s.rules (rows_in xs ++ each_rows rule texts)
      (each_found xs [] (each_rows rule texts) apart_from.1 (are_new_nowhere xs) (each_new rule texts xs apart_from.0)) has.defaults in
      map-append (met_of rows) xs (values rule.id texts ∷ []) ∙ (λ i. choices i ++ Some (values_met i) ∷ [])
    where
      texts_in : Option Row → List Text
      texts_in o = unwrap_or (option_map (λ r. r.values) o) []

      values_met : texts_of rule.id (fold with_default (rows_in xs ++ each_rows rule texts) s.rules) ≡ texts
      values_met = ap texts_in (defaults-found rule.id s.rules (rows_in xs ++ each_rows rule texts)
          ∙ (λ i. option_or (find_row-append rule.id (rows_in xs) (each_rows rule texts) i) (has.none_by_default i))
          ∙ or_none (option_or (find_row rule.id (rows_in xs)) (find_row rule.id (each_rows rule texts)))
          ∙ (λ i. option_or (none_found rule.id (rows_in xs) new_values i) (find_row rule.id (each_rows rule texts)))) ∙ each_texts rule texts

  -- ---- where none is given

  pub none_taken : taken_and_met s (xs ++ values rule.id [] ∷ []) (parts_in xs) ≡ (true, map wanted_of xs ++ Some [] ∷ [])
  none_taken =
      let held : held_after s (parts_in xs) ≡ goes.held = ap (λ (w : Walk). w.held) goes.walks in
      let rows : finished s.rules (held_after s (parts_in xs)) ≡ fold with_default (rows_in xs ++ []) s.rules =
      ap (finished s.rules) held ∙ ap (λ (rs : List Row). fold with_default rs s.rules) (goes.settles.rows_are ∙ sym (append-nil (rows_in xs))) in
      let taken : takes_parts s (parts_in xs) ≡ true =
      ap₂ (λ (b : Bool) (h : Held). b && (settle_passes s.rules s.args_override_self h && (list_all default_passes s.rules && is_valid s (finished s.rules h) false))) goes.passes held
      ∙ ap₂ (λ (b c : Bool). b && c) goes.settles.passes (has.valid (finished s.rules goes.held)) in
      λ i. (taken i, (ap (λ (rs : List Row). map (met_of rs) (xs ++ values rule.id [] ∷ [])) rows ∙ mets_are []) i)

  -- ---- where some are

  module _ (text : Text) (texts : List Text) (takes : TakesEach s rule) where
    abbrev first_parts : List Part
    first_parts = parts_in xs ++ given text ∷ []

    walked_first : parts_walk s.rules (walk_from nothing_held) first_parts
        ≡ behind_word rule text (settled_rows s.rules goes.held.pending goes.held.rows) goes.held.skip 1
    walked_first = parts_walk-append s.rules (walk_from nothing_held) (parts_in xs) (given text ∷ [])
        ∙ ap (λ (w : Walk). parts_walk s.rules w (given text ∷ [])) goes.walks ∙ one goes.held
      where
        one : (h : Held) → part_walked s.rules (walk_from h) (given text) ≡ behind_word rule text (settled_rows s.rules h.pending h.rows) h.skip 1
        one h = rw (has.first, takes.is_multiple, takes.is_single, takes.is_met, and-false (is_pending rule h.pending)) refl

    first_passes : parts_pass s (walk_from nothing_held) first_parts ≡ true
    unfolding parts_pass
    first_passes = parts_pass-append s (walk_from nothing_held) (parts_in xs) (given text ∷ [])
        ∙ ap₂ (λ (b : Bool) (w : Walk). b && parts_pass s w (given text ∷ [])) goes.passes goes.walks ∙ one goes.held goes.settles.passes
      where
        one : (h : Held) → settle_passes s.rules s.args_override_self h ≡ true → parts_pass s (walk_from h) (given text ∷ []) ≡ true
        one h passes = rw (has.first, takes.is_single, and-false (is_pending rule h.pending), passes) refl

    rows_first : rows_of_each s rule (held_after s first_parts) texts ≡ fold with_default (rows_in xs ++ each_rows rule (text ∷ texts)) s.rules
    rows_first =
        let id = rule.id in
        let how = reading_by rule in
        let before = settled_rows s.rules goes.held.pending goes.held.rows in
        let new : has_row id before ≡ false = ap (has_row id) goes.settles.rows_are ∙ new_values in
        ap (λ (rs : List Row). fold with_default rs s.rules)
        (ap (λ (w : Walk). added id how texts (settled s.rules w.held).rows) walked_first
        ∙ ap (λ (h : Held). added id how texts h.rows) (settles s rule takes goes.held.skip 1 has.first text before)
        ∙ added_twice id how (text ∷ []) texts before takes.named
        ∙ at_row-new id (more_values CommandLine (text ∷ texts)) (each_rows rule (text ∷ texts)) before new
        ∙ ap (λ (rs : List Row). rs ++ each_rows rule (text ∷ texts)) goes.settles.rows_are)

    pub some_taken : each_taken_and_met s rule (xs ++ values rule.id (text ∷ texts) ∷ []) text texts (parts_in xs) ≡ each_taken rule text texts (map wanted_of xs)
    some_taken =
        let taken : takes_each s rule first_parts texts ≡ true =
        ap₂ (λ (b c : Bool). b && c) first_passes (has.valid (rows_of_each s rule (held_after s first_parts) texts)) in
        λ i. (
          (taken i, (ap (λ (rs : List Row). map (met_of rs) (xs ++ values rule.id (text ∷ texts) ∷ [])) rows_first ∙ mets_are (text ∷ texts)) i),
          place_of (walked_first i),
        )

-- clap takes a command of options and flags that may be left out, of which the last argument takes as many texts as there are
pub parsed_choices : (program : Text) (a : App) (s : CommandWords) (xs : List ArgumentText) (rule : Rule) (texts : List Text) → TakesEach (leaf_of a) rule
    → HasChoices (leaf_of a) rule xs → IsOf program a s (xs ++ values rule.id texts ∷ [])
parsed_choices program a s xs rule texts takes has = taken_with program a s [] xs rule texts takes has.first
    (none_taken (leaf_of a) rule xs has) (λ text more. some_taken (leaf_of a) rule xs has text more takes)
