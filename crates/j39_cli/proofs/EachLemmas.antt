-- How clap walks over the values of an argument that takes as many as there are, each in a word of its own.
--
-- Each such word ends the use of the word before. So what clap holds at the end is what it holds behind the first word, with
-- the others as more values: a form that computes, however many there are.
use Rattle.j39_cli.proofs.Common.{◌≡◌, ◌∙◌, ◌&&◌, ℕ, Bool, true, false, List, [], ◌∷◌, ◌++◌, Option, Some, None, ap, ap₂, append-nil, append_assoc, fold, map, refl, sym, and-true, and_assoc, list_all, bytes_eq, Row, Rule, Shape, Text, Held, Walk, action_of, arg_by_id, arg_by_index, finished, is_multiple, nothing_held, positional, reading_by, settled, stronger, takes_several, walk_from, with_default, with_values, default_passes, is_valid, settle_passes, use_passes, CommandLine, DefaultValue, Reading}
use Rattle.clap.specs.declared.builder.action.ArgAction.TheVariants.{Append}
use Rattle.clap.specs.declared.parser.matches.ValueSource.{ValueSource}
use Rattle.j39_cli.proofs.PartLemmas.{Part, given, held_after, part_passes, part_walked, parts_pass, parts_walk, takes_parts}

-- ---- values of one row

abbrev pub added : Text → Reading → List Text → List Row → List Row
added id how values rows = with_values id how CommandLine values rows

-- a row that came of words is one that came of words
of_words : (source : Option ValueSource) → stronger source CommandLine ≡ CommandLine
of_words None = refl
of_words (Some DefaultValue) = refl
of_words (Some CommandLine) = refl

-- first some values, then more
pub added_twice : (id : Text) (how : Reading) (xs ys : List Text) (rows : List Row) → bytes_eq id id ≡ true
    → added id how ys (added id how xs rows) ≡ added id how (xs ++ ys) rows
added_twice id how xs ys [] same = rw same refl
added_twice id how xs ys (r ∷ rows) same = go (bytes_eq r.id id) refl (added_twice id how xs ys rows same)
  where
    go : (b : Bool) → bytes_eq r.id id ≡ b → added id how ys (added id how xs rows) ≡ added id how (xs ++ ys) rows
        → added id how ys (added id how xs (r ∷ rows)) ≡ added id how (xs ++ ys) (r ∷ rows)
    go true e others = rw e (rw (e, of_words r.source, append_assoc r.values xs ys) refl)
    go false e others = rw e (rw e (ap (λ (rs : List Row). r ∷ rs) others))

added_none : (id : Text) (how : Reading) (xs : List Text) (rows : List Row) → bytes_eq id id ≡ true
    → added id how [] (added id how xs rows) ≡ added id how xs rows
added_none id how xs rows same = added_twice id how xs [] rows same ∙ ap (λ (ts : List Text). added id how ts rows) (append-nil xs)

-- ---- one word more

-- the rule of an argument that takes each word that is no flag as one more use, whatever came before
pub record TakesEach (s : Shape) (a : Rule) : Type 0 where
  pub appends : action_of a ≡ Append
  pub is_multiple : is_multiple a ≡ true
  pub is_single : takes_several a ≡ false
  pub is_met : a.trailing_var_arg ≡ false
  pub known : arg_by_id s.rules a.id ≡ Some a
  pub named : bytes_eq a.id a.id ≡ true
  pub passes : (text : Text) (rows : List Row) → use_passes s.args_override_self a (text ∷ []) rows ≡ true

-- where clap stands behind a word of the argument
abbrev pub behind_word : Rule → Text → List Row → ℕ → ℕ → Walk
behind_word a text rows skip position = record {
  held = record { rows = rows; pending = Some (a.id, text ∷ []); skip = skip };
  waiting = positional;
  position = position;
  is_trailing = false;
  stopped = None;
}

module _ (s : Shape) (a : Rule) (takes : TakesEach s a) (skip position : ℕ) (here : arg_by_index s.rules position ≡ Some a) where
  abbrev with_text : Text → List Row → List Row
  with_text text rows = added a.id (reading_by a) (text ∷ []) rows

  pub settles : (text : Text) (rows : List Row) → settled s.rules (behind_word a text rows skip position).held
      ≡ record { rows = with_text text rows; pending = None; skip = skip }
  settles text rows = rw (takes.known, takes.appends) refl

  one_more : (text more : Text) (rows : List Row) → part_walked s.rules (behind_word a text rows skip position) (given more)
      ≡ behind_word a more (with_text text rows) skip position
  one_more text more rows = rw (here, takes.is_multiple, takes.is_single, takes.is_met, takes.named, takes.known, takes.appends) refl

  passes_more : (text more : Text) (rows : List Row) → part_passes s (behind_word a text rows skip position) (given more) ≡ true
  passes_more text more rows = rw (here, takes.is_single, takes.named, takes.known, takes.passes text rows) refl

  -- ---- all the others

  -- where clap stands at the end
  pub record IsBehindAll (texts : List Text) (text : Text) (rows : List Row) (end : Walk) : Type 0 where
    pub last : Text
    pub before : List Row
    pub is : end ≡ behind_word a last before skip position
    pub rows_are : with_text last before ≡ added a.id (reading_by a) texts (with_text text rows)

  all_more : (texts : List Text) (text : Text) (rows : List Row)
      → IsBehindAll texts text rows (parts_walk s.rules (behind_word a text rows skip position) (map given texts))
  all_more [] text rows = record {
    last = text;
    before = rows;
    is = refl;
    rows_are = sym (added_none a.id (reading_by a) (text ∷ []) rows takes.named);
  }
  all_more (more ∷ texts) text rows =
      let others = all_more texts more (with_text text rows) in
      record {
        last = others.last;
        before = others.before;
        is = ap (λ (w : Walk). parts_walk s.rules w (map given texts)) (one_more text more rows) ∙ others.is;
        rows_are = others.rows_are
            ∙ added_twice a.id (reading_by a) (more ∷ []) texts (with_text text rows) takes.named;
      }

  all_pass : (texts : List Text) (text : Text) (rows : List Row)
      → parts_pass s (behind_word a text rows skip position) (map given texts) ≡ true
  unfolding parts_pass
  all_pass [] text rows = refl
  all_pass (more ∷ texts) text rows = ap₂ (λ (b c : Bool). b && c) (passes_more text more rows)
      (ap (λ (w : Walk). parts_pass s w (map given texts)) (one_more text more rows) ∙ all_pass texts more (with_text text rows))

-- ---- the whole walk

-- what clap has found at the end, by what it holds behind the first word
abbrev pub rows_of_each : Shape → Rule → Held → List Text → List Row
rows_of_each s a held texts = fold with_default (added a.id (reading_by a) texts (settled s.rules held).rows) s.rules

-- whether it takes all words, if it takes the first
abbrev pub takes_each : Shape → Rule → List Part → List Text → Bool
takes_each s a ps texts = parts_pass s (walk_from nothing_held) ps
    && (list_all default_passes s.rules && is_valid s (rows_of_each s a (held_after s ps) texts) false)

-- the words ps end with the first of the argument
pub record EndsWith (s : Shape) (a : Rule) (ps : List Part) (text : Text) : Type 0 where
  pub takes : TakesEach s a
  pub position : ℕ
  pub here : arg_by_index s.rules position ≡ Some a
  pub is : parts_walk s.rules (walk_from nothing_held) ps ≡ behind_word a text (held_after s ps).rows (held_after s ps).skip position

pub parts_walk-append : (rules : List Rule) (w : Walk) (ps qs : List Part) → parts_walk rules w (ps ++ qs) ≡ parts_walk rules (parts_walk rules w ps) qs
parts_walk-append rules w [] qs = refl
parts_walk-append rules w (p ∷ ps) qs = parts_walk-append rules (part_walked rules w p) ps qs

pub parts_pass-append : (s : Shape) (w : Walk) (ps qs : List Part) → parts_pass s w (ps ++ qs) ≡ parts_pass s w ps && parts_pass s (parts_walk s.rules w ps) qs
unfolding parts_pass
parts_pass-append s w [] qs = refl
parts_pass-append s w (p ∷ ps) qs = ap (λ (b : Bool). part_passes s w p && b) (parts_pass-append s (part_walked s.rules w p) ps qs)
    ∙ sym (and_assoc (part_passes s w p) (parts_pass s (part_walked s.rules w p) ps) (parts_pass s (parts_walk s.rules (part_walked s.rules w p) ps) qs))

module _ (s : Shape) (a : Rule) (ps : List Part) (text : Text) (ends : EndsWith s a ps text) (texts : List Text) where
  abbrev end_of_walk : Walk
  end_of_walk = parts_walk s.rules (behind_word a text (held_after s ps).rows (held_after s ps).skip ends.position) (map given texts)

  walks : parts_walk s.rules (walk_from nothing_held) (ps ++ map given texts) ≡ end_of_walk
  walks = parts_walk-append s.rules (walk_from nothing_held) ps (map given texts)
      ∙ ap (λ (w : Walk). parts_walk s.rules w (map given texts)) ends.is

  behind : IsBehindAll s a ends.takes (held_after s ps).skip ends.position ends.here texts text (held_after s ps).rows end_of_walk
  behind = all_more s a ends.takes (held_after s ps).skip ends.position ends.here texts text (held_after s ps).rows

  ended : parts_walk s.rules (walk_from nothing_held) (ps ++ map given texts) ≡ behind_word a behind.last behind.before (held_after s ps).skip ends.position
  ended = walks ∙ behind.is

  first_rows : (settled s.rules (held_after s ps)).rows ≡ added a.id (reading_by a) (text ∷ []) (held_after s ps).rows
  first_rows = ap (λ (w : Walk). (settled s.rules w.held).rows) ends.is
      ∙ ap (λ (h : Held). h.rows) (settles s a ends.takes (held_after s ps).skip ends.position ends.here text (held_after s ps).rows)

  last_rows : (settled s.rules (held_after s (ps ++ map given texts))).rows ≡ added a.id (reading_by a) (behind.last ∷ []) behind.before
  last_rows = ap (λ (w : Walk). (settled s.rules w.held).rows) ended
      ∙ ap (λ (h : Held). h.rows) (settles s a ends.takes (held_after s ps).skip ends.position ends.here behind.last behind.before)

  -- what is found
  pub found_each : finished s.rules (held_after s (ps ++ map given texts)) ≡ rows_of_each s a (held_after s ps) texts
  found_each = ap (λ (rows : List Row). fold with_default rows s.rules)
      (last_rows ∙ behind.rows_are ∙ ap (added a.id (reading_by a) texts) (sym first_rows))

  last_settles : settle_passes s.rules s.args_override_self (held_after s (ps ++ map given texts)) ≡ true
  last_settles = ap (λ (w : Walk). settle_passes s.rules s.args_override_self w.held) ended
      ∙ rw ends.takes.known (ends.takes.passes behind.last behind.before)

  all_words_pass : parts_pass s (walk_from nothing_held) (ps ++ map given texts) ≡ parts_pass s (walk_from nothing_held) ps
  all_words_pass = parts_pass-append s (walk_from nothing_held) ps (map given texts)
      ∙ ap (λ (w : Walk). parts_pass s (walk_from nothing_held) ps && parts_pass s w (map given texts)) ends.is
      ∙ ap (λ (b : Bool). parts_pass s (walk_from nothing_held) ps && b)
      (all_pass s a ends.takes (held_after s ps).skip ends.position ends.here texts text (held_after s ps).rows)
      ∙ and-true (parts_pass s (walk_from nothing_held) ps)

  -- all is taken
  pub taken_each : takes_parts s (ps ++ map given texts) ≡ takes_each s a ps texts
  taken_each = ap₂ (λ (b c : Bool). b && (c && (list_all default_passes s.rules
      && is_valid s (finished s.rules (held_after s (ps ++ map given texts))) false))) all_words_pass last_settles
      ∙ ap (λ (rows : List Row). parts_pass s (walk_from nothing_held) ps && (list_all default_passes s.rules && is_valid s rows false)) found_each
