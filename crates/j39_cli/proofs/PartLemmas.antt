-- How clap walks over words of which some are written out and some are values of the caller's.
--
-- A walk computes on words that are written out, but it is stuck at a value, whose letters it looks
-- at. Of a value it is known that it has a letter and that the first is no `-`: clap takes it as it
-- stands. So here a command line is a list of parts, and each lemma turns clap's walk over the words
-- into one over the parts, which looks at no letter of a value and so computes to its end.
use Rattle.j39_cli.proofs.Common.{◌≡◌, ◌∙◌, ◌&&◌, ◌||◌, ◌==◌, ℕ, Bool, List, [], ◌∷◌, ◌++◌, map, fold, refl, ap, ap₂, sym, subst, eqb-true, true, false, Some, None, Option, is_some, if◌then◌else◌, append_assoc, append-nil, option_map_or, list_all, find, option_map, Rule, Shape, Text, answers_to, finished, nothing_held, rows_after, Held, Names, Step, Waiting, Walk, idle, option, positional, value, after_step, plain_word, word_met, walked_from, walk, walk_from, built_takes, default_passes, entered_passes, is_valid, level_passes, settle_passes, step_passes, turn_passes, word_passes, entered, label_of, names_of, rows_at}
use Rattle.clap.specs.Walk.{walked}
use Rattle.clap.specs.Takes.{walk_passes}
use Rattle.clap.specs.Simple.{App}
use Rattle.j39_cli.specs.Form.{IsValue, hyphen}

-- ---- parts

-- a word that is written out, or a value
pub data Part : Type 0 where
  written : Text → Part
  given : Text → Part

abbrev pub text_of : Part → Text
text_of (written word) = word
text_of (given word) = word

abbrev IsPart : Part → Type 0
IsPart (written word) = Unit {0}
IsPart (given word) = IsValue word

abbrev pub AreParts : List Part → Type 0
AreParts [] = Unit {0}
AreParts (x ∷ xs) = IsPart x × AreParts xs

-- ---- one step of the walk at a level with no subcommands

-- what clap makes of a value, without a look at its letters
abbrev value_met : List Rule → Bool → Waiting → Text → Held → Held × Step
value_met rules is_trailing waiting word held = if is_trailing then (held, value) else plain_word rules waiting word held

abbrev value_walked : List Rule → Option (Text × List Text) → Walk → Text → Walk
value_walked rules (Some stop) w word = record w { stopped = Some (stop.0, stop.1 ++ word ∷ []) }
value_walked rules None w word =
    let met = value_met rules w.is_trailing w.waiting word w.held in
    after_step rules word w met.0 met.1

abbrev pub part_walked : List Rule → Walk → Part → Walk
part_walked rules w (written word) = walked rules [] w word
part_walked rules w (given word) = value_walked rules w.stopped w word

-- a word of one letter: `-`, or another
by_letter : (P : ℕ → Type 0) (x : ℕ) → P hyphen → ((x == hyphen) ≡ false → P x) → P x
by_letter P x is_hyphen other = go (x == hyphen) refl
  where
    go : (b : Bool) → (x == hyphen) ≡ b → P x
    go true e = subst P (sym (eqb-true x hyphen e)) is_hyphen
    go false e = other e

word_met-value : (rules : List Rule) (is_trailing : Bool) (waiting : Waiting) (position : ℕ) (word : Text) (held : Held) → IsValue word
    → word_met rules [] is_trailing waiting position word held ≡ value_met rules is_trailing waiting word held
word_met-value rules t waiting position [] held is_value = absurd is_value
word_met-value rules true waiting position (x ∷ xs) held is_value = refl
word_met-value rules false idle position (x ∷ []) held is_value = by_letter (λ y. word_met rules [] false idle position (y ∷ []) held
    ≡ value_met rules false idle (y ∷ []) held) x refl (λ e. simp e)
word_met-value rules false (option id) position (x ∷ []) held is_value = by_letter (λ y. word_met rules [] false (option id) position (y ∷ []) held
    ≡ value_met rules false (option id) (y ∷ []) held) x refl (λ e. simp e)
word_met-value rules false positional position (x ∷ []) held is_value = by_letter (λ y. word_met rules [] false positional position (y ∷ []) held
    ≡ value_met rules false positional (y ∷ []) held) x refl (λ e. simp e)
word_met-value rules false idle position (x ∷ y ∷ ys) held is_value = simp is_value
word_met-value rules false (option id) position (x ∷ y ∷ ys) held is_value = simp is_value
word_met-value rules false positional position (x ∷ y ∷ ys) held is_value = simp is_value

word_passes-value : (s : Shape) (is_trailing : Bool) (waiting : Waiting) (word : Text) (held : Held) → IsValue word
    → word_passes s [] is_trailing waiting word held ≡ true
word_passes-value s t waiting [] held is_value = absurd is_value
word_passes-value s true waiting (x ∷ xs) held is_value = refl
word_passes-value s false idle (x ∷ []) held is_value = by_letter (λ y. word_passes s [] false idle (y ∷ []) held ≡ true) x refl (λ e. simp e)
word_passes-value s false (option id) (x ∷ []) held is_value = by_letter (λ y. word_passes s [] false (option id) (y ∷ []) held ≡ true) x refl (λ e. simp e)
word_passes-value s false positional (x ∷ []) held is_value = by_letter (λ y. word_passes s [] false positional (y ∷ []) held ≡ true) x refl (λ e. simp e)
word_passes-value s false idle (x ∷ y ∷ ys) held is_value = simp is_value
word_passes-value s false (option id) (x ∷ y ∷ ys) held is_value = simp is_value
word_passes-value s false positional (x ∷ y ∷ ys) held is_value = simp is_value

walked-part : (rules : List Rule) (w : Walk) (x : Part) → IsPart x → walked rules [] w (text_of x) ≡ part_walked rules w x
unfolding walked
walked-part rules w (written word) is_part = refl
walked-part rules w (given word) is_part = go w.stopped is_part
  where
    go : (stopped : Option (Text × List Text)) → IsValue word → walked_from rules [] stopped w word ≡ value_walked rules stopped w word
    go (Some stop) is_value = refl
    go None is_value = ap (λ (met : Held × Step). after_step rules word w met.0 met.1)
        (word_met-value rules w.is_trailing w.waiting w.position word w.held is_value)

-- whether clap takes the part
abbrev pub part_passes : Shape → Walk → Part → Bool
part_passes s w (written word) = turn_passes s [] w word
part_passes s w (given word) =
    let met = value_met s.rules w.is_trailing w.waiting word w.held in
    is_some w.stopped || (true && step_passes s w.position met.0 met.1)

turn_passes-part : (s : Shape) (w : Walk) (x : Part) → IsPart x → turn_passes s [] w (text_of x) ≡ part_passes s w x
turn_passes-part s w (written word) is_part = refl
turn_passes-part s w (given word) is_part = ap₂ (λ (b : Bool) (met : Held × Step). is_some w.stopped || (b && step_passes s w.position met.0 met.1))
    (word_passes-value s w.is_trailing w.waiting word w.held is_part)
    (word_met-value s.rules w.is_trailing w.waiting w.position word w.held is_part)

-- ---- the whole walk at a level with no subcommands

abbrev pub parts_walk : List Rule → Walk → List Part → Walk
parts_walk rules w xs = fold (part_walked rules) w xs

walk-parts : (rules : List Rule) (w : Walk) (xs : List Part) → AreParts xs → fold (walked rules []) w (map text_of xs) ≡ parts_walk rules w xs
walk-parts rules w [] are = refl
walk-parts rules w (x ∷ xs) are = ap (λ (u : Walk). fold (walked rules []) u (map text_of xs)) (walked-part rules w x are.0)
    ∙ walk-parts rules (part_walked rules w x) xs are.1

unfoldable pub parts_pass : Shape → Walk → List Part → Bool
parts_pass s w [] = true
parts_pass s w (x ∷ xs) = part_passes s w x && parts_pass s (part_walked s.rules w x) xs

walk_passes-parts : (s : Shape) (w : Walk) (xs : List Part) → AreParts xs → walk_passes s [] w (map text_of xs) ≡ parts_pass s w xs
unfolding walk_passes parts_pass
walk_passes-parts s w [] are = refl
walk_passes-parts s w (x ∷ xs) are = ap₂ (λ (b c : Bool). b && c) (turn_passes-part s w x are.0)
    (ap (λ (u : Walk). walk_passes s [] u (map text_of xs)) (walked-part s.rules w x are.0) ∙ walk_passes-parts s (part_walked s.rules w x) xs are.1)

-- what clap holds after the parts, and whether it takes them all
abbrev pub held_after : Shape → List Part → Held
held_after s xs = (parts_walk s.rules (walk_from nothing_held) xs).held

abbrev pub takes_parts : Shape → List Part → Bool
takes_parts s xs = parts_pass s (walk_from nothing_held) xs && (settle_passes s.rules s.args_override_self (held_after s xs)
    && (list_all default_passes s.rules && is_valid s (finished s.rules (held_after s xs)) false))

pub level_passes-parts : (s : Shape) (xs : List Part) → AreParts xs → level_passes s [] nothing_held (map text_of xs) false ≡ takes_parts s xs
level_passes-parts s xs are = ap₂ (λ (b : Bool) (w : Walk). b && (settle_passes s.rules s.args_override_self w.held
    && (list_all default_passes s.rules && is_valid s (finished s.rules w.held) false)))
    (walk_passes-parts s (walk_from nothing_held) xs are) (walk-parts s.rules (walk_from nothing_held) xs are)

pub rows_after-parts : (s : Shape) (xs : List Part) → AreParts xs → rows_after s.rules [] (map text_of xs) ≡ finished s.rules (held_after s xs)
rows_after-parts s xs are = ap (λ (w : Walk). finished s.rules w.held) (walk-parts s.rules (walk_from nothing_held) xs are)

-- ---- the level above, whose walk stops at the subcommand's name and hands on the rest

walk-stopped : (rules : List Rule) (names : Names) (w : Walk) (name : Text) (front rest : List Text)
    → fold (walked rules names) (record w { stopped = Some (name, front) }) rest ≡ record w { stopped = Some (name, front ++ rest) }
unfolding walked
walk-stopped rules names w name front [] = ap (λ (words : List Text). record w { stopped = Some (name, words) }) (sym (append-nil front))
walk-stopped rules names w name front (x ∷ xs) = walk-stopped rules names w name (front ++ x ∷ []) xs
    ∙ ap (λ (words : List Text). record w { stopped = Some (name, words) }) (append_assoc front (x ∷ []) xs)

walk_passes-stopped : (s : Shape) (names : Names) (w : Walk) (name : Text) (front rest : List Text)
    → walk_passes s names (record w { stopped = Some (name, front) }) rest ≡ true
unfolding walked walk_passes
walk_passes-stopped s names w name front [] = refl
walk_passes-stopped s names w name front (x ∷ xs) = walk_passes-stopped s names w name (front ++ x ∷ []) xs

abbrev start : Walk
start = walk_from nothing_held

-- the word names the subcommand s of the built command a, which asks for nothing else
pub record Enters (a : App) (word : Text) (s : Shape) : Type 0 where
  pub step : walked a.top.rules (names_of a) start word ≡ record start { stopped = Some (s.name, []) }
  pub passes : turn_passes a.top (names_of a) start word ≡ true
  pub found : find (λ x. answers_to s.name (label_of x)) a.subs ≡ Some s
  pub checks : (list_all default_passes a.top.rules && is_valid a.top (finished a.top.rules nothing_held) true) ≡ true

walk-enters : (a : App) (word : Text) (s : Shape) (rest : List Text) → Enters a word s
    → walk a.top.rules (names_of a) nothing_held (word ∷ rest) ≡ record start { stopped = Some (s.name, rest) }
walk-enters a word s rest e = ap (λ (w : Walk). fold (walked a.top.rules (names_of a)) w rest) e.step
    ∙ walk-stopped a.top.rules (names_of a) start s.name [] rest

-- the subcommand that clap enters, with its rows
pub entered-enters : (a : App) (word : Text) (s : Shape) (rest : List Text) → Enters a word s
    → entered a (walk a.top.rules (names_of a) nothing_held (word ∷ rest)).stopped ≡ Some (s.name, rows_after s.rules [] rest)
entered-enters a word s rest e = ap (λ (w : Walk). entered a w.stopped) (walk-enters a word s rest e)
    ∙ ap (λ (o : Option Shape). option_map (λ (x : Shape). rows_at x rest) o) e.found

walk_passes-enters : (a : App) (word : Text) (s : Shape) (rest : List Text) → Enters a word s
    → walk_passes a.top (names_of a) start (word ∷ rest) ≡ true
unfolding walk_passes
walk_passes-enters a word s rest e = ap₂ (λ (b c : Bool). b && c) e.passes
    (ap (λ (w : Walk). walk_passes a.top (names_of a) w rest) e.step ∙ walk_passes-stopped a.top (names_of a) start s.name [] rest)

-- clap takes the words, where the subcommand takes the rest
pub built_takes-enters : (a : App) (word : Text) (s : Shape) (rest : List Text) → Enters a word s
    → level_passes s [] nothing_held rest false ≡ true → built_takes a nothing_held (word ∷ rest) ≡ true
built_takes-enters a word s rest e h =
    ap₂ (λ (w : Walk) (b : Bool). entered_passes a w.stopped && (b && (settle_passes a.top.rules a.top.args_override_self w.held
    && (list_all default_passes a.top.rules && is_valid a.top (finished a.top.rules w.held) (is_some (entered a w.stopped))))))
    (walk-enters a word s rest e) (walk_passes-enters a word s rest e)
    ∙ ap (λ (o : Option Shape). option_map_or (λ x. level_passes x [] nothing_held rest false) o true && (list_all default_passes a.top.rules
    && is_valid a.top (finished a.top.rules nothing_held) (is_some (option_map (λ x. rows_at x rest) o)))) e.found
    ∙ ap₂ (λ (b c : Bool). b && c) h e.checks
