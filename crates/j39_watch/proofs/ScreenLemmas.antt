-- Lines of which there is room for so many.
use Rattle.j39_watch.proofs.Common.{◌≡◌, ◌<◌, ◌≤◌, ◌+◌, ◌-◌, ◌++◌, ◌∷◌, ◌∙◌, [], ℕ, zero, suc, Bool, true, false, List, Option, Result, None, Some, Ok, Err, append-nil, ap, arith, drop, get_or, if◌then◌else◌, length, length-append, map, nat_le, refl, sym, take, take-append-drop, IsErr, stamp_micros, holder_of, capped, flat_map, flat_map-append, flat_map-map, flat_map-next, Puts, Device, puts_as, puts_done, puts_first, puts_then, NamingRecord, naming_of}
use Rattle.std.specs.Prelude.{◌&&◌, bytes_eq, is_some}
use Rattle.std.proofs.lemmas.List.{get_or-take, get_or_default, get_or_past, length-take-le, take_all}
use Rattle.j39_fault_reports.proofs.NowLineLemmas.{told_next, told_rest}
use Rattle.j39_fault_reports.specs.CurrentPlaces.{LastActives, LastRecord, StandingRecord, at, standing_record}
use Rattle.j39_fault_reports.specs.CurrentSoFar.{lights_shown, now_shown, nows_shown, said_here, told_shown, told_so_far}
use Rattle.j39_fault_reports.specs.Faults.{active_or_lights, lights}
use Rattle.j39_fault_reports.specs.FaultsNow.{Now, Told, lit, named}
use Rattle.j39_faults.specs.Text.{lamps_told}
use Rattle.j39_faults.specs.declared.code.Code.{Code}
use Rattle.j39_faults.specs.declared.lamps.Lamps.{Lamps}
use Rattle.j39_fault_reports.specs.declared.current_faults.standing.Standing.{Standing}
use Rattle.j39_watch.specs.ScreenSoFar.{said_lines}
use Rattle.j39_watch.specs.Watch.{Line, Size, colour_off, colour_on, fault_line, fault_shown_line, fitted, is_inside, is_there, letter_end, line_end, more_text, plain, row_shown, severity_by, severity_of}
use Rattle.j39_watch.specs.WatchSoFar.{fault_lines, faults_of_places, limited}
use Rattle.j39_watch.specs.declared.severity.Severity.{Severity}
use Rattle.j39_watch.specs.declared.severity.Severity.TheVariants.{Plain}
use Rattle.j39_watch.specs.declared.view.View.{View}

take_behind : {X : Type 0} (n : ℕ) (xs ys : List X) → take n (xs ++ ys) ≡ take n xs ++ take (n - length xs) ys
take_behind zero xs ys = ap (λ m. take m ys) (let none : 0 ≡ 0 - length xs = omega arith in none)
take_behind (suc n) [] ys = ap (λ m. take m ys) (let none : suc n ≡ suc n - 0 = omega arith in none)
take_behind (suc n) (x ∷ xs) ys =
    let less : n - length xs ≡ suc n - length (x ∷ xs) = omega arith in
    ap (λ zs. x ∷ zs) (take_behind n xs ys ∙ ap (λ m. take n xs ++ take m ys) less)

module _ (size : Size) where
  -- behind some lines there is room for as many less
  pub limited-append : (n : ℕ) (xs ys : List Line) → limited size n (xs ++ ys) ≡ limited size n xs ++ limited size (n - length xs) ys
  limited-append n xs ys = ap (flat_map (row_shown size)) (take_behind n xs ys) ∙ flat_map-append (row_shown size) (take n xs) (take (n - length xs) ys)

  -- lines, and then more of them
  pub limited_then : {T U E F : Type 0} (n m : ℕ) (xs ys : List Line) (x : T) (last : Result U F) (old mid new : Device) → m ≡ n - length xs
      → Puts {E = E} (limited size n xs) (Ok x) (record { old = old; new = mid }) → Puts (limited size m ys) last (record { old = mid; new = new })
      → Puts (limited size n (xs ++ ys)) last (record { old = old; new = new })
  limited_then n m xs ys x last old mid new left first second =
      puts_as _ _ _ _ (sym (limited-append n xs ys)) (puts_then _ _ x last old mid new first (puts_as _ _ _ _ (ap (λ k. limited size k ys) left) second))

  -- a fault at the first of them
  pub limited_first : {T U E F : Type 0} (n : ℕ) (xs ys : List Line) (e : E) (last : Result U F) (old new : Device) → IsErr last
      → Puts {T = T} (limited size n xs) (Err e) (record { old = old; new = new }) → Puts (limited size n (xs ++ ys)) last (record { old = old; new = new })
  limited_first {T = T} n xs ys e last old new failed first =
      puts_as _ _ _ _ (sym (limited-append n xs ys)) (puts_first {T = T} (limited size n xs) (limited size (n - length xs) ys) e last _ failed first)

-- for how many there is room behind more of them
pub left_then : {X : Type 0} (n m k : ℕ) (xs ys : List X) → m ≡ n - length xs → k ≡ m - length ys → k ≡ n - length (xs ++ ys)
left_then n m k xs ys is next = let len = length-append xs ys in omega (arith, len, is, next)

-- ---- the lines of a list, one after the other

module _ {X : Type 0} (f : X → List Line) (xs : List X) where
  abbrev pub lines_below : ℕ → List Line
  lines_below i = flat_map f (take i xs)

  pub next : (i : ℕ) (x : X) → i < length xs → x ≡ get_or xs i x → lines_below (i + 1) ≡ lines_below i ++ f x
  next i x below is = flat_map-next f xs i x below ∙ ap (λ y. lines_below i ++ f y) (sym is)

  rest : (i : ℕ) → flat_map f xs ≡ lines_below i ++ flat_map f (drop i xs)
  rest i = ap (flat_map f) (sym (take-append-drop i xs)) ∙ flat_map-append f (take i xs) (drop i xs)

  pub each_left : (n i m k : ℕ) (x : X) → i < length xs → x ≡ get_or xs i x → m ≡ n - length (lines_below i) → k ≡ m - length (f x)
      → k ≡ n - length (lines_below (i + 1))
  each_left n i m k x below is left step = left_then n m k (lines_below i) (f x) left step ∙ ap (λ ls. n - length ls) (sym (next i x below is))

  pub each_more : {T E F G : Type 0} (size : Size) (n i m : ℕ) (x : X) (a : T) (old mid new : Device) → i < length xs → x ≡ get_or xs i x → m ≡ n - length (lines_below i)
      → Puts {T = Unit} {E = E} (limited size n (lines_below i)) (Ok tt) (record { old = old; new = mid })
      → Puts {T = T} {E = F} (limited size m (f x)) (Ok a) (record { old = mid; new = new })
      → Puts {T = Unit} {E = G} (limited size n (lines_below (i + 1))) (Ok tt) (record { old = old; new = new })
  each_more size n i m x a old mid new below is left before here =
      puts_as _ _ _ _ (ap (limited size n) (sym (next i x below is)))
      (limited_then size n m (lines_below i) (f x) tt (Ok tt) old mid new left before (puts_done _ a tt _ here))

  pub each_stops : {T U E F G : Type 0} (size : Size) (n i m : ℕ) (x : X) (e : E) (last : Result U F) (old mid new : Device) → i < length xs → x ≡ get_or xs i x
      → m ≡ n - length (lines_below i) → IsErr last
      → Puts {T = Unit} {E = G} (limited size n (lines_below i)) (Ok tt) (record { old = old; new = mid })
      → Puts {T = T} (limited size m (f x)) (Err e) (record { old = mid; new = new })
      → Puts (limited size n (flat_map f xs)) last (record { old = old; new = new })
  each_stops {T = T} size n i m x e last old mid new below is left failed before here =
      puts_as _ _ _ _ (ap (limited size n) (sym (rest (i + 1) ∙ ap (λ ls. ls ++ flat_map f (drop (i + 1) xs)) (next i x below is))))
      (limited_first size {T = T} n (lines_below i ++ f x) (flat_map f (drop (i + 1) xs)) e last old new failed
      (limited_then size n m (lines_below i) (f x) tt (Err e) old mid new left before here))

-- ---- one line

pub limited_none : (size : Size) (n : ℕ) → limited size n [] ≡ []
limited_none size zero = refl
limited_none size (suc n) = refl

pub no_room : (size : Size) (lines : List Line) → limited size 0 lines ≡ []
no_room size lines = refl

-- ---- where a line is cut

-- a byte more than its width tells it
end_of_front : (n m : ℕ) (line : List ℕ) → n < m → letter_end n (take m line) ≡ letter_end n line
unfolding letter_end
end_of_front zero m line below = refl
end_of_front (suc n) m line below =
    ap (λ e. if is_inside (get_or (take m line) (suc n) 0) then e else suc n) (end_of_front n m line (omega (arith, below)))
    ∙ ap (λ b. if is_inside b then letter_end n line else suc n) (get_or-take m line (suc n) 0 below)

end_within : (n : ℕ) (line : List ℕ) → letter_end n line ≤ n
unfolding letter_end
end_within zero line = omega arith
end_within (suc n) line = by (is_inside (get_or line (suc n) 0)) (end_within n line)
  where
    by : (b : Bool) → letter_end n line ≤ n → (if b then letter_end n line else suc n) ≤ suc n
    by true less = omega (arith, less)
    by false less = omega arith

take_front : (k m : ℕ) (line : List ℕ) → k ≤ m → take k (take m line) ≡ take k line
take_front zero m line within = refl
take_front (suc k) zero line within = absurd (omega (arith, within))
take_front (suc k) (suc m) [] within = refl
take_front (suc k) (suc m) (x ∷ line) within = ap (λ t. x ∷ t) (take_front k m line (omega (arith, within)))

row_of_front : (size : Size) (severity : Severity) (text : List ℕ)
    → row_shown size (record { severity = severity; text = take (size.width + 1) text }) ≡ row_shown size (record { severity = severity; text = text })
row_of_front size severity text =
    let within = end_within size.width text in
    let colour = if size.is_coloured then severity else Plain in
    ap (λ t. colour_on colour ++ (t ++ (colour_off colour ++ line_end)))
    (ap (λ e. take e (take (size.width + 1) text)) (end_of_front size.width (size.width + 1) text (omega arith))
    ∙ take_front (letter_end size.width text) (size.width + 1) text (omega (arith, within)))

-- a line of no more than its width isn't
pub short_whole : (width : ℕ) (line : List ℕ) → length line ≤ width → line ≡ take (letter_end width line) line
unfolding letter_end
short_whole zero [] short = refl
short_whole zero (x ∷ line) short = absurd (omega (arith, short))
short_whole (suc n) line short =
    sym (ap (λ b. take (if is_inside b then letter_end n line else suc n) line) (get_or_past line (suc n) 0 short) ∙ take_all (suc n) line short)

-- a byte that is inside a letter, and one that isn't
pub step_back : (n d : ℕ) (line : List ℕ) → 0 < n → n < length line → is_inside (get_or line n d) ≡ true → letter_end n line ≡ letter_end (n - 1) line
unfolding letter_end
step_back zero d line some below so = absurd (omega (arith, some))
step_back (suc n) d line some below so =
    let inside : is_inside (get_or line (suc n) 0) ≡ true = ap is_inside (get_or_default line (suc n) 0 d below) ∙ so in
    let less : n ≡ suc n - 1 = omega arith in
    ap (λ b. if b then letter_end n line else suc n) inside ∙ ap (λ m. letter_end m line) less

pub step_ends : (n d : ℕ) (line : List ℕ) → n < length line → is_inside (get_or line n d) ≡ false → letter_end n line ≡ n
unfolding letter_end
step_ends zero d line below not_so = refl
step_ends (suc n) d line below not_so =
    ap (λ b. if b then letter_end n line else suc n) (ap is_inside (get_or_default line (suc n) 0 d below) ∙ not_so)

pub step_none : (n : ℕ) (line : List ℕ) → n ≡ 0 → letter_end n line ≡ n
unfolding letter_end
step_none zero line is = refl
step_none (suc n) line is = absurd (omega (arith, is))

-- the line, where there is room for it
pub limited_one : (size : Size) (n : ℕ) (severity : Severity) (bytes text : List ℕ) → 0 < n → bytes ≡ take (size.width + 1) text
    → row_shown size (record { severity = severity; text = bytes }) ≡ limited size n (record { severity = severity; text = text } ∷ [])
limited_one size zero severity bytes text some is = absurd (omega (arith, some))
limited_one size (suc n) severity bytes text some is =
    let line : Line = record { severity = severity; text = text } in
    ap (λ t. row_shown size (record { severity = severity; text = t })) is ∙ row_of_front size severity text
    ∙ sym (ap (λ t. row_shown size line ++ t) (limited_none size n) ∙ append-nil (row_shown size line))

-- ---- what fits

is_within : (m n : ℕ) → m ≤ n → nat_le m n ≡ true
is_within m n h = grind arith

is_beyond : (m n : ℕ) → n < m → nat_le m n ≡ false
is_beyond m n h = grind arith

all_fit : (rows : ℕ) (lines : List Line) → length lines ≤ rows → fitted rows lines ≡ lines
all_fit rows lines within = rw (is_within (length lines) rows within) refl

-- on no rows nothing stands
none_fit : (lines : List Line) → 0 < length lines → fitted 0 lines ≡ []
none_fit lines some = rw (is_beyond (length lines) 0 some) refl

-- the first and how many more, where there is a row for that
some_fit : (rows : ℕ) (lines : List Line) → 0 < rows → rows < length lines
    → fitted rows lines ≡ take (rows - 1) lines ++ plain (more_text (capped (length lines) - (rows - 1))) ∷ []
some_fit rows lines some beyond =
    let more = plain (more_text (capped (length lines) - (rows - 1))) ∷ [] in
    let front : length (take (rows - 1) lines) ≡ rows - 1 = length-take-le (rows - 1) lines (omega (arith, beyond)) in
    let len = length-append (take (rows - 1) lines) more in
    rw (is_beyond (length lines) rows beyond) (take_all rows (take (rows - 1) lines ++ more) (omega (arith, front, len, some)))

module _ (size : Size) (rows : ℕ) (lines : List Line) where
  pub text_all : length lines ≤ rows → limited size rows lines ≡ flat_map (row_shown size) (fitted rows lines)
  text_all within = ap (flat_map (row_shown size)) (take_all rows lines within ∙ sym (all_fit rows lines within))

  pub text_some : (more : ℕ) (bytes : List ℕ) → 0 < rows → rows < length lines → more ≡ capped (length lines) - (rows - 1)
      → bytes ≡ take (size.width + 1) (more_text more) → limited size (rows - 1) lines ++ row_shown size (plain bytes) ≡ flat_map (row_shown size) (fitted rows lines)
  text_some more bytes some beyond is cut =
      let last : Line = plain (more_text (capped (length lines) - (rows - 1))) in
      ap (λ t. limited size (rows - 1) lines ++ t)
      (ap (λ t. row_shown size (plain t)) cut ∙ row_of_front size Plain (more_text more) ∙ ap (λ n. row_shown size (plain (more_text n))) is ∙ sym (append-nil (row_shown size last)))
      ∙ sym (flat_map-append (row_shown size) (take (rows - 1) lines) (last ∷ []))
      ∙ ap (flat_map (row_shown size)) (sym (some_fit rows lines some beyond))

  pub length_all : (left : ℕ) → length lines ≤ rows → left ≡ rows - length lines → rows - left ≡ length (fitted rows lines)
  length_all left within is = let all = ap length (all_fit rows lines within) in omega (arith, all, within, is)

  pub length_some : 0 < rows → rows < length lines → rows ≡ length (fitted rows lines)
  length_some some beyond =
      let front : length (take (rows - 1) lines) ≡ rows - 1 = length-take-le (rows - 1) lines (omega (arith, beyond)) in
      let len = length-append (take (rows - 1) lines) (plain (more_text (capped (length lines) - (rows - 1))) ∷ []) in
      let all = ap length (some_fit rows lines some beyond) in
      omega (arith, front, len, all, some)

pub text_none : (size : Size) (lines : List Line) → 0 < length lines → [] ≡ flat_map (row_shown size) (fitted 0 lines)
text_none size lines some = ap (flat_map (row_shown size)) (sym (none_fit lines some))

pub length_none : (lines : List Line) → 0 < length lines → 0 ≡ length (fitted 0 lines)
length_none lines some = ap length (sym (none_fit lines some))

-- how many there are in both
pub counted_then : {X : Type 0} (c d e : ℕ) (xs ys : List X) → c ≡ capped (length xs) → d ≡ capped (length ys) → e ≡ capped (c + d) → e ≡ capped (length (xs ++ ys))
counted_then c d e xs ys first second is = let len = length-append xs ys in omega (arith, len, first, second, is)

-- ---- what the last message of an address says

-- the lines of its codes
pub standings_are : (f : Told → List Line) (a : ℕ) (last : LastRecord) (xs : List Standing) → map standing_record xs ≡ last.standings
    → flat_map (λ s. f (named (now_shown a last (standing_record s)))) xs ≡ flat_map f (map (λ n. named n) (nows_shown a (Some last)))
standings_are f a last xs same =
    sym (flat_map-map (λ (r : StandingRecord). f (named (now_shown a last r))) standing_record xs)
    ∙ ap (flat_map (λ (r : StandingRecord). f (named (now_shown a last r)))) same
    ∙ sym (flat_map-map (λ (n : Now). f (named n)) (now_shown a last) last.standings)
    ∙ sym (flat_map-map f (λ (n : Now). named n) (map (now_shown a last) last.standings))

module _ (view : View) (a : ℕ) (last : LastRecord) where
  abbrev pub shown_at : Told → List Line
  shown_at t = fault_lines (naming_of view.naming) (holder_of view.listener.now) (stamp_micros view.now) t

  -- the line of a code
  pub code_line : (s : StandingRecord) (code : Code) → Some code ≡ s.code → said_lines view a last (Some code) ≡ shown_at (named (now_shown a last s))
  unfolding fault_shown_line
  code_line s code is =
      by (is_there (holder_of view.listener.now) a last.name)
      ∙ ap (λ (o : Option Code). if is_there (holder_of view.listener.now) a last.name && is_some o
      then fault_line (naming_of view.naming) (stamp_micros view.now) a last.name last.stamp (active_or_lights last.lamps o) ∷ [] else []) is
    where
      by : (b : Bool) → (if b then fault_line (naming_of view.naming) (stamp_micros view.now) a last.name last.stamp (active_or_lights last.lamps (Some code)) ∷ [] else [])
          ≡ (if b && true then fault_line (naming_of view.naming) (stamp_micros view.now) a last.name last.stamp (active_or_lights last.lamps (Some code)) ∷ [] else [])
      by true = refl
      by false = refl

  -- that of its lamps, and those of its codes
  abbrev pub of_lights : List Line
  of_lights = flat_map shown_at (map (λ f. lit f) (lights_shown a (Some last)))

  abbrev pub of_codes : List Line
  of_codes = flat_map shown_at (map (λ n. named n) (nows_shown a (Some last)))

  pub lights_if : (b : Bool) → bytes_eq (lamps_told last.lamps) [] ≡ b → (if b then [] else said_lines view a last None) ≡ of_lights
  unfolding fault_shown_line
  lights_if b is = by b ∙ ap (λ b. flat_map shown_at (map (λ f. lit f) (if b then [] else said_here a last (lights last.lamps) ∷ []))) (sym is)
    where
      by : (b : Bool) → (if b then [] else said_lines view a last None) ≡ flat_map shown_at (map (λ f. lit f) (if b then [] else said_here a last (lights last.lamps) ∷ []))
      by true = refl
      by false = sym (append-nil (said_lines view a last None))

  pub lights_then : of_lights ++ of_codes ≡ flat_map shown_at (told_shown a (Some last))
  lights_then = sym (flat_map-append shown_at (map (λ f. lit f) (lights_shown a (Some last))) (map (λ n. named n) (nows_shown a (Some last))))

-- how grave it is that this is said
pub severity_here : (lamps : Lamps) (code : Option Code) → severity_by lamps ≡ severity_of (active_or_lights lamps code)
severity_here lamps None = refl
severity_here lamps (Some code) = refl

-- ---- the places of faults

module _ (naming : NamingRecord) (holder : ℕ → Option ℕ) (now : ℕ) (places : LastActives) where
  abbrev pub at_place : ℕ → List Line
  at_place n = flat_map (fault_lines naming holder now) (told_shown n (at places n))

  abbrev pub below_place : ℕ → List Line
  below_place n = faults_of_places naming holder now places n

  pub next_place : (n : ℕ) → below_place (n + 1) ≡ below_place n ++ at_place n
  next_place n = ap (flat_map (fault_lines naming holder now)) (told_next places n) ∙ flat_map-append (fault_lines naming holder now) (told_so_far places n) (told_shown n (at places n))

  pub none_below : [] ≡ below_place 0
  unfolding told_so_far
  none_below = refl

  pub place_left : (room n m k : ℕ) → m ≡ room - length (below_place n) → k ≡ m - length (at_place n) → k ≡ room - length (below_place (n + 1))
  place_left room n m k is step = left_then room m k (below_place n) (at_place n) is step ∙ ap (λ ls. room - length ls) (sym (next_place n))

  pub lines_of_place : {T E F G : Type 0} (size : Size) (room n m : ℕ) (a : T) (old mid new : Device) → m ≡ room - length (below_place n)
      → Puts {T = Unit} {E = E} (limited size room (below_place n)) (Ok tt) (record { old = old; new = mid })
      → Puts {T = T} {E = F} (limited size m (at_place n)) (Ok a) (record { old = mid; new = new })
      → Puts {T = Unit} {E = G} (limited size room (below_place (n + 1))) (Ok tt) (record { old = old; new = new })
  lines_of_place size room n m a old mid new is before here =
      puts_as _ _ _ _ (ap (limited size room) (sym (next_place n)))
      (limited_then size room m (below_place n) (at_place n) tt (Ok tt) old mid new is before (puts_done _ a tt _ here))

  pub stops_at_place : {T U E F G : Type 0} (size : Size) (room n m : ℕ) (e : E) (last : Result U F) (old mid new : Device) → n < 256 → m ≡ room - length (below_place n) → IsErr last
      → Puts {T = Unit} {E = G} (limited size room (below_place n)) (Ok tt) (record { old = old; new = mid })
      → Puts {T = T} (limited size m (at_place n)) (Err e) (record { old = mid; new = new })
      → Puts (limited size room (below_place 256)) last (record { old = old; new = new })
  stops_at_place {T = T} size room n m e last old mid new below is failed before here =
      let r = told_rest places (n + 1) (255 - n) in
      let all : 256 ≡ 255 - n + (n + 1) = omega (arith, below) in
      let split : below_place 256 ≡ (below_place n ++ at_place n) ++ flat_map (fault_lines naming holder now) r.0 =
      ap below_place all ∙ ap (flat_map (fault_lines naming holder now)) r.1 ∙ flat_map-append (fault_lines naming holder now) (told_so_far places (n + 1)) r.0
      ∙ ap (λ ls. ls ++ flat_map (fault_lines naming holder now) r.0) (next_place n) in
      puts_as _ _ _ _ (ap (limited size room) (sym split))
      (limited_first size {T = T} room (below_place n ++ at_place n) (flat_map (fault_lines naming holder now) r.0) e last old new failed
      (limited_then size room m (below_place n) (at_place n) tt (Err e) old mid new is before here))

-- ---- how many lines there are

-- the moment, and those in both
pub counted_all : (c d e n : ℕ) (line : Line) (xs ys : List Line) → c ≡ capped (length xs) → d ≡ capped (length ys) → e ≡ capped (c + d)
    → n ≡ capped (e + 1) → n ≡ capped (length (line ∷ (xs ++ ys)))
counted_all c d e n line xs ys first second both all =
    let is = counted_then c d e xs ys first second both in
    omega (arith, is, all)
