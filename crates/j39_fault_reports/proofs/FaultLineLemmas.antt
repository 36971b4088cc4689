-- The lines of the codes, one behind the other.
use Rattle.j39_fault_reports.proofs.Common.{◌≡◌, ◌∙◌, ◌+◌, ◌≢◌, ℕ, Bool, true, false, suc, List, [], ◌∷◌, ◌++◌, Option, Some, None, Result, Ok, Err, ◌≤◌, ap, append-nil, append_assoc, arith, length, length-append, map, refl, sym, IsErr, flat_map-append, length-map, flat_map-map, Puts, Device, Turn, puts_as, puts_done, puts_failed, puts_first, puts_then, cons_option, filter_map, range_with_len, length-range_with_len, code_at, places_of, code_by, codes_by, Version, Code, Kind, Lamps, Hearing, count_by, cond-false, count_by-le-length, HeadRecord, row_text, Format}
use Rattle.std.proofs.Common.{flat_map}
use Rattle.j39_faults.specs.Codes.{codes_of}
use Rattle.j39_faults.specs.declared.text.State.{State}
use Rattle.j39_fault_reports.specs.Faults.{Fault, Manner, clearing_of, codes_or_none, fault_of, lines_in, names_asked, says_asked}
use Rattle.j39_listen.specs.Counting.{one_if}
use Rattle.j39_listen.proofs.CountLemmas.{count_by-append, count_here}
use Rattle.j39_fault_reports.specs.FaultRows.{clearing_columns, fault_in, faults_text, message_head}
use Rattle.j39_fault_reports.specs.FaultsSoFar.{line_of}

abbrev pub lines_of : Format → HeadRecord → Manner → State → Lamps → List Code → List ℕ
lines_of form head rows how lamps cs = flat_map (λ code. line_of form head rows how lamps (Some code)) cs

-- how many of these codes are asked for
abbrev pub named_in : Manner → List Code → ℕ
named_in rows cs = count_by (λ code. names_asked rows.spns (Some code)) cs

-- the lines of the codes before these, the last of a payload by a version of the conversion, were written, and no fault came
pub record HasPut (form : Format) (head : HeadRecord) (rows : Manner) (version : Option Version) (how : State) (lamps : Lamps) (payload : List ℕ) (left : List Code)
    (count : ℕ) (sink : Turn) : Type 0 where
  pub before : List Code
  pub all_are : codes_by version payload ≡ before ++ map (code_by version) left
  pub count_is : count ≡ named_in rows before
  pub written : Puts {T = Unit} {E = Unit} (lines_of form head rows how lamps before) (Ok tt) sink

module _ (form : Format) (head : HeadRecord) (rows : Manner) (version : Option Version) (how : State) (lamps : Lamps) (payload : List ℕ) where
  abbrev line : Code → List ℕ
  line code = line_of form head rows how lamps (Some code)

  abbrev by : Code → Code
  by code = code_by version code

  next_is : (left more : List Code) (code : Code) → left ≡ code ∷ more → map by left ≡ by code ∷ map by more
  next_is left more code is = ap (map by) is

  pub code_more : {E : Type 0} (code : Code) (left more : List Code) (count n : ℕ) (old mid new : Device)
      → HasPut form head rows version how lamps payload left count (record { old = old; new = mid }) → left ≡ code ∷ more
      → n ≡ one_if (names_asked rows.spns (Some (by code))) → Puts {T = ℕ} {E = E} (line (by code)) (Ok n) (record { old = mid; new = new })
      → HasPut form head rows version how lamps payload more (count + n) (record { old = old; new = new })
  code_more code left more count n old mid new h is counts here = record {
    before = h.before ++ by code ∷ [];
    all_are = h.all_are ∙ ap (λ x. h.before ++ x) (next_is left more code is) ∙ sym (append_assoc h.before (by code ∷ []) (map by more));
    count_is = (let c = h.count_is in let l : named_in rows (h.before ++ by code ∷ []) ≡ named_in rows h.before + named_in rows (by code ∷ []) =
        count_by-append (λ code. names_asked rows.spns (Some code)) h.before (by code ∷ []) in
        let one : n ≡ named_in rows (by code ∷ []) = counts ∙ count_here (λ code. names_asked rows.spns (Some code)) (by code) in omega (arith, c, l, one));
    written = puts_as _ _ _ _ (sym (flat_map-append line h.before (by code ∷ []) ∙ ap (λ x. lines_of form head rows how lamps h.before ++ x) (append-nil (line (by code)))))
        (puts_then (lines_of form head rows how lamps h.before) (line (by code)) tt (Ok tt) old mid new h.written (puts_done (line (by code)) n tt _ here));
  }

  pub code_stops : {T U E F : Type 0} (code : Code) (left more : List Code) (count : ℕ) (e : E) (last : Result U F) (old mid new : Device)
      → IsErr last → HasPut form head rows version how lamps payload left count (record { old = old; new = mid }) → left ≡ code ∷ more
      → Puts {T = T} (line (by code)) (Err e) (record { old = mid; new = new })
      → Puts (lines_of form head rows how lamps (codes_by version payload)) last (record { old = old; new = new })
  code_stops {T = T} code left more count e last old mid new failed h is here =
      let before = lines_of form head rows how lamps h.before in
      let rest = lines_of form head rows how lamps (map by more) in
      puts_as _ _ _ _ (sym (ap (lines_of form head rows how lamps) (h.all_are ∙ ap (λ x. h.before ++ x) (next_is left more code is)) ∙ flat_map-append line h.before (by code ∷ map by more) ∙ sym (append_assoc before (line (by code)) rest)))
      (puts_first {T = T} (before ++ line (by code)) rest e last _ failed (puts_then before (line (by code)) tt (Err e) old mid new h.written here))

pub few_found : {X Y : Type 0} (f : X → Option Y) (xs : List X) → length (filter_map f xs) ≤ length xs
few_found f [] = omega arith
few_found {X} {Y} f (x ∷ xs) = go (f x) (few_found f xs)
  where
    go : (o : Option Y) → length (filter_map f xs) ≤ length xs → length (cons_option o (filter_map f xs)) ≤ suc (length xs)
    go None l = omega arith
    go (Some y) l = omega arith

-- fewer codes than bytes
pub few_codes : (payload : List ℕ) → length (codes_of payload) ≤ length payload
unfolding codes_of
few_codes payload =
    let l = few_found (code_at payload) (range_with_len 0 (places_of payload)) in
    let n = length-range_with_len 0 (places_of payload) in
    let p : places_of payload ≤ length payload = omega arith in
    omega arith

pub few_put : (form : Format) (head : HeadRecord) (rows : Manner) (version : Option Version) (how : State) (lamps : Lamps) (payload : List ℕ) (left : List Code) (count : ℕ) (sink : Turn)
    → HasPut form head rows version how lamps payload left count sink → count ≤ length payload
few_put form head rows version how lamps payload left count sink h =
    let c = h.count_is in
    let some = count_by-le-length (λ code. names_asked rows.spns (Some code)) h.before in
    let l : length (codes_by version payload) ≡ length h.before + length (map (code_by version) left) = ap length h.all_are ∙ length-append h.before (map (code_by version) left) in
    let n : length (codes_by version payload) ≡ length (codes_of payload) = length-map (codes_of payload) (code_by version) in
    let f = few_codes payload in
    omega (arith, c, some, l, n, f)

pub one_at_most : (b : Bool) (n : ℕ) → n ≡ one_if b → n ≤ 1
one_at_most true n is = omega (arith, is)
one_at_most false n is = omega (arith, is)

-- ---- which codes are asked for

pub count_mapped : {X Y : Type 0} (p : Y → Bool) (f : X → Y) (xs : List X) → count_by p (map f xs) ≡ count_by (λ x. p (f x)) xs
count_mapped p f [] = refl
count_mapped p f (x ∷ xs) = count_by-append p (f x ∷ []) (map f xs) ∙ (λ i. here i + count_mapped p f xs i) ∙ sym (count_by-append (λ y. p (f y)) (x ∷ []) xs)
  where
    here : count_by p (f x ∷ []) ≡ count_by (λ y. p (f y)) (x ∷ [])
    here = refl

all_named : (cs : List Code) → count_by (λ (code : Code). true) cs ≡ length cs
all_named [] = refl
all_named (c ∷ cs) = count_by-append (λ (code : Code). true) (c ∷ []) cs ∙ ap (λ n. 1 + n) (all_named cs) ∙ (let n : 1 + length cs ≡ suc (length cs) = omega arith in n)

-- where none of some codes is asked for, numbers are
unnamed : (rows : Manner) (c : Code) (cs : List Code) → named_in rows (c ∷ cs) ≡ 0 → names_asked rows.spns None ≡ false
unnamed rows c cs none = by rows.spns refl
  where
    by : (spns : Option (List ℕ)) → rows.spns ≡ spns → names_asked rows.spns None ≡ false
    by None is =
        let all = sym (all_named (c ∷ cs)) ∙ sym (ap (λ (spns : Option (List ℕ)). count_by (λ code. names_asked spns (Some code)) (c ∷ cs)) is) ∙ none in
        absurd (omega (arith, all))
    by (Some spns) is = rw is refl

-- ---- the text of a message's faults

-- of what stands before them
text_by : (form : Format) (rows : Manner) (m : Hearing) (how : State) (lamps : Lamps) (cs : List (Option Code))
    → faults_text form rows (map (fault_of m how lamps) cs) ≡ flat_map (λ code. line_of form (message_head m.stamp m.message.source m.destination m.name) rows how lamps code) cs
unfolding faults_text
text_by form rows m how lamps cs = flat_map-map (fault_in form rows) (fault_of m how lamps) cs

module _ (form : Format) (rows : Manner) (m : Hearing) (how : State) (lamps : Lamps) (head : HeadRecord) (is : head ≡ message_head m.stamp m.message.source m.destination m.name) where
  abbrev text : List (Option Code) → List ℕ
  text cs = faults_text form rows (map (fault_of m how lamps) cs)

  text_in : (cs : List (Option Code)) → text cs ≡ flat_map (λ code. line_of form head rows how lamps code) cs
  text_in cs = text_by form rows m how lamps cs ∙ ap (λ h. flat_map (λ code. line_of form h rows how lamps code) cs) (sym is)

  -- of codes all lines are theirs
  text_codes : (c : Code) (cs : List Code) → lines_of form head rows how lamps (c ∷ cs) ≡ text (codes_or_none (c ∷ cs))
  text_codes c cs =
      sym (text_in (Some c ∷ map (λ x. Some x) cs) ∙ flat_map-map (λ code. line_of form head rows how lamps code) (λ (x : Code). Some x) (c ∷ cs))

  text_no_codes : lines_of form head rows how lamps [] ++ line_of form head rows how lamps None ≡ text (codes_or_none [])
  text_no_codes = sym (text_in (None ∷ []) ∙ append-nil _)

  -- where none of some codes is asked for, nor is that there is none
  text_none : (cs : List Code) → named_in rows cs ≡ 0 → lines_of form head rows how lamps cs ++ line_of form head rows how lamps None ≡ text (codes_or_none cs)
  text_none [] none = text_no_codes
  text_none (c ∷ cs) none =
      ap (λ t. lines_of form head rows how lamps (c ∷ cs) ++ t) (cond-false _ _ _ (unnamed rows c cs none)) ∙ append-nil (lines_of form head rows how lamps (c ∷ cs)) ∙ text_codes c cs

  text_some : (cs : List Code) → named_in rows cs ≢ 0 → lines_of form head rows how lamps cs ≡ text (codes_or_none cs)
  text_some [] none = absurd (none refl)
  text_some (c ∷ cs) some = text_codes c cs

  -- a fault in the lines of the codes
  pub codes_stop : {T U E F : Type 0} (cs : List Code) (e : E) (last : Result U F) (sink : Turn) → IsErr last
      → Puts {T = T} (lines_of form head rows how lamps cs) (Err e) sink → Puts (text (codes_or_none cs)) last sink
  codes_stop {T = T} [] e last sink failed stopped =
      puts_as _ _ _ _ text_no_codes (puts_first {T = T} _ (line_of form head rows how lamps None) e last sink failed stopped)
  codes_stop {T = T} (c ∷ cs) e last sink failed stopped = puts_as _ _ _ _ (text_codes c cs) (puts_failed {T = T} _ e last sink failed stopped)

  -- some codes are asked for
  pub codes_put : {T U E F : Type 0} (cs : List Code) (x : T) (y : U) (sink : Turn) → named_in rows cs ≢ 0
      → Puts {E = E} (lines_of form head rows how lamps cs) (Ok x) sink → Puts {E = F} (text (codes_or_none cs)) (Ok y) sink
  codes_put cs x y sink some written = puts_as _ _ _ _ (text_some cs some) (puts_done _ x y sink written)

  -- none is
  pub none_put : {T U E F : Type 0} (cs : List Code) (x : T) (last : Result U F) (old mid new : Device) → named_in rows cs ≡ 0
      → Puts {E = E} (lines_of form head rows how lamps cs) (Ok x) (record { old = old; new = mid })
      → Puts (line_of form head rows how lamps None) last (record { old = mid; new = new })
      → Puts (text (codes_or_none cs)) last (record { old = old; new = new })
  none_put cs x last old mid new none before here = puts_as _ _ _ _ (text_none cs none) (puts_then _ _ x last old mid new before here)

module _ (rows : Manner) (m : Hearing) (how : State) (lamps : Lamps) where
  abbrev told : List Code → List Fault
  told cs = map (fault_of m how lamps) (codes_or_none cs)

  count_codes : (cs : List Code) → lines_in rows (map (fault_of m how lamps) (map (λ (x : Code). Some x) cs)) ≡ named_in rows cs
  count_codes cs = count_mapped (says_asked rows) (fault_of m how lamps) (map (λ (x : Code). Some x) cs)
      ∙ count_mapped (λ code. names_asked rows.spns code) (λ (x : Code). Some x) cs

  pub count_none : (cs : List Code) (n : ℕ) → named_in rows cs ≡ 0 → n ≡ one_if (names_asked rows.spns None) → n ≡ lines_in rows (told cs)
  count_none [] n none is = is ∙ count_here (says_asked rows) (fault_of m how lamps None)
  count_none (c ∷ cs) n none is = is ∙ cond-false _ _ _ (unnamed rows c cs none) ∙ sym none ∙ sym (count_codes (c ∷ cs))

  pub count_some : (cs : List Code) → named_in rows cs ≢ 0 → lines_in rows (told cs) ≡ named_in rows cs
  count_some [] none = absurd (none refl)
  count_some (c ∷ cs) some = count_codes (c ∷ cs)

-- that codes are to be cleared
pub clearing_text : (form : Format) (rows : Manner) (m : Hearing) (kind : Kind) → names_asked rows.spns None ≡ true
    → row_text form (message_head m.stamp m.message.source m.destination m.name) (clearing_columns kind) ≡ faults_text form rows (clearing_of m kind ∷ [])
unfolding faults_text
clearing_text form rows m kind named = rw named (sym (append-nil _))
