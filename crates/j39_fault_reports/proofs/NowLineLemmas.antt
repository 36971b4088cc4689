-- The lines of the faults that are there now, one behind the other.
use Rattle.j39_fault_reports.proofs.Common.{◌≡◌, ◌∙◌, ◌+◌, ◌-◌, ◌<◌, ◌++◌, ◌∷◌, [], ℕ, zero, suc, Bool, true, false, List, Option, Result, Ok, Err, Some, append-nil, append_assoc, ap, arith, length, map, refl, sym, take, IsErr, slice_index_or, flat_map, cond-true, cond-false, if◌then◌else◌, ◌≤◌, flat_map-append, flat_map-map, length-map, count_by-le-length, filter-append, Puts, Device, puts_as, puts_done, puts_first, puts_then, puts_until, flat_map-next, capped, FilterRecord, asks_for, no_filter, Format, Active, Is, ColumnRecord, HeadRecord, codes, seconds, take-suc, map-append}
use Rattle.std.specs.Prelude.{bytes_eq}
use Rattle.j39_faults.specs.Text.{lamps_told}
use Rattle.j39_fault_reports.specs.FaultRows.{faults_text, message_columns, message_head}
use Rattle.j39_fault_reports.specs.CurrentPlaces.{LastRecord, LastActives, StandingRecord, at, standing_record}
use Rattle.j39_fault_reports.specs.CurrentSoFar.{lights_shown, now_shown, nows_shown, said_here, taken_below, told_shown, told_so_far}
use Rattle.j39_fault_reports.specs.FaultsNow.{Now, Told, asks_now, lit, named, now_taken}
use Rattle.j39_fault_reports.specs.FaultsNowRun.{now_head, now_lines, now_text, told_asked, told_line}
use Rattle.j39_fault_reports.specs.Faults.{Fault, Manner, lights, names_asked}
use Rattle.j39_listen.specs.Counting.{one_if}
use Rattle.j39_listen.proofs.CountLemmas.{count_by-append, count_here}
use Rattle.j39_fault_reports.specs.FaultsSoFar.{are_lit, lights_line, line_of}
use Rattle.j39_fault_reports.proofs.FaultLineLemmas.{count_mapped}
use Rattle.j39_fault_reports.proofs.LightLemmas.{lights_count, lights_text}
use Rattle.j39_fault_reports.specs.declared.current_faults.standing.Standing.{Standing}

-- ---- the text of one

pub one_text : (form : Format) (rows : Manner) (till : Option ℕ) (n : Now) → line_of form (now_head till n) rows (Is Active) n.lamps n.code ≡ now_text form rows till (named n ∷ [])
unfolding now_text
one_text form rows till n = sym (append-nil _)

pub no_text : (form : Format) (rows : Manner) (till : Option ℕ) → now_text form rows till [] ≡ []
unfolding now_text
no_text form rows till = refl

pub now_text-append : (form : Format) (rows : Manner) (till : Option ℕ) (xs ys : List Told) → now_text form rows till (xs ++ ys) ≡ now_text form rows till xs ++ now_text form rows till ys
unfolding now_text
now_text-append form rows till xs ys = flat_map-append _ xs ys

-- of faults
pub text_of_faults : (form : Format) (rows : Manner) (till : Option ℕ) (fs : List Fault) → now_text form rows till (map (λ f. lit f) fs) ≡ faults_text form rows fs
unfolding now_text faults_text
text_of_faults form rows till fs = flat_map-map (told_line form rows till) (λ (f : Fault). lit f) fs

-- ---- what one message says

module _ (form : Format) (rows : Manner) (till : Option ℕ) (a : ℕ) (last : LastRecord) where
  abbrev as_told : Standing → Told
  as_told s = named (now_shown a last (standing_record s))

  -- the codes of these
  abbrev pub named_by : List Standing → List Told
  named_by ss = map (λ n. named n) (map (now_shown a last) (map standing_record ss))

  abbrev pub line : Standing → List ℕ
  line s = now_text form rows till (as_told s ∷ [])

  abbrev pub lines : List Standing → List ℕ
  lines ss = now_text form rows till (named_by ss)

  lines_are : (ss : List Standing) → lines ss ≡ flat_map line ss
  lines_are [] = no_text form rows till
  lines_are (s ∷ ss) =
      now_text-append form rows till (as_told s ∷ []) (named_by ss) ∙ ap (λ t. line s ++ t) (lines_are ss)

  pub none_put : (ss : List Standing) → [] ≡ lines (take 0 ss)
  none_put ss = sym (no_text form rows till)

  pub line_more : {E F G : Type 0} (ss : List Standing) (i : ℕ) (s : Standing) (n : ℕ) (old mid new : Device) → i < length ss → s ≡ slice_index_or ss i s
      → Puts {T = Unit} {E = E} (lines (take i ss)) (Ok tt) (record { old = old; new = mid })
      → Puts {T = ℕ} {E = F} (line s) (Ok n) (record { old = mid; new = new })
      → Puts {T = Unit} {E = G} (lines (take (i + 1) ss)) (Ok tt) (record { old = old; new = new })
  line_more ss i s n old mid new below is before here =
      puts_as _ _ _ _ (sym (lines_are (take (i + 1) ss) ∙ flat_map-next line ss i s below ∙ ap (λ x. flat_map line (take i ss) ++ line x) (sym is) ∙ ap (λ t. t ++ line s) (sym (lines_are (take i ss)))))
      (puts_then _ _ tt (Ok tt) old mid new before (puts_done _ n tt _ here))

  -- how many of them are asked for
  abbrev pub counted : List Standing → ℕ
  counted ss = now_lines rows (named_by ss)

  counted-append : (ss ts : List Standing) → counted (ss ++ ts) ≡ counted ss + counted ts
  counted-append ss ts =
      ap (λ rs. now_lines rows (map (λ n. named n) (map (now_shown a last) rs))) (map-append standing_record ss ts)
      ∙ ap (λ ns. now_lines rows (map (λ n. named n) ns)) (map-append (now_shown a last) (map standing_record ss) (map standing_record ts))
      ∙ ap (now_lines rows) (map-append (λ (n : Now). named n) (map (now_shown a last) (map standing_record ss)) (map (now_shown a last) (map standing_record ts)))
      ∙ count_by-append (told_asked rows) (named_by ss) (named_by ts)

  pub count_more : (ss : List Standing) (i : ℕ) (s : Standing) (count n : ℕ) → i < length ss → s ≡ slice_index_or ss i s → count ≡ counted (take i ss)
      → n ≡ one_if (names_asked rows.spns s.code) → count + n ≡ counted (take (i + 1) ss)
  count_more ss i s count n below is so_far one =
      let next : i + 1 ≡ suc i = omega arith in
      let more : take (i + 1) ss ≡ take i ss ++ s ∷ [] = ap (λ k. take k ss) next ∙ take-suc ss i s below ∙ ap (λ x. take i ss ++ x ∷ []) (sym is) in
      let sum = ap counted more ∙ counted-append (take i ss) (s ∷ []) in
      let here : n ≡ counted (s ∷ []) = one ∙ count_here (told_asked rows) (as_told s) in
      omega (arith, sum, so_far, here)

  pub line_stops : {T U E F G : Type 0} (ss : List Standing) (i : ℕ) (s : Standing) (e : E) (end : Result U F) (old mid new : Device)
      → i < length ss → s ≡ slice_index_or ss i s → IsErr end
      → Puts {T = Unit} {E = G} (lines (take i ss)) (Ok tt) (record { old = old; new = mid })
      → Puts {T = T} (line s) (Err e) (record { old = mid; new = new }) → Puts (lines ss) end (record { old = old; new = new })
  line_stops {T = T} ss i s e end old mid new below is failed before here =
      puts_as _ _ _ _ (sym (lines_are ss)) (puts_until {V = T} line ss i s tt e end old mid new below failed
      (puts_as _ _ _ _ (lines_are (take i ss)) before) (puts_as _ _ _ _ (ap line is) here))

-- ---- the lamps before the codes of the last message of an address

module _ (form : Format) (rows : Manner) (till : Option ℕ) (a : ℕ) (view last : LastRecord) (same : view ≡ last) (head : HeadRecord)
    (columns : List ColumnRecord) (is : head ≡ record { name = codes "stamp"; first = seconds view.stamp; columns = columns })
    (are : columns ≡ message_columns view.stamp a view.destination view.name) where
  abbrev its_codes : List Told
  its_codes = map (λ n. named n) (nows_shown a (Some last))

  head_is : head ≡ message_head last.stamp a last.destination last.name
  head_is = is ∙ ap (λ (cs : List ColumnRecord). record { name = codes "stamp"; first = seconds view.stamp; columns = cs }) are
      ∙ ap (λ (l : LastRecord). message_head l.stamp a l.destination l.name) same

  pub lit_text : lights_line form head rows [] view.lamps ++ now_text form rows till its_codes ≡ now_text form rows till (told_shown a (Some last))
  lit_text = ap (λ (l : LastRecord). lights_line form head rows [] l.lamps ++ now_text form rows till its_codes) same
      ∙ ap (λ t. t ++ now_text form rows till its_codes) (lights_text form rows [] last.lamps (said_here a last) head refl head_is ∙ sym (text_of_faults form rows till (lights_shown a (Some last))))
      ∙ sym (now_text-append form rows till (map (λ f. lit f) (lights_shown a (Some last))) its_codes)

  pub lit_count : (n k : ℕ) → n ≡ one_if (are_lit rows [] view.lamps) → k ≡ now_lines rows its_codes → n + k ≡ now_lines rows (told_shown a (Some last))
  lit_count n k here more =
      let all = count_by-append (told_asked rows) (map (λ f. lit f) (lights_shown a (Some last))) its_codes in
      let lights : now_lines rows (map (λ f. lit f) (lights_shown a (Some last))) ≡ one_if (are_lit rows [] last.lamps) =
      count_mapped (told_asked rows) (λ (f : Fault). lit f) (lights_shown a (Some last)) ∙ lights_count form rows [] last.lamps (said_here a last) head refl head_is in
      let alike : one_if (are_lit rows [] view.lamps) ≡ one_if (are_lit rows [] last.lamps) = ap (λ (l : LastRecord). one_if (are_lit rows [] l.lamps)) same in
      omega (arith, all, lights, alike, here, more)

-- ---- what stands at the places

-- where it is added place by place, what stands below one is a front of what stands below a later one
rest_of : {X : Type 0} (below : ℕ → List X) (here : ℕ → List X) → ((n : ℕ) → below (n + 1) ≡ below n ++ here n) → (n k : ℕ)
    → (rest : List X) × (below (k + n) ≡ below n ++ rest)
rest_of below here next n zero = ([], (let same : 0 + n ≡ n = omega arith in ap below same ∙ sym (append-nil (below n))))
rest_of below here next n (suc k) =
    let more : suc k + n ≡ k + n + 1 = omega arith in
    let r = rest_of below here next n k in
    (r.0 ++ here (k + n), ap below more ∙ next (k + n) ∙ ap (λ xs. xs ++ here (k + n)) r.1 ∙ append_assoc (below n) r.0 (here (k + n)))

module _ (places : LastActives) where
  pub told_next : (n : ℕ) → told_so_far places (n + 1) ≡ told_so_far places n ++ told_shown n (at places n)
  unfolding told_so_far
  told_next n = (let next : n + 1 ≡ suc n = omega arith in ap (told_so_far places) next)

  pub told_rest : (n k : ℕ) → (rest : List Told) × (told_so_far places (k + n) ≡ told_so_far places n ++ rest)
  told_rest n k = rest_of (told_so_far places) (λ n. told_shown n (at places n)) told_next n k

-- ---- of what stands there, what is asked for

module _ (form : Format) (rows : Manner) (till : Option ℕ) (which : FilterRecord) (first : ℕ) (places : LastActives) where
  abbrev pub text : ℕ → List ℕ
  text n = now_text form rows till (taken_below which first places n)

  abbrev taken_at : ℕ → List Told
  taken_at n = now_taken which first (told_shown n (at places n))

  taken_next : (n : ℕ) → taken_below which first places (n + 1) ≡ taken_below which first places n ++ taken_at n
  taken_next n = ap (now_taken which first) (told_next places n) ∙ filter-append (asks_now which first) (told_so_far places n) (told_shown n (at places n))

  taken_rest : (n k : ℕ) → (rest : List Told) × (taken_below which first places (k + n) ≡ taken_below which first places n ++ rest)
  taken_rest n k =
      let r = told_rest places n k in
      (now_taken which first r.0, ap (now_taken which first) r.1 ∙ filter-append (asks_now which first) (told_so_far places n) r.0)

  text_next : (n : ℕ) → text (n + 1) ≡ text n ++ now_text form rows till (taken_at n)
  text_next n = ap (now_text form rows till) (taken_next n) ∙ now_text-append form rows till (taken_below which first places n) (taken_at n)

  pub no_places : [] ≡ text 0
  unfolding told_so_far
  no_places = sym (no_text form rows till)

  pub no_lines : 0 ≡ capped (now_lines rows (taken_below which first places 0))
  unfolding told_so_far
  no_lines = refl

  pub place_more : {T E F G : Type 0} (n : ℕ) (x : T) (old mid new : Device)
      → Puts {T = Unit} {E = E} (text n) (Ok tt) (record { old = old; new = mid })
      → Puts {T = T} {E = F} (now_text form rows till (taken_at n)) (Ok x) (record { old = mid; new = new })
      → Puts {T = Unit} {E = G} (text (n + 1)) (Ok tt) (record { old = old; new = new })
  place_more n x old mid new before here =
      puts_as _ _ _ _ (sym (text_next n)) (puts_then _ _ tt (Ok tt) old mid new before (puts_done _ x tt _ here))

  pub place_stops : {T U E F G : Type 0} (n : ℕ) (e : E) (end : Result U F) (old mid new : Device) → n < 256 → IsErr end
      → Puts {T = Unit} {E = G} (text n) (Ok tt) (record { old = old; new = mid })
      → Puts {T = T} (now_text form rows till (taken_at n)) (Err e) (record { old = mid; new = new })
      → Puts (text 256) end (record { old = old; new = new })
  place_stops {T = T} n e end old mid new below failed before here =
      let here_text = now_text form rows till (taken_at n) in
      let r = taken_rest (n + 1) (255 - n) in
      let all : 256 ≡ 255 - n + (n + 1) = omega (arith, below) in
      puts_as _ _ _ _ (sym (ap text all ∙ ap (now_text form rows till) r.1 ∙ now_text-append form rows till (taken_below which first places (n + 1)) r.0 ∙ ap (λ t. t ++ now_text form rows till r.0) (text_next n)))
      (puts_first {T = T} (text n ++ here_text) (now_text form rows till r.0) e end _ failed (puts_then _ _ tt (Err e) old mid new before here))

  pub lines_more : (n lines here : ℕ) → lines ≡ capped (now_lines rows (taken_below which first places n)) → here ≡ now_lines rows (taken_at n)
      → capped (lines + here) ≡ capped (now_lines rows (taken_below which first places (n + 1)))
  lines_more n lines here so_far is =
      let len : now_lines rows (taken_below which first places (n + 1)) ≡ now_lines rows (taken_below which first places n) + now_lines rows (taken_at n) =
      ap (now_lines rows) (taken_next n) ∙ count_by-append (told_asked rows) (taken_below which first places n) (taken_at n) in
      omega (arith, len, so_far, is)

-- ---- what the last message of an address says is asked for as a whole, or not at all

module _ (which : FilterRecord) (first a : ℕ) (last : LastRecord) where
  abbrev is_asked : Bool
  is_asked = asks_for which first last.stamp a last.name last.destination last.pgn

  abbrev codes_told : List StandingRecord → List Told
  codes_told ss = map (λ n. named n) (map (now_shown a last) ss)

  abbrev lights_told : Bool → List Told
  lights_told b = map (λ f. lit f) (if b then [] else said_here a last (lights last.lamps) ∷ [])

  codes_asked : is_asked ≡ true → (ss : List StandingRecord) → now_taken which first (codes_told ss) ≡ codes_told ss
  codes_asked is [] = refl
  codes_asked is (s ∷ ss) = cond-true _ _ _ is ∙ ap (λ ns. named (now_shown a last s) ∷ ns) (codes_asked is ss)

  lights_asked : is_asked ≡ true → (b : Bool) → now_taken which first (lights_told b) ≡ lights_told b
  lights_asked is true = refl
  lights_asked is false = cond-true _ _ _ is

  no_codes : is_asked ≡ false → (ss : List StandingRecord) → now_taken which first (codes_told ss) ≡ []
  no_codes isnt [] = refl
  no_codes isnt (s ∷ ss) = cond-false _ _ _ isnt ∙ no_codes isnt ss

  no_lights : is_asked ≡ false → (b : Bool) → now_taken which first (lights_told b) ≡ []
  no_lights isnt true = refl
  no_lights isnt false = cond-false _ _ _ isnt

  pub asked_there : is_asked ≡ true → now_taken which first (told_shown a (Some last)) ≡ told_shown a (Some last)
  asked_there is = filter-append (asks_now which first) (lights_told (bytes_eq (lamps_told last.lamps) [])) (codes_told last.standings)
      ∙ (λ i. lights_asked is (bytes_eq (lamps_told last.lamps) []) i ++ codes_asked is last.standings i)

  pub unasked_there : is_asked ≡ false → now_taken which first (told_shown a (Some last)) ≡ []
  unasked_there isnt = filter-append (asks_now which first) (lights_told (bytes_eq (lamps_told last.lamps) [])) (codes_told last.standings)
      ∙ (λ i. no_lights isnt (bytes_eq (lamps_told last.lamps) []) i ++ no_codes isnt last.standings i)

-- without a filter all is taken
pub taken_all : (first : ℕ) (faults : List Told) → now_taken no_filter first faults ≡ faults
taken_all first [] = refl
taken_all first (lit f ∷ faults) = ap (λ ts. lit f ∷ ts) (taken_all first faults)
taken_all first (named n ∷ faults) = ap (λ ts. named n ∷ ts) (taken_all first faults)
