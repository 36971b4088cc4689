-- What became of active codes: the lines, one behind the other, and how many.
use Rattle.j39_fault_reports.proofs.Common.{◌≡◌, ◌∙◌, ◌+◌, ◌≤◌, ℕ, List, [], ◌∷◌, ◌++◌, Option, Some, None, Result, Ok, Err, ap, append-nil, append_assoc, arith, length, length-append, map, sym, IsErr, flat_map-append, length-map, count_by-le-length, Puts, Device, Turn, puts_as, puts_done, puts_first, puts_then, code_by, codes_by, codes_of, Change, Version, Code, Lamps, Became, Hearing, Format, HeadRecord}
use Rattle.j39_fault_reports.specs.FaultChanges.{became}
use Rattle.j39_fault_reports.specs.FaultRows.{faults_text, message_head}
use Rattle.j39_fault_reports.specs.Faults.{Fault, Manner, lines_in, says_asked}
use Rattle.j39_fault_reports.specs.FaultsSoFar.{change_by, changed, line_of}
use Rattle.j39_fault_reports.specs.declared.fault_news.changes.Side.{Side}
use Rattle.j39_listen.proofs.CountLemmas.{count_by-append}
use Rattle.j39_fault_reports.proofs.FaultAccountLemmas.{faults_text-append}
use Rattle.j39_fault_reports.proofs.FaultLineLemmas.{few_codes}

-- the line of a code that changed
pub change_text : (form : Format) (rows : Manner) (m : Hearing) (lamps : Lamps) (code : Code) (change : Change)
    → line_of form (message_head m.stamp m.message.source m.destination m.name) rows (Became change) lamps (Some code) ≡ faults_text form rows (became m lamps code (Some change))
unfolding faults_text
change_text form rows m lamps code change = sym (append-nil _)

pub change_put : {T E : Type 0} (form : Format) (rows : Manner) (m : Hearing) (lamps : Lamps) (code : Code) (change : Change) (head : HeadRecord) (r : Result T E) (sink : Turn)
    → head ≡ message_head m.stamp m.message.source m.destination m.name → Puts (line_of form head rows (Became change) lamps (Some code)) r sink
    → Puts (faults_text form rows (became m lamps code (Some change))) r sink
change_put form rows m lamps code change head r sink is put =
    puts_as _ _ _ _ (ap (λ h. line_of form h rows (Became change) lamps (Some code)) is ∙ change_text form rows m lamps code change) put

pub one_at_most : (rows : Manner) (m : Hearing) (lamps : Lamps) (code : Code) (change : Option Change) → lines_in rows (became m lamps code change) ≤ 1
one_at_most rows m lamps code None = omega arith
one_at_most rows m lamps code (Some change) = count_by-le-length (says_asked rows) (became m lamps code (Some change))

-- of the codes before these, the last of a payload by a version of the conversion, was written what became of them, and no
-- fault came
pub record HasChanged (form : Format) (rows : Manner) (m : Hearing) (lamps : Lamps) (side : Side) (others : List Code) (version : Option Version) (payload : List ℕ)
    (left : List Code) (count : ℕ) (sink : Turn) : Type 0 where
  pub before : List Code
  pub all_are : codes_by version payload ≡ before ++ map (code_by version) left
  pub count_is : count ≡ lines_in rows (changed side m lamps others before)
  pub few : count ≤ length before
  pub written : Puts {T = Unit} {E = Unit} (faults_text form rows (changed side m lamps others before)) (Ok tt) sink

module _ (form : Format) (rows : Manner) (m : Hearing) (lamps : Lamps) (side : Side) (others : List Code) (version : Option Version) (payload : List ℕ) where
  abbrev by : Code → Code
  by code = code_by version code

  abbrev here : Code → List Fault
  here code = became m lamps code (change_by side others code)

  abbrev of : List Code → List Fault
  of cs = changed side m lamps others cs

  next_is : (left more : List Code) (code : Code) → left ≡ code ∷ more → map by left ≡ by code ∷ map by more
  next_is left more code is = ap (map by) is

  of_one_more : (before : List Code) (code : Code) → of (before ++ code ∷ []) ≡ of before ++ here code
  of_one_more before code = flat_map-append here before (code ∷ []) ∙ ap (λ x. of before ++ x) (append-nil (here code))

  pub change_more : {E : Type 0} (code : Code) (left more : List Code) (count n : ℕ) (old mid new : Device)
      → HasChanged form rows m lamps side others version payload left count (record { old = old; new = mid }) → left ≡ code ∷ more
      → n ≡ lines_in rows (here (by code)) → Puts {T = ℕ} {E = E} (faults_text form rows (here (by code))) (Ok n) (record { old = mid; new = new })
      → HasChanged form rows m lamps side others version payload more (count + n) (record { old = old; new = new })
  change_more code left more count n old mid new h is counts put = record {
    before = h.before ++ by code ∷ [];
    all_are = h.all_are ∙ ap (λ x. h.before ++ x) (next_is left more code is) ∙ sym (append_assoc h.before (by code ∷ []) (map by more));
    count_is = (let c = h.count_is in let l : lines_in rows (of (h.before ++ by code ∷ [])) ≡ lines_in rows (of h.before) + lines_in rows (here (by code)) =
        ap (lines_in rows) (of_one_more h.before (by code)) ∙ count_by-append (says_asked rows) (of h.before) (here (by code)) in omega (arith, c, l, counts));
    few = (let f = h.few in let one = one_at_most rows m lamps (by code) (change_by side others (by code)) in
        let l : length (h.before ++ by code ∷ []) ≡ length h.before + 1 = length-append h.before (by code ∷ []) in omega (arith, f, one, l, counts));
    written = puts_as _ _ _ _ (sym (ap (faults_text form rows) (of_one_more h.before (by code)) ∙ faults_text-append form rows (of h.before) (here (by code))))
        (puts_then (faults_text form rows (of h.before)) (faults_text form rows (here (by code))) tt (Ok tt) old mid new h.written (puts_done _ n tt _ put));
  }

  pub change_stops : {T U E F : Type 0} (code : Code) (left more : List Code) (count : ℕ) (e : E) (last : Result U F) (old mid new : Device)
      → IsErr last → HasChanged form rows m lamps side others version payload left count (record { old = old; new = mid }) → left ≡ code ∷ more
      → Puts {T = T} (faults_text form rows (here (by code))) (Err e) (record { old = mid; new = new })
      → Puts (faults_text form rows (of (codes_by version payload))) last (record { old = old; new = new })
  change_stops {T = T} code left more count e last old mid new failed h is put =
      let before = faults_text form rows (of h.before) in
      let now = faults_text form rows (here (by code)) in
      let rest = faults_text form rows (of (map by more)) in
      let all : of (codes_by version payload) ≡ of h.before ++ (here (by code) ++ of (map by more)) =
      ap of (h.all_are ∙ ap (λ x. h.before ++ x) (next_is left more code is)) ∙ flat_map-append here h.before (by code ∷ map by more) in
      puts_as _ _ _ _ (sym (ap (faults_text form rows) all ∙ faults_text-append form rows (of h.before) (here (by code) ++ of (map by more))
      ∙ ap (λ x. before ++ x) (faults_text-append form rows (here (by code)) (of (map by more))) ∙ sym (append_assoc before now rest)))
      (puts_first {T = T} (before ++ now) rest e last _ failed (puts_then before now tt (Err e) old mid new h.written put))

  -- no more than bytes
  pub few_changed : (left : List Code) (count : ℕ) (sink : Turn) → HasChanged form rows m lamps side others version payload left count sink → count ≤ length payload
  few_changed left count sink h =
      let f = h.few in
      let l : length (codes_by version payload) ≡ length h.before + length (map by left) = ap length h.all_are ∙ length-append h.before (map by left) in
      let n : length (codes_by version payload) ≡ length (codes_of payload) = length-map (codes_of payload) by in
      let c = few_codes payload in
      omega arith
