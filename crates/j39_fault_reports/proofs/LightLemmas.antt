-- The line of the lamps, before those of the codes.
use Rattle.j39_fault_reports.proofs.Common.{◌≡◌, ◌∙◌, ◌+◌, ◌&&◌, ◌++◌, ◌∷◌, [], ℕ, Bool, true, false, List, not, ap, append-nil, arith, if◌then◌else◌, refl, sym, Lamps, Format, HeadRecord, row_text, text_or_nothing}
use Rattle.std.specs.Prelude.{bytes_eq}
use Rattle.j39_faults.specs.Text.{lamps_told}
use Rattle.j39_listen.specs.Counting.{one_if}
use Rattle.j39_listen.proofs.CountLemmas.{count_by-append, count_here}
use Rattle.j39_fault_reports.specs.Faults.{Fault, Manner, Saying, lights, lights_asked, lights_since, lines_in, saying_asked, says_asked}
use Rattle.j39_fault_reports.specs.FaultRows.{faults_text, lights_columns, message_head, saying_columns}
use Rattle.j39_fault_reports.specs.FaultsSoFar.{are_lit, lights_line}
use Rattle.j39_fault_reports.proofs.FaultAccountLemmas.{faults_text-append, faults_text-none}

module _ (form : Format) (rows : Manner) (before : List ℕ) (lamps : Lamps) (said : Saying → Fault) (head : HeadRecord)
    (says : (said (lights lamps)).saying ≡ lights lamps)
    (is : head ≡ message_head (said (lights lamps)).stamp (said (lights lamps)).address (said (lights lamps)).destination (said (lights lamps)).name) where
  abbrev f : Fault
  f = said (lights lamps)

  line_by : (s : Saying) → f.saying ≡ s → (if saying_asked rows s then row_text form head (saying_columns rows.naming s) else []) ≡ faults_text form rows (f ∷ [])
  unfolding faults_text
  line_by s same = ap (λ s. if saying_asked rows s then row_text form head (saying_columns rows.naming s) else []) (sym same)
      ∙ ap (λ h. if says_asked rows f then row_text form h (saying_columns rows.naming f.saying) else []) is ∙ sym (append-nil _)

  pub lights_text : lights_line form head rows before lamps ≡ faults_text form rows (lights_since before lamps said)
  lights_text = by (bytes_eq (lamps_told lamps) before)
    where
      by : (b : Bool) → (if not b && lights_asked rows then row_text form head (lights_columns (text_or_nothing (lamps_told lamps))) else [])
          ≡ faults_text form rows (if b then [] else f ∷ [])
      by true = sym (faults_text-none form rows)
      by false = line_by (lights lamps) says

  pub lights_count : lines_in rows (lights_since before lamps said) ≡ one_if (are_lit rows before lamps)
  lights_count = by (bytes_eq (lamps_told lamps) before)
    where
      by : (b : Bool) → lines_in rows (if b then [] else f ∷ []) ≡ one_if (not b && lights_asked rows)
      by true = refl
      by false = sym (count_here (says_asked rows) f) ∙ ap (λ s. one_if (saying_asked rows s)) says

  -- before other faults
  module _ (rest : List Fault) where
    pub both_text : lights_line form head rows before lamps ++ faults_text form rows rest ≡ faults_text form rows (lights_since before lamps said ++ rest)
    both_text = ap (λ t. t ++ faults_text form rows rest) lights_text ∙ sym (faults_text-append form rows (lights_since before lamps said) rest)

    pub both_count : (n k : ℕ) → n ≡ one_if (are_lit rows before lamps) → k ≡ lines_in rows rest → n + k ≡ lines_in rows (lights_since before lamps said ++ rest)
    both_count n k lit more =
        let all = count_by-append (says_asked rows) (lights_since before lamps said) rest in
        let c = lights_count in omega (arith, all, c, lit, more)
