-- What filters take of a report.
use Rattle.std.proofs.Common.{◌≡◌, ◌∙◌, ◌&&◌, ◌||◌, ◌++◌, ◌∷◌, [], ℕ, Bool, true, false, List, Some, ap, ap₂, flat_map, if◌then◌else◌, inl, inr, length, map, refl, sym}
use Rattle.std.specs.Prelude.{filter}
use Rattle.std.proofs.lemmas.Bool.{cases_Bool}
use Rattle.std.proofs.lemmas.List.Elements.{filter-append}
use Rattle.j39_address.specs.Name.{name_raw}
use Rattle.j39_address.specs.declared.name.Name.{Name}
use Rattle.j39_groups.specs.Readings.{readings_in}
use Rattle.j39_groups.specs.Row.{RowRecord}
use Rattle.j39_groups.specs.Value.{ReadingRecord}
use Rattle.j39_listen.specs.Filter.{FilterRecord, IsAmong, MakesFilteredIn, filtered_of, first_stamp, is_name, kept, left, messages_taken, no_filter, nothing, taken, takes, takes_message}
use Rattle.j39_listen.specs.Heard.{AreHeard, Hearing}
use Rattle.j39_listen.specs.Output.{MakesReportIn, report_of}
use Rattle.j39_listen.specs.Report.{Entry, Form, entries_of, entry_of}
use Rattle.j39_listen.specs.declared.filter.Sender.TheVariants.{Named}

pub among : (p : Entry → Bool) (es : List Entry) → IsAmong (filter p es) es
among p [] = nothing
among p (e ∷ es) = elim (cases_Bool (p e)) [
  | inl passes ↦ rw passes (kept e (filter p es) es (among p es))
  | inr fails ↦ rw fails (left e (filter p es) es (among p es))
]

pub both : (p q : Entry → Bool) (es : List Entry) → filter p (filter q es) ≡ filter (λ e. p e && q e) es
both p q [] = refl
both p q (e ∷ es) = elim (cases_Bool (q e)) [
  | inl second ↦ elim (cases_Bool (p e)) [
    | inl first ↦ rw (second, first) (ap (λ (xs : List Entry). e ∷ xs) (both p q es))
    | inr first ↦ rw (second, first) (both p q es)
  ]
  | inr second ↦ elim (cases_Bool (p e)) [
    | inl first ↦ rw (second, first) (both p q es)
    | inr first ↦ rw (second, first) (both p q es)
  ]
]

and-swap : (a b : Bool) → (a && b) ≡ (b && a)
and-swap true true = refl
and-swap true false = refl
and-swap false true = refl
and-swap false false = refl

pub either_order : (p q : Entry → Bool) (es : List Entry) → filter p (filter q es) ≡ filter q (filter p es)
either_order p q es = both p q es ∙ (λ i. filter (λ e. and-swap (p e) (q e) i) es) ∙ sym (both q p es)

-- ---- nothing is asked for

all_kept : (first : ℕ) (es : List Entry) → taken no_filter first es ≡ es
all_kept first [] = refl
all_kept first (e ∷ es) = ap (λ (xs : List Entry). e ∷ xs) (all_kept first es)

pub whole : (form : Form) (groups : List RowRecord) (first : ℕ) (heard : List Hearing) → filtered_of form groups no_filter first heard ≡ report_of form groups heard
whole form groups first heard = λ i. record {
  text = flat_map (form groups) (all_kept first (flat_map (entries_of groups) heard) i);
  messages = length heard;
  lines = length (all_kept first (flat_map (entries_of groups) heard) i);
}

pub unfiltered : (form : Form) (groups : List RowRecord) → MakesFilteredIn form groups no_filter ≡ MakesReportIn form groups
unfiltered form groups = λ i bus F output. (heard : List Hearing) × AreHeard groups F heard × (output ≡ whole form groups (first_stamp F) heard i)

pub no_message : (first : ℕ) (heard : List Hearing) → messages_taken no_filter first heard ≡ heard
no_message first [] = refl
no_message first (h ∷ hs) = ap (λ (xs : List Hearing). h ∷ xs) (no_message first hs)

-- ---- the entries of messages

pub of_message : (f : FilterRecord) (first : ℕ) (h : Hearing) (rs : List ReadingRecord) (b : Bool) → takes_message f first h ≡ b
    → taken f first (map (entry_of h) rs) ≡ (if b then map (entry_of h) rs else [])
of_message f first h [] true is = refl
of_message f first h [] false is = refl
of_message f first h (r ∷ rs) true is = rw is (ap (λ (es : List Entry). entry_of h r ∷ es) (of_message f first h rs true is))
of_message f first h (r ∷ rs) false is = rw is (of_message f first h rs false is)

pub of_messages : (f : FilterRecord) (groups : List RowRecord) (first : ℕ) (heard : List Hearing)
    → flat_map (entries_of groups) (messages_taken f first heard) ≡ taken f first (flat_map (entries_of groups) heard)
of_messages f groups first [] = refl
of_messages f groups first (h ∷ hs) = elim (cases_Bool (takes_message f first h)) [
  | inl passes ↦ rw passes (ap₂ (λ (xs ys : List Entry). xs ++ ys) (sym (of_message f first h (readings_in groups h.message.pgn h.message.bytes) true passes))
      (of_messages f groups first hs) ∙ sym (filter-append (takes f first) (entries_of groups h) (flat_map (entries_of groups) hs)))
  | inr fails ↦ rw fails (ap₂ (λ (xs ys : List Entry). xs ++ ys) (sym (of_message f first h (readings_in groups h.message.pgn h.message.bytes) false fails))
      (of_messages f groups first hs) ∙ sym (filter-append (takes f first) (entries_of groups h) (flat_map (entries_of groups) hs)))
]

-- ---- by a NAME

alone : (b : Bool) → ((true && true) && ((b || false) && (true && true))) ≡ b
alone true = refl
alone false = refl

pub by_name : (name : Name) (first : ℕ) (es : List Entry)
    → taken (record no_filter { from = Some (Named name ∷ []) }) first es ≡ filter (λ e. is_name (name_raw name) e.name) es
by_name name first es = λ i. filter (λ e. alone (is_name (name_raw name) e.name) i) es
