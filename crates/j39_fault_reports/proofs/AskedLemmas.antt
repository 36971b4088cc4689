-- What is told of one message is asked for as a whole, or not at all.
use Rattle.j39_fault_reports.proofs.Common.{◌≡◌, ◌∙◌, ◌++◌, ◌∷◌, [], ◌&&◌, if◌then◌else◌, ℕ, Bool, true, false, List, Option, Some, None, ap, map, refl, sym, flat_map, filter-append, codes_by, version_for, change_since, clearing_by, cleared_in, kind_of, lamps_of, Change, Code, Conversion, Version, Kind, Lamps, Is, FilterRecord, no_filter, takes_message, Hearing}
use Rattle.std.specs.Prelude.{bytes_eq}
use Rattle.j39_faults.specs.Text.{lamps_told}
use Rattle.j39_fault_reports.specs.FaultChanges.{became, changes_by, changes_of, last_bytes, words_of}
use Rattle.j39_fault_reports.specs.Faults.{Fault, asks_fault, codes_or_none, lights, lights_since, said_at, fault_of, faults_by, faults_in, faults_or_clearing, faults_taken}
use Rattle.j39_fault_reports.specs.FaultsSoFar.{told_faults, told_next}
use Rattle.j39_fault_reports.specs.News.{Chosen, is_news, is_of_faults}
use Rattle.j39_fault_reports.specs.Spoken.{active_among, is_active, sent_before, spoken_in}
use Rattle.j39_fault_reports.specs.Told.{told_here, told_of}
use Rattle.j39_fault_reports.specs.declared.fault_news.telling.Telling.{Telling}
use Rattle.j39_fault_reports.specs.declared.fault_news.telling.Telling.TheVariants.{News, All, Changes}

pub told_nothing : (b : Bool) → told_faults b [] ≡ []
told_nothing true = refl
told_nothing false = refl

pub told_both : (a b : Bool) (faults : List Fault) → told_faults b (told_faults a faults) ≡ told_faults (a && b) faults
told_both true b faults = refl
told_both false b faults = told_nothing b

module _ (which : FilterRecord) (first : ℕ) (m : Hearing) where
  -- of these faults all are asked for if the message is, and else none
  abbrev pub AreWhole : List Fault → Type 0
  AreWhole faults = faults_taken which first faults ≡ told_faults (takes_message which first m) faults

  whole_none : AreWhole []
  whole_none = sym (told_nothing (takes_message which first m))

  whole_both : (xs ys : List Fault) → AreWhole xs → AreWhole ys → AreWhole (xs ++ ys)
  whole_both xs ys a b = filter-append (asks_fault which first) xs ys ∙ (λ i. a i ++ b i) ∙ by (takes_message which first m)
    where
      by : (b : Bool) → told_faults b xs ++ told_faults b ys ≡ told_faults b (xs ++ ys)
      by true = refl
      by false = refl

  whole_lights : (before : List ℕ) (lamps : Lamps) → AreWhole (lights_since before lamps (said_at m))
  whole_lights before lamps = by (bytes_eq (lamps_told lamps) before)
    where
      by : (b : Bool) → AreWhole (if b then [] else said_at m (lights lamps) ∷ [])
      by true = whole_none
      by false = refl

  whole_codes : (kind : Kind) (lamps : Lamps) (os : List (Option Code)) → AreWhole (map (fault_of m (Is kind) lamps) os)
  whole_codes kind lamps [] = whole_none
  whole_codes kind lamps (o ∷ os) = whole_both (fault_of m (Is kind) lamps o ∷ []) (map (fault_of m (Is kind) lamps) os) refl (whole_codes kind lamps os)

  whole_by : (version : Option Version) (kind : Option Kind) (lamps : Option Lamps) → AreWhole (faults_by version m kind lamps)
  whole_by version None lamps = whole_none
  whole_by version (Some kind) None = whole_none
  whole_by version (Some kind) (Some lamps) =
      whole_both _ _ (whole_lights [] lamps) (whole_codes kind lamps (codes_or_none (codes_by version m.message.bytes)))

  whole_in : (conversions : List Conversion) (cleared : Option Kind) → AreWhole (faults_or_clearing conversions m cleared)
  whole_in conversions (Some kind) = refl
  whole_in conversions None = whole_by (version_for conversions m.name) (kind_of m.message.pgn) (lamps_of m.message.bytes)

  whole_became : (lamps : Lamps) (code : Code) (change : Option Change) → AreWhole (became m lamps code change)
  whole_became lamps code None = whole_none
  whole_became lamps code (Some change) = refl

  whole_changed : (lamps : Lamps) (change : Code → Option Change) (cs : List Code) → AreWhole (flat_map (λ code. became m lamps code (change code)) cs)
  whole_changed lamps change [] = whole_none
  whole_changed lamps change (c ∷ cs) =
      whole_both (became m lamps c (change c)) (flat_map (λ code. became m lamps code (change code)) cs) (whole_became lamps c (change c)) (whole_changed lamps change cs)

  whole_changes : (version : Option Version) (before : List ℕ) (kind : Option Kind) (lamps : Option Lamps) → AreWhole (changes_of version before m kind lamps)
  whole_changes version before None lamps = whole_none
  whole_changes version before (Some kind) None = whole_none
  whole_changes version before (Some kind) (Some lamps) = by (is_active kind)
    where
      by : (b : Bool) → AreWhole (told_faults b (changes_by version before m lamps))
      by true = whole_both _ _ (whole_lights (words_of (lamps_of before)) lamps)
          (whole_both _ _ (whole_changed lamps (change_since (codes_by version before)) (codes_by version m.message.bytes))
          (whole_changed lamps (clearing_by (codes_by version m.message.bytes)) (codes_by version before)))
      by false = whole_none

  pub whole_told : (telling : Telling) (conversions : List Conversion) (before : List Hearing) → AreWhole (told_of telling conversions before m)
  whole_told News conversions before = by (is_news conversions before m)
    where
      by : (b : Bool) → AreWhole (told_faults b (faults_in conversions m))
      by true = whole_in conversions (cleared_in m.message.pgn m.message.bytes)
      by false = whole_none
  whole_told All conversions before = whole_in conversions (cleared_in m.message.pgn m.message.bytes)
  whole_told Changes conversions before =
      whole_changes (version_for conversions m.name) (last_bytes (sent_before (spoken_in (active_among before)) m)) (kind_of m.message.pgn) (lamps_of m.message.bytes)

-- without a filter all is taken
pub taken_all : (first : ℕ) (faults : List Fault) → faults_taken no_filter first faults ≡ faults
taken_all first [] = refl
taken_all first (f ∷ faults) = ap (λ fs. f ∷ fs) (taken_all first faults)

-- what is told of what is heard next
pub taken_next : (which : Chosen) (first : ℕ) (ms : List Hearing) (m : Hearing)
    → faults_taken which.asked first (told_next which ms (Some m)) ≡ told_faults (takes_message which.asked first m) (told_next which ms (Some m))
taken_next which first ms m = by (is_of_faults m)
  where
    by : (b : Bool) → faults_taken which.asked first (told_faults b (told_here which ms (Some m)))
        ≡ told_faults (takes_message which.asked first m) (told_faults b (told_here which ms (Some m)))
    by true = whole_told which.asked first m which.telling which.conversions ms
    by false = whole_none which.asked first m
