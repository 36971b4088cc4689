-- The reading goes to its row, and what is not available stays; or memory was refused.
use Rattle.j39_reports.proofs.Common.{◌≡◌, ◌∙◌, ◌∷◌, ◌++◌, [], inl, inr, refl, true, List, pairs_of, stamp_micros, subst, told, Entry, SightingRecord, ReadingRecord, entry_of}
use Rattle.j39_reports.specs.RowModels.{entry_at}
use Rattle.j39_reports.specs.RowsSoFar.{AreRowsOf, GoesOn, HasTaken, Message}
use Rattle.j39_reports.specs.SummaryRun.{WantsRow}
use Rattle.j39_reports.specs.MessageHeads.{origin_in}
use Rattle.j39_reports.specs.declared.summaries.rows.Rows.{Rows}
use Rattle.j39_reports.proofs.HeadLemmas.{entry_with}
use Rattle.j39_reports.proofs.TakenLemmas.{counts_keep, refused_more, refused_now, told_more}
use Rattle.j39_reports.proofs.summaries.rows.Rows.note_value.Goals as goal

module _ (old new : Rows) (r : ReadingRecord) where
  entry : Entry
  entry = entry_at (origin_in old.head r.spn) (stamp_micros old.head.stamp) r.value

  is : (message : Message) (before : List SightingRecord) → HasTaken message old before → entry ≡ entry_of message.hearing r
  unfolding entry
  is message before has = entry_with old.head message.hearing r has.head_is

  -- the rows have the reading's entry
  took : new.head ≡ old.head → new.absences ≡ old.absences → new.is_refused ≡ old.is_refused
      → ((es : List Entry) → AreRowsOf (pairs_of old.rows) es
      → AreRowsOf (pairs_of new.rows) (es ++ entry_at (origin_in old.head r.spn) (stamp_micros old.head.stamp) r.value ∷ []))
      → (message : Message) (before : List SightingRecord) → GoesOn message old before → GoesOn message new (before ++ told r ∷ [])
  unfolding entry
  took head absences still taken message before goes = elim goes [
    | inl has ↦ inl (
      record {
        are_rows = subst (AreRowsOf (pairs_of new.rows)) (told_more message.before message.hearing before r _ (is message before has.0)) (taken _ has.0.are_rows);
        are_counted = rw absences (counts_keep message before (pairs_of old.absences.counts) r has.0.are_counted);
        head_is = rw head has.0.head_is;
      },
      still ∙ has.1,
    )
    | inr was ↦ inr (refused_more message old new before (told r) (still ∙ was.is_refused) was)
  ]

  -- memory was refused
  refuses : new.is_refused ≡ true
      → ((es : List Entry) → AreRowsOf (pairs_of old.rows) es → WantsRow es (entry_at (origin_in old.head r.spn) (stamp_micros old.head.stamp) r.value))
      → (message : Message) (before : List SightingRecord) → GoesOn message old before → GoesOn message new (before ++ told r ∷ [])
  unfolding entry
  refuses refused wants message before goes = elim goes [
    | inl has ↦ inr (refused_now message new before (told r) refused (subst (WantsRow _) (is message before has.0) (wants _ has.0.are_rows)))
    | inr was ↦ inr (refused_more message old new before (told r) refused was)
  ]

pub returns-in-Ok-clause-noted : goal.returns-in-Ok-clause-noted
returns-in-Ok-clause-noted c = λ message before goes.
    took _ _ _ c.in-Ok.ensures.head c.in-Ok.ensures.absences c.in-Ok.ensures.refused c.in-Ok.ensures.taken message before goes

pub returns-in-Err-clause-noted : goal.returns-in-Err-clause-noted
returns-in-Err-clause-noted c = λ message before goes. refuses _ _ _ refl c.in-Err.ensures.wanted message before goes
