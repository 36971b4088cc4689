-- The reading goes to its row.
use Rattle.j39_watch.proofs.Common.{◌≡◌, ◌∷◌, ◌++◌, [], ◌∙◌, ap, refl, List, Origin, pairs_of, stamp_micros, subst, on_ok_from, told, Entry, SightingRecord, ReadingRecord, entry_of}
use Rattle.j39_reports.specs.RowModels.{entry_at}
use Rattle.j39_reports.specs.MessageHeads.{origin_in}
use Rattle.j39_reports.proofs.HeadLemmas.{entry_with}
use Rattle.j39_watch.specs.LatestSoFar.{AreLatest, Behind, HasFollowedMessage}
use Rattle.j39_watch.specs.declared.values.Values.{Values}
use Rattle.j39_reports.proofs.TakenLemmas.{told_more}
use Rattle.j39_watch.proofs.values.ValuesReadingVisitorUnit.visit.Goals as goal

-- the rows have the reading's entry
took : (old new : Values) (r : ReadingRecord) (o : Origin) → o ≡ origin_in old.head r.spn → new.head ≡ old.head
    → ((es : List Entry) → AreLatest (pairs_of old.rows) es → AreLatest (pairs_of new.rows) (es ++ entry_at o (stamp_micros old.head.stamp) r.value ∷ []))
    → (message : Behind) (before : List SightingRecord) → HasFollowedMessage message old before → HasFollowedMessage message new (before ++ told r ∷ [])
took old new r o own head taken message before has =
    let is : entry_at o (stamp_micros old.head.stamp) r.value ≡ entry_of message.hearing r =
    ap (λ (x : Origin). entry_at x (stamp_micros old.head.stamp) r.value) own ∙ entry_with old.head message.hearing r has.head_is in
    record {
      are_latest = subst (AreLatest (pairs_of new.rows)) (told_more message.before message.hearing before r _ is) (taken _ has.are_latest);
      head_is = rw head has.head_is;
    }

pub returns-in-Some-clause-taken : goal.returns-in-Some-clause-taken
returns-in-Some-clause-taken c = on_ok_from c.take.result _ _ (λ taken message before has. took _ _ _ _ c.origin-origin.ensures refl taken message before has) c.take.ensures.taken

pub returns-in-None-clause-taken : goal.returns-in-None-clause-taken
returns-in-None-clause-taken c = on_ok_from c.take_elsewhere.result _ _ (λ taken message before has. took _ _ _ _ refl refl taken message before has) c.take_elsewhere.ensures.taken
