-- A message is heard at the frame, or none; it counts as one of values, of faults, or of both.
use Rattle.j39_watch.proofs.Common.{◌||◌, ◌∙◌, ◌++◌, ◌∷◌, [], None, Some, first_stamp, in_time, inl, inr, length, refl, subst, sym, pgn_of, on_err_from, HeardAt, HeardAtWith, hearing_of, on_ok}
use Rattle.j39_fault_reports.proofs.CurrentLemmas.{first_here}
use Rattle.j39_fault_reports.proofs.HeardLemmas.{both_ok}
use Rattle.j39_watch.proofs.NoteLemmas.{counted, counted_none, neither_network, notes_heard, notes_silent, of_faults, of_values}
use Rattle.j39_fault_reports.specs.Spoken.{active_among}
use Rattle.j39_fault_reports.specs.News.{is_fault_group}
use Rattle.j39_watch.specs.Watch.{entries_asked}
use Rattle.j39_watch.proofs.note.note_heard.Goals as goal

pub feed_as-requires : goal.feed_as-requires
feed_as-requires c = λ single.
    let groups = c.args.groups.now in
    let f = c.args.frame.now in
    let is_r = sym c.requires.reported in
    let is_a = sym c.requires.fault in
    neither_network groups (pgn_of f.id) ((λ i. is_r i || is_a i) ∙ sym c.is_either.ensures ∙ single)

pub returns-in-Ok-None-clause-noted : goal.returns-in-Ok-None-clause-noted
returns-in-Ok-None-clause-noted c = λ which F before ms h chosen are kept.
    let groups = c.args.groups.now in
    let f = c.args.frame.now in
    let is_r = sym c.requires.reported in
    let is_a = sym c.requires.fault in
    let values = of_values groups c.args.listener.now F f _ _ _ _ None is_r is_a c.is_either.ensures refl
    (λ singles leaves is. rw c.in-Ok-None.field-0-is at (c.in-Ok-None.ensures.heard singles leaves is F h)) h in
    let faulty = of_faults groups c.args.listener.now F f _ _ _ _ None is_r is_a c.is_either.ensures refl
    (λ singles leaves is. rw c.in-Ok-None.field-0-is at (c.in-Ok-None.ensures.heard singles leaves is F h)) h in
    notes_silent groups which F f _ c.args.values.now c.args.places.now before ms
    (subst (HeardAt groups (F ++ f ∷ []) (length F)) (counted_none _) values)
    (subst (HeardAtWith is_fault_group (F ++ f ∷ []) (length F)) (counted_none _) faulty)
    (on_ok _ _ _ _ c.in-Ok-None.is c.feed_as.follows.holds-at-none F h) are kept

pub returns-in-Err-note_fault-clause-asked : goal.returns-in-Err-note_fault-clause-asked
returns-in-Err-note_fault-clause-asked c = λ which F heard faults h chosen are_heard are are_faults kept.
    let groups = c.args.groups.now in
    let f = c.args.frame.now in
    let is_r = sym c.requires.reported in
    let is_a = sym c.requires.fault in
    let h_now = hearing_of c.in-Ok-Some.heard in
    let faulty : HeardAtWith is_fault_group (F ++ f ∷ []) (length F) (counted c.is_either-has_faults.result (Some h_now)) =
    of_faults groups c.args.listener.now F f _ _ _ _ (Some h_now) is_r is_a c.is_either.ensures c.is_either-has_faults.ensures
    (λ singles leaves is. rw c.in-Ok-Some.field-0-is at (c.in-Ok-Some.ensures.heard singles leaves is F h)) h in
    let asked = c.in-Err-note_fault.ensures.asked in
    inr (inr (record {
      before = faults;
      are_heard = are_faults;
      message = h_now;
      is_heard = rw asked.0 at faulty;
      of_active = asked.1;
      now = sym (c.is_in_time-is_timely.ensures which (F ++ f ∷ []) chosen) ∙ asked.2;
      first = first_here [] c.args.places.now (in_time which (first_stamp (F ++ f ∷ [])) (active_among faults)) _ kept c.in-Err-note_fault.ensures.fits asked.3;
    }))

pub returns-in-Ok-clause-noted : goal.returns-in-Ok-clause-noted
returns-in-Ok-clause-noted c = both_ok c.note_values.result (λ messages count noted which F before ms h chosen are kept.
    let groups = c.args.groups.now in
    let f = c.args.frame.now in
    let is_r = sym c.requires.reported in
    let is_a = sym c.requires.fault in
    let h_now = hearing_of c.in-Ok-Some.heard in
    let values : HeardAt groups (F ++ f ∷ []) (length F) (counted c.is_either-has_values.result (Some h_now)) =
    of_values groups c.args.listener.now F f _ _ _ _ (Some h_now) is_r is_a c.is_either.ensures c.is_either-has_values.ensures
    (λ singles leaves is. rw c.in-Ok-Some.field-0-is at (c.in-Ok-Some.ensures.heard singles leaves is F h)) h in
    let faulty : HeardAtWith is_fault_group (F ++ f ∷ []) (length F) (counted c.is_either-has_faults.result (Some h_now)) =
    of_faults groups c.args.listener.now F f _ _ _ _ (Some h_now) is_r is_a c.is_either.ensures c.is_either-has_faults.ensures
    (λ singles leaves is. rw c.in-Ok-Some.field-0-is at (c.in-Ok-Some.ensures.heard singles leaves is F h)) h in
    notes_heard groups which F f _ c.note_values.new.values c.note_fault.new.places before ms messages h_now _ _ values faulty
    (on_ok _ _ _ _ c.in-Ok-Some.is c.feed_as.follows.holds-at-none F h) (noted which (first_stamp (F ++ f ∷ [])) before (c.takes-is_taken.ensures which (F ++ f ∷ []) chosen) are)
    (c.in-Ok.ensures.kept which (first_stamp (F ++ f ∷ [])) ms (c.is_in_time-is_timely.ensures which (F ++ f ∷ []) chosen) kept) count)
    c.note_values.ensures.counted c.note_values.ensures.noted

pub returns-in-Ok-clause-asked : goal.returns-in-Ok-clause-asked
returns-in-Ok-clause-asked c = on_err_from c.note_values.result _ _ (λ asked which F heard faults h chosen are_heard are are_faults kept.
    let groups = c.args.groups.now in
    let f = c.args.frame.now in
    let is_r = sym c.requires.reported in
    let is_a = sym c.requires.fault in
    let h_now = hearing_of c.in-Ok-Some.heard in
    let values : HeardAt groups (F ++ f ∷ []) (length F) (counted c.is_either-has_values.result (Some h_now)) =
    of_values groups c.args.listener.now F f _ _ _ _ (Some h_now) is_r is_a c.is_either.ensures c.is_either-has_values.ensures
    (λ singles leaves is. rw c.in-Ok-Some.field-0-is at (c.in-Ok-Some.ensures.heard singles leaves is F h)) h in
    let w = asked.2 (entries_asked groups which (first_stamp F) heard) are in
    inr (inl (record {
      heard = heard;
      are_heard = are_heard;
      now_heard = h_now;
      heard_now = rw asked.0 at values;
      asked_now = sym (c.takes-is_taken.ensures which (F ++ f ∷ []) chosen) ∙ asked.1;
      taken = w.taken;
      entry = w.entry;
      rest = w.rest;
      entries_are = w.entries_are;
      wanted = w.wanted;
    }))) c.note_values.ensures.asked
