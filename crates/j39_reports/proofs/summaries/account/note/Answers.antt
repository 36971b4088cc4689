-- A message is heard at the frame or none.
use Rattle.j39_reports.proofs.Common.{◌∙◌, ◌++◌, ◌∷◌, [], sym, first_stamp, messages_taken, flat_map, is_reported_in, entries_of, hearing_of, inl, on_ok, reported_free, reported_leaves}
use Rattle.j39_reports.specs.Summary.{absences_of}
use Rattle.j39_reports.proofs.SummaryAccountLemmas.{asks_heard, notes_heard, notes_left, notes_silent, where_refused}
use Rattle.j39_reports.specs.RowsSoFar.{Message}
use Rattle.j39_reports.proofs.summaries.account.note.Goals as goal

pub feed_as-requires : goal.feed_as-requires
feed_as-requires c = λ single. reported_free c.args.groups.now _ (sym c.requires ∙ single)

pub returns-in-Ok-None-clause-noted : goal.returns-in-Ok-None-clause-noted
returns-in-Ok-None-clause-noted c = λ which F before h chosen are absent counts.
    notes_silent which c.args.groups.now _ F c.args.frame.now c.args.rows.now before absent (rw c.in-Ok-None.field-0-is at (c.in-Ok-None.ensures.heard (is_reported_in c.args.groups.now) (reported_leaves c.args.groups.now) (sym c.requires) F h))
    (on_ok _ _ _ _ c.in-Ok-None.is c.feed_as.follows.holds-at-none F h) are counts

pub returns-then-not-takes-clause-noted : goal.returns-then-not-takes-clause-noted
returns-then-not-takes-clause-noted c = λ which F before h chosen are absent counts.
    notes_left which c.args.groups.now _ F c.args.frame.now (hearing_of c.in-Ok-Some.heard) c.args.rows.now before absent
    (rw c.in-Ok-Some.field-0-is at (c.in-Ok-Some.ensures.heard (is_reported_in c.args.groups.now) (reported_leaves c.args.groups.now) (sym c.requires) F h)) (on_ok _ _ _ _ c.in-Ok-Some.is c.feed_as.follows.holds-at-none F h)
    (sym (c.takes.ensures which (F ++ c.args.frame.now ∷ []) chosen) ∙ c.if-not-takes.true) are counts

pub returns-else-rows-clause-noted : goal.returns-else-rows-clause-noted
returns-else-rows-clause-noted c = λ which F before h chosen are absent counts.
    notes_heard which c.args.groups.now _ F c.args.frame.now (hearing_of c.in-Ok-Some.heard) c.begin.new.self c.visit.new.visitor before absent
    (rw c.in-Ok-Some.field-0-is at (c.in-Ok-Some.ensures.heard (is_reported_in c.args.groups.now) (reported_leaves c.args.groups.now) (sym c.requires) F h)) (on_ok _ _ _ _ c.in-Ok-Some.is c.feed_as.follows.holds-at-none F h)
    (sym (c.takes.ensures which (F ++ c.args.frame.now ∷ []) chosen) ∙ c.if-not-takes.false) (c.begin.ensures.taken before absent are counts) c.begin.ensures.free c.in-Ok.ensures.taken c.if-rows.false

pub returns-then-rows-clause-asked : goal.returns-then-rows-clause-asked
returns-then-rows-clause-asked c = λ which F heard h chosen are_heard are counts.
    let entries = flat_map (entries_of c.args.groups.now) (messages_taken which (first_stamp F) heard) in
    let absent = flat_map (absences_of c.args.groups.now) (messages_taken which (first_stamp F) heard) in
    let message : Message = record { before = entries; absent = absent; hearing = hearing_of c.in-Ok-Some.heard } in
    asks_heard which c.args.groups.now F c.args.frame.now (hearing_of c.in-Ok-Some.heard) heard
    (rw c.in-Ok-Some.field-0-is at (c.in-Ok-Some.ensures.heard (is_reported_in c.args.groups.now) (reported_leaves c.args.groups.now) (sym c.requires) F h)) are_heard
    (sym (c.takes.ensures which (F ++ c.args.frame.now ∷ []) chosen) ∙ c.if-not-takes.false)
    (where_refused message c.visit.new.visitor _ (c.in-Ok.ensures.taken message [] (inl (c.begin.ensures.taken entries absent are counts, c.begin.ensures.free))) c.if-rows.true)

pub returns-in-Err-visit-clause-asked : goal.returns-in-Err-visit-clause-asked
returns-in-Err-visit-clause-asked c = λ which F heard h chosen are_heard are counts.
    let entries = flat_map (entries_of c.args.groups.now) (messages_taken which (first_stamp F) heard) in
    let absent = flat_map (absences_of c.args.groups.now) (messages_taken which (first_stamp F) heard) in
    let message : Message = record { before = entries; absent = absent; hearing = hearing_of c.in-Ok-Some.heard } in
    asks_heard which c.args.groups.now F c.args.frame.now (hearing_of c.in-Ok-Some.heard) heard
    (rw c.in-Ok-Some.field-0-is at (c.in-Ok-Some.ensures.heard (is_reported_in c.args.groups.now) (reported_leaves c.args.groups.now) (sym c.requires) F h)) are_heard
    (sym (c.takes.ensures which (F ++ c.args.frame.now ∷ []) chosen) ∙ c.if-not-takes.false)
    (c.in-Err-visit.ensures.stopped message [] (inl (c.begin.ensures.taken entries absent are counts, c.begin.ensures.free)))
