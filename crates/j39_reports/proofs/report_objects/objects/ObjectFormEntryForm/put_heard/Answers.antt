-- All readings were taken, or some.
use Rattle.j39_reports.proofs.Common.{◌∙◌, [], Bor, List, RowRecord, ap, subst, length, refl, sym, take, length-map, puts_done, puts_failed, readings_in, told_are, capped, entry_of, hearing_of}
use Rattle.j39_reports.specs.EntryObject.{entry_object}
use Rattle.j39_reports.specs.MessageEntries.{Begun}
use Rattle.j39_reports.specs.MessageObjects.{IsOpened}
use Rattle.j39_reports.proofs.EntryLemmas.{none_yet, puts_waiting, stops_among}
use Rattle.j39_reports.proofs.report_objects.objects.ObjectFormEntryForm.put_heard.Goals as goal

pub returns-in_ok-put-in-Ok-clause-lines : goal.returns-in_ok-put-in-Ok-clause-lines
returns-in_ok-put-in-Ok-clause-lines g c =
    let h = hearing_of c.args.heard.now in
    let readings = readings_in c.args.self.now.known.groups.now h.message.pgn h.message.bytes in
    let begun : Begun = record { groups = c.args.self.now.known.groups.now; hearing = h; writer = _ } in
    (c.in-Ok.ensures.taken begun [] (record { is_opened = subst (λ (rows : List RowRecord). IsOpened rows h c.new-objects.result) (ap (λ (x : Bor (List RowRecord)). x.now) c.meet_group.ensures) c.new-objects.ensures.opened; have = none_yet entry_object begun _ _ c.new-objects.ensures.none (ap (λ n. take n c.new-objects.result.waiting.now.block) c.new-objects.ensures.waiting) })).have.lines_are
    ∙ ap (λ rs. capped (length rs)) (told_are c.args.self.now.known.groups.now h.message.pgn h.message.bytes)
    ∙ ap capped (sym (length-map readings (entry_of h)))

pub returns-in_ok-put-in-Ok-clause-puts : goal.returns-in_ok-put-in-Ok-clause-puts
returns-in_ok-put-in-Ok-clause-puts g c =
    let h = hearing_of c.args.heard.now in
    let begun : Begun = record { groups = c.args.self.now.known.groups.now; hearing = h; writer = _ } in
    rw (← told_are c.args.self.now.known.groups.now h.message.pgn h.message.bytes) (puts_done _ _ _ _
    (puts_waiting entry_object begun _ _ _ _ _ _ (c.in-Ok.ensures.taken begun [] (record { is_opened = subst (λ (rows : List RowRecord). IsOpened rows h c.new-objects.result) (ap (λ (x : Bor (List RowRecord)). x.now) c.meet_group.ensures) c.new-objects.ensures.opened; have = none_yet entry_object begun _ _ c.new-objects.ensures.none (ap (λ n. take n c.new-objects.result.waiting.now.block) c.new-objects.ensures.waiting) })).have c.in_ok-put-in-Ok.ensures.puts))

pub returns-in_err-put-in-Ok-clause-puts : goal.returns-in_err-put-in-Ok-clause-puts
returns-in_err-put-in-Ok-clause-puts g c =
    let h = hearing_of c.args.heard.now in
    let begun : Begun = record { groups = c.args.self.now.known.groups.now; hearing = h; writer = _ } in
    rw (← told_are c.args.self.now.known.groups.now h.message.pgn h.message.bytes) (puts_failed _ _ _ _ c.from_residual.ensures.0
    (puts_waiting entry_object begun _ _ _ _ _ _ (c.in-Ok.ensures.taken begun [] (record { is_opened = subst (λ (rows : List RowRecord). IsOpened rows h c.new-objects.result) (ap (λ (x : Bor (List RowRecord)). x.now) c.meet_group.ensures) c.new-objects.ensures.opened; have = none_yet entry_object begun _ _ c.new-objects.ensures.none (ap (λ n. take n c.new-objects.result.waiting.now.block) c.new-objects.ensures.waiting) })).have c.in_err-put-in-Ok.ensures.puts))

pub returns-in-Err-clause-puts : goal.returns-in-Err-clause-puts
returns-in-Err-clause-puts g c =
    let h = hearing_of c.args.heard.now in
    let begun : Begun = record { groups = c.args.self.now.known.groups.now; hearing = h; writer = _ } in
    let w = c.in-Err.ensures.stopped begun [] (record { is_opened = subst (λ (rows : List RowRecord). IsOpened rows h c.new-objects.result) (ap (λ (x : Bor (List RowRecord)). x.now) c.meet_group.ensures) c.new-objects.ensures.opened; have = none_yet entry_object begun _ _ c.new-objects.ensures.none (ap (λ n. take n c.new-objects.result.waiting.now.block) c.new-objects.ensures.waiting) }) in
    rw (← told_are c.args.self.now.known.groups.now h.message.pgn h.message.bytes) (puts_failed _ _ _ _ refl
    (stops_among entry_object begun w.taken w.at w.rest _ _ w.sightings_are w.stopped))
