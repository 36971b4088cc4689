-- All readings were taken, or some.
use Rattle.std.proofs.Common.{◌∙◌, ap, length, refl, sym}
use Rattle.std.proofs.lemmas.List.{length-map}
use Rattle.j39_io.proofs.PutsLemmas.{puts_done, puts_failed}
use Rattle.j39_groups.specs.Readings.{readings_in}
use Rattle.j39_groups.specs.Sightings.{sightings_in}
use Rattle.j39_groups.proofs.SightingLemmas.{told_are}
use Rattle.j39_listen.specs.Counting.{capped}
use Rattle.j39_listen.specs.Report.{entry_of}
use Rattle.j39_listen.specs.HeardModel.{hearing_of}
use Rattle.j39_web.proofs.SeriesLemmas.{puts_all, stops_among}
use Rattle.j39_web.proofs.series.put_heard.Goals as goal

pub returns-in-Ok-clause-lines : goal.returns-in-Ok-clause-lines
returns-in-Ok-clause-lines g c =
    let h = hearing_of c.args.heard.now in
    let readings = readings_in c.args.groups.now h.message.pgn h.message.bytes in
    (puts_all c.args.of.now h _ c.new-points.result c.new-points.ensures.begun c.new-points.ensures.none c.visit.new.visitor _
    (sightings_in c.args.groups.now h.message.pgn h.message.bytes) c.in-Ok.ensures.taken).lines_are
    ∙ ap (λ rs. capped (length rs)) (told_are c.args.groups.now h.message.pgn h.message.bytes)
    ∙ ap capped (sym (length-map readings (entry_of h)))

pub returns-in-Ok-clause-puts : goal.returns-in-Ok-clause-puts
returns-in-Ok-clause-puts g c =
    let h = hearing_of c.args.heard.now in
    rw (← told_are c.args.groups.now h.message.pgn h.message.bytes) (puts_done _ _ _ _
    (puts_all c.args.of.now h _ c.new-points.result c.new-points.ensures.begun c.new-points.ensures.none c.visit.new.visitor _
    (sightings_in c.args.groups.now h.message.pgn h.message.bytes) c.in-Ok.ensures.taken).written)

pub returns-in-Err-clause-puts : goal.returns-in-Err-clause-puts
returns-in-Err-clause-puts g c =
    let h = hearing_of c.args.heard.now in
    rw (← told_are c.args.groups.now h.message.pgn h.message.bytes) (puts_failed _ _ _ _ refl
    (stops_among c.args.of.now h _ c.new-points.result c.new-points.ensures.begun c.new-points.ensures.none c.visit.new.visitor _
    (sightings_in c.args.groups.now h.message.pgn h.message.bytes) c.in-Err.ensures.stopped))
