-- The line by what it spells.
use Rattle.j39_survey.proofs.Common.{◌≡◌, ◌+◌, ◌∙◌, ap, refl, subst, sym, arith, FrameRecord, capped, IsRawLine, one_spelled, frame}
use Rattle.j39_log.specs.LineRead.{spelled_of}
use Rattle.j39_log.specs.Log as log
use Rattle.j39_survey.specs.LogLines.{others_in, seen_in, spelled_in, unread_in}
use Rattle.std.proofs.lemmas.Result.{on_err_weaker, on_ok_weaker}
use Rattle.j39_survey.proofs.SurveyLemmas.{bus_known, is_on_bus, meets_on_bus, surveys_blank, surveys_frame, surveys_other, surveys_unread}
use Rattle.j39_survey.proofs.surveys.log_survey.Survey.add.Goals as goal

pub returns-in-Frame-clause-spelled : goal.returns-in-Frame-clause-spelled
returns-in-Frame-clause-spelled c = λ text raw. (spelled_of c.read.result, c.read.ensures.spelled text raw)

pub returns-in-Other-clause-spelled : goal.returns-in-Other-clause-spelled
returns-in-Other-clause-spelled c = λ text raw. (spelled_of c.read.result, c.read.ensures.spelled text raw)

pub returns-in-Unread-clause-spelled : goal.returns-in-Unread-clause-spelled
returns-in-Unread-clause-spelled c = λ text raw. (spelled_of c.read.result, c.read.ensures.spelled text raw)

pub returns-in-Blank-clause-spelled : goal.returns-in-Blank-clause-spelled
returns-in-Blank-clause-spelled c = λ text raw. (spelled_of c.read.result, c.read.ensures.spelled text raw)

pub returns-in-Frame-clause-surveyed : goal.returns-in-Frame-clause-surveyed
returns-in-Frame-clause-surveyed c = on_ok_weaker c.meet.result (λ meets given lines line raw spelled h.
    let reads = c.in-Frame.ensures.spelled line.text raw in
    let is = one_spelled line.text line.spelled _ spelled reads in
    let more : c.saturating_add-self.result ≡ capped (c.args.self.now.lines + 1) = omega arith in
    let met = meets reads.parts.bus_is in
    surveys_frame lines line c.args.self.now _ given c.in-Frame.bus.now c.in-Frame.frame h is more
    (λ s on content. c.add.ensures.met (seen_in lines) s reads.parts.bus_is on (ap (λ (f : FrameRecord). f.stamp) (content ∙ sym c.frame.view_is)) h.interfaces_are)
    (bus_known c.args.self.now.bus c.in-Frame.bus.now c.in-Frame.frame c.meet.new.bus met.bus_is ∙ rw (h.bus_is, sym is) refl)
    (c.add.ensures.placed c.meet.new.bus)
    (meets_on_bus lines line given h.heard c.in-Frame.bus.now c.in-Frame.frame c.args.self.now.bus c.meet.new.bus c.args.self.now.traffic c.meet.new.traffic is h.bus_is met h.met)
    refl refl refl) c.meet.ensures.met

pub returns-in-Frame-clause-asked : goal.returns-in-Frame-clause-asked
returns-in-Frame-clause-asked c = on_err_weaker c.meet.result (λ asks given lines line raw spelled h.
    let reads = c.in-Frame.ensures.spelled line.text raw in
    let is = one_spelled line.text line.spelled (frame c.in-Frame.bus.now c.in-Frame.frame) spelled reads in
    let asked = asks reads.parts.bus_is in
    record {
      at = c.in-Frame.frame;
      is_on = rw (is, sym h.bus_is) (is_on_bus c.args.self.now.bus c.in-Frame.bus.now c.in-Frame.frame asked.0);
      asked = asked.1 (log.frames_of given (spelled_in lines)) h.met.hears;
    }) c.meet.ensures.asked

pub returns-in-Other-clause-surveyed : goal.returns-in-Other-clause-surveyed
returns-in-Other-clause-surveyed c = λ given lines line raw spelled h.
    let reads = c.in-Other.ensures.spelled line.text raw in
    let is = one_spelled line.text line.spelled _ spelled reads in
    let more : c.saturating_add-self.result ≡ capped (c.args.self.now.lines + 1) = omega arith in
    surveys_other lines line c.args.self.now _ given h is more refl refl refl
    (c.add-in-Other.ensures (others_in lines) line.text (c.kind_in.ensures line.text raw reads) h.others_are) refl refl

pub returns-in-Unread-clause-surveyed : goal.returns-in-Unread-clause-surveyed
returns-in-Unread-clause-surveyed c = λ given lines line raw spelled h.
    let is = one_spelled line.text line.spelled _ spelled (c.in-Unread.ensures.spelled line.text raw) in
    let more : c.saturating_add-self.result ≡ capped (c.args.self.now.lines + 1) = omega arith in
    surveys_unread lines line c.args.self.now _ given h is more refl refl refl refl
    (λ u text number. c.add-in-Unread.ensures (unread_in lines) u (subst (IsRawLine c.args.raw) (sym text) raw) number h.unread_are) refl

pub returns-in-Blank-clause-surveyed : goal.returns-in-Blank-clause-surveyed
returns-in-Blank-clause-surveyed c = λ given lines line raw spelled h.
    let is = one_spelled line.text line.spelled _ spelled (c.in-Blank.ensures.spelled line.text raw) in
    let more : c.saturating_add-self.result ≡ capped (c.args.self.now.lines + 1) = omega arith in
    surveys_blank lines line c.args.self.now _ given h is more refl refl refl refl refl refl
