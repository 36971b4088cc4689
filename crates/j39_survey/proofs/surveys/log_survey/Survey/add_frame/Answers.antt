-- A frame of the interface whose groups are counted.
use Rattle.j39_survey.proofs.Common.{◌≡◌, ◌+◌, ◌∙◌, ℕ, List, Some, ap, subst, sym, arith, refl, FrameRecord, capped, frame, one_spelled}
use Rattle.j39_log.specs.Bus.{IsBusName}
use Rattle.j39_log.specs.Log as log
use Rattle.j39_survey.specs.LogLines.{seen_in, spelled_in}
use Rattle.j39_survey.specs.SurveyModels.{IsPlaced}
use Rattle.std.proofs.lemmas.Result.{on_err_weaker, on_ok_weaker}
use Rattle.j39_survey.proofs.SurveyLemmas.{meets_one, on_bus_known, surveys_frame}
use Rattle.j39_survey.proofs.surveys.log_survey.Survey.add_frame.Goals as goal

pub returns-clause-surveyed : goal.returns-clause-surveyed
returns-clause-surveyed c = on_ok_weaker c.add.result (λ meets given lines line name named reads spelled h.
    let seen = c.args.frame.now in
    let is = one_spelled line.text line.spelled (frame name seen) spelled reads in
    let more : c.saturating_add-self.result ≡ capped (c.args.self.now.lines + 1) = omega arith in
    let here = c.in-Some.is in
    let value = c.bytes.ensures.value in
    let same : name ≡ c.bytes.result.now = cc in
    let is_bus : c.args.self.now.bus ≡ Some c.bytes.result.now = named ∙ ap (λ (n : List ℕ). Some n) same in
    let placed = subst (IsPlaced c.args.self.now.interfaces) is_bus h.placed in
    let known = on_bus_known c.args.self.now.bus name seen named in
    surveys_frame lines line c.args.self.now _ given name seen h is more
    (λ s on content. c.add_known.ensures.met (seen_in lines) s (subst IsBusName (sym value) c.bytes.ensures.is_name) (on ∙ same) (ap (λ (f : FrameRecord). f.stamp) (content ∙ sym c.frame.view_is)) placed h.interfaces_are)
    (known.0 ∙ rw (h.bus_is, sym is) refl)
    (subst (IsPlaced c.add_known.new.self) (sym is_bus) (c.add_known.ensures.placed placed))
    (meets_one lines line given h.heard c.args.self.now.traffic _ seen (rw (is, sym h.bus_is) known.1) meets h.met)
    refl refl refl) c.add.ensures.met

pub returns-clause-asked : goal.returns-clause-asked
returns-clause-asked c = on_err_weaker c.add.result (λ asks given lines line name named reads spelled h.
    let seen = c.args.frame.now in
    let is = one_spelled line.text line.spelled (frame name seen) spelled reads in
    record {
      at = seen;
      is_on = rw (is, sym h.bus_is) (on_bus_known c.args.self.now.bus name seen named).1;
      asked = asks (log.frames_of given (spelled_in lines)) h.met.hears;
    }) c.add.ensures.asked
