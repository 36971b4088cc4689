-- What was written is a front of the survey of what was read, which at a fault of the writer is the whole log.
use Rattle.j39_survey.proofs.Common.{◌≡◌, ◌∙◌, ℕ, List, Option, ap₂, subst, sym, AppendsFront, Appends, IfSome_then, NamingRecord, naming_of, frames_of, Hearing}
use Rattle.j39_listen.specs.declared.format.Format.{Format}
use Rattle.j39_survey.specs.GroupCounts.{ArePutTogether}
use Rattle.j39_survey.specs.LogLines.{AreLogLines, LogLine, spelled_in}
use Rattle.j39_survey.specs.SurveyRun.{Asked, WritesFront, WritesSurvey}
use Rattle.j39_survey.specs.SurveyText.{survey_text}
use Rattle.j39_survey.proofs.SurveyLemmas.{same_survey}
use Rattle.j39_survey.proofs.surveys.running.survey_with.Goals as goal

-- of the bytes that were read
front : (asked : Asked) (form : Format) (naming : NamingRecord) (taken : List ℕ) (lines : List LogLine) (heard : List Hearing) (old new : Option (List ℕ)) → asked.form ≡ form → asked.naming ≡ naming
    → AreLogLines taken lines → ArePutTogether (frames_of asked.given (spelled_in lines)) heard
    → AppendsFront old new (survey_text form naming asked.given lines heard) → WritesFront asked taken old new
front asked form naming taken lines heard old new formed by here together h = λ others more are are_heard.
    subst (λ t. AppendsFront old new t)
    (ap₂ (λ (f : Format) (rows : NamingRecord). survey_text f rows asked.given lines heard) (sym formed) (sym by)
    ∙ same_survey asked.form asked.naming asked.given taken lines others heard more here are together are_heard) h

pub returns-in-Ok-put_survey-clause-writes : goal.returns-in-Ok-put_survey-clause-writes
returns-in-Ok-put_survey-clause-writes g c = λ asked formed by start.
    let h = c.in-Ok.ensures.read_all asked.given start in
    let old = g.W.Sink.written c.args.sink.now in
    let new = g.W.Sink.written c.put_survey.new.sink in
    IfSome_then (g.R.Source.remaining c.args.source.now) h.whole (λ (log : List ℕ) same.
    subst (λ taken. WritesSurvey asked taken old new) same (record {
      lines = h.lines;
      are_lines = h.are_lines;
      heard = h.surveyed.heard;
      are_heard = h.surveyed.met.are_heard;
      written = subst (Appends old new) (ap₂ (λ (f : Format) (rows : NamingRecord). survey_text f rows asked.given h.lines h.surveyed.heard) (sym formed) (sym by))
          (c.in-Ok-put_survey.ensures.puts asked.given h.lines h.surveyed).written;
    }))

pub returns-in-Err-put_survey-clause-cut_short : goal.returns-in-Err-put_survey-clause-cut_short
returns-in-Err-put_survey-clause-cut_short g c = λ asked formed by start fails.
    let h = c.in-Ok.ensures.read_all asked.given start in
    IfSome_then (g.R.Source.remaining c.args.source.now) h.whole (λ (log : List ℕ) same.
    subst (λ taken. WritesFront asked taken (g.W.Sink.written c.args.sink.now) (g.W.Sink.written c.put_survey.new.sink)) same
    (front asked c.args.form (naming_of c.args.naming.now) h.taken h.lines h.surveyed.heard _ _ formed by h.are_lines h.surveyed.met.are_heard (c.in-Err-put_survey.ensures.puts asked.given h.lines h.surveyed).front))

pub returns-in-Err-put_survey-clause-prefix : goal.returns-in-Err-put_survey-clause-prefix
returns-in-Err-put_survey-clause-prefix g c = λ asked formed by start.
    let h = c.in-Ok.ensures.read_all asked.given start in
    record {
      taken = h.taken;
      consumed = h.consumed;
      written = front asked c.args.form (naming_of c.args.naming.now) h.taken h.lines h.surveyed.heard _ _ formed by h.are_lines h.surveyed.met.are_heard (c.in-Err-put_survey.ensures.puts asked.given h.lines h.surveyed).front;
    }
