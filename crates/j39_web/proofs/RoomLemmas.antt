-- A text that has no room.
use Rattle.std.proofs.Common.{◌≡◌, ◌≢◌, ℕ, List, [], ◌∷◌, ◌++◌, Some, Option, refl, ap, sym, ◌∙◌, subst, append-nil, take, take_all, length, arith}
use Rattle.std.proofs.lemmas.Bool.{false≢true}
use Rattle.std.specs.Prelude.{IfErr, IfOk, MatchResult, None, OnErr, OnOk, Ok, Err, Result}
use Rattle.std.specs.Io.KnownBytes.{Appends}
use Rattle.std.specs.Result.{is_ok}
use Rattle.j39_names.specs.Naming.{by_table}
use Rattle.j39_io.specs.Device.{AppendsFront}
use Rattle.j39_io.specs.declared.device.DeviceFault.{DeviceFault}
use Rattle.j39_log.specs.Log.{frames_of}
use Rattle.j39_log.proofs.LogLemmas.{same_log}
use Rattle.j39_listen.specs.Filter.{no_filter}
use Rattle.j39_listen.specs.AccountCalls.{MakesOne}
use Rattle.j39_listen.specs.Output.{Making, Output}
use Rattle.j39_listen.specs.Report.{entry_text}
use Rattle.j39_listen.specs.Run.{Writes, WritesFront, run_bus}
use Rattle.j39_listen.specs.declared.counts.Counts.{Counts}
use Rattle.j39_listen.specs.declared.format.Clock.TheVariants.{Seconds}
use Rattle.j39_listen.specs.declared.running.RunFault.{RunFault}
use Rattle.j39_listen.specs.declared.running.RunFault.TheVariants.{Memory, Read, Write, TooLong}
use Rattle.j39_groups.specs.Row.{RowRecord}
use Rattle.j39_reports.specs.EntryText.{entry_record, header_text}
use Rattle.j39_survey.specs.SurveyRun.{Asked, WritesSurvey}
use Rattle.j39_survey.specs.SurveyRun.{WritesFront as WritesSurveyFront}
use Rattle.j39_survey.specs.SurveyText.{survey_text}
use Rattle.j39_survey.proofs.SurveyLemmas.{same_survey}
use Rattle.j39_listen.proofs.ReportAccount.{report_one}
use Rattle.j39_fault_reports.proofs.FaultAccountLemmas.{news_one}
use Rattle.j39_reports.proofs.SummaryAccountLemmas.{records_one}
use Rattle.j39_fault_reports.specs.Faults.{manner_in}
use Rattle.j39_fault_reports.specs.News.{news}
use Rattle.j39_listen.specs.declared.format.Format.TheVariants.{Line}
use Rattle.j39_web.specs.SeriesSoFar.{series_form}
use Rattle.j39_web.proofs.SeriesAccountLemmas.{whole_one}
use Rattle.j39_web.specs.Text.{IsFullOf, Overflows, SurveyOverflows, no_counts}
use Rattle.j39_web.specs.Writings.{makes}
use Rattle.j39_web.specs.declared.writing.Writing.{Writing}
use Rattle.j39_web.specs.declared.writing.Writing.TheVariants.{Report, Records, Summary, Faults, Series}

-- of the frames of a log one text is made
pub makes_one : (writing : Writing) (rows : List RowRecord) → MakesOne (makes writing rows)
makes_one Report rows = whole_one (λ table. entry_text) rows
makes_one Records rows = λ bus F x y (a, made_a, is_a) (b, made_b, is_b).
    ap (λ (o : Output). o.text) is_a ∙ ap (λ t. header_text ++ t) (report_one entry_record (record { rows = rows; which = no_filter }) bus F a b made_a made_b) ∙ sym (ap (λ (o : Output). o.text) is_b)
makes_one Summary rows = records_one no_filter rows
makes_one Faults rows = news_one Seconds (record { manner = manner_in (Line Seconds) (by_table rows) None; which = news })
makes_one (Series of) rows = whole_one (series_form of) rows

first : ℕ → List ℕ → ℕ
first d [] = d
first d (x ∷ xs) = x

rest : List ℕ → List ℕ
rest [] = []
rest (x ∷ xs) = xs

-- a front of the text fills the room, which is the one that was lent
fills : (n m k : ℕ) (ys room front left text : List ℕ) → (m ∷ take k ys) ≡ (n ∷ []) ++ front → text ≡ front ++ left → k ≡ length ys → (n ≡ m → ys ≡ room)
    → IsFullOf text room
unfolding first rest
fills n m k ys room front left text written all full same =
    let here : ys ≡ room = same (sym (ap (first n) written)) in
    let stands : ys ≡ front = sym (take_all k ys (omega (arith, full))) ∙ ap rest written in
    (left, all ∙ ap (λ bytes. bytes ++ left) (sym stands ∙ here))

-- what is made of the log, in a room that has none left
overflows_made : (makes : Making) → MakesOne makes → (given : Option (List ℕ)) (log : List ℕ) (counts : Counts) (n m k : ℕ) (ys room : List ℕ)
    → Writes makes given log counts (Some (n ∷ [])) (Some (m ∷ take k ys)) → k ≡ length ys → (n ≡ m → ys ≡ room) → Overflows makes given log room
overflows_made makes one given log counts n m k ys room w full same = λ spelled output is made.
    let lines = same_log log w.spelled spelled w.is_log is in
    let text = one (run_bus given spelled) (frames_of given spelled) w.output output (subst (λ ss. makes (run_bus given ss) (frames_of given ss) w.output) lines w.is_made) made in
    fills n m k ys room w.output.text [] output.text w.written (sym text ∙ sym (append-nil w.output.text)) full same

overflows_front : (makes : Making) (given : Option (List ℕ)) (log : List ℕ) (n m k : ℕ) (ys room : List ℕ)
    → WritesFront makes given log (Some (n ∷ [])) (Some (m ∷ take k ys)) → k ≡ length ys → (n ≡ m → ys ≡ room) → Overflows makes given log room
overflows_front makes given log n m k ys room h full same = λ spelled output is made.
    let f = h spelled output is made in
    fills n m k ys room f.0 f.1 output.text f.3 f.2 full same

-- where a run has no room
pub overflows : (makes : Making) → MakesOne makes → (given : Option (List ℕ)) (log log' : List ℕ) (ran : Result Counts RunFault) (z n m k : ℕ) (xs ys room : List ℕ)
    → log' ≡ log → z ≡ 0
    → IfOk ran (λ counts. Writes makes given log' counts (Some (n ∷ take z xs)) (Some (m ∷ take k ys)))
    → (ran ≡ Err Write → WritesFront makes given log' (Some (n ∷ take z xs)) (Some (m ∷ take k ys)))
    → (ran ≡ Err Read → ⊥) → (ran ≡ Err TooLong → ⊥) → (ran ≡ Err Write → k ≡ length ys)
    → MatchResult ran (λ _. k ≡ length ys) (λ fault. fault ≢ Memory)
    → (n ≡ m → ys ≡ room) → Overflows makes given log room
overflows makes one given log log' (Ok counts) z n m k xs ys room l e made front read long full none same =
    let w = subst (λ j. Writes makes given log' counts (Some (n ∷ take j xs)) (Some (m ∷ take k ys))) e made in
    overflows_made makes one given log counts n m k ys room (subst (λ j. Writes makes given j counts (Some (n ∷ [])) (Some (m ∷ take k ys))) l w) none same
overflows makes one given log log' (Err Write) z n m k xs ys room l e made front read long full none same =
    let w = subst (λ j. WritesFront makes given log' (Some (n ∷ take j xs)) (Some (m ∷ take k ys))) e (front refl) in
    overflows_front makes given log n m k ys room (subst (λ j. WritesFront makes given j (Some (n ∷ [])) (Some (m ∷ take k ys))) l w) (full refl) same
overflows makes one given log log' (Err Memory) z n m k xs ys room l e made front read long full none same = absurd (none refl)
overflows makes one given log log' (Err Read) z n m k xs ys room l e made front read long full none same = absurd (read refl)
overflows makes one given log log' (Err TooLong) z n m k xs ys room l e made front read long full none same = absurd (long refl)

-- the survey of the log, in a room that has none left
surveyed_made : (asked : Asked) (log : List ℕ) (n m k : ℕ) (ys room : List ℕ)
    → WritesSurvey asked log (Some (n ∷ [])) (Some (m ∷ take k ys)) → k ≡ length ys → (n ≡ m → ys ≡ room) → SurveyOverflows asked log room
surveyed_made asked log n m k ys room w full same = λ lines heard are together.
    let mine = survey_text asked.form asked.naming asked.given w.lines w.heard in
    let text = same_survey asked.form asked.naming asked.given log w.lines lines w.heard heard w.are_lines are w.are_heard together in
    fills n m k ys room mine [] (survey_text asked.form asked.naming asked.given lines heard) w.written (sym text ∙ sym (append-nil mine)) full same

surveyed_front : (asked : Asked) (log : List ℕ) (n m k : ℕ) (ys room : List ℕ)
    → WritesSurveyFront asked log (Some (n ∷ [])) (Some (m ∷ take k ys)) → k ≡ length ys → (n ≡ m → ys ≡ room) → SurveyOverflows asked log room
surveyed_front asked log n m k ys room h full same = λ lines heard are together.
    let f = h lines heard are together in
    fills n m k ys room f.0 f.1 (survey_text asked.form asked.naming asked.given lines heard) f.3 f.2 full same

-- where a survey has no room
pub survey_overflows : {U : Type 0} (asked : Asked) (log log' : List ℕ) (ran : Result U RunFault) (counted : Result Counts RunFault)
    (z n m k : ℕ) (xs ys room : List ℕ)
    → log' ≡ log → z ≡ 0
    → OnOk ran (WritesSurvey asked log' (Some (n ∷ take z xs)) (Some (m ∷ take k ys)))
    → (ran ≡ Err Write → WritesSurveyFront asked log' (Some (n ∷ take z xs)) (Some (m ∷ take k ys)))
    → (ran ≡ Err Read → ⊥) → (ran ≡ Err TooLong → ⊥) → (ran ≡ Err Write → k ≡ length ys)
    → OnOk ran (counted ≡ Ok no_counts) → IfErr ran (λ fault. counted ≡ Err fault)
    → MatchResult counted (λ _. k ≡ length ys) (λ fault. fault ≢ Memory)
    → (n ≡ m → ys ≡ room) → SurveyOverflows asked log room
survey_overflows asked log log' (Ok u) (Ok counts) z n m k xs ys room l e made front read long full ok err none same =
    let w = subst (λ j. WritesSurvey asked log' (Some (n ∷ take j xs)) (Some (m ∷ take k ys))) e made in
    surveyed_made asked log n m k ys room (subst (λ j. WritesSurvey asked j (Some (n ∷ [])) (Some (m ∷ take k ys))) l w) none same
survey_overflows asked log log' (Ok u) (Err fault) z n m k xs ys room l e made front read long full ok err none same = absurd (false≢true (ap is_ok ok))
survey_overflows asked log log' (Err Write) counted z n m k xs ys room l e made front read long full ok err none same =
    let w = subst (λ j. WritesSurveyFront asked log' (Some (n ∷ take j xs)) (Some (m ∷ take k ys))) e (front refl) in
    surveyed_front asked log n m k ys room (subst (λ j. WritesSurveyFront asked j (Some (n ∷ [])) (Some (m ∷ take k ys))) l w) (full refl) same
survey_overflows asked log log' (Err Memory) counted z n m k xs ys room l e made front read long full ok err none same =
    absurd (subst (λ r. MatchResult r (λ _. k ≡ length ys) (λ fault. fault ≢ Memory)) err none refl)
survey_overflows asked log log' (Err Read) counted z n m k xs ys room l e made front read long full ok err none same = absurd (read refl)
survey_overflows asked log log' (Err TooLong) counted z n m k xs ys room l e made front read long full ok err none same = absurd (long refl)

-- where what is written at once has no room
pub put_overflows : {U : Type 0} (text : List ℕ) (ran : Result U DeviceFault) (counted : Result Counts RunFault) (z n m k : ℕ) (xs ys room : List ℕ)
    → z ≡ 0
    → OnOk ran (Appends (Some (n ∷ take z xs)) (Some (m ∷ take k ys)) text)
    → OnErr ran (AppendsFront (Some (n ∷ take z xs)) (Some (m ∷ take k ys)) text)
    → OnErr ran (k ≡ length ys)
    → OnOk ran (counted ≡ Ok no_counts)
    → MatchResult counted (λ _. k ≡ length ys) (λ fault. fault ≢ Memory)
    → (n ≡ m → ys ≡ room) → IsFullOf text room
put_overflows text (Ok u) counted z n m k xs ys room e all front full ok none same =
    let w = subst (λ j. Appends (Some (n ∷ take j xs)) (Some (m ∷ take k ys)) text) e all in
    let none_left = subst (λ r. MatchResult r (λ _. k ≡ length ys) (λ fault. fault ≢ Memory)) ok none in
    fills n m k ys room text [] text w (sym (append-nil text)) none_left same
put_overflows text (Err fault) counted z n m k xs ys room e all front full ok none same =
    let f = subst (λ j. AppendsFront (Some (n ∷ take j xs)) (Some (m ∷ take k ys)) text) e front in
    fills n m k ys room f.0 f.1 text f.3 f.2 full same
