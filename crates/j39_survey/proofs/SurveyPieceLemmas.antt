-- A log's bytes, piece by piece.
use Rattle.j39_survey.proofs.Common.{◌≡◌, ◌≢◌, ◌+◌, ◌++◌, ℕ, List, [], ◌∷◌, length, take, map, refl, sym, ap, ◌∙◌, arith, append-nil, append_assoc, take_all, inl, inr, Option, subst, AllByRecursion, take-append-add, map-append, newline, AsksAmong, AsksForBoxes, AreLines, HasNoNewline, IsLog, SpellEach, ended, frames_of, Spelled, Spells, EndsLine, HasBegun, ended-line, frames_of-append, whole-more}
use Rattle.j39_log.proofs.SplitterLemmas.{no_newline_append}
use Rattle.j39_survey.specs.LogLines.{AreLogLines, IsSpelled, LogLine, spelled_in}
use Rattle.j39_survey.specs.SurveyModels.{HasSurveyed}
use Rattle.j39_survey.specs.SurveySoFar.{AsksAt, HasTaken}
use Rattle.j39_survey.specs.declared.surveys.pieces.Pieces.{Pieces}

abbrev texts : List LogLine → List (List ℕ)
texts lines = map (λ line. line.text) lines

spelled-more : (lines : List LogLine) (line : LogLine) → AllByRecursion IsSpelled lines → IsSpelled line → AllByRecursion IsSpelled (lines ++ line ∷ [])
spelled-more [] line h k = (k, tt)
spelled-more (x ∷ lines) line h k = (h.0, spelled-more lines line h.1 k)

texts-more : (lines : List LogLine) (line : LogLine) → texts (lines ++ line ∷ []) ≡ texts lines ++ line.text ∷ []
texts-more lines line = map-append (λ (line : LogLine). line.text) lines (line ∷ [])

takes_front : (begun bytes line : List ℕ) (n : ℕ) (e : EndsLine begun bytes line n) → take n bytes ≡ e.front ++ (newline ∷ [])
takes_front begun bytes line n e =
    ap (λ k. take k bytes) e.taken_is ∙ ap (take (length e.front + 1)) e.takes.bytes_are ∙ take-append-add e.front (newline ∷ e.rest) 1

-- bytes that end no line
pub takes_bytes : (a b : Pieces) (bytes : List ℕ) (n : ℕ) → b.survey ≡ a.survey
    → ((begun : List ℕ) → HasBegun a.splitter begun → (n ≡ length bytes) × HasBegun b.splitter (begun ++ bytes))
    → (given : Option (List ℕ)) (taken : List ℕ) → HasTaken a given taken → HasTaken b given (taken ++ take n bytes)
takes_bytes a b bytes n same goes = λ given taken h.
    let step = goes h.begun h.begins in
    let all : take n bytes ≡ bytes = ap (λ k. take k bytes) step.0 ∙ take_all (length bytes) bytes (omega arith) in
    rw all (record {
      begun = h.begun ++ bytes;
      begins = step.1;
      lines = h.lines;
      whole = h.whole;
      spelled = h.spelled;
      taken_is = ap (λ t. t ++ bytes) h.taken_is ∙ append_assoc (ended (texts h.lines)) h.begun bytes;
      surveyed = rw same h.surveyed;
    })

-- bytes to the end of a line
pub takes_line : (a b : Pieces) (bytes : List ℕ) (n : ℕ)
    → ((begun : List ℕ) → HasBegun a.splitter begun → (line : List ℕ) × EndsLine begun bytes line n × HasBegun b.splitter [] × ((s : Spelled) × Spells line s)
    × ((given : Option (List ℕ)) (lines : List LogLine) (l : LogLine) → l.text ≡ line → IsSpelled l → HasSurveyed a.survey given lines → HasSurveyed b.survey given (lines ++ l ∷ [])))
    → (given : Option (List ℕ)) (taken : List ℕ) → HasTaken a given taken → HasTaken b given (taken ++ take n bytes)
takes_line a b bytes n ends = λ given taken h.
    let step = ends h.begun h.begins in
    let line = step.0 in
    let e = step.1 in
    let l : LogLine = record { text = line; spelled = step.3.0 } in
    let whole : HasNoNewline line = rw e.line_is (no_newline_append h.begun e.front h.begins.whole e.takes.whole) in
    rw (takes_front h.begun bytes line n e) (record {
      begun = [];
      begins = step.2;
      lines = h.lines ++ l ∷ [];
      whole = rw (texts-more h.lines l) (whole-more (texts h.lines) line h.whole whole);
      spelled = spelled-more h.lines l h.spelled step.3.1;
      taken_is = ended-line taken h.begun e.front line [] (texts h.lines) h.taken_is e.line_is ∙ ap (λ ls. ended ls ++ []) (sym (texts-more h.lines l));
      surveyed = step.4 given h.lines l refl step.3.1 h.surveyed;
    })

-- ---- the end of the log

pub ends_whole : (a b : Pieces) → b.survey ≡ a.survey → ((begun : List ℕ) → HasBegun a.splitter begun → begun ≡ [])
    → (given : Option (List ℕ)) (taken : List ℕ) → HasTaken a given taken → (lines : List LogLine) × AreLogLines taken lines × HasSurveyed b.survey given lines
ends_whole a b same none = λ given taken h. (
  h.lines,
  record {
    are_lines = record { whole = h.whole; bytes_are = inl (h.taken_is ∙ ap (λ r. ended (texts h.lines) ++ r) (none h.begun h.begins) ∙ append-nil (ended (texts h.lines))) };
    are_spelled = h.spelled;
  },
  rw same h.surveyed,
)

pub ends_line : (a b : Pieces)
    → ((begun : List ℕ) → HasBegun a.splitter begun → (begun ≢ []) × ((s : Spelled) × Spells begun s)
    × ((given : Option (List ℕ)) (lines : List LogLine) (l : LogLine) → l.text ≡ begun → IsSpelled l → HasSurveyed a.survey given lines → HasSurveyed b.survey given (lines ++ l ∷ [])))
    → (given : Option (List ℕ)) (taken : List ℕ) → HasTaken a given taken → (lines : List LogLine) × AreLogLines taken lines × HasSurveyed b.survey given lines
ends_line a b ends = λ given taken h.
    let step = ends h.begun h.begins in
    let l : LogLine = record { text = h.begun; spelled = step.1.0 } in (
      h.lines ++ l ∷ [],
      record {
        are_lines = record {
          whole = rw (texts-more h.lines l) (whole-more (texts h.lines) h.begun h.whole h.begins.whole);
          bytes_are = inr (record { front = texts h.lines; last = h.begun; lines_are = texts-more h.lines l; last_is = step.0; bytes_are = h.taken_is });
        };
        are_spelled = spelled-more h.lines l h.spelled step.1.1;
      },
      step.2 given h.lines l refl step.1.1 h.surveyed,
    )

-- ---- a line that asks for memory

spelled_each : (lines : List LogLine) → AllByRecursion IsSpelled lines → SpellEach (texts lines) (spelled_in lines)
spelled_each [] h = tt
spelled_each (x ∷ lines) h = (h.0, spelled_each lines h.1)

spelled_in-more : (lines : List LogLine) (line : LogLine) → spelled_in (lines ++ line ∷ []) ≡ spelled_in lines ++ line.spelled ∷ []
spelled_in-more lines line = map-append (λ (l : LogLine). l.spelled) lines (line ∷ [])

among : (given : Option (List ℕ)) (lines : List LogLine) (line : LogLine) → (k : AsksAt given lines line)
    → frames_of given (spelled_in (lines ++ line ∷ [])) ≡ frames_of given (spelled_in lines) ++ k.at ∷ []
among given lines line k =
    ap (frames_of given) (spelled_in-more lines line) ∙ frames_of-append given (spelled_in lines) (line.spelled ∷ [])
    ∙ ap (λ fs. frames_of given (spelled_in lines) ++ fs) k.is_on

log_of : (front : List ℕ) (lines : List LogLine) → AreLines front (texts lines) → AllByRecursion IsSpelled lines → IsLog front (spelled_in lines)
log_of front lines are spelled = record { lines = texts lines; are_lines = are; spell_each = spelled_each lines spelled }

-- a line that the bytes end
pub asks_in : (a : Pieces) (bytes : List ℕ) (n : ℕ)
    → ((begun : List ℕ) → HasBegun a.splitter begun → (line : List ℕ) × EndsLine begun bytes line n × ((s : Spelled) × Spells line s)
    × ((given : Option (List ℕ)) (lines : List LogLine) (l : LogLine) → l.text ≡ line → IsSpelled l → HasSurveyed a.survey given lines → AsksAt given lines l))
    → (given : Option (List ℕ)) (taken : List ℕ) → HasTaken a given taken → AsksAmong AsksForBoxes given (taken ++ bytes)
asks_in a bytes n asks = λ given taken h.
    let step = asks h.begun h.begins in
    let line = step.0 in
    let e = step.1 in
    let l : LogLine = record { text = line; spelled = step.2.0 } in
    let whole : HasNoNewline line = rw e.line_is (no_newline_append h.begun e.front h.begins.whole e.takes.whole) in
    let k = step.3 given h.lines l refl step.2.1 h.surveyed in
    record {
      front = ended (texts (h.lines ++ l ∷ []));
      rest = e.rest;
      bytes_are = ap (λ t. taken ++ t) e.takes.bytes_are
          ∙ ended-line taken h.begun e.front line e.rest (texts h.lines) h.taken_is e.line_is ∙ ap (λ ls. ended ls ++ e.rest) (sym (texts-more h.lines l));
      spelled = spelled_in (h.lines ++ l ∷ []);
      is_log = log_of _ (h.lines ++ l ∷ []) (record { whole = rw (texts-more h.lines l) (whole-more (texts h.lines) line h.whole whole); bytes_are = inl refl })
          (spelled-more h.lines l h.spelled step.2.1);
      before = frames_of given (spelled_in h.lines);
      at = k.at;
      frames_are = among given h.lines l k;
      asked = k.asked;
    }

-- the last line
pub asks_last : (a : Pieces)
    → ((begun : List ℕ) → HasBegun a.splitter begun → (begun ≢ []) × ((s : Spelled) × Spells begun s)
    × ((given : Option (List ℕ)) (lines : List LogLine) (l : LogLine) → l.text ≡ begun → IsSpelled l → HasSurveyed a.survey given lines → AsksAt given lines l))
    → (given : Option (List ℕ)) (taken : List ℕ) → HasTaken a given taken → AsksAmong AsksForBoxes given taken
asks_last a asks = λ given taken h.
    let step = asks h.begun h.begins in
    let l : LogLine = record { text = h.begun; spelled = step.1.0 } in
    let k = step.2 given h.lines l refl step.1.1 h.surveyed in
    record {
      front = taken;
      rest = [];
      bytes_are = sym (append-nil taken);
      spelled = spelled_in (h.lines ++ l ∷ []);
      is_log = log_of taken (h.lines ++ l ∷ []) (record {
        whole = rw (texts-more h.lines l) (whole-more (texts h.lines) h.begun h.whole h.begins.whole);
        bytes_are = inr (record { front = texts h.lines; last = h.begun; lines_are = texts-more h.lines l; last_is = step.0; bytes_are = h.taken_is });
      }) (spelled-more h.lines l h.spelled step.1.1);
      before = frames_of given (spelled_in h.lines);
      at = k.at;
      frames_are = among given h.lines l k;
      asked = k.asked;
    }

-- behind what was taken of a piece before it
pub takes_then_asks : (a b : Pieces) (done rest piece : List ℕ) → piece ≡ done ++ rest
    → ((given : Option (List ℕ)) (taken : List ℕ) → HasTaken a given taken → HasTaken b given (taken ++ done))
    → ((given : Option (List ℕ)) (taken : List ℕ) → HasTaken b given taken → AsksAmong AsksForBoxes given (taken ++ rest))
    → (given : Option (List ℕ)) (taken : List ℕ) → HasTaken a given taken → AsksAmong AsksForBoxes given (taken ++ piece)
takes_then_asks a b done rest piece is takes asks = λ given taken h.
    subst (λ t. AsksAmong AsksForBoxes given t) (append_assoc taken done rest ∙ ap (λ t. taken ++ t) (sym is))
    (asks given (taken ++ done) (takes given taken h))
