-- The bytes to the end of a line, or all of them.
use Rattle.j39_survey.proofs.Common.{refl, subst, sym, IsRawLine}
use Rattle.j39_survey.proofs.SurveyPieceLemmas.{asks_in, takes_bytes, takes_line}
use Rattle.j39_survey.proofs.surveys.pieces.Pieces.take_any.Goals as goal

pub returns-in-None-clause-taken : goal.returns-in-None-clause-taken
returns-in-None-clause-taken c =
    takes_bytes c.args.self.now _ c.args.bytes.now c.feed.result.0 refl (λ begun h.
    let line = rw c.in-None.is at (c.feed.ensures.line begun h) in
    let after = rw c.in-None.is at (c.feed.follows.holds-at-none begun h) in
    (line.1, after))

pub returns-in-Ok-clause-taken : goal.returns-in-Ok-clause-taken
returns-in-Ok-clause-taken c =
    takes_line c.args.self.now _ c.args.bytes.now c.feed.result.0 (λ begun h.
    let line = rw c.in-Some.is at (c.feed.ensures.line begun h) in
    let after = rw c.in-Some.is at (c.feed.follows.holds-at-none begun h) in (
      line.0,
      line.1,
      after,
      c.add.ensures.spelled line.0 line.2,
      (λ given lines l text spelled s.
          c.in-Ok.ensures.surveyed given lines l (subst (IsRawLine c.in-Some.raw) (sym text) line.2) spelled s),
    ))

pub returns-in-Err-clause-asked : goal.returns-in-Err-clause-asked
returns-in-Err-clause-asked c =
    asks_in c.args.self.now c.args.bytes.now c.feed.result.0 (λ begun h.
    let line = rw c.in-Some.is at (c.feed.ensures.line begun h) in (
      line.0,
      line.1,
      c.add.ensures.spelled line.0 line.2,
      (λ given lines l text spelled s.
          c.in-Err.ensures.asked given lines l (subst (IsRawLine c.in-Some.raw) (sym text) line.2) spelled s),
    ))
