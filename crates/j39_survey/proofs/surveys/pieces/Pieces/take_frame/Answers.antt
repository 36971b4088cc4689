-- Most lines are those of a frame of the interface whose groups are counted.
use Rattle.j39_survey.proofs.Common.{sym, subst, frame}
use Rattle.j39_log.specs.Line.{IsFrameLine}
use Rattle.j39_survey.proofs.SurveyPieceLemmas.{asks_in, takes_line}
use Rattle.j39_survey.proofs.surveys.pieces.Pieces.take_frame.Goals as goal

pub returns-in-Ok-clause-taken : goal.returns-in-Ok-clause-taken
returns-in-Ok-clause-taken c =
    takes_line c.args.self.now _ c.args.bytes.now c.args.n (λ begun h.
    let found = c.requires.line begun h in
    let spells = found.spells.spells c.in-Some.frame c.in-Some.ensures in (
      found.line,
      found.ends,
      found.begins,
      (frame found.name c.in-Some.frame, spells),
      (λ given lines l text spelled s.
          c.in-Ok.ensures.surveyed given lines l found.name found.bus_is (subst (λ t. IsFrameLine t found.name c.in-Some.frame) (sym text) spells) spelled s),
    ))

pub returns-in-Err-clause-asked : goal.returns-in-Err-clause-asked
returns-in-Err-clause-asked c =
    asks_in c.args.self.now c.args.bytes.now c.args.n (λ begun h.
    let found = c.requires.line begun h in
    let spells = found.spells.spells c.in-Some.frame c.in-Some.ensures in (
      found.line,
      found.ends,
      (frame found.name c.in-Some.frame, spells),
      (λ given lines l text spelled s.
          c.in-Err.ensures.asked given lines l found.name found.bus_is (subst (λ t. IsFrameLine t found.name c.in-Some.frame) (sym text) spells) spelled s),
    ))
