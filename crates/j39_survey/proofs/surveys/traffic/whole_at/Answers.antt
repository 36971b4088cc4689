-- What is heard at the frame: a message in packets, or nothing.
use Rattle.j39_survey.proofs.Common.{Some, None, refl, false, ℕ, hearing_of, on_ok}
use Rattle.j39_survey.proofs.surveys.traffic.whole_at.Goals as goal

pub feed_as-requires : goal.feed_as-requires
feed_as-requires c = λ single. cc

pub returns-in-Ok-Some-clause-whole : goal.returns-in-Ok-Some-clause-whole
returns-in-Ok-Some-clause-whole c = λ F h. (
  Some (hearing_of c.in-Ok-Some.heard),
  rw c.in-Ok-Some.field-0-is at (c.in-Ok-Some.ensures.heard (λ (pgn : ℕ). false) (λ pgn is. refl) refl F h),
  refl,
)

pub returns-in-Ok-Some-clause-heard : goal.returns-in-Ok-Some-clause-heard
returns-in-Ok-Some-clause-heard c = λ F h. on_ok _ _ _ _ c.in-Ok-Some.is c.feed_as.follows.holds-at-none F h

pub returns-in-Ok-None-clause-whole : goal.returns-in-Ok-None-clause-whole
returns-in-Ok-None-clause-whole c = λ F h.
    (None, rw c.in-Ok-None.field-0-is at (c.in-Ok-None.ensures.heard (λ (pgn : ℕ). false) (λ pgn is. refl) refl F h), refl)

pub returns-in-Ok-None-clause-heard : goal.returns-in-Ok-None-clause-heard
returns-in-Ok-None-clause-heard c = λ F h. on_ok _ _ _ _ c.in-Ok-None.is c.feed_as.follows.holds-at-none F h

pub returns-in-Err-clause-asked : goal.returns-in-Err-clause-asked
returns-in-Err-clause-asked c = λ F h. (c.in-Err.ensures.refused, c.in-Err.ensures.wanted F h)
