use Rattle.std.proofs.Common.{refl}
use Rattle.j39_survey.proofs.UnreadLemmas.{shown_long}
use Rattle.j39_survey.proofs.surveys.unread.told_of.Goals as goal

pub returns-in-Long : goal.returns-in-Long
returns-in-Long c = rw c.in-Long.is (λ line raw number. shown_long _ line _ raw.0 raw.1 number c.front_of-in-Long.ensures refl)
