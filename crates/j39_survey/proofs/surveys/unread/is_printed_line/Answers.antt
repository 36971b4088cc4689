use Rattle.j39_survey.proofs.UnreadLemmas.{long_unprinted}
use Rattle.j39_survey.proofs.surveys.unread.is_printed_line.Goals as goal

pub returns-in-Long : goal.returns-in-Long
returns-in-Long c = rw c.in-Long.is (λ line raw. long_unprinted line raw.0)
