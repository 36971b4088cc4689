-- No other line has more than 256 bytes.
use Rattle.std.proofs.Common.{arith}
use Rattle.j39_survey.proofs.surveys.log_survey.kind_in.Goals as goal

pub returns-in-Long : goal.returns-in-Long
returns-in-Long c = rw c.in-Long.is (λ line raw other. absurd (omega (arith, raw.0, other.parts.short)))
