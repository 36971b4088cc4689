use Rattle.j39_log.proofs.LogLemmas.{same_log, same_frames}
use Rattle.j39_log.proofs.laws.one_log.Goals as goal

pub returns : goal.returns
returns c = record { spelled = same_log; frames = same_frames }
