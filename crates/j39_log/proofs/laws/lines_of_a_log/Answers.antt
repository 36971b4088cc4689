use Rattle.j39_log.proofs.LogLemmas.{some_lines, same_lines}
use Rattle.j39_log.proofs.laws.lines_of_a_log.Goals as goal

pub returns : goal.returns
returns c = record { some = some_lines; same = same_lines }
