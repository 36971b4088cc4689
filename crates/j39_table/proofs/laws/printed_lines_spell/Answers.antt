-- Each column of a printed line is cut out as it was put in.
use Rattle.j39_table.proofs.PrintedLemmas.{printed_lines}
use Rattle.j39_table.proofs.laws.printed_lines_spell.Goals as goal

pub returns : goal.returns
returns c = printed_lines
