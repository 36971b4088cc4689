-- Each printed line is one of the text's, and spells its row.
use Rattle.j39_table.proofs.PrintedLemmas.{printed_tables}
use Rattle.j39_table.proofs.laws.printed_tables_spell.Goals as goal

pub returns : goal.returns
returns c = printed_tables
