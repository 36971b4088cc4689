-- The head and the columns are those of the node.
use Rattle.j39_survey.proofs.Common.{ap₂, puts_as, row_text}
use Rattle.j39_survey.proofs.node_lists.seen.put_seen.Goals as goal

pub returns : goal.returns
returns g c = puts_as _ _ _ _ (ap₂ (row_text c.args.form) c.node_head.ensures c.seen_columns.ensures) c.put_row.ensures
