-- The number stands before what it is of.
use Rattle.j39_io.proofs.BackwardsLemmas.{before_then}
use Rattle.j39_watch.proofs.lines.push_came.Goals as goal

pub push_column-requires-clause-written : goal.push_column-requires-clause-written
push_column-requires-clause-written c =
    (_, before_then _ _ _ _ _ _ _ _ c.bytes_before-each.ensures.written c.number_before-start.ensures)

pub returns-clause-cut : goal.returns-clause-cut
returns-clause-cut c =
    c.push_column.ensures.cut _ (before_then _ _ _ _ _ _ _ _ c.bytes_before-each.ensures.written c.number_before-start.ensures)
