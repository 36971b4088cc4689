-- The address stands before the destination.
use Rattle.j39_io.proofs.BackwardsLemmas.{before_then}
use Rattle.j39_watch.proofs.lines.push_addresses.Goals as goal

pub push_column-requires-clause-written : goal.push_column-requires-clause-written
push_column-requires-clause-written c =
    (_, before_then _ _ _ _ _ _ _ _ c.destination_before-end.ensures.written c.hex_before-start.ensures.written)

pub returns-clause-cut : goal.returns-clause-cut
returns-clause-cut c =
    c.push_column.ensures.cut _ (before_then _ _ _ _ _ _ _ _ c.destination_before-end.ensures.written c.hex_before-start.ensures.written)
