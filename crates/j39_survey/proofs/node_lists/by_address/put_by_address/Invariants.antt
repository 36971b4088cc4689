use Rattle.std.proofs.Common.{◌≡◌}
use Rattle.j39_survey.proofs.ByAddressLemmas.{HasPut}
use Rattle.j39_survey.proofs.node_lists.by_address.put_by_address.Given as goal

-- the lines of the addresses so far were written, and no fault came
abbrev pub invariant-loop-address : goal.invariant-loop-address
invariant-loop-address g l =
    HasPut (g.L.ByAddress.lines_at l.list) l.address l.lines (g.W.Sink.written l.initial.sink) (g.W.Sink.written l.sink)
    × (g.W.Sink.has_failed l.sink ≡ g.W.Sink.has_failed l.initial.sink)
