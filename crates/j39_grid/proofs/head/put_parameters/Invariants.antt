use Rattle.std.proofs.Common.{take, Ok}
use Rattle.std.specs.List.{flat_map}
use Rattle.j39_io.specs.Puts.{Puts}
use Rattle.j39_io.specs.Records.{later_text}
use Rattle.j39_io.specs.Turn.{turn}
use Rattle.j39_grid.specs.Grid.{called}
use Rattle.j39_grid.proofs.head.put_parameters.Given as goal

-- the names so far are written, and no fault came
abbrev pub invariant-loop-spn : goal.invariant-loop-spn
invariant-loop-spn g l =
    Puts {T = Unit} {E = Unit} (flat_map (λ spn. later_text (called l.groups spn)) (take l.spn-index l.spns)) (Ok tt)
    (turn g.W.Sink.written g.W.Sink.has_failed l.initial.sink l.sink)
