use Rattle.j39_cli.proofs.Common.{take, Ok, flat_map, turn}
use Rattle.j39_io.specs.Puts.{Puts}
use Rattle.j39_cli.specs.Unknown.{unknown_line}
use Rattle.j39_cli.proofs.unknown.put_unknown.Given as goal

-- the lines of those so far are written, and no fault came
abbrev pub invariant-loop-spn : goal.invariant-loop-spn
invariant-loop-spn g l =
    Puts {T = Unit} {E = Unit} (flat_map (unknown_line l.groups) (take l.spn-index l.spns)) (Ok tt)
    (turn g.E.Sink.written g.E.Sink.has_failed l.initial.err l.err)
