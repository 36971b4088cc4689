use Rattle.j39_cli.proofs.Common.{take, Ok, flat_map, turn}
use Rattle.j39_io.specs.Puts.{Puts}
use Rattle.j39_cli.specs.OtherLog.{other_line}
use Rattle.j39_cli.proofs.order.put_others.Given as goal

-- the lines of those so far are written, and no fault came
abbrev pub invariant-loop-file : goal.invariant-loop-file
invariant-loop-file g l =
    Puts {T = Unit} {E = Unit} (flat_map (λ ends. other_line ends.file.now ends.other) (take l.file-index l.files)) (Ok tt)
    (turn g.E.Sink.written g.E.Sink.has_failed l.initial.err l.err)
