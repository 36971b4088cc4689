use Rattle.std.proofs.Common.{◌≡◌, ◌≤◌, ◌<◌, ◌+◌, ◌^◌}
use Rattle.j39_frame.specs.Stamp.{stamp_micros}
use Rattle.bus_demo.specs.Run.{Plays}
use Rattle.bus_demo.proofs.bus.Bus.run.Given as goal

-- each step took a microsecond at least, none came behind the end, and no fault came
abbrev pub invariant-loop-step : goal.invariant-loop-step
invariant-loop-step g l = (l.end + 1000 < 10 ^ 16 → l.step ≤ stamp_micros l.self.now) × (l.self.lose ≡ l.initial.self.lose)
    × Plays l.end l.initial.self (record { bytes = g.W.Sink.written l.initial.log; has_failed = g.W.Sink.has_failed l.initial.log })
    l.self (record { bytes = g.W.Sink.written l.log; has_failed = g.W.Sink.has_failed l.log })
    × (g.W.Sink.has_failed l.log ≡ g.W.Sink.has_failed l.initial.log)
