use Rattle.std.proofs.Common.{◌≡◌, ◌<◌, ◌++◌, ℕ, false, true, List, length}
use Rattle.std.specs.Io.KnownBytes.{Appends}
use Rattle.j39_io.proofs.device.put_rest.Given as goal

-- the bytes before the rest were taken and none of them passed on, no fault came, and before the first of them nothing was done
abbrev pub invariant-loop-rest : goal.invariant-loop-rest
invariant-loop-rest g l =
    (done : List ℕ) × (l.bytes ≡ done ++ l.rest)
    × Appends (g.S.Sink.written l.initial.sink) (g.S.Sink.written l.sink) done
    × (g.S.Sink.has_failed l.sink ≡ g.S.Sink.has_failed l.initial.sink)
    × (0 < length done → g.S.Sink.is_flushed l.sink ≡ false)
    × (g.S.Sink.is_flushed l.sink ≡ true → g.S.Sink.is_flushed l.initial.sink ≡ true)
    × (length l.bytes ≡ 0 → g.S.Sink.is_flushed l.sink ≡ g.S.Sink.is_flushed l.initial.sink)

abbrev pub decreases-loop-rest : goal.decreases-loop-rest
decreases-loop-rest g l = length l.rest
