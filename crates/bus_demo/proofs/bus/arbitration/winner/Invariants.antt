use Rattle.std.specs.Option.{MatchOption}
use Rattle.bus_demo.specs.Arbitration.{IsLowestOf, NoneOf}
use Rattle.bus_demo.proofs.bus.arbitration.winner.Given as goal

-- the best of the wishes so far
abbrev pub invariant-loop-place : goal.invariant-loop-place
invariant-loop-place l = MatchOption l.best (NoneOf l.wishes l.place) (λ best. IsLowestOf l.wishes l.place best.0 best.1)
