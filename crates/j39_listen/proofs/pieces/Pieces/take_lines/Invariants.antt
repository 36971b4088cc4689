use Rattle.std.proofs.Common.{◌≡◌, ◌++◌, ℕ, List, Option, length}
use Rattle.j39_listen.specs.PiecesSoFar.{HasTaken}
use Rattle.j39_listen.proofs.pieces.Pieces.take_lines.Given as goal

-- the bytes before the rest were taken, and no fault came
abbrev pub invariant-loop-rest : goal.invariant-loop-rest
invariant-loop-rest g l =
    (done : List ℕ) × (l.piece ≡ done ++ l.rest)
    × ((subject : g.A.Account.Subject) (given : Option (List ℕ)) (taken : List ℕ) (held : Option (List ℕ)) → HasTaken (g.A.Account.has_met subject) given taken l.initial.self held (g.W.Sink.written l.initial.sink)
    → HasTaken (g.A.Account.has_met subject) given (taken ++ done) l.self held (g.W.Sink.written l.sink))
    × (g.W.Sink.has_failed l.sink ≡ g.W.Sink.has_failed l.initial.sink)

abbrev pub decreases-loop-rest : goal.decreases-loop-rest
decreases-loop-rest g l = length l.rest
