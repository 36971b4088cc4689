use Rattle.std.proofs.Common.{◌≡◌, ◌+◌, [], ℕ, true, List, Option, length}
use Rattle.std.specs.Io.KnownBytes.{Consumes}
use Rattle.j39_listen.specs.PiecesSoFar.{HasTaken}
use Rattle.j39_listen.proofs.running.read_pieces.Given as goal

-- the run stands for what the source gave so far, which is as long as the room that was used; no fault came, and what was written is passed on
abbrev pub invariant-pieces : goal.invariant-pieces
invariant-pieces g l =
    (taken : List ℕ) × Consumes (g.R.Source.remaining l.initial.source) (g.R.Source.remaining l.source) taken
    × ((subject : g.A.Account.Subject) (given : Option (List ℕ)) → HasTaken (g.A.Account.has_met subject) given [] l.initial.pieces (g.W.Sink.written l.initial.sink) (g.W.Sink.written l.initial.sink)
    → HasTaken (g.A.Account.has_met subject) given taken l.pieces (g.W.Sink.written l.initial.sink) (g.W.Sink.written l.sink))
    × (length taken + l.room ≡ l.limit)
    × (g.R.Source.has_failed l.source ≡ g.R.Source.has_failed l.initial.source)
    × (g.W.Sink.has_failed l.sink ≡ g.W.Sink.has_failed l.initial.sink)
    × (g.W.Sink.is_flushed l.initial.sink ≡ true → g.W.Sink.is_flushed l.sink ≡ true)

abbrev pub decreases-pieces : goal.decreases-pieces
decreases-pieces g l = l.room
