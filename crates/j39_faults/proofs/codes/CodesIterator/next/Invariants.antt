use Rattle.std.proofs.Common.{◌≡◌, ◌-◌}
use Rattle.j39_faults.specs.Codes.{places_of}
use Rattle.j39_faults.specs.CodesLeft.{codes_left}
use Rattle.j39_faults.proofs.codes.CodesIterator.next.Given as goal

-- the places so far have no code
abbrev pub invariant-loop-self : goal.invariant-loop-self
invariant-loop-self l = codes_left l.self ≡ codes_left l.initial.self

abbrev pub decreases-loop-self : goal.decreases-loop-self
decreases-loop-self l = places_of l.self.payload.now - l.self.place
