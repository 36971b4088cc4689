use Rattle.j39_watch.proofs.Common.{◌≡◌, ◌≤◌}
use Rattle.j39_watch.specs.Watch.{letter_end}
use Rattle.j39_watch.proofs.lines.end_of_letter.Given as goal

-- no letter ends behind here
abbrev pub invariant-bytes : goal.invariant-bytes
invariant-bytes l = record {
  same : letter_end l.width l.bytes ≡ letter_end l.end l.bytes;
  within : l.end ≤ l.width;
}

abbrev pub decreases-bytes : goal.decreases-bytes
decreases-bytes l = l.end
