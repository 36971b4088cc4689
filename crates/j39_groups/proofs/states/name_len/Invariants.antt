use Rattle.std.proofs.Common.{◌≡◌, ◌≤◌, ◌+◌, ◌-◌, drop, length}
use Rattle.j39_groups.specs.States.{name_len}
use Rattle.j39_groups.proofs.states.name_len.Given as goal

-- no ` = ` so far
abbrev pub invariant-bytes : goal.invariant-bytes
invariant-bytes l = record {
  inside : l.at ≤ length l.name;
  from : name_len l.name ≡ l.at + name_len (drop l.at l.name);
}

abbrev pub decreases-bytes : goal.decreases-bytes
decreases-bytes l = length l.name - l.at
