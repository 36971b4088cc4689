-- What a run counts.
use Rattle.std.specs.Prelude.{◌-◌, ◌^◌, ℕ, Bool, List, length, min, Option, if◌then◌else◌}
use Rattle.j39_log.specs.Log.{frames_of, others_of, unread_of}
use Rattle.j39_log.specs.Spelled.{Spelled}
use Rattle.j39_listen.specs.Output.{Output}
use Rattle.j39_listen.specs.declared.counts.Counts.{Counts}

-- a count that would pass 2^64 - 1 stays there
abbrev pub capped : ℕ → ℕ
capped n = min n (2 ^ 64 - 1)

-- 1 of what is so, to be summed
abbrev pub one_if : Bool → ℕ
one_if b = if b then 1 else 0

-- the counts of a run over what the lines of a log spell, of whose frames this is made
abbrev pub counts_of : Option (List ℕ) → List Spelled → Output → Counts
counts_of given spelled output = record {
  frames = capped (length (frames_of given spelled));
  other = capped (others_of given spelled);
  unread = capped (unread_of spelled);
  messages = capped output.messages;
  lines = capped output.lines;
}
