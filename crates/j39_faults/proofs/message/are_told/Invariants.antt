use Rattle.std.proofs.Common.{◌≡◌, drop}
use Rattle.std.specs.List.{list_all}
use Rattle.j39_faults.specs.FaultsMessage.{can_tell}
use Rattle.j39_faults.proofs.message.are_told.Given as goal

-- those so far are told
abbrev pub invariant-loop-code : goal.invariant-loop-code
invariant-loop-code l = list_all can_tell l.codes ≡ list_all can_tell (drop l.code-index l.codes)
