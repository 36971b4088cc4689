use Rattle.std.proofs.Common.{◌≡◌, ◌+◌, ◌*◌, ◌++◌, drop, length, take, IsTrue}
use Rattle.std.specs.List.{flat_map, list_all}
use Rattle.j39_faults.specs.FaultsMessage.{can_tell, code_bytes}
use Rattle.j39_faults.proofs.message.push_codes.Given as goal

-- the codes so far stand there, four bytes each, and the others can be told
abbrev pub invariant-loop-code : goal.invariant-loop-code
invariant-loop-code l =
    (l.message.items ≡ l.initial.message.items ++ flat_map code_bytes (take l.code-index l.codes))
    × ((length l.message.items ≡ length l.initial.message.items + 4 * l.code-index)
    × IsTrue (list_all can_tell (drop l.code-index l.codes)))
