use Rattle.std.proofs.Common.{◌≡◌, ◌++◌, ◌+◌, ◌*◌, take}
use Rattle.arrayvec.specs.ArrayVec.{array_vec_len}
use Rattle.hex.specs.Hex.{encode_upper}
use Rattle.j39_io.proofs.printing.push_hex.Given as goal

-- the bytes so far are written
abbrev pub invariant-loop-byte : goal.invariant-loop-byte
invariant-loop-byte g l = (l.out.items ≡ l.initial.out.items ++ encode_upper (take l.byte-index l.bytes))
    × (array_vec_len l.out ≡ array_vec_len l.initial.out + 2 * l.byte-index)
