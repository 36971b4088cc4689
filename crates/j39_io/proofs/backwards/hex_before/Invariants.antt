use Rattle.std.proofs.Common.{◌≤◌, drop, length}
use Rattle.hex.specs.Hex.{encode_upper}
use Rattle.j39_io.specs.Backwards.{WritesBefore}
use Rattle.j39_io.proofs.backwards.hex_before.Given as goal

-- the digits of the last bytes are written
abbrev pub invariant-bytes : goal.invariant-bytes
invariant-bytes l =
    WritesBefore l.fn.out l.out l.end l.at (encode_upper (drop l.left l.bytes)) × (l.left ≤ length l.bytes)

abbrev pub decreases-bytes : goal.decreases-bytes
decreases-bytes l = l.left
