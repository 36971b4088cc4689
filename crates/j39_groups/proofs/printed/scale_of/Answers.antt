-- A step is a value of the raw number 1.
use Rattle.std.proofs.Common.{◌+◌, ◌-◌, ◌*◌, arith}
use Rattle.std.specs.Prelude.{unsigned_abs}
use Rattle.j39_groups.specs.Fields.{IsSoundBits, IsSoundBytes}
use Rattle.j39_groups.proofs.NumberLemmas.{step_fits}
use Rattle.j39_groups.proofs.printed.scale_of.Goals as goal

pub scale_texts-requires : goal.scale_texts-requires
scale_texts-requires c =
    let sound : IsSoundBytes c.in-Number.first c.in-Number.last c.in-Number.scale = rw c.in-Number.is at c.requires in
    step_fits c.in-Number.scale.step (8 * (c.in-Number.last - c.in-Number.first + 1)) (unsigned_abs c.in-Number.scale.offset) (omega arith) sound.fits

pub scale_texts-requires-in-Bits : goal.scale_texts-requires-in-Bits
scale_texts-requires-in-Bits c =
    let sound : IsSoundBits c.in-Bits.byte c.in-Bits.low c.in-Bits.count c.in-Bits.scale = rw c.in-Bits.is at c.requires in
    step_fits c.in-Bits.scale.step c.in-Bits.count (unsigned_abs c.in-Bits.scale.offset) sound.some sound.fits

pub scale_texts-requires-in-Full : goal.scale_texts-requires-in-Full
scale_texts-requires-in-Full c =
    let sound : IsSoundBits c.in-Full.byte c.in-Full.low c.in-Full.count c.in-Full.scale = rw c.in-Full.is at c.requires in
    step_fits c.in-Full.scale.step c.in-Full.count (unsigned_abs c.in-Full.scale.offset) sound.some sound.fits
