-- The bytes are written in the place of a part.
use Rattle.std.proofs.Common.{◌≡◌, ◌+◌, ◌-◌, arith, length, refl}
use Rattle.j39_io.proofs.BackwardsLemmas.{drop_part}
use Rattle.j39_io.proofs.backwards.slice_before.Goals as goal

pub returns : goal.returns
returns c =
    let out = c.args.out.now in
    let bytes = c.args.bytes.now in
    let len = length bytes in
    let place : c.args.end - len + 0 ≡ c.args.end - len = omega arith in
    rw c.copy_from_slice.ensures.after (record {
      starts = (let room = c.requires.room in omega (arith, room));
      written = rw place at (drop_part out bytes c.args.end len 0 c.requires.room c.requires.within refl (omega arith));
    })
