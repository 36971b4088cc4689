-- The bits of a comparison with a splat on the left.
use Rattle.j39_reports.proofs.Common.{◌∙◌, ◌%◌, ◌^◌, Bool, List, ap, arith, ltb, map, replicate, w8, mask_l, length-map, mask_l-mod, tops_compared, zip2_splat_left}
use Rattle.j39_reports.proofs.json.bits_above.Goals as goal

pub returns : goal.returns
returns c =
    let block = c.args.block.now in
    let len = length-map block (ltb c.args.byte) in
    let long = c.told-block in
    ap (λ (ms : List Bool). mask_l ms % 2 ^ 64) (tops_compared w8 ltb (replicate 8 c.args.byte) block ∙ zip2_splat_left ltb c.args.byte 8 block long)
    ∙ mask_l-mod (map (ltb c.args.byte) block) 64 (omega (arith, len, long))
