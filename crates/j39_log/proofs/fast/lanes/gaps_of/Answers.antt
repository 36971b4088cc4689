use Rattle.std.proofs.Common.{◌≡◌, ◌+◌, ◌-◌, ◌%◌, length, map, leb, replicate, ap, ◌∙◌, arith}
use Rattle.std.specs.Simd.Lanes.{mask_l, zip2}
use Rattle.std.proofs.lemmas.List.{length-map}
use Rattle.std.proofs.lemmas.Simd.{map-map, zip2_splat}
use Rattle.j39_log.proofs.LaneLemmas.{limit_mask}
use Rattle.j39_log.proofs.fast.lanes.gaps_of.Goals as goal

pub returns : goal.returns
returns c =
    let block = c.args.block.now in
    let from_first : zip2 (λ a b. (a + (256 - b)) % 256) block (replicate 16 33) ≡ map (λ a. (a + 223) % 256) block = zip2_splat (λ a b. (a + (256 - b)) % 256) block 16 33 c.told-block in
    limit_mask 16 94 (zip2 (λ a b. (a + (256 - b)) % 256) block (replicate 16 33)) (ap length from_first ∙ simp length-map c.told-block) (omega arith)
    ∙ ap (λ v. mask_l (map (leb 94) v)) from_first ∙ ap mask_l (map-map (leb 94) (λ a. (a + 223) % 256) block)
