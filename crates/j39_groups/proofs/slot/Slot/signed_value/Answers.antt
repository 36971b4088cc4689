-- A number whose highest bit is set is so many steps below the offset.
use Rattle.std.proofs.Common.{rules, ap, pos, ◌*◌, ◌-◌, ◌-ℤ◌, ◌∙◌, w64}
use Rattle.std.proofs.lemmas.Int.{to_z-of_z}
use Rattle.j39_groups.proofs.NumberLemmas.{signed_below}
use Rattle.j39_groups.proofs.slot.Slot.signed_value.Goals as goal

pub returns-else-from-half : goal.returns-else-from-half
returns-else-from-half c =
    let half = c.highest_bit-half.result in
    to_z-of_z w64 c.value_below.result (search rules) ∙ c.value_below.ensures
    ∙ ap (λ raw. c.args.self.offset -ℤ pos (c.args.self.step * (2 * half - raw))) c.from-else-from-half.ensures
    ∙ signed_below c.args.count c.args.raw c.args.self.step half c.args.self.offset c.requires.some c.highest_bit-half.ensures.value (search rules) c.requires.narrow
