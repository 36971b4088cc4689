-- The raw number is below the field's size.
use Rattle.std.proofs.Common.{◌+◌, ◌-◌, arith, refl}
use Rattle.std.specs.Prelude.{unsigned_abs}
use Rattle.j39_groups.proofs.NumberLemmas.{value_fits}
use Rattle.j39_groups.proofs.value_in.number_of.Goals as goal

pub number-requires-clause-fits : goal.number-requires-clause-fits
number-requires-clause-fits c =
    value_fits c.args.first c.args.last (c.args.first - 1 + 1) c.args.bytes.now c.in_ok-raw_of.field-0 c.args.scale.now.step (unsigned_abs c.args.scale.now.offset) c.requires.starts c.requires.ordered c.requires.narrow
    (λ k. let byte = c.type_inv.bytes k in omega (arith, byte)) (let same = c.if-first-last.true in let starts = c.requires.starts in omega (arith, same, starts)) c.in_ok-raw_of.ensures c.requires.fits

pub number-requires-in-2-clause-fits : goal.number-requires-in-2-clause-fits
number-requires-in-2-clause-fits c =
    value_fits c.args.first c.args.last (c.args.first - 1 + 2) c.args.bytes.now c.in_ok-raw_of-in-2.field-0 c.args.scale.now.step (unsigned_abs c.args.scale.now.offset) c.requires.starts c.requires.ordered c.requires.narrow
    (λ k. let byte = c.type_inv.bytes k in omega (arith, byte)) (let is = c.in-2.is in let starts = c.requires.starts in let ordered = c.requires.ordered in omega (arith, is, starts, ordered)) c.in_ok-raw_of-in-2.ensures c.requires.fits

pub number-requires-in_default-clause-fits : goal.number-requires-in_default-clause-fits
number-requires-in_default-clause-fits c =
    value_fits c.args.first c.args.last (c.args.last) c.args.bytes.now c.in_ok-raw_number-in_default.field-0 c.args.scale.now.step (unsigned_abs c.args.scale.now.offset) c.requires.starts c.requires.ordered c.requires.narrow
    (λ k. let byte = c.type_inv.bytes k in omega (arith, byte)) refl c.in_ok-raw_number-in_default.ensures c.requires.fits
