-- Each turn writes the last two digits of what is left.
use Rattle.std.proofs.Common.{◌++◌, ◌∷◌, [], ◌+◌, ◌/◌, ◌%◌, append-nil, sym, ap, ◌∙◌, subst, append_assoc, arith}
use Rattle.std.specs.Fmt.{decimal}
use Rattle.std.proofs.lemmas.Fmt.{decimal_digit}
use Rattle.j39_io.specs.Backwards.{WritesBefore, two_digits}
use Rattle.j39_io.proofs.PrintingLemmas.{shortest_decimal}
use Rattle.j39_io.proofs.BackwardsLemmas.{before_then, before_none, room_left, decimal_two_long, decimal_two, decimal_pair}
use Rattle.j39_io.proofs.backwards.number_before.Goals as goal

pub pairs-init : goal.pairs-init
pairs-init c = ([], before_none c.args.out.now c.args.end, sym (append-nil (decimal c.args.value)))

pub pair_before-at-requires-clause-room : goal.pair_before-at-requires-clause-room
pair_before-at-requires-clause-room c =
    let inv = c.pairs.invariant in
    let room = room_left c.args.value c.pairs.left c.args.end c.pairs.at inv.0 _ _ c.requires.room inv.1 inv.2 in
    let long = decimal_two_long c.pairs.left (omega arith) c.pairs.auto.left-fits.fits in
    omega (arith, room, long)

pub pairs-preserved : goal.pairs-preserved
pairs-preserved c =
    let inv = c.pairs.invariant in
    let two = two_digits (c.pairs.left % 100) in (
      two ++ inv.0,
      before_then _ _ _ _ _ _ inv.0 two inv.1 c.pair_before-at.ensures,
      inv.2 ∙ ap (λ ds. ds ++ inv.0) (decimal_pair c.pairs.left c.pairs-test.true c.pairs.auto.left-fits.fits) ∙ append_assoc (decimal (c.pairs.left / 100)) two inv.0,
    )

pub pair_before-requires-clause-room : goal.pair_before-requires-clause-room
pair_before-requires-clause-room c =
    let inv = c.pairs.invariant in
    let room = room_left c.args.value c.pairs.left c.args.end c.pairs.at inv.0 _ _ c.requires.room inv.1 inv.2 in
    let long = decimal_two_long c.pairs.left (omega arith) c.pairs.auto.left-fits.fits in
    omega (arith, room, long)

pub byte_before-requires-clause-room : goal.byte_before-requires-clause-room
byte_before-requires-clause-room c =
    let inv = c.pairs.invariant in
    let room = room_left c.args.value c.pairs.left c.args.end c.pairs.at inv.0 _ _ c.requires.room inv.1 inv.2 in
    let long = shortest_decimal c.pairs.left (omega arith) in
    omega (arith, room, long)

pub returns-then-left-ge10 : goal.returns-then-left-ge10
returns-then-left-ge10 c =
    let inv = c.pairs.invariant in
    let digits = decimal_two c.pairs.left (omega arith) (omega arith) in
    subst (λ ds. WritesBefore c.args.out.now c.pair_before.new.out c.args.end c.pair_before.result ds)
    (ap (λ ds. ds ++ inv.0) (sym digits) ∙ sym inv.2) (before_then _ _ _ _ _ _ inv.0 (two_digits c.pairs.left) inv.1 c.pair_before.ensures)

pub returns-else-left-ge10 : goal.returns-else-left-ge10
returns-else-left-ge10 c =
    let inv = c.pairs.invariant in
    let digits = decimal_digit c.pairs.left (omega arith) in
    subst (λ ds. WritesBefore c.args.out.now c.byte_before.new.out c.args.end c.byte_before.result ds)
    (ap (λ ds. ds ++ inv.0) (sym digits) ∙ sym inv.2) (before_then _ _ _ _ _ _ inv.0 ((48 + c.pairs.left) ∷ []) inv.1 c.byte_before.ensures)
