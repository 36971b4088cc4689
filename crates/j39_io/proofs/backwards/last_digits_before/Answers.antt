-- Each turn writes the last two digits of what is left.
use Rattle.std.proofs.Common.{◌++◌, ◌∷◌, [], ◌+◌, ◌-◌, ◌/◌, ◌%◌, sym, ap, ◌∙◌, subst, append_assoc, arith}
use Rattle.j39_io.specs.Backwards.{WritesBefore, two_digits}
use Rattle.j39_io.specs.Printing.{last_digits}
use Rattle.j39_io.proofs.PrintingLemmas.{last_digits_step, last_digits_none}
use Rattle.j39_io.proofs.BackwardsLemmas.{before_then, last_digits_pair, quotient_pair}
use Rattle.j39_io.proofs.backwards.last_digits_before.Goals as goal

pub pairs-preserved : goal.pairs-preserved
pairs-preserved c =
    let inv = c.pairs.invariant in
    let starts = c.pair_before-at.ensures.starts in
    let two = two_digits (c.pairs.left % 100) in (
      two ++ inv.0,
      before_then _ _ _ _ _ _ inv.0 two inv.1 c.pair_before-at.ensures,
      inv.2 ∙ ap (λ ds. ds ++ inv.0) (last_digits_pair c.pairs.more c.pairs.left c.pairs-test.true) ∙ append_assoc (last_digits (c.pairs.more - 2) (c.pairs.left / 100)) two inv.0,
      omega (arith, starts, inv.3),
      quotient_pair c.pairs.more c.pairs.left c.pairs-test.true ∙ inv.4,
    )

pub returns-then-more-eq1-clause-digits : goal.returns-then-more-eq1-clause-digits
returns-then-more-eq1-clause-digits c =
    let inv = c.pairs.invariant in
    let last = last_digits_step c.pairs.more c.pairs.left (omega arith) ∙ ap (λ ds. ds ++ ((48 + c.pairs.left % 10) ∷ [])) (last_digits_none (c.pairs.more - 1) (c.pairs.left / 10) (omega arith)) in
    subst (λ ds. WritesBefore c.args.out.now c.byte_before-at.new.out c.args.end c.byte_before-at.result ds)
    (ap (λ ds. ds ++ inv.0) (sym last) ∙ sym inv.2) (before_then _ _ _ _ _ _ inv.0 ((48 + c.pairs.left % 10) ∷ []) inv.1 c.byte_before-at.ensures)

pub returns-else-more-eq1-clause-digits : goal.returns-else-more-eq1-clause-digits
returns-else-more-eq1-clause-digits c =
    let inv = c.pairs.invariant in
    let none = last_digits_none c.pairs.more c.pairs.left (omega arith) in
    subst (λ ds. WritesBefore c.args.out.now c.pairs.out c.args.end c.pairs.at ds) (ap (λ ds. ds ++ inv.0) (sym none) ∙ sym inv.2) inv.1
