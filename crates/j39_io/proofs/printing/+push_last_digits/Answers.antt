-- The digits so far and the next.
use Rattle.std.proofs.Common.{◌++◌, sym, ap, ◌∙◌, append_assoc, append-nil, arith}
use Rattle.j39_io.proofs.PrintingLemmas.{last_digits_step, last_digits_none}
use Rattle.j39_io.proofs.printing.+push_last_digits.Goals as goal

pub returns-then-count-gt0-clause-items : goal.returns-then-count-gt0-clause-items
returns-then-count-gt0-clause-items g t c =
    rw (c.push.ensures.items, c.push_last_digits.ensures.items, append_assoc)
    (ap (λ xs. c.args.out.now.items ++ xs) (sym (last_digits_step c.args.count c.args.value c.if-count-gt0.true)))

pub returns-else-count-gt0-clause-items : goal.returns-else-count-gt0-clause-items
returns-else-count-gt0-clause-items g t c =
    sym (append-nil c.args.out.now.items) ∙ ap (λ xs. c.args.out.now.items ++ xs) (sym (last_digits_none c.args.count c.args.value (omega arith)))
