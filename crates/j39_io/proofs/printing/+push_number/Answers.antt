-- A digit, or the digits before it and then it.
use Rattle.std.proofs.Common.{◌++◌, sym, ap, ◌∙◌, append_assoc, arith}
use Rattle.std.proofs.lemmas.Fmt.{decimal_step, decimal_digit}
use Rattle.j39_io.proofs.printing.+push_number.Goals as goal

pub returns-then-value-lt10-clause-items : goal.returns-then-value-lt10-clause-items
returns-then-value-lt10-clause-items g t c =
    c.push.ensures.items ∙ ap (λ ds. c.args.out.now.items ++ ds) (sym (decimal_digit c.args.value (omega arith)))

pub returns-else-value-lt10-clause-items : goal.returns-else-value-lt10-clause-items
returns-else-value-lt10-clause-items g t c =
    rw (c.push-else-value-lt10.ensures.items, c.push_number.ensures.items, c.front_of.ensures.front, append_assoc)
    (ap (λ ds. c.args.out.now.items ++ ds) (sym (decimal_step c.args.value (omega arith) (omega arith))))
