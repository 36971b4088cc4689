-- A number to the text's end.
use Rattle.std.proofs.Common.{[], arith}
use Rattle.j39_table.proofs.PlaceLemmas.{alone, not_empty}
use Rattle.j39_table.proofs.position.bytes_from.Goals as goal

pub returns-then-is_empty-clause-bytes : goal.returns-then-is_empty-clause-bytes
returns-then-is_empty-clause-bytes c = λ last few is.
    let some = not_empty last c.args.rest.now few is in
    absurd (grind (arith, c.is_empty.ensures, c.if-is_empty.true, some))

pub returns-in_err-last-clause-bytes : goal.returns-in_err-last-clause-bytes
returns-in_err-last-clause-bytes c = rw c.from_residual.ensures (λ last few is. absurd (c.in_err-last.ensures last [] few tt (alone last c.args.rest.now is)))

pub returns-clause-bytes : goal.returns-clause-bytes
returns-clause-bytes c = λ last few is.
    let found = c.in_ok-last.ensures last [] few tt (alone last c.args.rest.now is) in cc
