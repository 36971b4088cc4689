-- A number to the text's end.
use Rattle.std.proofs.Common.{[]}
use Rattle.j39_table.proofs.PlaceLemmas.{alone}
use Rattle.j39_table.proofs.position.part_in.Goals as goal

pub returns-in_err-part : goal.returns-in_err-part
returns-in_err-part c = rw c.from_residual.ensures (λ part few is. absurd (c.in_err-part.ensures part [] few tt (alone part c.args.text.now is)))

pub returns : goal.returns
returns c = λ part few is.
    let found = c.in_ok-part.ensures part [] few tt (alone part c.args.text.now is) in cc
