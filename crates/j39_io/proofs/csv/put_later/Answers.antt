-- After a fault a front of the fields that are left was written.
use Rattle.std.proofs.Common.{Bor, List, ℕ}
use Rattle.j39_io.proofs.PutsLemmas.{puts_until}
use Rattle.j39_io.specs.Records.{later_text}
use Rattle.j39_io.proofs.csv.put_later.Goals as goal

pub returns-in_err-put_behind_comma : goal.returns-in_err-put_behind_comma
returns-in_err-put_behind_comma g c =
    puts_until (λ (field : Bor (List ℕ)). later_text field.now) c.args.fields.now c.loop-field.field-index _ tt _ _ _ _ _
    c.loop-field-test.true c.from_residual.ensures.0 c.loop-field.invariant c.in_err-put_behind_comma.ensures
