-- What stands in the block from the start on are the lines.
use Rattle.std.proofs.Common.{◌∙◌, arith}
use Rattle.std.proofs.lemmas.Slice.{between_to_end}
use Rattle.j39_io.proofs.BackwardsLemmas.{before_end}
use Rattle.j39_io.proofs.PutsLemmas.{puts_as, puts_done, puts_failed}
use Rattle.j39_groups.proofs.group_lines.put_part.Goals as goal

pub returns-in_err-put_all-in-Some-clause-puts : goal.returns-in_err-put_all-in-Some-clause-puts
returns-in_err-put_all-in-Some-clause-puts g c =
    let whole = between_to_end c.rows_before.new.out c.in-Some.start 960 (omega arith) ∙ before_end _ _ 960 _ _ (omega arith) c.in-Some.ensures.written in
    puts_failed _ _ _ _ c.from_residual.ensures.0 (puts_as _ _ _ _ whole c.in_err-put_all-in-Some.ensures.puts)

pub returns-in_ok-put_all-in-Some-clause-puts : goal.returns-in_ok-put_all-in-Some-clause-puts
returns-in_ok-put_all-in-Some-clause-puts g c =
    let whole = between_to_end c.rows_before.new.out c.in-Some.start 960 (omega arith) ∙ before_end _ _ 960 _ _ (omega arith) c.in-Some.ensures.written in
    puts_done _ _ _ _ (puts_as _ _ _ _ whole c.in_ok-put_all-in-Some.ensures.puts)
