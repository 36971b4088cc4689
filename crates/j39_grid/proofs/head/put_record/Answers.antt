-- The names of the moments, those of the parameters, and the end of the line.
use Rattle.std.proofs.Common.{List, ℕ, codes}
use Rattle.std.specs.List.{flat_map}
use Rattle.j39_io.specs.Records.{later_text, line_end}
use Rattle.j39_rows.proofs.PartLemmas.{first_of_three, second_of_three, third_of_three}
use Rattle.j39_groups.specs.Row.{RowRecord}
use Rattle.j39_grid.specs.Grid.{called}
use Rattle.j39_grid.proofs.head.put_record.Goals as goal

abbrev parameters : List RowRecord → List ℕ → List ℕ
parameters rows spns = flat_map (λ spn. later_text (called rows spn)) spns

pub returns-in_err-put_all : goal.returns-in_err-put_all
returns-in_err-put_all g c = first_of_three (codes "stamp,utc") (parameters c.args.groups.now c.args.spns.now) line_end _ _ _ c.from_residual.ensures.0 c.in_err-put_all.ensures.puts

pub returns-in_err-put_parameters : goal.returns-in_err-put_parameters
returns-in_err-put_parameters g c =
    second_of_three (codes "stamp,utc") (parameters c.args.groups.now c.args.spns.now) line_end _ _ _ _ _ _ c.from_residual-in_err-put_parameters.ensures.0
    c.in_ok-put_all.ensures.puts c.in_err-put_parameters.ensures

pub returns : goal.returns
returns g c =
    third_of_three (codes "stamp,utc") (parameters c.args.groups.now c.args.spns.now) line_end _ _ _ _ _ _ _ c.in_ok-put_all.ensures.puts
    c.in_ok-put_parameters.ensures c.put_all-2.ensures.puts
