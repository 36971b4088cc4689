-- It is the name in the table that is built in.
use Rattle.std.proofs.Common.{◌∙◌, ap}
use Rattle.j39_names.specs.Called.{group_called}
use Rattle.j39_names.specs.Names.{name_in}
use Rattle.j39_names.proofs.group_name.Goals as goal

pub returns : goal.returns
unfolding group_called
returns c = c.name_of.ensures ∙ ap (λ names. name_in names c.args.pgn) c.table.ensures
