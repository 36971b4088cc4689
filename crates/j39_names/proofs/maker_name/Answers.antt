-- It is the name in the table that is built in.
use Rattle.std.proofs.Common.{◌∙◌, ap}
use Rattle.j39_names.specs.Called.{maker_called}
use Rattle.j39_names.specs.Names.{name_in, names_of}
use Rattle.j39_names.proofs.maker_name.Goals as goal

pub returns : goal.returns
unfolding maker_called
returns c = c.name_of.ensures ∙ ap (name_in (names_of c.table.result)) c.from.ensures ∙ ap (λ names. name_in names c.args.code) c.table.ensures
