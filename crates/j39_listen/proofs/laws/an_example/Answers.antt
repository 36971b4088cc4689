use Rattle.j39_listen.proofs.TransferExample.{is_published, its_values}
use Rattle.j39_listen.proofs.laws.an_example.Goals as goal

pub returns : goal.returns
returns c = record { published = is_published; values = its_values }
