use Rattle.std.proofs.Common.{None, refl}
use Rattle.j39_listen.specs.Output.{nothing}
use Rattle.j39_survey.proofs.node_lists.held.nodes.Goals as goal

pub returns-clause-ran : goal.returns-clause-ran
returns-clause-ran g c = c.run_over.ensures.ran None nothing (λ name. c.new.ensures) refl

pub returns-clause-memory : goal.returns-clause-memory
returns-clause-memory g c = λ fails. ((returns-clause-ran g c).memory fails).among.asked
