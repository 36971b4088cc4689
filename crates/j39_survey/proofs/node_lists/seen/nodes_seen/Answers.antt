use Rattle.std.proofs.Common.{refl}
use Rattle.j39_listen.specs.Output.{nothing}
use Rattle.j39_survey.specs.SeenSoFar.{asked_of}
use Rattle.j39_survey.proofs.node_lists.seen.nodes_seen.Goals as goal

pub returns-in-Line-clause-ran : goal.returns-in-Line-clause-ran
returns-in-Line-clause-ran g c =
    rw c.in-Line.is (rw c.in-Line.is at (c.run_over.ensures.ran (asked_of c.args.asked) nothing (λ name. c.new-list.ensures) refl))

pub returns-in-Line-clause-memory : goal.returns-in-Line-clause-memory
returns-in-Line-clause-memory g c = λ fails. ((returns-in-Line-clause-ran g c).memory fails).among.asked

pub returns-in-Record-clause-ran : goal.returns-in-Record-clause-ran
returns-in-Record-clause-ran g c =
    rw c.in-Record.is (rw c.in-Record.is at (c.run_headed.ensures.ran (asked_of c.args.asked) nothing (λ name. c.new-list.ensures) refl))

pub returns-in-Record-clause-memory : goal.returns-in-Record-clause-memory
returns-in-Record-clause-memory g c = λ fails. ((returns-in-Record-clause-ran g c).memory fails).among.asked

pub returns-in-Object-clause-ran : goal.returns-in-Object-clause-ran
returns-in-Object-clause-ran g c =
    rw c.in-Object.is (rw c.in-Object.is at (c.run_over-in-Object.ensures.ran (asked_of c.args.asked) nothing (λ name. c.new-list.ensures) refl))

pub returns-in-Object-clause-memory : goal.returns-in-Object-clause-memory
returns-in-Object-clause-memory g c = λ fails. ((returns-in-Object-clause-ran g c).memory fails).among.asked
