-- The texts that are read are those that were found.
use Rattle.j39_cli.proofs.Common.{codes, refl, found_of}
use Rattle.j39_cli.specs.CommandWords.{answer}
use Rattle.j39_cli.proofs.MetLemmas.{tells, tells_none}
use Rattle.j39_cli.proofs.answer.task.Goals as goal

pub returns-clause-tells : goal.returns-clause-tells
returns-clause-tells c = tells _ (found_of c.args.given.now) c.task_of.result (answer _ _ _ _) refl
    (c.in_ok-name.ensures.ok, (c.in_ok-address.ensures.ok, (refl, (refl, tt)))) c.task_of.ensures.answer

pub returns-in_err-name-clause-tells : goal.returns-in_err-name-clause-tells
returns-in_err-name-clause-tells c = tells_none _ (codes "answer") (found_of c.args.given.now) _ (codes "name") _ refl
    c.from_residual.ensures.0 c.in_err-name.ensures.err (λ are. are.0)

pub returns-in_err-address-clause-tells : goal.returns-in_err-address-clause-tells
returns-in_err-address-clause-tells c = tells_none _ (codes "answer") (found_of c.args.given.now) _ (codes "address") _ refl
    c.from_residual-in_err-address.ensures.0 c.in_err-address.ensures.err (λ are. are.1.0)
