-- The texts that are read are those that were found.
use Rattle.j39_cli.proofs.Common.{codes, refl, found_of}
use Rattle.j39_cli.specs.CommandWords.{cut}
use Rattle.j39_cli.proofs.MetLemmas.{tells, tells_none}
use Rattle.j39_cli.proofs.cut.task.Goals as goal

pub returns-clause-tells : goal.returns-clause-tells
returns-clause-tells c = tells _ (found_of c.args.given.now) c.task_of.result (cut _ _ _ _ _) refl (
  c.in_ok-source.ensures.ok,
  (
    c.in_ok-pgn.ensures.ok,
    (
      c.in_ok-at.ensures.ok,
      (
        c.in_ok-bus.ensures.ok,
        (c.in_ok-hex.ensures.ok, tt),
      ),
    ),
  ),
) c.task_of.ensures.answer

pub returns-in_err-source-clause-tells : goal.returns-in_err-source-clause-tells
returns-in_err-source-clause-tells c = tells_none _ (codes "cut") (found_of c.args.given.now) _ (codes "source") _ refl
    c.from_residual.ensures.0 c.in_err-source.ensures.err (λ are. are.0)

pub returns-in_err-pgn-clause-tells : goal.returns-in_err-pgn-clause-tells
returns-in_err-pgn-clause-tells c = tells_none _ (codes "cut") (found_of c.args.given.now) _ (codes "pgn") _ refl
    c.from_residual-in_err-pgn.ensures.0 c.in_err-pgn.ensures.err (λ are. are.1.0)

pub returns-in_err-at-clause-tells : goal.returns-in_err-at-clause-tells
returns-in_err-at-clause-tells c = tells_none _ (codes "cut") (found_of c.args.given.now) _ (codes "at") _ refl
    c.from_residual-in_err-at.ensures.0 c.in_err-at.ensures.err (λ are. are.1.1.0)

pub returns-in_err-bus-clause-tells : goal.returns-in_err-bus-clause-tells
returns-in_err-bus-clause-tells c = tells_none _ (codes "cut") (found_of c.args.given.now) _ (codes "bus") _ refl
    c.from_residual-in_err-bus.ensures.0 c.in_err-bus.ensures.err (λ are. are.1.1.1.0)

pub returns-in_err-hex-clause-tells : goal.returns-in_err-hex-clause-tells
returns-in_err-hex-clause-tells c = tells_none _ (codes "cut") (found_of c.args.given.now) _ (codes "hex") _ refl
    c.from_residual-in_err-hex.ensures.0 c.in_err-hex.ensures.err (λ are. are.1.1.1.1.0)
