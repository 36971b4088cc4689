use Rattle.std.proofs.Common.{Some}
use Rattle.j39_listen.proofs.Written.{tells_published}
use Rattle.j39_web.specs.Answers.{given_bus}
use Rattle.j39_web.specs.Text.{counts_in}
use Rattle.j39_web.proofs.j39_report.Goals as goal

pub returns-clause-published : goal.returns-clause-published
returns-clause-published c = λ done.
    let (rows, is, made) = c.tell.ensures.made done in
    (rows, is, tells_published rows (given_bus c.args.bus.now) (Some c.args.log.now) (counts_in c.tell.new.text) _ _ made)
