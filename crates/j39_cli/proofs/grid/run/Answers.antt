-- The filter is that of what is asked for, and so are the spans and the columns.
use Rattle.j39_cli.proofs.Common.{◌≡◌, ◌∙◌, AsksForBoxes, subst, sym, turn}
use Rattle.j39_grid.specs.GridModels.{asked_of}
use Rattle.j39_grid.specs.GridRun.{MakesGrid, Subject}
use Rattle.j39_listen.specs.Chooses.{which_of}
use Rattle.j39_listen.specs.Ran.{Ran}
use Rattle.j39_cli.specs.GridCommand.{subject_in}
use Rattle.j39_cli.specs.LogCommand.{log_limit}
use Rattle.j39_cli.proofs.grid.run.Goals as goal

pub returns-clause-ran : goal.returns-clause-ran
returns-clause-ran g c =
    let rows = c.args.groups.now in
    let wanted = subject_in c.args.options.now rows in
    let asked_is : asked_of c.unwrap-asked.result ≡ wanted.asked =
    (rw c.unwrap-asked.ensures at c.new.ensures.value)
    ∙ (λ i. record { form = c.args.options.now.rows.format; every = c.micros.ensures.value i; spns = c.columns_of-spns.ensures.value i }) in
    let is : record { asked = asked_of c.unwrap-asked.result; which = which_of c.filter_given-filter.result; rows = rows } ≡ wanted =
    λ i. record { asked = asked_is i; which = c.filter_given-filter.ensures i; rows = rows } in
    let log = turn g.R.Source.remaining g.R.Source.has_failed c.args.source.now c.grid.new.source in
    let out = turn g.W.Sink.written g.W.Sink.has_failed c.args.sink.now c.grid.new.sink in
    rw (sym c.copy_of-bus.ensures)
    (subst (λ (subject : Subject). Ran (MakesGrid subject) AsksForBoxes c.copy_of-bus.result log_limit c.grid.result log out) is c.grid.ensures.ran)
