-- Those that waited, and the object.
use Rattle.j39_reports.proofs.Common.{◌∙◌, ◌++◌, ap, name_in, pgn_raw, state_in, take, puts_as, value_of}
use Rattle.j39_groups.specs.Names.{group_name_in}
use Rattle.j39_reports.specs.EntryObject.{parameter_members, value_members}
use Rattle.j39_reports.specs.MessageObjects.{opened}
use Rattle.j39_reports.proofs.ForwardLemmas.{gathers_all, gathers_put}
use Rattle.j39_reports.proofs.report_objects.objects.put_unknown.Goals as goal

pub returns-in_err-put : goal.returns-in_err-put
returns-in_err-put g c = gathers_put _ _ _ _ _ _ _ c.from_residual.ensures.0 c.in_err-put.ensures.puts

pub returns : goal.returns
returns g c =
    let groups = c.args.known.now.groups.now in
    let value = value_of c.args.value in
    gathers_all _ _ _ _ _ _ _ _ (ap (λ n. take n c.put_object.new.block) (c.miss.ensures.place ∙ c.in_ok-put.ensures.none)) c.in_ok-put.ensures.puts
    (puts_as _ _ _ _ ((λ i. opened c.args.opening.now (c.group_name-group.ensures i)
    ++ (parameter_members c.args.spn (c.called_in.ensures.parameter i) ++ value_members value (c.called_in.ensures.state i)))
    ∙ ap (λ pgn. opened c.args.opening.now (group_name_in groups (pgn_raw c.args.pgn))
    ++ (parameter_members c.args.spn (name_in groups pgn c.args.spn) ++ value_members value (state_in groups pgn c.args.spn value))) c.raw-number.ensures.value) c.put_object.ensures)
