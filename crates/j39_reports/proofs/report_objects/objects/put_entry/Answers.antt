-- It was put behind those that wait, or they and it were written.
use Rattle.j39_groups.specs.Names.{group_name_in}
use Rattle.j39_reports.proofs.Common.{◌∙◌, ◌++◌, ap, name_in, pgn_raw, state_in, value_of}
use Rattle.j39_reports.specs.Forwards.{waiting_text}
use Rattle.j39_reports.proofs.ForwardLemmas.{gathers_from, gathers_more}
use Rattle.j39_reports.proofs.ObjectLemmas.{object_by_sides}
use Rattle.j39_reports.proofs.report_objects.objects.put_entry.Goals as goal

pub returns-then-push : goal.returns-then-push
returns-then-push g c =
    let groups = c.args.known.now.groups.now in
    let value = value_of c.args.value in
    let pgn = pgn_raw c.args.pgn in
    gathers_more _ _ _ _ _ (c.push.ensures.pushed c.if-push.true ∙ ap (λ text. waiting_text c.args.waiting.now ++ text)
    (object_by_sides c.args.opening.now (group_name_in groups pgn) (name_in groups pgn c.args.spn) (state_in groups pgn c.args.spn value) c.args.spn value
    (c.push.ensures.group c.if-push.true) (c.push.ensures.stateless c.if-push.true)))

pub returns : goal.returns
returns g c = gathers_from _ _ _ _ _ _ (c.push.ensures.kept c.if-push.false) c.put_unknown.ensures
