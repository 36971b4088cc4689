-- The group that the number names has a place of its own.
use Rattle.j39_survey.proofs.Common.{◌∙◌, ap, subst, IsHeardGroup, place_of_group, pgn_raw}
use Rattle.j39_survey.specs.GroupCounts.{group_named}
use Rattle.j39_survey.proofs.GroupLemmas.{counted_change}
use Rattle.j39_survey.proofs.surveys.group_table.GroupTable.change.Goals as goal

pub returns : goal.returns
returns g c = λ step steps came h.
    let is = c.group_in.ensures.named in
    counted_change c.args.self.now _ (group_named (pgn_raw c.args.pgn)) c.place-at.result c.change.ensures.0 step came
    (subst (λ n. IsHeardGroup n) is c.group_in.ensures.heard)
    (c.place-at.ensures.value ∙ ap place_of_group is) c.place-at.ensures.fits (λ other can it. c.place-at.ensures.distinct other can it ∙ is)
    c.change.ensures.2 (steps _ _ c.change.ensures.1) h
