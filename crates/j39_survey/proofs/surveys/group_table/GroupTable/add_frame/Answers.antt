-- The group of the frame has one more.
use Rattle.j39_survey.proofs.Common.{◌≡◌, ◌∙◌, ap, sym, subst, FrameRecord, IsHeardGroup, place_of_group, pgn_of, heard}
use Rattle.j39_survey.specs.CameSoFar.{with_own}
use Rattle.j39_survey.proofs.GroupLemmas.{counted_change}
use Rattle.j39_survey.proofs.surveys.group_table.GroupTable.add_frame.Goals as goal

pub returns : goal.returns
returns c = λ came h.
    let f = c.args.frame.now in
    let is : c.pgn.result.raw ≡ pgn_of f.id = c.pgn.ensures ∙ ap (λ (x : FrameRecord). pgn_of x.id) c.frame.view_is in
    counted_change c.args.self.now _ (pgn_of f.id) c.place-at.result c.change.ensures.0 (with_own f) came (heard f.id)
    (c.place-at.ensures.value ∙ ap place_of_group is) c.place-at.ensures.fits (λ other can it. c.place-at.ensures.distinct other can it ∙ is)
    c.change.ensures.2 (c.change.ensures.1 f (sym (ap (λ (x : FrameRecord). x.id) c.frame.view_is)) (sym (ap (λ (x : FrameRecord). x.stamp) c.frame.view_is))) h

-- the group of an identifier has a place
pub place-at-requires : goal.place-at-requires
place-at-requires c = subst (λ n. IsHeardGroup n) (sym c.pgn.ensures) (heard _)
