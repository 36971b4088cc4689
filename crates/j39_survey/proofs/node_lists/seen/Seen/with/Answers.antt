-- A claim by who holds the address from then on is its last one; any other frame leaves that as it was.
use Rattle.std.proofs.Common.{◌++◌, ◌∷◌, [], ℕ, Some, ◌∙◌, ap, refl, subst, sym}
use Rattle.std.specs.Option.{option_map}
use Rattle.j39_address.specs.Claim.{claim_by}
use Rattle.j39_address.specs.Name.{name_raw}
use Rattle.j39_frame.specs.Frame.{FrameRecord}
use Rattle.j39_frame.specs.Identifier.{source_of}
use Rattle.j39_frame.specs.Stamp.{stamp_micros}
use Rattle.j39_survey.specs.SeenNodes.{stamps_from}
use Rattle.j39_survey.specs.SurveyModels.{HaveMeasured}
use Rattle.j39_survey.proofs.SeenLemmas.{is_some-map, seen_claim, seen_talk}
use Rattle.j39_survey.proofs.node_lists.seen.Seen.with.Goals as goal

pub returns-in-None : goal.returns-in-None
returns-in-None c = λ F has held.
    let frame = c.args.frame.now in
    let measured = subst (λ (n : ℕ). HaveMeasured c.add.new.self (stamps_from F (source_of frame.id) ++ n ∷ [])) (ap (λ (f : FrameRecord). f.stamp) c.frame.view_is)
    (c.add.ensures (stamps_from F (source_of frame.id)) has.measured) in
    seen_talk F frame (source_of frame.id) c.args.self _ (option_map name_raw c.args.holder) c.requires refl (sym c.claim_of.ensures ∙ ap (option_map claim_by) c.in-None.is) has held
    (is_some-map name_raw c.args.holder ∙ c.is_none-talks.ensures) measured refl

pub returns-in-Some : goal.returns-in-Some
returns-in-Some c = λ F has held.
    let frame = c.args.frame.now in
    let stamp = ap (λ (f : FrameRecord). Some f.stamp) c.frame.view_is in
    let measured = subst (λ (n : ℕ). HaveMeasured c.add.new.self (stamps_from F (source_of frame.id) ++ n ∷ [])) (ap (λ (f : FrameRecord). f.stamp) c.frame.view_is)
    (c.add.ensures (stamps_from F (source_of frame.id)) has.measured) in
    seen_claim F frame (claim_by (c.in-Some.name, c.in-Some.field-0-1)) (source_of frame.id) c.args.self _ (option_map name_raw c.args.holder) c.requires refl
    (sym c.claim_of.ensures ∙ ap (option_map claim_by) c.in-Some.is) has held (is_some-map name_raw c.args.holder ∙ c.is_none-talks.ensures) measured
    (λ own. ap (option_map stamp_micros) (c.last_claim-claimed.ensures.own own) ∙ stamp) (λ other. c.last_claim-claimed.ensures.other other)
