-- A frame from an address that can be held is seen of that one, and no frame of another.
use Rattle.std.proofs.Common.{◌∷◌, ◌++◌, [], ◌≡◌, ◌<◌, ℕ, ◌∙◌, ap, length, sym, subst, rules, arith}
use Rattle.std.specs.Prelude.{get_or}
use Rattle.std.proofs.lemmas.Bool.{both_ways}
use Rattle.std.proofs.lemmas.List.{get_or_default}
use Rattle.std.specs.Option.{option_map}
use Rattle.j39_address.specs.Claim.{claims_of}
use Rattle.j39_address.specs.Holder.{IsHolderAfter}
use Rattle.j39_address.specs.Name.{name_raw}
use Rattle.j39_frame.specs.Frame.{FrameRecord}
use Rattle.j39_frame.specs.Identifier.{source_of}
use Rattle.j39_survey.specs.SeenSoFar.{HasSeen, unseen}
use Rattle.j39_survey.specs.declared.node_lists.seen.Seen.{Seen}
use Rattle.j39_survey.proofs.SeenLemmas.{seen_elsewhere, seen_more}
use Rattle.j39_survey.proofs.node_lists.seen.SeenList.see.Goals as goal

pub returns-then-is_address-clause-sees : goal.returns-then-is_address-clause-sees
returns-then-is_address-clause-sees c = λ F knows sees a below.
    let frame = c.args.frame.now in
    let source : c.source-address.result ≡ source_of frame.id = c.source-address.ensures ∙ ap (λ (f : FrameRecord). source_of f.id) c.frame.view_is in
    let at : c.from-at.result ≡ source_of frame.id = c.from-at.ensures ∙ source in
    let inside : c.source-address.result < 254 = c.is_address.ensures.0 c.if-is_address.true in
    let within : c.from-at.result < length c.args.self.now.seen = search rules in
    let seen = subst (λ (n : ℕ). HasSeen F n (get_or c.args.self.now.seen n unseen)) (sym at) (sees (source_of frame.id) (omega (arith, source))) in
    let read = subst (λ (s : Seen). HasSeen F c.from-at.result s) (get_or_default c.args.self.now.seen c.from-at.result unseen c.index-self-at.result within) seen in
    let holds = subst (λ (n : ℕ). IsHolderAfter (claims_of (F ++ frame ∷ [])) n (option_map name_raw c.holder-holder.result)) source
    (c.holder-holder.ensures.holder (F ++ frame ∷ []) knows) in
    let now = c.with.ensures F (subst (λ (n : ℕ). HasSeen F n (get_or c.args.self.now.seen c.from-at.result c.index-self-at.result)) at read) holds in
    seen_more F frame c.args.self.now.seen c.from-at.result c.with.result within (sym at) sees
    (subst (λ (n : ℕ). HasSeen (F ++ frame ∷ []) n c.with.result) (sym at) now) a below

pub returns-else-is_address-clause-sees : goal.returns-else-is_address-clause-sees
returns-else-is_address-clause-sees c = λ F knows sees a below.
    let frame = c.args.frame.now in
    let source : c.source-address.result ≡ source_of frame.id = c.source-address.ensures ∙ ap (λ (f : FrameRecord). source_of f.id) c.frame.view_is in
    seen_elsewhere F frame a _ below (λ z.
    let inside : c.source-address.result < 254 = omega (arith, source, z) in
    both_ways _ c.if-is_address.false (c.is_address.ensures.1 inside)) (sees a below)
