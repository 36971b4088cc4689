-- One address after the other, and then all of them.
use Rattle.std.proofs.Common.{◌≡◌, ◌∙◌, ◌++◌, ◌∷◌, [], List, ap, map, sym, subst, take, take_all, arith}
use Rattle.std.proofs.lemmas.List.{take_more}
use Rattle.j39_address.specs.Claims.{Knows}
use Rattle.j39_address.specs.declared.claims.Claims.{Claims}
use Rattle.j39_transport.specs.Events.{Event}
use Rattle.j39_transport.specs.Events.Event.{Frame, Forget}
use Rattle.j39_transport.specs.Stands.{Stands}
use Rattle.j39_listen.proofs.ListenerLemmas.{forgets_more_than, hears_claim, on_ok}
use Rattle.j39_listen.proofs.listener.Listener.note.Goals as goal

pub loop-address-preserved : goal.loop-address-preserved
loop-address-preserved c =
    let xs = c.as_slice-address-items.result.now in
    let more = take_more xs c.loop-address.address-index 0 (omega arith) in (
      (λ E stands. subst (λ (D : List Event). Stands D c.forget.new.self)
          (forgets_more_than E (take c.loop-address.address-index xs) _ ∙ ap (λ (ys : List _). E ++ map (λ t. Forget t) ys) (sym more))
          (c.forget.ensures.stands _ (c.loop-address.invariant.0 E stands))),
      c.loop-address.invariant.1,
    )

pub returns-clause-noted : goal.returns-clause-noted
returns-clause-noted c = λ F h.
    let gone = c.note-changed.result.items in
    let whole : take c.loop-address.address-index c.as_slice-address-items.result.now ≡ gone =
    take_all c.loop-address.address-index c.as_slice-address-items.result.now (omega arith) ∙ c.as_slice-address-items.ensures.value in
    let fed = (on_ok _ _ _ _ c.in_ok-feed.was c.feed.follows.holds-at-none).0 h.events h.stands in
    hears_claim c.args.self.now F c.args.frame.now c.loop-address.self.assembler c.loop-address.self.claims gone h
    (c.note-changed.ensures.changed F h.knows)
    (subst (λ (t : Claims). Knows t (F ++ c.args.frame.now ∷ [])) (sym c.loop-address.invariant.1) (c.note-changed.ensures.knows F h.knows))
    (subst (λ (ys : List _). Stands ((h.events ++ Frame c.args.frame.now ∷ []) ++ map (λ t. Forget t) ys) c.loop-address.self.assembler) whole
    (c.loop-address.invariant.0 _ fed))
