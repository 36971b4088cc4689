use Rattle.j39_node.proofs.Common.{◌∙◌, refl, sym}
use Rattle.j39_node.proofs.MovingLemmas.{begins_anew, moves_from, settles}
use Rattle.j39_node.proofs.controller.Controller.move_to.Goals as goal

pub returns-clause-known : goal.returns-clause-known
returns-clause-known c = λ w H h.
    (λ t. let m = sym c.move_to.ensures.known ∙ c.if-not-move_to.false in ((moves_from w H c.args.self.now c.args.address h m).0, settles w H c.args.self.now c.args.address h (sym c.is_settled.ensures ∙ c.if-not-is_settled.false) m), λ s. refl)

pub returns-clause-moved : goal.returns-clause-moved
returns-clause-moved c = λ e w H h.
    begins_anew w H c.args.self.now _ c.args.address h (sym c.is_settled.ensures ∙ c.if-not-is_settled.false) refl refl refl refl refl refl refl refl refl c.moved-self.ensures
    refl refl refl refl refl refl refl c.clear.ensures refl refl refl
    (c.move_to-known.ensures.moved (c.move_to-known.ensures.known.1 (moves_from w H c.args.self.now c.args.address h (sym c.move_to.ensures.known ∙ c.if-not-move_to.false)).0))
    (c.move_to.ensures.moved c.if-not-move_to.false) (sym c.move_to.ensures.known ∙ c.if-not-move_to.false) c.begin_anew.ensures.anew c.begin_anew.ensures.whole
