use Rattle.std.proofs.Common.{◌≡◌, ◌≢◌, None, refl, sym, ap, ◌∙◌, inl, inr}
use Rattle.j39_frame.specs.Address.{global_address, null_address}
use Rattle.j39_address.specs.Node.{IsAt, address_of}
use Rattle.j39_address.specs.Node.NodeStatus.{Cannot}
use Rattle.j39_address.specs.Call.Call.{Asked}
use Rattle.j39_address.specs.NodeStep.NodeStep.{tells, tells_of_none, is_not_asked}
use Rattle.j39_address.proofs.ClaimerLemmas.{says_step, rests_step, not_asked_at, not_asked_anywhere}
use Rattle.j39_address.proofs.claimer.Claimer.asked.Goals as goal
use Rattle.j39_address.proofs.claimer.Claimer.asked.Goals.{else-destination-eq-GLOBAL_ADDRESS-2-via-then-destination-eq-GLOBAL_ADDRESS-2+else-has_given_up, else-destination-eq-GLOBAL_ADDRESS-2-via-else-destination-eq-GLOBAL_ADDRESS-2}

pub returns-then-destination-address : goal.returns-then-destination-address
returns-then-destination-address c = λ node h.
    let a = c.in-Some.address in
    let at : IsAt node a = ap address_of (sym h.status) ∙ sym c.in-Some.ensures in
    says_step node node c.args.self.now _ _ _ a _ refl h c.say.ensures
    (tells a c.args.destination refl at (elim c.if-destination-address.either [ inl e ↦ inl e | inr e ↦ inr e.1 ]) (refl, refl))

pub returns-else-destination-address : goal.returns-else-destination-address
returns-else-destination-address c = λ node h.
    let a = c.in-Some.address in
    let at : IsAt node a = ap address_of (sym h.status) ∙ sym c.in-Some.ensures in
    let f = c.if-destination-address.false in
    let k = not_asked_at node a c.args.destination at f.0 f.1 in
    rests_step node _ _ _ h (is_not_asked c.args.destination refl k.0 k.1 (refl, refl))

pub returns-then-has_given_up : goal.returns-then-has_given_up
returns-then-has_given_up c = λ node h.
    says_step node node c.args.self.now _ _ _ null_address _ refl h c.say-then-has_given_up.ensures
    (tells_of_none (ap Asked c.if-destination-eq-GLOBAL_ADDRESS-2.true) (sym h.status ∙ c.if-has_given_up.ensures.0 refl) (refl, refl))

pub returns-else-destination-eq-GLOBAL_ADDRESS-2 : goal.returns-else-destination-eq-GLOBAL_ADDRESS-2
returns-else-destination-eq-GLOBAL_ADDRESS-2 c = λ node h.
    let nowhere : address_of node.status ≡ None = ap address_of (sym h.status) ∙ sym c.in-None.ensures in
    let not : node.status ≡ Cannot → c.args.destination ≢ global_address = elim c.else-destination-eq-GLOBAL_ADDRESS-2.branch [
      | else-destination-eq-GLOBAL_ADDRESS-2-via-then-destination-eq-GLOBAL_ADDRESS-2+else-has_given_up w ↦
          λ x. absurd (let z = w.has_given_up.ensures.1 (h.status ∙ x) in let y = w.if-has_given_up.false in cc)
      | else-destination-eq-GLOBAL_ADDRESS-2-via-else-destination-eq-GLOBAL_ADDRESS-2 w ↦ λ x. w.if-destination-eq-GLOBAL_ADDRESS-2.false
    ] in
    let k = not_asked_anywhere node c.args.destination nowhere not in
    rests_step node _ _ _ h (is_not_asked c.args.destination refl k.0 k.1 (refl, refl))
