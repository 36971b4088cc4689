use Rattle.std.proofs.Common.{None, ap, if◌then◌else◌, sym, ◌≡◌, ◌∙◌}
use Rattle.std.specs.Option.{is_some}
use Rattle.j39_frame.specs.Stamp.{stamp_micros}
use Rattle.j39_transport.specs.Reception.{Reaction}
use Rattle.j39_transport.specs.Receiving.{lent_after}
use Rattle.j39_transport.specs.ReceiverModel.{lent_by, stored_in, whole_in}
use Rattle.j39_transport.proofs.ReceptionLemmas.{tick_lends_nothing}
use Rattle.j39_transport.proofs.receiver.Buffers.tick.Goals as goal

pub returns-in-Some-clause-lent : goal.returns-in-Some-clause-lent
returns-in-Some-clause-lent c =
    let now = stamp_micros c.args.now in
    let none : lent_by c.args.self.now ≡ None =
    sym (ap lent_by c.self.view_is) ∙ ap (λ o. if is_some (stored_in o) then None else whole_in (stored_in c.self.inside.spare)) (sym c.take.ensures.value ∙ c.in-Some.is) in
    c.settle.ensures.lends now c.tick-step.ensures.at
    ∙ (ap (λ (x : Reaction). lent_after now x.delivers c.settle.new.self.session None) (c.settle.ensures.does ∙ c.tick-step.ensures.step)
    ∙ (tick_lends_nothing now _ c.settle.new.self.session ∙ sym none))
