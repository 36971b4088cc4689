-- The frame was heard, what it ended and made whole was noted, and all else was taken.
use Rattle.std.proofs.Common.{◌≡◌, ◌++◌, ◌∷◌, ◌∙◌, ℕ, ap, map, refl, slice_get, subst}
use Rattle.j39_frame.specs.Frame.{FrameRecord}
use Rattle.j39_frame.specs.Stamp.{stamp_micros}
use Rattle.j39_node.specs.Is.{Is}
use Rattle.j39_node.specs.History.Call.{At, ReleaseTransfer, TakeTransferEnded}
use Rattle.j39_node.specs.History.Act.{Hear}
use Rattle.j39_node.specs.Reception.{reception}
use Rattle.j39_node.specs.Transfers.{next_transfer_ended}
use Rattle.bus_demo.specs.Calls.{is_taking}
use Rattle.bus_demo.specs.Noted.{delivered_in, done_by, listed, told_by}
use Rattle.bus_demo.proofs.CallLemmas.{calls_one, calls_then}
use Rattle.bus_demo.proofs.bus.station.Station.hear.Goals as goal

pub returns-clause-hears : goal.returns-clause-hears
returns-clause-hears c =
    let at : stamp_micros c.frame.inside.stamp ≡ c.args.frame.now.stamp = ap (λ (f : FrameRecord). f.stamp) c.frame.view_is in
    let heard = c.hear.new.self in
    let settled = c.settle.new.self.controller in
    let delivered = c.deliver.new.self.controller in
    let withdrawn = c.withdraw.new.self.controller in
    let ended = c.settle.ensures.calls in
    let released = c.in_ok-deliver.ensures.calls in
    let first = calls_one is_taking (TakeTransferEnded ended.0) heard settled refl ended.1 in
    let second = calls_one is_taking (ReleaseTransfer released.0) settled delivered refl released.1 in (
      heard,
      (λ w H is. subst (λ (t : ℕ). Is w (At t (Hear c.args.frame.now) ∷ H) heard) at (c.hear.ensures w H is)),
      calls_then is_taking heard withdrawn c.clear.new.self.controller
          (calls_then is_taking heard delivered withdrawn (calls_then is_taking heard settled delivered first second) c.withdraw.ensures.calls)
          c.clear.ensures,
    )

pub returns-clause-noted : goal.returns-clause-noted
returns-clause-noted c = λ w H is.
    let K = At c.args.frame.now.stamp (Hear c.args.frame.now) ∷ H in
    let at : stamp_micros c.frame.inside.stamp ≡ c.args.frame.now.stamp = ap (λ (f : FrameRecord). f.stamp) c.frame.view_is in
    let heard = subst (λ (t : ℕ). Is w (At t (Hear c.args.frame.now) ∷ H) c.hear.new.self) at (c.hear.ensures w H is) in
    let ended = c.settle.ensures.calls in
    let settled = ended.1 w K heard in
    let came = listed (slice_get (reception w K).waits 0) in
    record {
      delivered = ap delivered_in c.withdraw.ensures.fates
          ∙ (c.in_ok-deliver.ensures.delivered w (TakeTransferEnded ended.0 ∷ K) settled
          ∙ (ap (λ v. map told_by v.items ++ came) c.settle.ensures.deliveries
          ∙ ap (λ ds. ds ++ came) (c.in_ok-show.ensures.shown w K heard)));
      done = ap (λ b. b.done.items) c.withdraw.ensures.fates ∙ (ap (λ v. v.items) c.deliver.ensures.done
          ∙ (c.in_ok-settle.ensures.done w K heard
          ∙ ap (λ b. b.done.items ++ done_by (next_transfer_ended w K) c.args.self.now.transfer) c.show.ensures.rest));
    }
