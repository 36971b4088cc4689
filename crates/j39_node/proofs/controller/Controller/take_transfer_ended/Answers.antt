use Rattle.j39_node.proofs.Common.{◌∙◌, ap, refl, View}
use Rattle.j39_node.proofs.CallLemmas.{ends_told, follows}
use Rattle.j39_transfers.specs.Transfers.{tells, told}
use Rattle.j39_node.proofs.controller.Controller.take_transfer_ended.Goals as goal

pub returns : goal.returns
returns c = λ w H h.
    let e = c.take_ended.ensures.told ∙ ap (λ (v : View). told v.port.state) h.shown in
    follows h refl e refl
    (λ i. record (h.shown i) {
      port = record {
        state = (c.take_ended.ensures.ends ∙ (ap (λ (v : View). tells v.port.state) h.shown ∙ ends_told w H c.take_ended.result e)) i;
        next_token = (h.shown i).port.next_token;
      };
    })
