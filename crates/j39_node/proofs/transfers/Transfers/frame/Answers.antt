use Rattle.j39_node.proofs.Common.{◌∙◌, ap, arith, carried_by, id_raw, Option, option_map, stamp_micros, ToSend}
use Rattle.j39_node.proofs.SaidLemmas.{frame_made}
use Rattle.j39_node.proofs.FrameLemmas.{at_now}
use Rattle.j39_node.proofs.transfers.Transfers.frame.Goals as goal

pub returns : goal.returns
returns c =
    frame_made c.new.result (stamp_micros c.args.now) (id_raw c.in_ok-id.id) c.in_ok-id.bytes c.new.ensures.known c.new.ensures.value (omega arith)
    ∙ ap (λ (o : Option ToSend). option_map (at_now (stamp_micros c.args.now)) (option_map carried_by o)) c.in_ok-id.ensures
