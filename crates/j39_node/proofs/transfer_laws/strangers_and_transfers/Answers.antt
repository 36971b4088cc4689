use Rattle.j39_node.proofs.Common.{ap, long_by, Message, next_packet, Option, At, Hear, ◌∷◌}
use Rattle.j39_node.proofs.StrangerLaws.{ends_stay, next_stays, transfer_stays}
use Rattle.j39_node.proofs.transfer_laws.strangers_and_transfers.Goals as goal

pub returns : goal.returns
returns c = record {
  transfer = λ w H c now a f x. transfer_stays w H c now a f x;
  next = λ w H c when now f is others mine. ap (λ (o : Option Message). long_by (next_packet w (At when (Hear f) ∷ H) now) o) (next_stays w H c when now f is others mine);
  ends = λ w H c now f is others mine. ends_stay w H c now f is others mine;
}
