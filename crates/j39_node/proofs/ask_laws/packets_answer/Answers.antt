use Rattle.j39_node.proofs.PacketLemmas.{not_session}
use Rattle.j39_node.proofs.ReceptionLaws.{none_whole}
use Rattle.j39_node.proofs.PacketsAnswer.{answers_by, made_by_packet, packs_to_all, to_another}
use Rattle.j39_node.proofs.Common.{ap, destination_of, made, made_of, made_whole, MessageRecord, None, Option, option_map, option_or, whole, ℕ, ◌≡◌}
use Rattle.j39_node.proofs.PacketsAnswer as law
use Rattle.j39_node.proofs.ask_laws.packets_answer.Goals as goal

pub returns : goal.returns
returns c = record {
  transfer = λ w H when f m q e g a.
      answers_by w q f m (made w H when f)
      (ap (λ (o : Option MessageRecord). option_or (made_of o) (made_of (option_map (λ (x : ℕ × MessageRecord). x.1) (made_whole w H when f)))) e) g a;
  broadcast = λ w H when f x q l e g a.
      let to_all = packs_to_all f (made_by_packet w H when f x e).0 in
      let none : whole w H when f ≡ None =
      none_whole w H when f (not_session w.address f (to_another w.address (destination_of f.id) l to_all)) in
      answers_by w q f x.1 (made w H when f) (λ i. option_or (made_of (none i)) (made_of (option_map (λ (y : ℕ × MessageRecord). y.1) (e i)))) g a;
  coming = law.comes_means;
}
