use Rattle.j39_node.proofs.SoundLemmas.{sound, past_end}
use Rattle.j39_node.proofs.LaneLaws.{packet_waits}
use Rattle.j39_node.proofs.LawLemmas.{all_acknowledged, sent_within}
use Rattle.j39_transport.specs.Sending.{Tick}
use Rattle.j39_node.proofs.TransferLaws.{budgeted_open, given_up, sent_one, sent_to}
use Rattle.j39_node.proofs.CountLaws.{heeds_sender}
use Rattle.j39_node.proofs.OpenLemmas.{open_sent}
use Rattle.j39_node.proofs.Common.{Bool, Option, Running, Some, abort_move, aborted, accepted, ap, arith, At, clock_at, gives_up, if◌then◌else◌, open_to, reached, same_Some, says, send_step, sent_in_one, sym, TakeFrame, to_whom, ℕ, ◌∙◌, ◌∷◌}
use Rattle.j39_node.proofs.TransferLaws as law
use Rattle.j39_node.proofs.transfer_laws.moves_mean.Goals as goal

pub returns : goal.returns
returns c = record {
  only = law.only;
  behind = λ w H c now f is p.
      let x = sent_one w H c now f is p in
      let s = sound w H is.answered.0 in
      let a = past_end (accepted w H) (reached H) x.none_waits in
      let b = sent_within w H s in
      (x.held, omega (arith, a, b), all_acknowledged w H now is.answered.0 x.none_due);
  after_broadcasts = λ w H c now f is p some. packet_waits w H now some (sent_one w H c now f is p).no_packet;
  waits = law.waits;
  gives_up = λ w H c now a f x is p d e g.
      let s = sent_one w H c now f is p in
      let z = sent_to w H now a f s d in
      let y = same_Some s.running x (sym s.is ∙ (ap (λ (n : ℕ). open_to w n H) z ∙ e)) in
      s.frame ∙ (ap (says s.running.sender) (given_up s.running (clock_at w H now) s.signal (ap gives_up y ∙ g) s.said)
      ∙ ((λ i. abort_move (to_whom s.running) (y i).sender.message 5) ∙ ap (λ (n : ℕ). abort_move n x.sender.message 5) z));
  patient = law.patient;
  bounded = λ w H c a x is e.
      let h = budgeted_open w a H x is.answered e in
      let a = h.count in let b = h.granted in let d = h.spent in omega (arith, a, b, d);
  hears = λ w H c now a f x is e own held here room. heeds_sender w a H now f x is.answered e own held here room;
  takes = λ w H c now a f x is p d e g.
      let s = sent_one w H c now f is p in
      let z = sent_to w H now a f s d in
      let y = same_Some s.running x (sym s.is ∙ (ap (λ (n : ℕ). open_to w n H) z ∙ e)) in (
        sent_in_one (clock_at w H now) x,
        ap (λ (n : ℕ). open_to w n (At now (TakeFrame (Some f)) ∷ H)) (sym z) ∙ ((open_sent w now f H s.running s.plain p s.turn_is).1 ∙ ap (λ (u : Running). (let o : Option Running = Some (sent_in_one (clock_at w H now) u) in o)) y),
        ap (λ (b : Bool). if b then aborted 5 x.sender else (send_step x.sender Tick (clock_at w H now)).after) g,
      );
}
