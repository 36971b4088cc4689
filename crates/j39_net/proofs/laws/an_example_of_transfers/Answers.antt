use Rattle.std.proofs.Common.{[], ◌∷◌, ◌+◌, ◌<◌, ◌∙◌, ◌≡◌, ◌≤◌, ap, arith, inl, inr, None, refl, Some, subst, suc, sym, zero, ℕ}
use Rattle.j39_frame.specs.Frame.{FrameRecord}
use Rattle.std.proofs.lemmas.List.Elements.{All-nil}
use Rattle.j39_node.specs.Example.{clear, own_claim}
use Rattle.j39_node.specs.History.{frames}
use Rattle.j39_node.specs.Is.{AreAnswered}
use Rattle.j39_transport.specs.Cutting as cutting
use Rattle.j39_transport.specs.Frames as frame
use Rattle.j39_transport.specs.Key as key
use Rattle.j39_transport.specs.Receiving as receiving
use Rattle.j39_transport.specs.Reception as session
use Rattle.j39_transport.specs.Sending as sending
use Rattle.j39_transport.specs.Signals as signal
use Rattle.j39_net.specs.Example.{claim_of_eleven, pair, receiver, sender, transferred}
use Rattle.j39_net.specs.Net.{Come, hears, InTime, IsLater, IsMember, IsNoRequest, Member, others, own}
use Rattle.j39_net.proofs.laws.an_example_of_transfers.Goals as goal

each : (P : ℕ → Member → Type 0) → P 0 sender → P 1 receiver → (i : ℕ) (m : Member) → IsMember pair i m → P i m
each P a b zero m e = subst (P 0) (let z : sender ≡ m = cc in z) a
each P a b (suc zero) m e = subst (P 1) (let z : receiver ≡ m = cc in z) b
each P a b (suc (suc i)) m e = absurd (cc)

sender_answered : AreAnswered sender.who sender.history
unfolding sending.new_sender sending.send_step sending.ticks_in sending.sends_packet sending.hears sending.cleared sending.acknowledged receiving.recv_step receiving.said_to session.takes_signal signal.said_between signal.said_by signal.control_in frame.group_of frame.source_of frame.destination_of cutting.packet_data signal.written signal.packet_in sending.aborted
sender_answered = (((((((((omega arith, refl), refl), refl), refl), tt), refl), refl), tt), refl)

receiver_answered : AreAnswered receiver.who receiver.history
unfolding receiving.recv_step receiving.said_to session.takes_signal session.takes_request session.begun session.grants session.granted_at session.takes_data session.takes_packet session.goes_on session.delivers_message signal.said_between signal.said_by signal.control_in signal.request_in signal.packet_in signal.written frame.source_of frame.destination_of frame.group_of frame.names_message key.key_between
receiver_answered = (((((((omega arith, refl), refl), tt), refl), tt), tt), refl)

later : (f g : FrameRecord) → g.id ≡ f.id → g.bytes ≡ f.bytes → f.stamp ≤ g.stamp → g.stamp ≤ f.stamp + 1000 → IsLater 1000 f g
later f g id bytes behind in_time = record { id = id; bytes = bytes; behind = behind; in_time = in_time }

apart : (i j : ℕ) (m n : Member) → IsMember pair i m → IsMember pair j n → m.who.name ≡ n.who.name → i ≡ j
apart i j m n a b e = each (λ i m. m.who.name ≡ n.who.name → i ≡ j)
    (λ e. each (λ j n. 2 ≡ n.who.name → 0 ≡ j) (λ e. refl) (λ e. absurd (omega (arith, e))) j n b e)
    (λ e. each (λ j n. 3 ≡ n.who.name → 1 ≡ j) (λ e. absurd (omega (arith, e))) (λ e. refl) j n b e) i m a e

-- a claim is no request
no_request : (f : FrameRecord) → signal.said_between 128 11 f ≡ None → IsNoRequest 128 11 f
no_request f e size packets most pgn z = absurd (let y : None ≡ Some (signal.RequestToSend size packets most pgn) = sym e ∙ z in cc)

own_missing : IsNoRequest 128 11 (own_claim 100)
unfolding signal.said_between signal.said_by signal.control_in frame.group_of frame.source_of frame.destination_of
own_missing = no_request (own_claim 100) refl

its_missing : IsNoRequest 128 11 (claim_of_eleven 100)
unfolding signal.said_between signal.said_by signal.control_in frame.group_of frame.source_of frame.destination_of
its_missing = no_request (claim_of_eleven 100) refl

pub returns-clause-joined : goal.returns-clause-joined
returns-clause-joined c = record {
  ordered = (omega arith, (omega arith, (omega arith, (omega arith, (omega arith, tt)))));
  answered = each (λ i m. AreAnswered m.who m.history) sender_answered receiver_answered;
  in_time = each (λ i m. InTime m.since 304000 m.history)
      (omega arith, (omega arith, (omega arith, (omega arith, (omega arith, (omega arith, (omega arith, omega arith)))))))
      (omega arith, (omega arith, (omega arith, (omega arith, (omega arith, (omega arith, omega arith))))));
  sent = each (λ i m. Come 1000 (IsNoRequest 128 11) (frames m.history) (own i transferred))
      (inr (own_missing, inl (later _ _ refl refl (omega arith) (omega arith), inl (later _ _ refl refl (omega arith) (omega arith), inl (later _ _ refl refl (omega arith) (omega arith), tt)))))
      (inr (its_missing, inl (later _ _ refl refl (omega arith) (omega arith), inl (later _ _ refl refl (omega arith) (omega arith), tt))));
  heard = each (λ i m. Come 1000 (IsNoRequest 128 11) (others i m.since transferred) (hears m.history))
      (inl (later _ _ refl refl (omega arith) (omega arith), inl (later _ _ refl refl (omega arith) (omega arith), tt)))
      (inl (later _ _ refl refl (omega arith) (omega arith), inl (later _ _ refl refl (omega arith) (omega arith), inl (later _ _ refl refl (omega arith) (omega arith), tt))));
  address = each (λ i m. m.who.address < 254) (omega arith) (omega arith);
  name = each (λ i m. m.who.name < 18446744073709551616) (omega arith) (omega arith);
  apart = apart;
}

pub returns-clause-done : goal.returns-clause-done
returns-clause-done c = refl

pub returns-clause-done_in : goal.returns-clause-done_in
unfolding sending.new_sender sending.send_step sending.ticks_in sending.sends_packet sending.hears sending.cleared sending.acknowledged receiving.recv_step receiving.said_to session.takes_signal signal.said_between signal.said_by signal.control_in frame.group_of frame.source_of frame.destination_of cutting.packet_data
returns-clause-done_in c = (omega arith, refl)

pub returns-clause-whole : goal.returns-clause-whole
unfolding receiving.recv_step receiving.said_to session.takes_signal session.takes_request session.begun session.grants session.granted_at session.takes_data session.takes_packet session.goes_on session.delivers_message signal.said_between signal.said_by signal.control_in signal.request_in signal.packet_in signal.written frame.source_of frame.destination_of frame.group_of frame.names_message key.key_between
returns-clause-whole c = refl

clear_says : signal.said_between 11 128 (clear 302000) ≡ Some (signal.ClearToSend 2 1 65226)
unfolding signal.said_between signal.said_by signal.control_in frame.group_of frame.source_of frame.destination_of
clear_says = refl

claim_says : signal.said_between 11 128 (claim_of_eleven 100) ≡ None
unfolding signal.said_between signal.said_by signal.control_in frame.group_of frame.source_of frame.destination_of
claim_says = refl

-- none but the last that was taken acknowledges
pub returns-clause-in_time : goal.returns-clause-in_time
returns-clause-in_time c [] earlier when f e s = inr (inr (All-nil (IsNoRequest 128 11)))
returns-clause-in_time c (x ∷ []) earlier when f e s = absurd (cc)
returns-clause-in_time c (x ∷ y ∷ []) earlier when f e s = absurd (cc)
returns-clause-in_time c (x ∷ y ∷ z ∷ []) earlier when f e s =
    absurd (let g : clear 302000 ≡ f = cc in let k : Some (signal.ClearToSend 2 1 65226) ≡ Some (signal.Acknowledgment 9 2 65226) = sym clear_says ∙ (ap (signal.said_between 11 128) g ∙ s) in cc)
returns-clause-in_time c (x ∷ y ∷ z ∷ u ∷ []) earlier when f e s = absurd (cc)
returns-clause-in_time c (x ∷ y ∷ z ∷ u ∷ v ∷ []) earlier when f e s =
    absurd (let g : claim_of_eleven 100 ≡ f = cc in let k : None ≡ Some (signal.Acknowledgment 9 2 65226) = sym claim_says ∙ (ap (signal.said_between 11 128) g ∙ s) in cc)
returns-clause-in_time c (x ∷ y ∷ z ∷ u ∷ v ∷ w ∷ []) earlier when f e s = absurd (cc)
returns-clause-in_time c (x ∷ y ∷ z ∷ u ∷ v ∷ w ∷ r ∷ rest) earlier when f e s = absurd (cc)
