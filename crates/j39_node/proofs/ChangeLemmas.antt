-- How a call changes the transfer to an address.
use Rattle.j39_node.proofs.Common.{[], ◌&&◌, ◌++◌, ◌||◌, ◌∙◌, ◌∷◌, ◌≡◌, ◌≢◌, accepted, address_after, all_transfers, answer, answer_to_transfer, ap, AreAnswered, arith, At, Bool, Call, can_transfer, cases_eq, claim_of, clears, clock_at, destination_of, eq-eqb, Err, false, FrameRecord, Hear, held_then, holder, holds, if◌then◌else◌, inl, inr, is_claim, is_lost, is_move, is_move_to, is_session, is_some, is_tried, leaves_in, length, List, Message, message_of, Move, moves, nat_eq, ne_eqb, next_acknowledgment, next_packet, next_transfer_ended, None, not, not_both, of_whom, Ok, open_to, option_map, Option, order, reached, refl, Refused, Result, Running, says, sent_in_one, Signal, signal_by, slice_get, Some, subst, sym, TakeFrame, TakeTransferEnded, to_whom, Transfer, transfer_events, TransferEnding, transfers_at, TransfersRecord, tried_events, true, Who, ℕ}
use Rattle.j39_transfers.specs.Events.{after, Begins}
use Rattle.j39_transfers.specs.Transfers.{awake, begun, begun_if, Order, turn}
use Rattle.j39_transfers.specs.declared.kinds.Refused.{Refused as Refusal}
use Rattle.j39_node.specs.Moves.{begins}
use Rattle.j39_node.proofs.AnswerCases.{answer_by}
use Rattle.j39_node.proofs.KindLemmas.{claims_it, moves_it}
use Rattle.j39_node.proofs.OpenLemmas.{begun_to, heard_open, open_beside, open_begun, open_begun_other, open_claimed, open_heard, open_sent, open_sent_other, open_told, Told}
use Rattle.j39_node.proofs.PortLemmas.{transfer_says}
use Rattle.j39_node.proofs.SoundLemmas.{nothing_else, turned, FrameCase, frame_case}
use Rattle.j39_node.proofs.SoundLemmas.FrameCase.{transfers}
use Rattle.std.specs.Result.{is_ok}

-- ---- one whose frame is taken

pub record Sent (w : Who) (H : List Call) (now : ℕ) (f : FrameRecord) : Type 0 where
  pub running : Running
  pub turn_is : turn (clock_at w H now) (transfers_at w H).running ≡ Some running
  pub is : open_to w (to_whom running) H ≡ Some running
  pub signal : Signal
  pub said : signal_by (clock_at w H now) running ≡ Some signal
  pub frame : message_of f ≡ says running.sender signal
  pub held : holds w H now ≡ true
  pub plain : is_claim f ≡ false
  pub none_due : next_acknowledgment w H now ≡ None
  pub none_waits : slice_get (accepted w H) (reached H) ≡ None
  pub no_packet : next_packet w H now ≡ None

pub sent_case : (w : Who) (H : List Call) (now : ℕ) (f : FrameRecord) → AreAnswered w H → FrameCase w H now f → is_move w H f ≡ true → Sent w H now f
sent_case w H now f right (transfers m o k n g e) p =
    let r = nothing_else w H now (turned w H now (Some Move) n.1).0 in
    let x = transfer_says w H now m right g in
    record {
      running = x.running;
      turn_is = x.turn_is;
      is = (open_sent w now f H x.running (claims_it w H now f right (transfers m o k n g e)) p x.turn_is).0;
      signal = x.signal;
      said = x.said;
      frame = ap (λ (y : ℕ × Message). y.1) e ∙ sym x.frame;
      held = k;
      plain = claims_it w H now f right (transfers m o k n g e);
      none_due = n.0;
      none_waits = r.0;
      no_packet = r.1;
    }
sent_case w H now f right case p = absurd (not_both _ (moves_it w H now f right case) p)

-- ---- what a call does

pub data Change (w : Who) (a : ℕ) (H : List Call) : Call → Option Running → Option Running → Type 0 where
  hears : (now : ℕ) (f : FrameRecord) (o : Option Running)
      → Change w a H (At now (Hear f)) o (option_map (heard_open (is_lost (address_after w (At now (Hear f) ∷ H))) (holder w (At now (Hear f) ∷ H)) f (clock_at w H now)) o)
  claims : (now : ℕ) (f : FrameRecord) (o : Option Running) → is_claim f ≡ true → is_move_to w a H f ≡ false
      → Change w a H (At now (TakeFrame (Some f))) o (option_map (leaves_in None (holder w (At now (TakeFrame (Some f)) ∷ H)) (clock_at w H now)) o)
  sends : (now : ℕ) (f : FrameRecord) (s : Sent w H now f) → to_whom s.running ≡ a → is_move_to w a H f ≡ true
      → Change w a H (At now (TakeFrame (Some f))) (Some s.running) (Some (sent_in_one (clock_at w H now) s.running))
  starts : (now priority group to k : ℕ) (bytes : List ℕ) → Ok k ≡ answer_to_transfer w H now priority group to bytes → to ≡ a
      → Change w a H (At now (Transfer priority group to bytes (Ok k))) None (Some (begun_to w H now priority group to bytes))
  ends : (e : ℕ × TransferEnding) (t : Told w H e) → to_whom t.running ≡ a → Change w a H (TakeTransferEnded (Some e)) (Some t.running) None
  stays : (call : Call) (o : Option Running) → begins a call ≡ false → moves w a (call ∷ H) ≡ moves w a H → clears w a (call ∷ H) ≡ clears w a H
      → holder w (call ∷ H) a ≡ holder w H a → ((e : ℕ × TransferEnding) → call ≡ TakeTransferEnded (Some e) → (t : Told w H e) × (to_whom t.running ≢ a))
      → ((now : ℕ) (f : FrameRecord) → call ≡ At now (Hear f) → ⊥) → Change w a H call o o

module _ (w : Who) (a : ℕ) (H : List Call) where
  abbrev To : Call → Option Running → Type 0
  To call o = Change w a H call (open_to w a H) o

  abbrev Does : Call → Type 0
  Does call = To call (open_to w a (call ∷ H))

  no_session : (f : FrameRecord) → is_claim f ≡ true → is_session f ≡ false
  no_session f e = grind (arith, e)

  unmoved : (f : FrameRecord) → is_claim f ≡ true → is_move w H f ≡ false
  unmoved f e = let n = no_session f e in grind (arith, n)

  unclaimed : (now : ℕ) (f : FrameRecord) → is_claim f ≡ false → holder w (At now (TakeFrame (Some f)) ∷ H) a ≡ holder w H a
  unclaimed now f e = ap (λ (b : Bool). if b then held_then a (claim_of f) (holder w H a) else holder w H a) e

  same_told : (e x : ℕ × TransferEnding) → TakeTransferEnded (Some e) ≡ TakeTransferEnded (Some x) → e ≡ x
  same_told e x z = let y : e ≡ x = cc in y

  -- a frame is taken
  unaimed : (now : ℕ) (f : FrameRecord) → is_move_to w a H f ≡ false → moves w a (At now (TakeFrame (Some f)) ∷ H) ≡ moves w a H
  unaimed now f e = ap (λ (b : Bool). if b then moves w a H ++ message_of f ∷ [] else moves w a H) e

  aimed : (now : ℕ) (f : FrameRecord) (s : Sent w H now f) → is_move w H f ≡ true → is_move_to w a H f ≡ nat_eq (to_whom s.running) a
  aimed now f s m = (λ i. m i && is_some (destination_of f.id) a) ∙ ap (λ (x : Message). is_some x.destination a) s.frame

  took : (now : ℕ) (f : FrameRecord) → AreAnswered w H → FrameCase w H now f → (b m : Bool) → is_claim f ≡ b → is_move w H f ≡ m → Does (At now (TakeFrame (Some f)))
  took now f right case true m e g =
      subst (To (At now (TakeFrame (Some f)))) (sym (open_claimed w a now f H e))
      (claims now f (open_to w a H) e (ap (λ (b : Bool). b && is_some (destination_of f.id) a) (unmoved f e)))
  took now f right case false false e g =
      subst (To (At now (TakeFrame (Some f)))) (sym (open_beside w a now f H e g))
      (stays (At now (TakeFrame (Some f))) (open_to w a H) refl (unaimed now f (ap (λ (b : Bool). b && is_some (destination_of f.id) a) g)) refl (unclaimed now f e) (λ x z. absurd (cc)) (λ n f z. absurd (cc)))
  took now f right case false true e g = by (sent_case w H now f right case g)
    where
      by : Sent w H now f → Does (At now (TakeFrame (Some f)))
      by s = elim (cases_eq (to_whom s.running) a) [
        | inl z ↦
            subst (λ (o : Option Running). Change w a H (At now (TakeFrame (Some f))) o (open_to w a (At now (TakeFrame (Some f)) ∷ H))) (sym s.is ∙ ap (λ (n : ℕ). open_to w n H) z)
            (subst (Change w a H (At now (TakeFrame (Some f))) (Some s.running)) (sym (open_sent w now f H s.running e g s.turn_is).1 ∙ ap (λ (n : ℕ). open_to w n (At now (TakeFrame (Some f)) ∷ H)) z)
            (sends now f s z (aimed now f s g ∙ eq-eqb (to_whom s.running) a z)))
        | inr z ↦
            subst (To (At now (TakeFrame (Some f)))) (sym (open_sent_other w a now f H s.running e g s.turn_is z))
            (stays (At now (TakeFrame (Some f))) (open_to w a H) refl (unaimed now f (aimed now f s g ∙ ne_eqb (to_whom s.running) a z)) refl (unclaimed now f e) (λ x z. absurd (cc)) (λ n f z. absurd (cc)))
      ]

  -- a message is accepted, or refused
  started : (now priority group to k : ℕ) (bytes : List ℕ) → AreAnswered w H → Ok k ≡ answer_to_transfer w H now priority group to bytes → Does (At now (Transfer priority group to bytes (Ok k)))
  started now priority group to k bytes right e = elim (cases_eq to a) [
    | inl z ↦
        let h = open_begun w now priority group to k bytes H right e in
        subst (λ (q : Option Running). Change w a H (At now (Transfer priority group to bytes (Ok k))) q (open_to w a (At now (Transfer priority group to bytes (Ok k)) ∷ H))) (sym h.0 ∙ ap (λ (n : ℕ). open_to w n H) z)
        (subst (Change w a H (At now (Transfer priority group to bytes (Ok k))) None) (sym h.1 ∙ ap (λ (n : ℕ). open_to w n (At now (Transfer priority group to bytes (Ok k)) ∷ H)) z)
        (starts now priority group to k bytes e z))
    | inr z ↦ subst (To (At now (Transfer priority group to bytes (Ok k)))) (sym (open_begun_other w a now priority group to bytes (Ok k) H z))
        (stays (At now (Transfer priority group to bytes (Ok k))) (open_to w a H) (ne_eqb to a z) (ap (λ (b : Bool). if b then [] else moves w a H) (ne_eqb to a z)) (ap (λ (b : Bool). if b then 0 else clears w a H) (ne_eqb to a z)) refl (λ x z. absurd (cc)) (λ n f z. absurd (cc)))
  ]

  refused_so : (r : Result Unit Refusal) (x : Running) (s : TransfersRecord) → is_ok r ≡ false → (begun_if r x s).running ≡ s.running
  refused_so (Ok u) x s e = absurd (cc)
  refused_so (Err e) x s i = refl

  refused : (now priority group to : ℕ) (bytes : List ℕ) (x : Refused) → Err x ≡ answer_to_transfer w H now priority group to bytes → Does (At now (Transfer priority group to bytes (Err x)))
  refused now priority group to bytes x e = go (is_tried (Err x) last) refl
    where
      last : Bool
      last = nat_eq (length (all_transfers w H)) 18446744073709551615

      o : Order
      o = order (length (all_transfers w H)) priority group to bytes

      not_ok : (p q c k : Bool) (n : ℕ) → Err x ≡ answer_by p q (c || not k) n → is_tried (Err x) c ≡ true → k ≡ false
      not_ok p q c k n e t = grind (arith, e, t)

      go : (b : Bool) → is_tried (Err x) last ≡ b
          → To (At now (Transfer priority group to bytes (Err x))) (of_whom a (after 0 w.transfers (tried_events b (Begins o (holder w H to) (clock_at w H now)) (transfer_events w H))).running)
      go false t = stays (At now (Transfer priority group to bytes (Err x))) (open_to w a H) refl refl refl refl (λ x z. absurd (cc)) (λ n f z. absurd (cc))
      go true t = subst (To (At now (Transfer priority group to bytes (Err x))))
          (sym (ap (of_whom a) (refused_so (answer o (awake (clock_at w H now) (transfers_at w H))) (begun (transfers_at w H).own o (holder w H to) (clock_at w H now)) (awake (clock_at w H now) (transfers_at w H))
          (not_ok (holds w H now) (can_transfer w priority group to bytes) last (is_ok (answer o (awake (clock_at w H now) (transfers_at w H)))) (length (all_transfers w H)) e t))))
          (stays (At now (Transfer priority group to bytes (Err x))) (open_to w a H) refl refl refl refl (λ x z. absurd (cc)) (λ n f z. absurd (cc)))

  -- an end is told
  told_one : (e : ℕ × TransferEnding) → Some e ≡ next_transfer_ended w H → Does (TakeTransferEnded (Some e))
  told_one e i = go (open_told w H e i)
    where
      go : Told w H e → Does (TakeTransferEnded (Some e))
      go t = elim (cases_eq (to_whom t.running) a) [
        | inl z ↦
            subst (λ (q : Option Running). Change w a H (TakeTransferEnded (Some e)) q (open_to w a (TakeTransferEnded (Some e) ∷ H))) (sym t.is ∙ ap (λ (n : ℕ). open_to w n H) z)
            (subst (Change w a H (TakeTransferEnded (Some e)) (Some t.running)) (sym t.gone ∙ ap (λ (n : ℕ). open_to w n (TakeTransferEnded (Some e) ∷ H)) z) (ends e t z))
        | inr z ↦ subst (To (TakeTransferEnded (Some e))) (sym (t.others a z)) (stays (TakeTransferEnded (Some e)) (open_to w a H) refl refl refl refl (λ x y. subst (λ (x : ℕ × TransferEnding). (t : Told w H x) × (to_whom t.running ≢ a)) (same_told e x y) (t, z)) (λ n f z. absurd (cc)))
      ]

pub change : (w : Who) (a : ℕ) (call : Call) (H : List Call) → AreAnswered w (call ∷ H) → Change w a H call (open_to w a H) (open_to w a (call ∷ H))
change w a (At now (Hear f)) H e =
    subst (Change w a H (At now (Hear f)) (open_to w a H)) (sym (open_heard w a now f H)) (hears now f (open_to w a H))
change w a (At now (TakeFrame (Some f))) H e =
    took w a H now f e.0 (frame_case w H now f e.1) (is_claim f) (is_move w H f) refl refl
change w a (At now (Transfer priority group to bytes (Ok k))) H e = started w a H now priority group to k bytes e.0 e.1
change w a (At now (Transfer priority group to bytes (Err x))) H e = refused w a H now priority group to bytes x e.1
change w a (TakeTransferEnded (Some x)) H e = told_one w a H x e.1
change w a call H e = stays call (open_to w a H) refl refl refl refl (λ x z. absurd (cc)) (λ n f z. absurd (cc))
