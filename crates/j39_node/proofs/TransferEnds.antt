-- How transfers end.
use Rattle.j39_node.proofs.Common.{[], ◌&&◌, ◌++◌, ◌+◌, ◌<◌, ◌||◌, ◌∙◌, ◌∷◌, ◌≡◌, ◌≢◌, ◌≤◌, ◌⊎◌, Abort, abort_move, aborted, Aborts, acked, Acknowledges, Acknowledgment, address_after, Again, all_transfers, ap, AreAnswered, arith, At, Bool, both, breaks, Call, claim_of, claimed, clock_at, cond_both, Controller, eq-eqb, eqb-true, false, FrameRecord, gives_up, Gone, Happened, has_some, Hear, heard_in_one, held_then, holder, if◌then◌else◌, inl, inr, Is, is_claim, is_lost, is_over, is_replaced, is_running, is_spent, is_waiting, IsTrue, leaves_in, length, List, listens, Lost, Message, message_of, MessageRecord, new_sender, next_transfer_ended, None, none-some, NoneTold, not, not_both, of_whom, Ok, older, open_to, option_map, Option, or_parts, packet_move, packets_of, refl, Replaces, Running, said_between, same_Some, says, send_step, SenderRecord, sent_in_one, SendState, Signal, signal_by, slice_get, slice_get_within, Some, step, subst, sym, TakeFrame, TakeTransferEnded, tells_transfer, ticks_in, to_whom, told_transfers, Transfer, TransferEnding, nat_eq, transfers_at, TransfersRecord, true, unclaimed, Who, ℕ, is_held, holds}
use Rattle.j39_transport.specs.Sending.{Heard, Tick, sends_packet}
use Rattle.j39_transport.specs.Sending as sending
use Rattle.j39_transfers.specs.Transfers.{ending_by, is_left}
use Rattle.j39_transfers.specs.declared.kinds.Ending.TheVariants as how
use Rattle.j39_transfers.proofs.LawLemmas.{found_passes}
use Rattle.j39_node.proofs.SoundLemmas.{holding_not_lost}
use Rattle.j39_node.proofs.PortLemmas.{Between, ported_found, stands}
use Rattle.j39_node.proofs.AnswerCases.{transfer_accepts}
use Rattle.j39_node.proofs.MoveSteps.{done_heard, done_ticked, done_given_up, failed_heard, failed_ticked, failed_given_up}
use Rattle.j39_node.proofs.MoveLemmas.{Arises, heard_sender, left_sender, listed, moved_open, none_first, traced}
use Rattle.j39_node.proofs.TransferLaws.{given_up, over_broken, ticking}
use Rattle.j39_node.proofs.ChangeLemmas.{Change, change, Sent}
use Rattle.j39_node.proofs.ChangeLemmas.Change.{hears, claims, sends, starts, ends, stays}
use Rattle.j39_node.proofs.OpenLemmas.{heard_open, open_told, Told}

pub open_at : (w : Who) (a : ℕ) (H : List Call) (x : Running) → open_to w a H ≡ Some x → to_whom x ≡ a
open_at w a H x e = sym (eqb-true a (to_whom x) (found_passes (λ y. nat_eq a (to_whom y)) (transfers_at w H).running x e))

pub between : (w : Who) (a : ℕ) (H : List Call) (x : Running) → AreAnswered w H → open_to w a H ≡ Some x → Between w x
between w a H x right e = ported_found w (λ y. nat_eq a (to_whom y)) (transfers_at w H).running x (stands w H right).ported e

-- ---- what is over stays over

pub over_heard : (f : FrameRecord) (now : ℕ) (x : Running) → is_over x ≡ true → heard_in_one f now x ≡ x
over_heard f now x e = ap (λ (b : Bool). if b || is_spent x then x else listens f now x) e

pub over_left : (who : ℕ → Option ℕ) (now : ℕ) (x : Running) → is_over x ≡ true → is_over (leaves_in None who now x) ≡ true
over_left who now x e = cond_both (is_left None who x) (breaks how.Gone now x) (record x { name = who (to_whom x) }) (λ (y : Running). is_over y ≡ true) (λ i. over_broken how.Gone now x) (λ i. e)

pub over_heard_open : (lost : Bool) (who : ℕ → Option ℕ) (f : FrameRecord) (now : ℕ) (x : Running) → is_over x ≡ true → is_over (heard_open lost who f now x) ≡ true
over_heard_open true who f now x e = over_broken how.Withdrawn now x
over_heard_open false who f now x e = ap is_over (over_heard f now (leaves_in None who now x) (over_left who now x e)) ∙ over_left who now x e

-- one that says something isn't over
pub due_open : (x : Running) (now : ℕ) (a : Signal) → signal_by now x ≡ Some a → (x.broken ≡ None) × (is_over x ≡ false)
unfolding send_step ticks_in sends_packet
due_open x now a e = (grind (arith, e), grind (arith, e))

-- ---- where the address is lost

pub lost_on : (w : Who) (call : Call) (H : List Call) → is_lost (address_after w H) ≡ true → is_lost (address_after w (call ∷ H)) ≡ true
lost_on w (At now act) H e = grind (arith, e)
lost_on w call H e = e

lost_back : (w : Who) (call : Call) (H : List Call) → is_lost (address_after w (call ∷ H)) ≡ true → (is_lost (address_after w H) ≡ true) ⊎ ((now : ℕ) × (f : FrameRecord) × (call ≡ At now (Hear f)))
lost_back w (At now (Hear f)) H e = inr (now, f, refl)
lost_back w (At now act) H e = inl (grind (arith, e))
lost_back w call H e = inl e

-- ---- who is known to hold its destination, and how it was broken off

abbrev pub BrokenSo : Option TransferEnding → Type 0
BrokenSo None = Unit {0}
BrokenSo (Some how.Gone) = Unit {0}
BrokenSo (Some how.Withdrawn) = Unit {0}
BrokenSo (Some e) = ⊥

pub record Named (x : Running) (holder : Option ℕ) (lost : Bool) : Type 0 where
  pub name : lost ≡ false → (x.name ≡ holder) ⊎ ((is_over x ≡ true) × (is_replaced x.name holder ≡ true))
  pub over : lost ≡ true → is_over x ≡ true
  pub broken : BrokenSo x.broken

-- one that isn't over
pub named_so : (x : Running) (holder : Option ℕ) (lost : Bool) → Named x holder lost → is_over x ≡ false → x.name ≡ holder
named_so x holder true h e = absurd (not_both _ e (h.over refl))
named_so x holder false h e = elim (h.name refl) [ inl z ↦ z | inr z ↦ absurd (not_both _ e z.0) ]

abbrev pub NamedIf : Option Running → Option ℕ → Bool → Type 0
NamedIf None n lost = Unit {0}
NamedIf (Some x) n lost = Named x n lost

broken_so : (e : TransferEnding) (now : ℕ) (x : Running) → BrokenSo (Some e) → BrokenSo x.broken → BrokenSo (breaks e now x).broken
broken_so e now x b h = cond_both (is_over x) x (record x { broken = Some e; last = now }) (λ (y : Running). BrokenSo y.broken) (λ i. h) (λ i. b)

broken_name : (e : TransferEnding) (now : ℕ) (x : Running) → (breaks e now x).name ≡ x.name
broken_name e now x = cond_both (is_over x) x (record x { broken = Some e; last = now }) (λ (y : Running). y.name ≡ x.name) (λ i. refl) (λ i. refl)

named_left : (who : ℕ → Option ℕ) (now a : ℕ) (x : Running) (before : Option ℕ) (old lost : Bool) → to_whom x ≡ a → (lost ≡ true → old ≡ true) → Named x before old → Named (leaves_in None who now x) (who a) lost
named_left who now a x before old lost z l h = record {
  name = λ i. cond_both (is_left None who x) (breaks how.Gone now x) (record x { name = who (to_whom x) })
      (λ (y : Running). (y.name ≡ who a) ⊎ ((is_over y ≡ true) × (is_replaced y.name (who a) ≡ true)))
      (λ j. inr (over_broken how.Gone now x, (λ k. is_replaced (broken_name how.Gone now x k) (who (sym z k))) ∙ j)) (λ j. inl (ap who z));
  over = λ i. over_left who now x (h.over (l i));
  broken = cond_both (is_left None who x) (breaks how.Gone now x) (record x { name = who (to_whom x) }) (λ (y : Running). BrokenSo y.broken) (λ j. broken_so how.Gone now x tt h.broken) (λ j. h.broken);
}

named_heard : (f : FrameRecord) (now : ℕ) (x : Running) (n : Option ℕ) → Named x n false → Named (heard_in_one f now x) n false
named_heard f now x n h = go (is_over x || is_spent x) refl
  where
    alive : is_over x ≡ false → (x.name ≡ n) ⊎ ((is_over x ≡ true) × (is_replaced x.name n ≡ true)) → x.name ≡ n
    alive e (inl z) = z
    alive e (inr z) = absurd (not_both _ e z.0)

    go : (b : Bool) → (is_over x || is_spent x) ≡ b → Named (if b then x else listens f now x) n false
    go true e = h
    go false e = record { name = λ i. inl (alive (or_parts (is_over x) (is_spent x) e).0 (h.name refl)); over = λ i. absurd (cc); broken = h.broken }

named_heard_open : (lost old : Bool) (who : ℕ → Option ℕ) (f : FrameRecord) (now a : ℕ) (x : Running) (before : Option ℕ) → to_whom x ≡ a → Named x before old → Named (heard_open lost who f now x) (who a) lost
named_heard_open true old who f now a x before z h = record { name = λ i. absurd (cc); over = λ i. over_broken how.Withdrawn now x; broken = broken_so how.Withdrawn now x tt h.broken }
named_heard_open false old who f now a x before z h = named_heard f now (leaves_in None who now x) (who a) (named_left who now a x before old false z (λ i. absurd (cc)) h)

named_more : (w : Who) (a : ℕ) (H : List Call) (call : Call) (o q : Option Running) → Change w a H call o q → open_to w a H ≡ o
    → (is_lost (address_after w (call ∷ H)) ≡ true → (is_lost (address_after w H) ≡ true) ⊎ ((now : ℕ) × (f : FrameRecord) × (call ≡ At now (Hear f))))
    → NamedIf o (holder w H a) (is_lost (address_after w H)) → NamedIf q (holder w (call ∷ H) a) (is_lost (address_after w (call ∷ H)))
named_more w a H call o q (hears now f None) g l h = h
named_more w a H call o q (hears now f (Some x)) g l h =
    named_heard_open (is_lost (address_after w (At now (Hear f) ∷ H))) (is_lost (address_after w H)) (holder w (At now (Hear f) ∷ H)) f (clock_at w H now) a x (holder w H a) (open_at w a H x g) h
named_more w a H call o q (claims now f None c m) g l h = h
named_more w a H call o q (claims now f (Some x) c m) g l h =
    named_left (holder w (At now (TakeFrame (Some f)) ∷ H)) (clock_at w H now) a x (holder w H a) (is_lost (address_after w H)) (is_lost (address_after w (At now (TakeFrame (Some f)) ∷ H))) (open_at w a H x g)
    (λ i. elim (l i) [ inl z ↦ z | inr z ↦ absurd (let y = z.2 in cc) ]) h
named_more w a H call o q (sends now f s z m) g l h = record {
  name = λ i. inl (named_so s.running (holder w H a) (is_lost (address_after w H)) h (due_open s.running (clock_at w H now) s.signal s.said).1
      ∙ sym (ap (λ (b : Bool). if b then held_then a (claim_of f) (holder w H a) else holder w H a) s.plain));
  over = λ i. elim (l i) [ inl y ↦ absurd (not_both _ (holding_not_lost w H now s.held) y) | inr y ↦ absurd (let k = y.2 in cc) ];
  broken = h.broken;
}
named_more w a H call o q (starts now priority group to k bytes e z) g l h = record {
  name = λ i. inl (ap (holder w H) z);
  over = λ i. elim (l i) [ inl y ↦ absurd (not_both _ (holding_not_lost w H now (transfer_accepts w H now priority group to k bytes e).0) y) | inr y ↦ absurd (let k = y.2 in cc) ];
  broken = tt;
}
named_more w a H call o q (ends e t z) g l h = tt
named_more w a H call None q (stays c x b m n i t u) g l h = h
named_more w a H call (Some y) q (stays c x b m n i t u) g l h = record {
  name = λ j. subst (λ (p : Option ℕ). (y.name ≡ p) ⊎ ((is_over y ≡ true) × (is_replaced y.name p ≡ true))) (sym i) (h.name (kept (is_lost (address_after w H)) refl (λ k. lost_on w c H k) j));
  over = λ j. elim (l j) [ inl k ↦ h.over k | inr k ↦ absurd (u k.0 k.1 k.2) ];
  broken = h.broken;
}
  where
    kept : (b : Bool) → is_lost (address_after w H) ≡ b → (is_lost (address_after w H) ≡ true → is_lost (address_after w (c ∷ H)) ≡ true) → is_lost (address_after w (c ∷ H)) ≡ false → is_lost (address_after w H) ≡ false
    kept false e k j = e
    kept true e k j = absurd (not_both _ j (k e))

pub named : (w : Who) (a : ℕ) (H : List Call) → AreAnswered w H → NamedIf (open_to w a H) (holder w H a) (is_lost (address_after w H))
named w a [] e = subst (λ (o : Option Running). NamedIf o (holder w [] a) false) (sym (none_first w a e)) tt
named w a (call ∷ H) e = named_more w a H call (open_to w a H) (open_to w a (call ∷ H)) (change w a call H e) refl (lost_back w call H) (named w a H e.0)

pub named_open : (w : Who) (a : ℕ) (H : List Call) (x : Running) → AreAnswered w H → open_to w a H ≡ Some x → Named x (holder w H a) (is_lost (address_after w H))
named_open w a H x right e = subst (λ (o : Option Running). NamedIf o (holder w H a) (is_lost (address_after w H))) e (named w a H right)

-- ---- where it is, all are over

abbrev pub OverIf : Option Running → Type 0
OverIf None = Unit {0}
OverIf (Some x) = is_over x ≡ true

pub lost_over : (w : Who) (a : ℕ) (H : List Call) → AreAnswered w H → is_lost (address_after w H) ≡ true → OverIf (open_to w a H)
lost_over w a H e l = go (open_to w a H) (named w a H e)
  where
    go : (o : Option Running) → NamedIf o (holder w H a) (is_lost (address_after w H)) → OverIf o
    go None h = tt
    go (Some x) h = h.over l

-- it is withdrawn only there
abbrev LostIf : Who → List Call → Option Running → Type 0
LostIf w H None = Unit {0}
LostIf w H (Some x) = x.broken ≡ Some how.Withdrawn → is_lost (address_after w H) ≡ true

withdrawn_left : (who : ℕ → Option ℕ) (now : ℕ) (x : Running) → (leaves_in None who now x).broken ≡ Some how.Withdrawn → x.broken ≡ Some how.Withdrawn
withdrawn_left who now x = cond_both (is_left None who x) (breaks how.Gone now x) (record x { name = who (to_whom x) }) (λ (y : Running). y.broken ≡ Some how.Withdrawn → x.broken ≡ Some how.Withdrawn)
    (λ i. cond_both (is_over x) x (record x { broken = Some how.Gone; last = now }) (λ (y : Running). y.broken ≡ Some how.Withdrawn → x.broken ≡ Some how.Withdrawn) (λ j e. e) (λ j e. absurd (cc)))
    (λ i e. e)

pub heard_broken : (f : FrameRecord) (now : ℕ) (x : Running) → (heard_in_one f now x).broken ≡ x.broken
heard_broken f now x = cond_both (is_over x || is_spent x) x (listens f now x) (λ (y : Running). y.broken ≡ x.broken) (λ i. refl) (λ i. refl)

withdrawn_heard : (lost : Bool) (who : ℕ → Option ℕ) (f : FrameRecord) (now : ℕ) (x : Running) → (heard_open lost who f now x).broken ≡ Some how.Withdrawn → (lost ≡ true) ⊎ (x.broken ≡ Some how.Withdrawn)
withdrawn_heard true who f now x e = inl refl
withdrawn_heard false who f now x e = inr (withdrawn_left who now x (sym (heard_broken f now (leaves_in None who now x)) ∙ e))

lost_more : (w : Who) (a : ℕ) (H : List Call) (call : Call) (o q : Option Running) → Change w a H call o q → LostIf w H o → LostIf w (call ∷ H) q
lost_more w a H call o q (hears now f None) h = h
lost_more w a H call o q (hears now f (Some x)) h = λ e.
    elim (withdrawn_heard (is_lost (address_after w (At now (Hear f) ∷ H))) (holder w (At now (Hear f) ∷ H)) f (clock_at w H now) x e) [ inl z ↦ z | inr z ↦ lost_on w (At now (Hear f)) H (h z) ]
lost_more w a H call o q (claims now f None c m) h = h
lost_more w a H call o q (claims now f (Some x) c m) h = λ e. lost_on w (At now (TakeFrame (Some f))) H (h (withdrawn_left (holder w (At now (TakeFrame (Some f)) ∷ H)) (clock_at w H now) x e))
lost_more w a H call o q (sends now f s z m) h = λ e. lost_on w (At now (TakeFrame (Some f))) H (h e)
lost_more w a H call o q (starts now priority group to k bytes e z) h = λ i. absurd (cc)
lost_more w a H call o q (ends e t z) h = tt
lost_more w a H call None q (stays c x b m n i t u) h = h
lost_more w a H call (Some y) q (stays c x b m n i t u) h = λ e. lost_on w c H (h e)

pub withdrawn : (w : Who) (a : ℕ) (H : List Call) → AreAnswered w H → LostIf w H (open_to w a H)
withdrawn w a [] e = subst (LostIf w []) (sym (none_first w a e)) tt
withdrawn w a (call ∷ H) e = lost_more w a H call (open_to w a H) (open_to w a (call ∷ H)) (change w a call H e) (withdrawn w a H e.0)

-- ---- how it ended

pub done_by : (u : SendState) (b : Option TransferEnding) → BrokenSo b → ending_by u b ≡ Some how.Done → u ≡ sending.Done
done_by u b h e = grind (arith, h, e)

pub failed_by : (u : SendState) (b : Option TransferEnding) (r : ℕ) → BrokenSo b → ending_by u b ≡ Some (how.Failed r) → u ≡ sending.Failed r
failed_by u b r h e = grind (arith, h, e)

pub gone_by_it : (u : SendState) (b : Option TransferEnding) → ending_by u b ≡ Some how.Gone → b ≡ Some how.Gone
gone_by_it u b e = grind (arith, e)

pub withdrawn_by : (u : SendState) (b : Option TransferEnding) → ending_by u b ≡ Some how.Withdrawn → b ≡ Some how.Withdrawn
withdrawn_by u b e = grind (arith, e)

-- ---- since when

module _ (w : Who) (a : ℕ) where
  said_own : (H : List Call) (x : Running) (f : FrameRecord) (q : Option Signal) → AreAnswered w H → open_to w a H ≡ Some x
      → said_between x.sender.destination x.sender.message.source f ≡ q → said_between a w.address f ≡ q
  said_own H x f q right e g = (λ i. said_between (sym (open_at w a H x e) i) (sym (between w a H x right e).source i) f) ∙ g

  pub done_arises : Arises w a (λ x. x.sender.state ≡ sending.Done) (λ m. Acknowledges w a m)
  unfolding new_sender
  done_arises = record {
    begins_not = λ H now priority group bytes q. (let z : sending.Idle ≡ sending.Done = q in absurd (cc));
    by_hearing = λ H when f x right e.
        heard_sender (λ (s : SenderRecord). s.state ≡ sending.Done → (x.sender.state ≡ sending.Done) ⊎ Acknowledges w a x.sender.message H (At when (Hear f)))
        (is_lost (address_after w (At when (Hear f) ∷ H))) (holder w (At when (Hear f) ∷ H)) f (clock_at w H when) x (λ q. inl q)
        (λ q. elim (done_heard x.sender f (clock_at w H when) q) [
          | inl z ↦ inl z
          | inr z ↦ inr (
            said_own H x f _ right e z.says,
            λ i l m. (let n = z.last in
                subst (λ (d : ℕ). Rattle.j39_node.proofs.Common.IsAmong (Rattle.j39_node.proofs.Common.moves w a H) (packet_move d x.sender.message i)) (open_at w a H x e) ((moved_open w a H x right e).taken i l (omega (arith, m, n)))),
          )
        ]);
    by_claiming = λ H now f x right e q. inl (ap (λ (s : SenderRecord). s.state) (sym (left_sender (holder w (At now (TakeFrame (Some f)) ∷ H)) (clock_at w H now) x)) ∙ q);
    by_sending = λ H now f s right z q. inl (cond_both (gives_up s.running) (aborted 5 s.running.sender) (send_step s.running.sender Tick (clock_at w H now)).after
        (λ (r : SenderRecord). r.state ≡ sending.Done → s.running.sender.state ≡ sending.Done) (λ z. done_given_up s.running.sender 5) (λ z. done_ticked s.running.sender (clock_at w H now)) q);
  }

  pub failed_arises : (r : ℕ) → Arises w a (λ x. x.sender.state ≡ sending.Failed r) (λ m. Aborts w r a m)
  unfolding new_sender
  failed_arises r = record {
    begins_not = λ H now priority group bytes q. (let z : sending.Idle ≡ sending.Failed r = q in absurd (cc));
    by_hearing = λ H when f x right e.
        heard_sender (λ (s : SenderRecord). s.state ≡ sending.Failed r → (x.sender.state ≡ sending.Failed r) ⊎ Aborts w r a x.sender.message H (At when (Hear f)))
        (is_lost (address_after w (At when (Hear f) ∷ H))) (holder w (At when (Hear f) ∷ H)) f (clock_at w H when) x (λ q. inl q)
        (λ q. elim (failed_heard x.sender f (clock_at w H when) r q) [ inl z ↦ inl z | inr z ↦ inr (said_own H x f _ right e z) ]);
    by_claiming = λ H now f x right e q. inl (ap (λ (s : SenderRecord). s.state) (sym (left_sender (holder w (At now (TakeFrame (Some f)) ∷ H)) (clock_at w H now) x)) ∙ q);
    by_sending = sending_one;
  }
    where
      aborts : (x : Running) (f : FrameRecord) (q : Signal) → to_whom x ≡ a → message_of f ≡ says x.sender q → q ≡ Abort r x.sender.message.pgn
          → message_of f ≡ abort_move a x.sender.message r
      aborts x f q z k i = k ∙ (ap (says x.sender) i ∙ ap (λ (d : ℕ). abort_move d x.sender.message r) z)

      sending_one : (H : List Call) (now : ℕ) (f : FrameRecord) (s : Sent w H now f) → AreAnswered w H → to_whom s.running ≡ a → (sent_in_one (clock_at w H now) s.running).sender.state ≡ sending.Failed r
          → (s.running.sender.state ≡ sending.Failed r) ⊎ Aborts w r a s.running.sender.message H (At now (TakeFrame (Some f)))
      sending_one H now f s right to = cond_both (gives_up s.running) (aborted 5 s.running.sender) (send_step s.running.sender Tick (clock_at w H now)).after
          (λ (y : SenderRecord). y.state ≡ sending.Failed r → (s.running.sender.state ≡ sending.Failed r) ⊎ Aborts w r a s.running.sender.message H (At now (TakeFrame (Some f))))
          (λ z q. elim (failed_given_up s.running.sender 5 r q) [
            | inl x ↦ inl x
            | inr x ↦ inr (aborts s.running f s.signal to s.frame (given_up s.running (clock_at w H now) s.signal z s.said ∙ ap (λ (n : ℕ). Abort n s.running.sender.message.pgn) x))
          ])
          (λ z q. elim (failed_ticked s.running.sender (clock_at w H now) r q) [
            | inl x ↦ inl x
            | inr x ↦ inr (aborts s.running f s.signal to s.frame (same_Some _ _ (sym (ticking s.running (clock_at w H now) s.signal z s.said) ∙ x)))
          ])

  -- who held its destination is replaced
  gone_left : (who : ℕ → Option ℕ) (now : ℕ) (x : Running) (before : Option ℕ) (old : Bool) → to_whom x ≡ a → Named x before old → (leaves_in None who now x).broken ≡ Some how.Gone
      → (x.broken ≡ Some how.Gone) ⊎ (is_replaced before (who a) ≡ true)
  gone_left who now x before old z h = go (is_left None who x) (is_over x) refl refl
    where
      go : (b o : Bool) → is_left None who x ≡ b → is_over x ≡ o → (if b then (if o then x else record x { broken = Some how.Gone; last = now }) else record x { name = who (to_whom x) }).broken ≡ Some how.Gone
          → (x.broken ≡ Some how.Gone) ⊎ (is_replaced before (who a) ≡ true)
      go true true i j e = inl e
      go true false i j e = inr ((λ k. is_replaced (sym (named_so x before old h j) k) (who (sym z k))) ∙ i)
      go false o i j e = inl e

  gone_heard : (lost : Bool) (who : ℕ → Option ℕ) (f : FrameRecord) (now : ℕ) (x : Running) (before : Option ℕ) (old : Bool) → to_whom x ≡ a → Named x before old → (heard_open lost who f now x).broken ≡ Some how.Gone
      → (x.broken ≡ Some how.Gone) ⊎ (is_replaced before (who a) ≡ true)
  gone_heard true who f now x before old z h = cond_both (is_over x) x (record x { broken = Some how.Withdrawn; last = now }) (λ (y : Running). y.broken ≡ Some how.Gone → (x.broken ≡ Some how.Gone) ⊎ (is_replaced before (who a) ≡ true))
      (λ i e. inl e) (λ i e. absurd (cc))
  gone_heard false who f now x before old z h = λ e. gone_left who now x before old z h (sym (heard_broken f now (leaves_in None who now x)) ∙ e)

  pub gone_arises : Arises w a (λ x. x.broken ≡ Some how.Gone) (λ m. Replaces w a)
  gone_arises = record {
    begins_not = λ H now priority group bytes q. absurd (cc);
    by_hearing = λ H when f x right e. gone_heard (is_lost (address_after w (At when (Hear f) ∷ H))) (holder w (At when (Hear f) ∷ H)) f (clock_at w H when) x (holder w H a) (is_lost (address_after w H)) (open_at w a H x e) (named_open w a H x right e);
    by_claiming = λ H now f x right e. gone_left (holder w (At now (TakeFrame (Some f)) ∷ H)) (clock_at w H now) x (holder w H a) (is_lost (address_after w H)) (open_at w a H x e) (named_open w a H x right e);
    by_sending = λ H now f s right z q. inl q;
  }

-- ---- the one that is told

pub told_of : (w : Who) (H : List Call) (c : Controller) (x : ℕ × TransferEnding) → Is w (TakeTransferEnded (Some x) ∷ H) c → Told w H x
told_of w H c x is = open_told w H x is.answered.1

pub of_token : (w : Who) (H : List Call) (x : ℕ × TransferEnding) → AreAnswered w H → (t : Told w H x) → slice_get (all_transfers w H) x.0 ≡ Some (to_whom t.running, t.running.sender.message)
of_token w H x right t = ap (slice_get (all_transfers w H)) (sym t.token) ∙ (listed w (to_whom t.running) H t.running right t.is).at

pub told_once : (w : Who) (H : List Call) (c : Controller) (k : ℕ) (e : TransferEnding) → Is w (TakeTransferEnded (Some (k, e)) ∷ H) c → NoneTold (tells_transfer k) H × (k < length (all_transfers w H))
told_once w H c k e is =
    let t = told_of w H c (k, e) is in
    let l = listed w (to_whom t.running) H t.running is.answered.0 t.is in
    (subst (λ (n : ℕ). NoneTold (tells_transfer n) H) t.token l.untold, slice_get_within (all_transfers w H) k _ (of_token w H (k, e) is.answered.0 t))

pub done_means : (w : Who) (H : List Call) (c : Controller) (k : ℕ) → Is w (TakeTransferEnded (Some (k, how.Done)) ∷ H) c
    → (to : ℕ) × (m : MessageRecord) × (slice_get (all_transfers w H) k ≡ Some (to, m)) × Happened to (Acknowledges w to m) H
done_means w H c k is =
    let t = told_of w H c (k, how.Done) is in
    let a = to_whom t.running in
    let n = named_open w a H t.running is.answered.0 t.is in (
      a,
      t.running.sender.message,
      of_token w H (k, how.Done) is.answered.0 t,
      traced w a (λ x. x.sender.state ≡ sending.Done) (λ m. Acknowledges w a m) (done_arises w a) H t.running is.answered.0 t.is (done_by t.running.sender.state t.running.broken n.broken t.ends),
    )

pub failed_means : (w : Who) (H : List Call) (c : Controller) (k r : ℕ) → Is w (TakeTransferEnded (Some (k, how.Failed r)) ∷ H) c
    → (to : ℕ) × (m : MessageRecord) × (slice_get (all_transfers w H) k ≡ Some (to, m)) × Happened to (Aborts w r to m) H
failed_means w H c k r is =
    let t = told_of w H c (k, how.Failed r) is in
    let a = to_whom t.running in
    let n = named_open w a H t.running is.answered.0 t.is in (
      a,
      t.running.sender.message,
      of_token w H (k, how.Failed r) is.answered.0 t,
      traced w a (λ x. x.sender.state ≡ sending.Failed r) (λ m. Aborts w r a m) (failed_arises w a r) H t.running is.answered.0 t.is (failed_by t.running.sender.state t.running.broken r n.broken t.ends),
    )

pub gone_means : (w : Who) (H : List Call) (c : Controller) (k : ℕ) → Is w (TakeTransferEnded (Some (k, how.Gone)) ∷ H) c
    → (to : ℕ) × (m : MessageRecord) × (slice_get (all_transfers w H) k ≡ Some (to, m)) × Happened to (Replaces w to) H
gone_means w H c k is =
    let t = told_of w H c (k, how.Gone) is in
    let a = to_whom t.running in (
      a,
      t.running.sender.message,
      of_token w H (k, how.Gone) is.answered.0 t,
      traced w a (λ x. x.broken ≡ Some how.Gone) (λ m. Replaces w a) (gone_arises w a) H t.running is.answered.0 t.is (gone_by_it t.running.sender.state t.running.broken t.ends),
    )

pub withdrawn_means : (w : Who) (H : List Call) (c : Controller) (k : ℕ) → Is w (TakeTransferEnded (Some (k, how.Withdrawn)) ∷ H) c → IsTrue (is_lost (address_after w H))
withdrawn_means w H c k is =
    let t = told_of w H c (k, how.Withdrawn) is in
    subst (LostIf w H) t.is (withdrawn w (to_whom t.running) H is.answered.0) (withdrawn_by t.running.sender.state t.running.broken t.ends)
