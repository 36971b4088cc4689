-- What every answered history says of the transfer to an address.
use Rattle.j39_node.proofs.Common.{[], ◌++◌, ◌||◌, ◌∙◌, ◌∷◌, ◌≡◌, ◌≢◌, ◌≤◌, ◌⊎◌, Abort, aborted, address_after, all_transfers, and_parts, ap, AreAnswered, arith, At, Bool, breaks, broadcast_from, Call, clock_at, cond_both, eq-eqb, false, FrameRecord, gives_up, Happened, has_some, Hear, holder, if◌then◌else◌, inl, inr, is_lost, is_over, is_running, is_spent, leaves_in, length, List, listens, Message, message_of, MessageRecord, moves, ne_eqb, new_sender, None, NoneTold, Ok, of_whom, open_to, option_map, Option, refl, Running, same_Some, says, send_step, SenderRecord, sent_in_one, Signal, signal_by, slice_get, Some, subst, sym, TakeFrame, TakeTransferEnded, tells_transfer, to_whom, Transfer, TransferEnding, true, Who, ℕ, slice_get_within}
use Rattle.j39_transport.specs.Sending.{Heard, Tick}
use Rattle.j39_transfers.specs.Transfers.{is_left}
use Rattle.j39_transfers.specs.declared.kinds.Ending.TheVariants as how
use Rattle.j39_transfers.proofs.StepLemmas.{keeps_broken, keeps_heard, keeps_left}
use Rattle.j39_node.specs.Moves.{begins}
use Rattle.j39_node.proofs.ChangeLemmas.{Change, change, Sent}
use Rattle.j39_node.proofs.ChangeLemmas.Change.{hears, claims, sends, starts, ends, stays}
use Rattle.j39_node.proofs.OpenLemmas.{begun_to, heard_open, open_told, Told}
use Rattle.j39_node.proofs.PortLemmas.{broken_same, heard_same, left_same, sent_same, started}
use Rattle.j39_node.proofs.MoveSteps.{Moved, moved_given_up, moved_heard, moved_ticked}
use Rattle.j39_node.proofs.QueueLemmas.{length_one_more, get_last}
use Rattle.j39_node.proofs.WithdrawLemmas.{get_front}
use Rattle.j39_transfers.proofs.StepLemmas.{IsSame}

pub none_first : (w : Who) (a : ℕ) → AreAnswered w [] → open_to w a [] ≡ None
none_first w a e = ap (of_whom a) (started w e).0

-- ---- what a frame that is heard makes of its sender

pub broken_sender : (e : TransferEnding) (now : ℕ) (x : Running) → (breaks e now x).sender ≡ x.sender
broken_sender e now x = cond_both (is_over x) x (record x { broken = Some e; last = now }) (λ (y : Running). y.sender ≡ x.sender) (λ i. refl) (λ i. refl)

pub left_sender : (who : ℕ → Option ℕ) (now : ℕ) (x : Running) → (leaves_in None who now x).sender ≡ x.sender
left_sender who now x =
    cond_both (is_left None who x) (breaks how.Gone now x) (record x { name = who (to_whom x) }) (λ (y : Running). y.sender ≡ x.sender) (λ i. broken_sender how.Gone now x) (λ i. refl)

-- its sender hears it, or stays
pub heard_sender : (P : SenderRecord → Type 0) (lost : Bool) (who : ℕ → Option ℕ) (f : FrameRecord) (now : ℕ) (x : Running) → P x.sender → P (send_step x.sender (Heard f) now).after
    → P (heard_open lost who f now x).sender
heard_sender P true who f now x h k = subst P (sym (broken_sender how.Withdrawn now x)) h
heard_sender P false who f now x h k =
    let y = leaves_in None who now x in
    let e = left_sender who now x in
    cond_both (is_over y || is_spent y) y (listens f now y) (λ (z : Running). P z.sender) (λ i. subst P (sym e) h) (λ i. subst (λ (s : SenderRecord). P (send_step s (Heard f) now).after) (sym e) k)

pub heard_open_same : (lost : Bool) (who : ℕ → Option ℕ) (f : FrameRecord) (now : ℕ) (x : Running) → IsSame x.sender (heard_open lost who f now x).sender
heard_open_same true who f now x = broken_same how.Withdrawn now x
heard_open_same false who f now x =
    let a = left_same who now x in let b = heard_same f now (leaves_in None who now x) in (b.0 ∙ a.0, b.1 ∙ a.1)

pub heard_open_token : (lost : Bool) (who : ℕ → Option ℕ) (f : FrameRecord) (now : ℕ) (x : Running) → (heard_open lost who f now x).token ≡ x.token
heard_open_token true who f now x = (keeps_broken how.Withdrawn now x).1
heard_open_token false who f now x = (keeps_heard f now (leaves_in None who now x)).1 ∙ (keeps_left None who now x).1

-- ---- what was taken of it

abbrev pub MovedIf : Option Running → List Message → Type 0
MovedIf None xs = Unit {0}
MovedIf (Some x) xs = Moved x.sender xs

moved_map : (g : Running → Running) (o : Option Running) (xs : List Message) → ((x : Running) → Moved x.sender xs → Moved (g x).sender xs) → MovedIf o xs → MovedIf (option_map g o) xs
moved_map g None xs k h = h
moved_map g (Some x) xs k h = k x h

signal_parts : (x : Running) (now : ℕ) (xs : List Message) (a : Signal) → Moved x.sender xs → signal_by now x ≡ Some a
    → Moved (sent_in_one now x).sender (xs ++ says x.sender a ∷ [])
signal_parts x now xs a h = cond_both (has_some x.broken) None _ (λ (o : Option Signal). o ≡ Some a → Moved (sent_in_one now x).sender (xs ++ says x.sender a ∷ []))
    (λ z e. absurd (cc))
    (λ z. go (gives_up x) refl)
  where
    go : (b : Bool) → gives_up x ≡ b → (if b then Some (Abort 5 x.sender.message.pgn) else (send_step x.sender Tick now).says) ≡ Some a
        → Moved (if b then aborted 5 x.sender else (send_step x.sender Tick now).after) (xs ++ says x.sender a ∷ [])
    go true k e = moved_given_up x.sender 5 xs (says x.sender a) (and_parts (is_spent x) (is_running x.sender.state) k).1 h
    go false k e = moved_ticked x.sender now xs a h e

moved_new : (m : MessageRecord) (to : ℕ) → Moved (new_sender m to) []
unfolding new_sender
moved_new m to = record { state = refl; taken = λ i l k. absurd (omega (arith, l, k)) }

moved_more : (w : Who) (a : ℕ) (H : List Call) (call : Call) (o q : Option Running) → Change w a H call o q → MovedIf o (moves w a H) → MovedIf q (moves w a (call ∷ H))
moved_more w a H call o q (hears now f x) h =
    moved_map (heard_open (is_lost (address_after w (At now (Hear f) ∷ H))) (holder w (At now (Hear f) ∷ H)) f (clock_at w H now)) x (moves w a H)
    (λ y m. heard_sender (λ (s : SenderRecord). Moved s (moves w a H)) (is_lost (address_after w (At now (Hear f) ∷ H))) (holder w (At now (Hear f) ∷ H)) f (clock_at w H now) y m
    (moved_heard y.sender f (clock_at w H now) (moves w a H) m)) h
moved_more w a H call o q (claims now f x c m) h =
    subst (MovedIf (option_map (leaves_in None (holder w (At now (TakeFrame (Some f)) ∷ H)) (clock_at w H now)) x)) (sym (ap (λ (b : Bool). if b then moves w a H ++ message_of f ∷ [] else moves w a H) m))
    (moved_map (leaves_in None (holder w (At now (TakeFrame (Some f)) ∷ H)) (clock_at w H now)) x (moves w a H)
    (λ y k. subst (λ (s : SenderRecord). Moved s (moves w a H)) (sym (left_sender (holder w (At now (TakeFrame (Some f)) ∷ H)) (clock_at w H now) y)) k) h)
moved_more w a H call o q (sends now f s z m) h =
    subst (Moved (sent_in_one (clock_at w H now) s.running).sender) (sym (ap (λ (b : Bool). if b then moves w a H ++ message_of f ∷ [] else moves w a H) m ∙ ap (λ (x : Message). moves w a H ++ x ∷ []) s.frame))
    (signal_parts s.running (clock_at w H now) (moves w a H) s.signal h s.said)
moved_more w a H call o q (starts now priority group to k bytes e z) h =
    subst (Moved (new_sender (broadcast_from w group bytes) to)) (sym (ap (λ (b : Bool). if b then [] else moves w a H) (eq-eqb to a z))) (moved_new (broadcast_from w group bytes) to)
moved_more w a H call o q (ends e t z) h = tt
moved_more w a H call o q (stays c x b m n i t u) h = subst (MovedIf x) (sym m) h

pub moved : (w : Who) (a : ℕ) (H : List Call) → AreAnswered w H → MovedIf (open_to w a H) (moves w a H)
moved w a [] e = subst (λ (o : Option Running). MovedIf o []) (sym (none_first w a e)) tt
moved w a (call ∷ H) e = moved_more w a H call (open_to w a H) (open_to w a (call ∷ H)) (change w a call H e) (moved w a H e.0)

pub moved_open : (w : Who) (a : ℕ) (H : List Call) (x : Running) → AreAnswered w H → open_to w a H ≡ Some x → Moved x.sender (moves w a H)
moved_open w a H x right e = subst (λ (o : Option Running). MovedIf o (moves w a H)) e (moved w a H right)

-- ---- which transfer is open

-- it was accepted under its token, and isn't told
pub record Listed (w : Who) (a : ℕ) (H : List Call) (x : Running) : Type 0 where
  pub at : slice_get (all_transfers w H) x.token ≡ Some (a, x.sender.message)
  pub untold : NoneTold (tells_transfer x.token) H

abbrev pub ListedIf : Who → ℕ → List Call → Option Running → Type 0
ListedIf w a H None = Unit {0}
ListedIf w a H (Some x) = Listed w a H x

grows : (w : Who) (call : Call) (H : List Call) (k : ℕ) (y : ℕ × MessageRecord) → slice_get (all_transfers w H) k ≡ Some y → slice_get (all_transfers w (call ∷ H)) k ≡ Some y
grows w (At now (Transfer priority group to bytes (Ok j))) H k y e = get_front (all_transfers w H) ((to, broadcast_from w group bytes) ∷ []) k y e
grows w call H k y e = e

listed_so : (w : Who) (a : ℕ) (call : Call) (H : List Call) (old new : Running) → Listed w a H old → new.token ≡ old.token → new.sender.message ≡ old.sender.message
    → tells_transfer old.token call ≡ false → Listed w a (call ∷ H) new
listed_so w a call H old new h t m n = record {
  at = ap (slice_get (all_transfers w (call ∷ H))) t ∙ (grows w call H old.token _ h.at ∙ (λ i. Some (a, sym m i)));
  untold = subst (λ (k : ℕ). NoneTold (tells_transfer k) (call ∷ H)) (sym t) (n, h.untold);
}

listed_map : (w : Who) (a : ℕ) (call : Call) (H : List Call) (g : Running → Running) (o : Option Running) → ((x : Running) → (IsSame x.sender (g x).sender) × ((g x).token ≡ x.token))
    → ((k : ℕ) → tells_transfer k call ≡ false) → ListedIf w a H o → ListedIf w a (call ∷ H) (option_map g o)
listed_map w a call H g None k n h = h
listed_map w a call H g (Some x) k n h = listed_so w a call H x (g x) h (k x).1 (k x).0.1 (n x.token)

abbrev Unused : Who → List Call → Type 0
Unused w H = (k : ℕ) → length (all_transfers w H) ≤ k → NoneTold (tells_transfer k) H

-- one to another address has another token
pub other_token : (w : Who) (a b : ℕ) (H : List Call) (x y : Running) → Listed w a H x → Listed w b H y → x.token ≡ y.token → a ≡ b
other_token w a b H x y h k e =
    let z : Some (a, x.sender.message) ≡ Some (b, y.sender.message) = sym h.at ∙ (ap (slice_get (all_transfers w H)) e ∙ k.at) in
    ap (λ (p : ℕ × MessageRecord). p.0) (same_Some _ _ z)

begun_listed : (w : Who) (H : List Call) (now priority group to k : ℕ) (bytes : List ℕ) → Unused w H → Listed w to (At now (Transfer priority group to bytes (Ok k)) ∷ H) (begun_to w H now priority group to bytes)
unfolding new_sender
begun_listed w H now priority group to k bytes free = record {
  at = get_last (all_transfers w H) (to, broadcast_from w group bytes);
  untold = (refl, free (length (all_transfers w H)) (omega arith));
}

listed_more : (w : Who) (a : ℕ) (H : List Call) (call : Call) (o q : Option Running) → Change w a H call o q → ((b : ℕ) → ListedIf w b H (open_to w b H)) → Unused w H
    → ListedIf w a H o → ListedIf w a (call ∷ H) q
listed_more w a H call o q (hears now f x) all free h =
    listed_map w a (At now (Hear f)) H (heard_open (is_lost (address_after w (At now (Hear f) ∷ H))) (holder w (At now (Hear f) ∷ H)) f (clock_at w H now)) x
    (λ y. (heard_open_same (is_lost (address_after w (At now (Hear f) ∷ H))) (holder w (At now (Hear f) ∷ H)) f (clock_at w H now) y, heard_open_token (is_lost (address_after w (At now (Hear f) ∷ H))) (holder w (At now (Hear f) ∷ H)) f (clock_at w H now) y)) (λ k. refl) h
listed_more w a H call o q (claims now f x c m) all free h =
    listed_map w a (At now (TakeFrame (Some f))) H (leaves_in None (holder w (At now (TakeFrame (Some f)) ∷ H)) (clock_at w H now)) x
    (λ y. (left_same (holder w (At now (TakeFrame (Some f)) ∷ H)) (clock_at w H now) y, (keeps_left None (holder w (At now (TakeFrame (Some f)) ∷ H)) (clock_at w H now) y).1)) (λ k. refl) h
listed_more w a H call o q (sends now f s z m) all free h =
    listed_so w a (At now (TakeFrame (Some f))) H s.running (sent_in_one (clock_at w H now) s.running) h refl (sent_same (clock_at w H now) s.running).1 refl
listed_more w a H call o q (starts now priority group to k bytes e z) all free h =
    subst (λ (n : ℕ). Listed w n (At now (Transfer priority group to bytes (Ok k)) ∷ H) (begun_to w H now priority group to bytes)) z
    (begun_listed w H now priority group to k bytes free)
listed_more w a H call o q (ends e t z) all free h = tt
listed_more w a H call None q (stays c x b m n i t u) all free h = h
listed_more w a H call (Some y) q (stays c x b m n i t u) all free h =
    listed_so w a c H y y h refl refl (go c t)
  where
    go : (d : Call) → ((e : ℕ × TransferEnding) → d ≡ TakeTransferEnded (Some e) → (t : Told w H e) × (to_whom t.running ≢ a)) → tells_transfer y.token d ≡ false
    go (TakeTransferEnded (Some e)) t =
        let r = t e refl in
        ne_eqb e.0 y.token (λ z. r.1 (other_token w (to_whom r.0.running) a H r.0.running y (subst (ListedIf w (to_whom r.0.running) H) r.0.is (all (to_whom r.0.running))) h (r.0.token ∙ z)))
    go d t = refl

pub accounted : (w : Who) (H : List Call) → AreAnswered w H → ((a : ℕ) → ListedIf w a H (open_to w a H)) × Unused w H
accounted w [] e = (λ a. subst (ListedIf w a []) (sym (none_first w a e)) tt, λ k l. tt)
accounted w (call ∷ H) e =
    let h = accounted w H e.0 in
    (λ a. listed_more w a H call (open_to w a H) (open_to w a (call ∷ H)) (change w a call H e) h.0 h.1 (h.0 a), go call e.1 h.0 h.1)
  where
    go : (call : Call) → Rattle.j39_node.specs.Is.IsAnswered w H call → ((a : ℕ) → ListedIf w a H (open_to w a H)) → Unused w H → Unused w (call ∷ H)
    go (At now (Transfer priority group to bytes (Ok j))) i all free = λ k l. (refl, free k (let n = length_one_more (all_transfers w H) (to, broadcast_from w group bytes) in omega (arith, l, n)))
    go (TakeTransferEnded (Some x)) i all free = λ k l.
        let t = open_told w H x i in
        let p = subst (ListedIf w (to_whom t.running) H) t.is (all (to_whom t.running)) in
        let b = slice_get_within (all_transfers w H) t.running.token _ p.at in
        let d = t.token in
        (ne_eqb x.0 k (λ z. omega (arith, b, d, l, z)), free k l)
    go call i all free = λ k l. (refl, free k l)

pub listed : (w : Who) (a : ℕ) (H : List Call) (x : Running) → AreAnswered w H → open_to w a H ≡ Some x → Listed w a H x
listed w a H x right e = subst (ListedIf w a H) e ((accounted w H right).0 a)

-- ---- since when something is so of it

pub later_on : (a : ℕ) (So : List Call → Call → Type 0) (H : List Call) (call : Call) → begins a call ≡ false → Happened a So H → Happened a So (call ∷ H)
later_on a So H call b h = record {
  later = call ∷ h.later;
  call = h.call;
  earlier = h.earlier;
  is = ap (λ G. call ∷ G) h.is;
  since = (b, h.since);
  so = h.so;
}

now_so : (a : ℕ) (So : List Call → Call → Type 0) (H : List Call) (call : Call) → So H call → Happened a So (call ∷ H)
now_so a So H call s = record { later = []; call = call; earlier = H; is = refl; since = tt; so = s }

-- what isn't so of a transfer that begins, and is so after a call where it was before, or where the call says so
pub record Arises (w : Who) (a : ℕ) (Q : Running → Type 0) (So : MessageRecord → List Call → Call → Type 0) : Type 0 where
  pub begins_not : (H : List Call) (now priority group : ℕ) (bytes : List ℕ) → Q (begun_to w H now priority group a bytes) → ⊥
  pub by_hearing : (H : List Call) (when : ℕ) (f : FrameRecord) (x : Running) → AreAnswered w H → open_to w a H ≡ Some x
      → Q (heard_open (is_lost (address_after w (At when (Hear f) ∷ H))) (holder w (At when (Hear f) ∷ H)) f (clock_at w H when) x)
      → Q x ⊎ So x.sender.message H (At when (Hear f))
  pub by_claiming : (H : List Call) (now : ℕ) (f : FrameRecord) (x : Running) → AreAnswered w H → open_to w a H ≡ Some x
      → Q (leaves_in None (holder w (At now (TakeFrame (Some f)) ∷ H)) (clock_at w H now) x) → Q x ⊎ So x.sender.message H (At now (TakeFrame (Some f)))
  pub by_sending : (H : List Call) (now : ℕ) (f : FrameRecord) (s : Sent w H now f) → AreAnswered w H → to_whom s.running ≡ a → Q (sent_in_one (clock_at w H now) s.running)
      → Q s.running ⊎ So s.running.sender.message H (At now (TakeFrame (Some f)))

module _ (w : Who) (a : ℕ) (Q : Running → Type 0) (So : MessageRecord → List Call → Call → Type 0) (arises : Arises w a Q So) where
  arose : (H : List Call) (call : Call) (old new : Running) → begins a call ≡ false → new.sender.message ≡ old.sender.message → Q old ⊎ So old.sender.message H call
      → (Q old → Happened a (So old.sender.message) H) → Happened a (So new.sender.message) (call ∷ H)
  arose H call old new b m (inl q) rec = subst (λ (y : MessageRecord). Happened a (So y) (call ∷ H)) (sym m) (later_on a (So old.sender.message) H call b (rec q))
  arose H call old new b m (inr s) rec = subst (λ (y : MessageRecord). Happened a (So y) (call ∷ H)) (sym m) (now_so a (So old.sender.message) H call s)

  traced_more : (H : List Call) (call : Call) (o q : Option Running) → Change w a H call o q → (x : Running) → AreAnswered w H → open_to w a H ≡ o → q ≡ Some x → Q x
      → ((u : Running) → o ≡ Some u → Q u → Happened a (So u.sender.message) H) → Happened a (So x.sender.message) (call ∷ H)
  traced_more H call o q (hears now f None) x right g e p rec = absurd (cc)
  traced_more H call o q (hears now f (Some u)) x right g e p rec =
      let y = heard_open (is_lost (address_after w (At now (Hear f) ∷ H))) (holder w (At now (Hear f) ∷ H)) f (clock_at w H now) u in
      let z = same_Some y x e in
      arose H (At now (Hear f)) u x refl (ap (λ (v : Running). v.sender.message) (sym z) ∙ (heard_open_same (is_lost (address_after w (At now (Hear f) ∷ H))) (holder w (At now (Hear f) ∷ H)) f (clock_at w H now) u).1) (arises.by_hearing H now f u right g (subst Q (sym z) p)) (rec u refl)
  traced_more H call o q (claims now f None c m) x right g e p rec = absurd (cc)
  traced_more H call o q (claims now f (Some u) c m) x right g e p rec =
      let y = leaves_in None (holder w (At now (TakeFrame (Some f)) ∷ H)) (clock_at w H now) u in
      let z = same_Some y x e in
      arose H (At now (TakeFrame (Some f))) u x refl (ap (λ (v : Running). v.sender.message) (sym z) ∙ (left_same (holder w (At now (TakeFrame (Some f)) ∷ H)) (clock_at w H now) u).1) (arises.by_claiming H now f u right g (subst Q (sym z) p)) (rec u refl)
  traced_more H call o q (sends now f s i m) x right g e p rec =
      let z = same_Some (sent_in_one (clock_at w H now) s.running) x e in
      arose H (At now (TakeFrame (Some f))) s.running x refl (ap (λ (v : Running). v.sender.message) (sym z) ∙ (sent_same (clock_at w H now) s.running).1)
      (arises.by_sending H now f s right i (subst Q (sym z) p)) (rec s.running refl)
  traced_more H call o q (starts now priority group to k bytes i z) x right g e p rec =
      absurd (arises.begins_not H now priority group bytes (subst (λ (n : ℕ). Q (begun_to w H now priority group n bytes)) z (subst Q (sym (same_Some (begun_to w H now priority group to bytes) x e)) p)))
  traced_more H call o q (ends i t z) x right g e p rec = absurd (cc)
  traced_more H call o q (stays c y b m n i t u) x right g e p rec = later_on a (So x.sender.message) H c b (rec x e p)

  pub traced : (H : List Call) (x : Running) → AreAnswered w H → open_to w a H ≡ Some x → Q x → Happened a (So x.sender.message) H
  traced [] x right e q = absurd (let z = sym (none_first w a right) ∙ e in cc)
  traced (call ∷ H) x right e q =
      traced_more H call (open_to w a H) (open_to w a (call ∷ H)) (change w a call H right) x right.0 refl e q (λ u k p. traced H u right.0 k p)
