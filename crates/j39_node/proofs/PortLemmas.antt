-- The transfers of an answered history go from the address to others'.
use Rattle.j39_node.proofs.Common.{[], ◌&&◌, ◌++◌, ◌<◌, ◌||◌, ◌∙◌, ◌∷◌, ◌≡◌, ◌⊎◌, address_after, answer, ap, AreAnswered, arith, At, Bool, both, breaks, Call, can_broadcast, carried_by, clock_at, cond_both, false, FrameRecord, gives_up, group_with, Hear, heard_events, heard_in_one, holder, if◌then◌else◌, inl, inr, is_claim, is_lost, is_move, is_over, is_some, is_spent, is_tried, IsFresh, leaves_in, length, List, listens, lt-ltb, ltb-true, map, Message, min, nat_eq, nat_lt, ne_eqb, new_sender, next_transfer, None, option_map, Option, order, Packet, refl, Running, says, SenderRecord, sent_by, sent_in_one, Signal, signal_by, Some, subst, sym, TakeFrame, taken_events, TakeTransferEnded, to_whom, Transfer, transfer_events, transfers_at, TransfersRecord, transport_control_group, transport_data_group, tried_events, true, Who, written, ℕ, all_transfers}
use Rattle.j39_transport.specs.Sending.{aborted, send_step, Tick}
use Rattle.j39_transfers.specs.Events.{after, AreApart, Begins, Leaves, Sends, step}
use Rattle.j39_transfers.specs.Transfers.{begun, can_move, frame_by, is_first, is_left, listed, Order, others, turn}
use Rattle.j39_transfers.specs.declared.kinds.Ending.{Ending}
use Rattle.j39_transfers.specs.declared.kinds.Ending.TheVariants as how
use Rattle.j39_transfers.proofs.StepLemmas.{IsSame, same_aborted, same_heard_step, same_ticked}
use Rattle.j39_transfers.proofs.LawLemmas.{begun_split, each_apart}
use Rattle.j39_node.proofs.AnswerCases.{transfer_tried}
use Rattle.j39_node.proofs.QueueLemmas.{mapped_some}
use Rattle.std.specs.List.{find}

pub fresh_of : (w : Who) (H : List Call) → AreAnswered w H → w.address < 254
fresh_of w [] e = e.0
fresh_of w (call ∷ H) e = fresh_of w H e.0

-- ---- a step keeps message and destination

abbrev Same : Running → Running → Type 0
Same old new = IsSame old.sender new.sender

pub heard_same : (f : FrameRecord) (now : ℕ) (x : Running) → IsSame x.sender (heard_in_one f now x).sender
heard_same f now x = cond_both (is_over x || is_spent x) x (listens f now x) (Same x) (λ e. (refl, refl)) (λ e. same_heard_step x.sender f now)

pub broken_same : (e : Ending) (now : ℕ) (x : Running) → IsSame x.sender (breaks e now x).sender
broken_same e now x = cond_both (is_over x) x (record x { broken = Some e; last = now }) (Same x) (λ i. (refl, refl)) (λ i. (refl, refl))

pub left_same : (holder : ℕ → Option ℕ) (now : ℕ) (x : Running) → IsSame x.sender (leaves_in None holder now x).sender
left_same holder now x =
    cond_both (is_left None holder x) (breaks how.Gone now x) (record x { name = holder (to_whom x) }) (Same x) (λ e. broken_same how.Gone now x) (λ e. (refl, refl))

pub sent_same : (now : ℕ) (x : Running) → IsSame x.sender (sent_in_one now x).sender
sent_same now x = cond_both (gives_up x) (aborted 5 x.sender) (send_step x.sender Tick now).after (IsSame x.sender) (λ e. same_aborted 5 x.sender) (λ e. same_ticked x.sender now)

-- ---- between which addresses they go

pub record Between (w : Who) (x : Running) : Type 0 where
  pub source : x.sender.message.source ≡ w.address
  pub directed : to_whom x < 254

pub between_same : (w : Who) (old new : Running) → IsSame old.sender new.sender → Between w old → Between w new
between_same w old new k h = record {
  source = ap (λ m. m.source) k.1 ∙ h.source;
  directed = subst (λ (d : ℕ). d < 254) (sym k.0) h.directed;
}

abbrev pub Ported : Who → List Running → Type 0
Ported w [] = Unit {0}
Ported w (x ∷ xs) = Between w x × Ported w xs

ported_map : (w : Who) (f : Running → Running) → ((x : Running) → IsSame x.sender (f x).sender) → (xs : List Running) → Ported w xs → Ported w (map f xs)
ported_map w f k [] h = tt
ported_map w f k (x ∷ xs) h = (between_same w x (f x) (k x) h.0, ported_map w f k xs h.1)

ported_others : (w : Who) (p : Running → Bool) (xs : List Running) → Ported w xs → Ported w (others p xs)
ported_others w p [] h = tt
ported_others w p (x ∷ xs) h = cond_both (p x) xs (x ∷ others p xs) (Ported w) (λ e. h.1) (λ e. (h.0, ported_others w p xs h.1))

ported_more : (w : Who) (xs : List Running) (y : Running) → Ported w xs → Between w y → Ported w (xs ++ y ∷ [])
ported_more w [] y h b = (b, tt)
ported_more w (x ∷ xs) y h b = (h.0, ported_more w xs y h.1 b)

pub ported_found : (w : Who) (p : Running → Bool) (xs : List Running) (y : Running) → Ported w xs → find p xs ≡ Some y → Between w y
ported_found w p [] y h e = absurd (cc)
ported_found w p (x ∷ xs) y h e = go (p x) (ported_found w p xs y h.1) e
  where
    go : (b : Bool) → (find p xs ≡ Some y → Between w y) → (if b then Some x else find p xs) ≡ Some y → Between w y
    go true k e = let z : x ≡ y = cc in subst (Between w) z h.0
    go false k e = k e

-- ---- after each call

pub record Stands (w : Who) (s : TransfersRecord) : Type 0 where
  pub own : s.own ≡ w.address
  pub ported : Ported w s.running

pub started : (w : Who) → IsFresh w → ((transfers_at w []).running ≡ []) × ((transfers_at w []).own ≡ w.address)
started w h =
    let s = after 0 w.transfers w.brought.events in
    let c : can_move w.address s ≡ true = (λ i. lt-ltb _ _ h.0 i && nat_eq (length (h.1 i)) 0) in (
      ap (λ (b : Bool). (if b then record s { own = w.address } else s).running) c ∙ h.1,
      ap (λ (b : Bool). (if b then record s { own = w.address } else s).own) c,
    )

stands_left : (w : Who) (holder : ℕ → Option ℕ) (now : ℕ) (s : TransfersRecord) → Stands w s → Stands w (step (Leaves None holder now) s)
stands_left w holder now s h = record { own = h.own; ported = ported_map w (leaves_in None holder now) (left_same holder now) s.running h.ported }

stands_sent : (w : Who) (now : ℕ) (s : TransfersRecord) → Stands w s → Stands w (step (Sends now) s)
stands_sent w now s h = record { own = h.own; ported = go (turn now s.running) refl }
  where
    p : Running → Bool
    p = is_first now s.running

    go : (o : Option Running) → turn now s.running ≡ o → Ported w (others p s.running ++ listed (option_map (sent_in_one now) o))
    go None e = subst (Ported w) (sym (append_none (others p s.running))) (ported_others w p s.running h.ported)
      where
        append_none : (xs : List Running) → xs ++ [] ≡ xs
        append_none [] = refl
        append_none (x ∷ xs) = ap (λ ys. x ∷ ys) (append_none xs)
    go (Some y) e = ported_more w (others p s.running) (sent_in_one now y) (ported_others w p s.running h.ported)
        (between_same w y (sent_in_one now y) (sent_same now y) (ported_found w p s.running y h.ported e))

stands_begun : (w : Who) (o : Order) (name : Option ℕ) (now : ℕ) (s : TransfersRecord) → Stands w s → o.to < 254 → Stands w (step (Begins o name now) s)
unfolding new_sender
stands_begun w o name now s h l = begun_split (Stands w) o name now s (record { own = h.own; ported = h.ported })
    (λ e r. record { own = h.own; ported = ported_more w s.running (begun s.own o name now) h.ported (record { source = h.own; directed = l }) })

pub stands : (w : Who) (H : List Call) → AreAnswered w H → Stands w (transfers_at w H)
stands w [] e = let s = started w e in record { own = s.1; ported = subst (Ported w) (sym s.0) tt }
stands w (At now (Hear f) ∷ H) e = go (is_lost (address_after w (At now (Hear f) ∷ H))) (stands w H e.0)
  where
    holds : ℕ → Option ℕ
    holds = holder w (At now (Hear f) ∷ H)

    s : TransfersRecord
    s = transfers_at w H

    go : (b : Bool) → Stands w s → Stands w (after 0 w.transfers (heard_events b (clock_at w H now) holds f (transfer_events w H)))
    go true h = record { own = h.own; ported = ported_map w (breaks how.Withdrawn (clock_at w H now)) (broken_same how.Withdrawn (clock_at w H now)) s.running h.ported }
    go false k =
        let h = stands_left w holds (clock_at w H now) s k in
        record { own = h.own; ported = ported_map w (heard_in_one f (clock_at w H now)) (heard_same f (clock_at w H now)) (map (leaves_in None holds (clock_at w H now)) s.running) h.ported }
stands w (At now (TakeFrame (Some f)) ∷ H) e = go (is_claim f) (is_move w H f) (stands w H e.0)
  where
    go : (b m : Bool) → Stands w (transfers_at w H) → Stands w (after 0 w.transfers (taken_events b m (clock_at w H now) (holder w (At now (TakeFrame (Some f)) ∷ H)) (transfer_events w H)))
    go true m h = stands_left w (holder w (At now (TakeFrame (Some f)) ∷ H)) (clock_at w H now) (transfers_at w H) h
    go false true h = stands_sent w (clock_at w H now) (transfers_at w H) h
    go false false h = h
stands w (At now (Transfer priority group to bytes answer) ∷ H) e = go (is_tried answer last) refl (stands w H e.0)
  where
    last : Bool
    last = nat_eq (length (all_transfers w H)) 18446744073709551615

    o : Order
    o = order (length (all_transfers w H)) priority group to bytes

    go : (b : Bool) → is_tried answer last ≡ b → Stands w (transfers_at w H)
        → Stands w (after 0 w.transfers (tried_events b (Begins o (holder w H to) (clock_at w H now)) (transfer_events w H)))
    go true t h =
        let c = both (can_broadcast group bytes) _ (both (nat_lt priority 8) _ (transfer_tried w H now priority group to bytes answer last e.1 t)).1 in
        stands_begun w o (holder w H to) (clock_at w H now) (transfers_at w H) h (ltb-true _ _ (both (nat_lt to 254) _ c.1).0)
    go false t h = h
stands w (TakeTransferEnded (Some x) ∷ H) e = let h = stands w H e.0 in record { own = h.own; ported = ported_others w is_over (transfers_at w H).running h.ported }
stands w (call ∷ H) e = stands w H e.0

pub own_is : (w : Who) (H : List Call) → AreAnswered w H → (transfers_at w H).own ≡ w.address
own_is w H e = (stands w H e).own

pub apart : (w : Who) (H : List Call) → AreApart (transfers_at w H).running
apart w H = each_apart 0 w.transfers (transfer_events w H)

-- ---- what its frames are

-- what a sender says between two addresses is carried so
pub said_so : (s : SenderRecord) (o : Option Signal) → s.message.source < 254 → s.destination < 254 → option_map carried_by (sent_by s o) ≡ option_map (says s) o
unfolding written
said_so s o l m = grind (arith, l, m)

-- one whose turn it is
pub record Turned (w : Who) (H : List Call) (now : ℕ) (m : Message) : Type 0 where
  pub running : Running
  pub turn_is : turn (clock_at w H now) (transfers_at w H).running ≡ Some running
  pub between : Between w running
  pub signal : Signal
  pub said : signal_by (clock_at w H now) running ≡ Some signal
  pub frame : says running.sender signal ≡ m

pub transfer_says : (w : Who) (H : List Call) (now : ℕ) (m : Message) → AreAnswered w H → next_transfer w H now ≡ Some m → Turned w H now m
transfer_says w H now m right e = go (turn (clock_at w H now) (transfers_at w H).running) refl e
  where
    go : (o : Option Running) → turn (clock_at w H now) (transfers_at w H).running ≡ o → option_map carried_by (frame_by (clock_at w H now) o) ≡ Some m → Turned w H now m
    go None i e = absurd (cc)
    go (Some x) i e =
        let b = ported_found w (is_first (clock_at w H now) (transfers_at w H).running) (transfers_at w H).running x (stands w H right).ported i in
        let address = fresh_of w H right in
        let z = mapped_some (says x.sender) (signal_by (clock_at w H now) x) m
        (sym (said_so x.sender (signal_by (clock_at w H now) x) (subst (λ (n : ℕ). n < 254) (sym b.source) address) b.directed) ∙ e) in
        record { running = x; turn_is = i; between = b; signal = z.0; said = z.1; frame = z.2 }

pub record SaidCase (w : Who) (m : Message) : Type 0 where
  pub source : m.source ≡ w.address
  pub group : (m.group ≡ transport_control_group) ⊎ (m.group ≡ transport_data_group)
  pub directed : is_some m.destination 255 ≡ false

either_group : (a : Signal) → (group_with a ≡ transport_control_group) ⊎ (group_with a ≡ transport_data_group)
either_group (Packet number part) = inr refl
either_group other = inl refl

pub said_case : (w : Who) (H : List Call) (now : ℕ) (m : Message) → AreAnswered w H → next_transfer w H now ≡ Some m → SaidCase w m
said_case w H now m right e =
    let t = transfer_says w H now m right e in
    record {
      source = ap (λ (y : Message). y.source) (sym t.frame) ∙ t.between.source;
      group = subst (λ (g : ℕ). (g ≡ transport_control_group) ⊎ (g ≡ transport_data_group)) (ap (λ (y : Message). y.group) t.frame) (either_group t.signal);
      directed = ap (λ (y : Message). is_some y.destination 255) (sym t.frame) ∙ ne_eqb (to_whom t.running) 255 (λ z. let l = t.between.directed in omega (arith, l, z));
    }

-- ---- what a controller has of them

pub clock_is : (n : ℕ) → min (min n 18446744073709551615) 9999999999999999 ≡ min n 9999999999999999
clock_is n = omega arith
