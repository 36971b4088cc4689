-- When a transfer rests.
use Rattle.j39_node.proofs.Common.{[], ◌++◌, ◌+◌, ◌<◌, ◌∙◌, ◌∷◌, ◌≡◌, ◌≤◌, ◌⊎◌, address_after, age, all_transfers, ap, append-nil, append_assoc, arith, At, Bool, Call, clock, clock_at, false, Hear, heard_events, holder, Idle, if◌then◌else◌, inl, inr, is_claim, is_lost, is_move, is_over, is_resting, is_tried, IsTrue, length, List, moved, nat_eq, None, Option, order, refl, RestsSince, Running, Some, subst, sym, TakeFrame, taken_events, TakeTransferEnded, to_whom, Transfer, transfer_events, TransferEnding, transfers_at, tried_events, true, Who, ℕ}
use Rattle.j39_transfers.specs.Events.{after, AreBy, Begins, Event, Tells, WasTold}
use Rattle.j39_transfers.specs.Events.WasTold.{here, later as told_later}
use Rattle.j39_transfers.specs.Transfers.{awake, is_refused, is_resting as is_resting_in, listed as listed_rests, Rest, rest_by, rests}
use Rattle.j39_transfers.proofs.RestLemmas.{comes_from as was_told, it_rests}
use Rattle.j39_node.specs.Moving.{begun}
use Rattle.std.specs.List.{find}

by_append : (n : ℕ) (D E : List Event) → AreBy n D → AreBy n E → AreBy n (D ++ E)
by_append n [] E d e = e
by_append n (x ∷ D) E d e = (d.0, by_append n D E d.1 e)

-- ---- what they went through since

abbrev Grows : Who → List Call → List Event → ℕ → Type 0
Grows w H E n = (D : List Event) × (transfer_events w H ≡ D ++ E) × AreBy n D

grown_one : (w : Who) (call : Call) (H : List Call) (n : ℕ) → clock (age w (call ∷ H)) ≤ n → Grows w (call ∷ H) (transfer_events w H) n
grown_one w (At now (Hear f)) H n l = go (is_lost (address_after w (At now (Hear f) ∷ H)))
  where
    go : (b : Bool) → (D : List Event) × (heard_events b (clock_at w H now) (holder w (At now (Hear f) ∷ H)) f (transfer_events w H) ≡ D ++ transfer_events w H) × AreBy n D
    go true = (Rattle.j39_transfers.specs.Events.Loses (clock_at w H now) ∷ [], refl, (tt, tt))
    go false = (Rattle.j39_transfers.specs.Events.Hears f (clock_at w H now) ∷ Rattle.j39_transfers.specs.Events.Leaves None (holder w (At now (Hear f) ∷ H)) (clock_at w H now) ∷ [], refl, (tt, (tt, tt)))
grown_one w (At now (TakeFrame (Some f))) H n l = go (is_claim f) (is_move w H f)
  where
    go : (b m : Bool) → (D : List Event) × (taken_events b m (clock_at w H now) (holder w (At now (TakeFrame (Some f)) ∷ H)) (transfer_events w H) ≡ D ++ transfer_events w H) × AreBy n D
    go true m = (Rattle.j39_transfers.specs.Events.Leaves None (holder w (At now (TakeFrame (Some f)) ∷ H)) (clock_at w H now) ∷ [], refl, (tt, tt))
    go false true = (Rattle.j39_transfers.specs.Events.Sends (clock_at w H now) ∷ [], refl, (tt, tt))
    go false false = ([], refl, tt)
grown_one w (At now (Transfer priority group to bytes answer)) H n l = go (is_tried answer (nat_eq (length (all_transfers w H)) 18446744073709551615))
  where
    event : Event
    event = Begins (order (length (all_transfers w H)) priority group to bytes) (holder w H to) (clock_at w H now)

    go : (b : Bool) → (D : List Event) × (tried_events b event (transfer_events w H) ≡ D ++ transfer_events w H) × AreBy n D
    go true = (event ∷ [], refl, (l, tt))
    go false = ([], refl, tt)
grown_one w (TakeTransferEnded (Some x)) H n l = (Tells ∷ [], refl, (tt, tt))
grown_one w call H n l = ([], refl, tt)

older : (w : Who) (call : Call) (H : List Call) → age w H ≤ age w (call ∷ H)
older w (At now act) H = omega arith
older w call H = omega arith

grown : (w : Who) (later B : List Call) (n : ℕ) → clock (age w (later ++ B)) ≤ n → Grows w (later ++ B) (transfer_events w B) n
grown w [] B n l = ([], refl, tt)
grown w (call ∷ later) B n l =
    let m = older w call (later ++ B) in
    let a = grown_one w call (later ++ B) n l in
    let b = grown w later B n (omega (arith, l, m)) in
    (a.0 ++ b.0, a.1 ∙ (ap (λ E. a.0 ++ E) b.1 ∙ sym (append_assoc a.0 b.0 (transfer_events w B))), by_append n a.0 b.0 a.2 b.2)

-- what was told of it rests since
rests_by : (w : Who) (n group to last : ℕ) (G : List Call) (D : List Event) → RestsSince w G group to last → clock (age w G) ≤ n → AreBy n D → n < last + 4000000
    → is_resting_in to group (awake n (after 0 w.transfers (D ++ transfer_events w G))).rests ≡ true
rests_by w n group to last G D s l d e =
    let B : List Call = TakeTransferEnded (Some s.ended) ∷ s.earlier in
    let g = grown w s.later B n (subst (λ (H : List Call). clock (age w H) ≤ n) s.is l) in
    let x = s.transfer in
    let at = s.ended_at in
    ap (λ (H : List Call). is_resting_in to group (awake n (after 0 w.transfers (D ++ transfer_events w H))).rests) s.is
    ∙ (ap (λ (E : List Event). is_resting_in to group (awake n (after 0 w.transfers (D ++ E))).rests) g.1
    ∙ (ap (λ (E : List Event). is_resting_in to group (awake n (after 0 w.transfers E)).rests) (sym (append_assoc D g.0 (Tells ∷ transfer_events w s.earlier)))
    ∙ ((λ i. is_resting_in (sym s.to_it i) (sym s.of_it i) (awake n (after 0 w.transfers ((D ++ g.0) ++ Tells ∷ transfer_events w s.earlier))).rests)
    ∙ it_rests 0 w.transfers n (D ++ g.0) (transfer_events w s.earlier) x s.was_first s.rests_by_it (omega (arith, e, at)) (by_append n D g.0 d g.2))))

pub rests_so : (w : Who) (H : List Call) (now group to last : ℕ) → RestsSince w H group to last → clock_at w H now < last + 4000000 → IsTrue (is_resting w H now group to)
rests_so w H now group to last s l = rests_by w (clock_at w H now) group to last H [] s (omega arith) tt l

-- it moved since
pub rests_on : (w : Who) (H G : List Call) (now group to last a : ℕ) → RestsSince w G group to last → clock_at (moved w G a) (H ++ begun G) now < last + 4000000
    → IsTrue (is_resting (moved w G a) (H ++ begun G) now group to)
rests_on w H G now group to last a s l =
    let v = moved w G a in
    let n = clock_at v (H ++ begun G) now in
    let g = grown v H (begun G) n (omega arith) in
    let k = ages v H (begun G) in
    let m : clock (age w G) ≤ n = omega (arith, k) in
    ap (λ (E : List Event). is_resting_in to group (awake n (after 0 w.transfers E)).rests) (g.1 ∙ sym (append_assoc g.0 (Rattle.j39_transfers.specs.Events.Moves a ∷ []) (transfer_events w G)))
    ∙ rests_by w n group to last G (g.0 ++ Rattle.j39_transfers.specs.Events.Moves a ∷ []) s m (by_append n g.0 (Rattle.j39_transfers.specs.Events.Moves a ∷ []) g.2 (tt, tt)) l
  where
    ages : (v : Who) (H B : List Call) → age v B ≤ age v (H ++ B)
    ages v [] B = omega arith
    ages v (call ∷ H) B = let a = ages v H B in let b = older v call (H ++ B) in omega (arith, a, b)

-- ---- it rests only by such an end, or as it did before its history

module _ (w : Who) (n group to : ℕ) where
  abbrev Was : List Event → Type 0
  Was E = WasTold 0 w.transfers n to group E

  record First (E : List Event) : Type 0 where
    pub transfer : Running
    pub is : find is_over (after 0 w.transfers E).running ≡ Some transfer
    pub rests_by_it : rests transfer ≡ true
    pub to_it : to_whom transfer ≡ to
    pub of_it : transfer.sender.message.pgn ≡ group
    pub short : n < transfer.last + 4000000

  split : (L : List Event) → Was L → (event : Event) (F : List Event) → L ≡ event ∷ F → Was F ⊎ ((event ≡ Tells) × First F)
  split L (here x E f r t p l) event F e =
      let z : E ≡ F = cc in
      let y : event ≡ Tells = cc in
      inr (y, subst First z (record { transfer = x; is = f; rests_by_it = r; to_it = t; of_it = p; short = l }))
  split L (told_later d E h) event F e = let z : E ≡ F = cc in inl (subst Was z h)

  abbrev Either : List Call → Type 0
  Either H = ((last : ℕ) × RestsSince w H group to last × (n < last + 4000000)) ⊎ Was w.brought.events

  more : (call : Call) (H : List Call) → Either H → Either (call ∷ H)
  more call H (inl h) = let s = h.1 in inl (
    h.0,
    record {
      later = call ∷ s.later;
      earlier = s.earlier;
      ended = s.ended;
      transfer = s.transfer;
      is = ap (λ G. call ∷ G) s.is;
      was_first = s.was_first;
      rests_by_it = s.rests_by_it;
      to_it = s.to_it;
      of_it = s.of_it;
      ended_at = s.ended_at;
    },
    h.2,
  )
  more call H (inr h) = inr h

  -- one event that tells nothing
  skips : (event : Event) (F : List Event) → (event ≡ Tells → ⊥) → Was (event ∷ F) → Was F
  skips event F k h = elim (split (event ∷ F) h event F refl) [ inl z ↦ z | inr z ↦ absurd (k z.0) ]

  pub comes_from : (H : List Call) → Was (transfer_events w H) → Either H
  comes_from [] h = inr (skips (Rattle.j39_transfers.specs.Events.Moves w.address) w.brought.events (λ z. absurd (cc)) h)
  comes_from (At now (Hear f) ∷ H) h = more (At now (Hear f)) H (comes_from H (go (is_lost (address_after w (At now (Hear f) ∷ H))) h))
    where
      go : (b : Bool) → Was (heard_events b (clock_at w H now) (holder w (At now (Hear f) ∷ H)) f (transfer_events w H)) → Was (transfer_events w H)
      go true h = skips (Rattle.j39_transfers.specs.Events.Loses (clock_at w H now)) (transfer_events w H) (λ z. absurd (cc)) h
      go false h =
          skips (Rattle.j39_transfers.specs.Events.Leaves None (holder w (At now (Hear f) ∷ H)) (clock_at w H now)) (transfer_events w H) (λ z. absurd (cc))
          (skips (Rattle.j39_transfers.specs.Events.Hears f (clock_at w H now)) (Rattle.j39_transfers.specs.Events.Leaves None (holder w (At now (Hear f) ∷ H)) (clock_at w H now) ∷ transfer_events w H) (λ z. absurd (cc)) h)
  comes_from (At now (TakeFrame (Some f)) ∷ H) h = more (At now (TakeFrame (Some f))) H (comes_from H (go (is_claim f) (is_move w H f) h))
    where
      go : (b m : Bool) → Was (taken_events b m (clock_at w H now) (holder w (At now (TakeFrame (Some f)) ∷ H)) (transfer_events w H)) → Was (transfer_events w H)
      go true m h = skips (Rattle.j39_transfers.specs.Events.Leaves None (holder w (At now (TakeFrame (Some f)) ∷ H)) (clock_at w H now)) (transfer_events w H) (λ z. absurd (cc)) h
      go false true h = skips (Rattle.j39_transfers.specs.Events.Sends (clock_at w H now)) (transfer_events w H) (λ z. absurd (cc)) h
      go false false h = h
  comes_from (At now (Transfer priority group to bytes answer) ∷ H) h = more (At now (Transfer priority group to bytes answer)) H (comes_from H (go (is_tried answer (nat_eq (length (all_transfers w H)) 18446744073709551615)) h))
    where
      event : Event
      event = Begins (order (length (all_transfers w H)) priority group to bytes) (holder w H to) (clock_at w H now)

      go : (b : Bool) → Was (tried_events b event (transfer_events w H)) → Was (transfer_events w H)
      go true h = skips event (transfer_events w H) (λ z. absurd (cc)) h
      go false h = h
  comes_from (TakeTransferEnded (Some x) ∷ H) h = go (comes_from H) (split (Tells ∷ transfer_events w H) h Tells (transfer_events w H) refl)
    where
      go : (Was (transfer_events w H) → Either H) → Was (transfer_events w H) ⊎ ((Tells ≡ Tells) × First (transfer_events w H)) → Either (TakeTransferEnded (Some x) ∷ H)
      go k (inl z) = more (TakeTransferEnded (Some x)) H (k z)
      go k (inr z) = let f = z.1 in inl (
        f.transfer.last,
        record {
          later = [];
          earlier = H;
          ended = x;
          transfer = f.transfer;
          is = refl;
          was_first = f.is;
          rests_by_it = f.rests_by_it;
          to_it = f.to_it;
          of_it = f.of_it;
          ended_at = refl;
        },
        f.short,
      )
  comes_from (call ∷ H) h = more call H (comes_from H h)

pub only : (w : Who) (H : List Call) (now group to : ℕ) → IsTrue (is_resting w H now group to)
    → ((last : ℕ) × RestsSince w H group to last × (clock_at w H now < last + 4000000)) ⊎ WasTold 0 w.transfers (clock_at w H now) to group w.brought.events
only w H now group to h = comes_from w (clock_at w H now) group to H (was_told 0 w.transfers (clock_at w H now) to group (transfer_events w H) h)

-- an end by which none rests
pub leaves_rests : (w : Who) (H : List Call) (now group to : ℕ) (ended : ℕ × TransferEnding) (x : Running) → find is_over (transfers_at w H).running ≡ Some x
    → (x.sender.state ≡ Idle) ⊎ IsTrue (is_refused x) → is_resting w (TakeTransferEnded (Some ended) ∷ H) now group to ≡ is_resting w H now group to
leaves_rests w H now group to ended x o r =
    ap (λ (q : Option Running). is_resting_in to group (awake (clock_at w H now) (record (transfers_at w H) { rests = (transfers_at w H).rests ++ listed_rests (rest_by q) })).rests) o
    ∙ (ap (λ (b : Bool). is_resting_in to group (awake (clock_at w H now) (record (transfers_at w H) { rests = (transfers_at w H).rests ++ listed_rests (if b then Some (its x) else None) })).rests) (not_so x r)
    ∙ ap (λ (rs : List Rest). is_resting_in to group (awake (clock_at w H now) (record (transfers_at w H) { rests = rs })).rests) (append-nil (transfers_at w H).rests))
  where
    its : Running → Rest
    its x = record { to = to_whom x; group = x.sender.message.pgn; until = x.last + 4000000 }

    not_so : (x : Running) → (x.sender.state ≡ Idle) ⊎ IsTrue (is_refused x) → rests x ≡ false
    not_so x r = grind (arith, r)
