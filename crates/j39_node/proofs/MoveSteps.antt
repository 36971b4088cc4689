-- What a step makes of a sender of transfers.
use Rattle.j39_node.proofs.Common.{[], ◌&&◌, ◌++◌, ◌+◌, ◌<◌, ◌==◌, ◌∙◌, ◌∷◌, ◌≡◌, ◌≢◌, ◌≤◌, ◌⊎◌, Abort, aborted, Acknowledgment, ap, arith, Bool, cases_eq, cases_lt, cleared, ClearToSend, cond_both, eqb-false, eqb-true, Failed, false, FrameRecord, Idle, inl, inr, is_running, is_waiting, IsAmong, length, List, max, may_name, Message, move, nat_lt, None, Option, Packet, packet_data, packet_move, packets_of, refl, request_of, said_between, says, send_step, SenderRecord, Sending, SendResult, sends_packet, SendState, Signal, Some, sym, ticks_in, timeout, true, Waiting, ℕ, leb-true, waits, granted_by, min, timer_t4, ◌-◌, if◌then◌else◌}
use Rattle.j39_transport.specs.Sending.{Done, Heard, Tick, acknowledged, hears}
use Rattle.j39_node.proofs.QueueLemmas.{get_last}
use Rattle.j39_node.proofs.WithdrawLemmas.{get_front}

-- ---- when it is done

pub record Acks (s : SenderRecord) (o : Option Signal) : Type 0 where
  pub says : o ≡ Some (Acknowledgment (length s.message.bytes) (packets_of s.message) s.message.pgn)
  pub last : s.highest ≡ packets_of s.message

-- a clear to send may name packets from next to last
pub record Names (s : SenderRecord) (next last : ℕ) : Type 0 where
  pub some : 1 ≤ next
  pub order : next ≤ last
  pub most : last ≤ packets_of s.message
  pub known : next ≤ s.highest + 1

-- what it is granted by a signal, and what becomes of it: nothing changes, it is acknowledged, aborted, held, or cleared
pub data HeardCase (s : SenderRecord) (a : Option Signal) (now : ℕ) : Option ℕ → SenderRecord → Type 0 where
  same : HeardCase s a now None s
  done : is_waiting s.state ≡ true → Acks s a → HeardCase s a now None (record s { state = Done })
  fails : (reason : ℕ) → is_running s.state ≡ true → a ≡ Some (Abort reason s.message.pgn) → HeardCase s a now None (record s { state = Failed reason })
  holds : (limit : ℕ) → s.state ≡ Waiting limit → HeardCase s a now (Some 0) (waits timer_t4 now s)
  clears : (limit next last : ℕ) → s.state ≡ Waiting limit → Names s next last → HeardCase s a now (Some last) (record s { state = Sending next last })

waiting_is : (u : SendState) → is_waiting u ≡ true → (limit : ℕ) × (u ≡ Waiting limit)
waiting_is (Waiting limit) e = (limit, refl)
waiting_is other e = absurd (let z : false ≡ true = e in cc)

pub heard_case : (s : SenderRecord) (a : Option Signal) (now : ℕ) → HeardCase s a now (granted_by s a) (hears a now s)
unfolding hears cleared acknowledged aborted
heard_case s (Some (ClearToSend count p pgn)) now = go (pgn == s.message.pgn) (is_waiting s.state) (count == 0) (may_name s p) refl refl refl
  where
    last : ℕ
    last = min (p + count - 1) (packets_of s.message)

    named : (count == 0) ≡ false → may_name s p ≡ true → Names s p last
    named z e =
        let a = leb-true 1 p (grind (arith, e)) in
        let b = leb-true p (packets_of s.message) (grind (arith, e)) in
        let d = eqb-false count 0 z in
        record { some = a; order = omega (arith, b, d); most = omega arith; known = leb-true p (s.highest + 1) (grind (arith, e)) }

    go : (a w z n : Bool) → is_waiting s.state ≡ w → (count == 0) ≡ z → may_name s p ≡ n
        → HeardCase s (Some (ClearToSend count p pgn)) now (if w && a then (if z then Some 0 else if n then Some last else None) else None)
        (if a then (if w then (if z then waits timer_t4 now s else if n then record s { state = Sending p last } else s) else s) else s)
    go true true true n e i k = let x = waiting_is s.state e in holds x.0 x.1
    go true true false true e i k = let x = waiting_is s.state e in clears x.0 p last x.1 (named i k)
    go true true false false e i k = same
    go true false z n e i k = same
    go false true z n e i k = same
    go false false z n e i k = same
heard_case s (Some (Acknowledgment size packets pgn)) now = cond_both (pgn == s.message.pgn) _ _ (HeardCase s (Some (Acknowledgment size packets pgn)) now None)
    (λ t. cond_both (is_waiting s.state && size == length s.message.bytes && packets == packets_of s.message && s.highest == packets_of s.message) _ _
    (HeardCase s (Some (Acknowledgment size packets pgn)) now None)
    (λ u. done (grind (arith, u)) (record {
      says = λ i. Some (Acknowledgment (eqb-true size (length s.message.bytes) (grind (arith, u)) i) (eqb-true packets (packets_of s.message) (grind (arith, u)) i) (eqb-true pgn s.message.pgn t i));
      last = eqb-true s.highest (packets_of s.message) (grind (arith, u));
    })) (λ u. same)) (λ t. same)
heard_case s (Some (Abort reason pgn)) now = cond_both (pgn == s.message.pgn) _ _ (HeardCase s (Some (Abort reason pgn)) now None)
    (λ t. cond_both (is_running s.state) _ _ (HeardCase s (Some (Abort reason pgn)) now None)
    (λ u. fails reason u (λ i. Some (Abort reason (eqb-true pgn s.message.pgn t i)))) (λ u. same)) (λ t. same)
heard_case s other now = same

pub done_heard : (s : SenderRecord) (f : FrameRecord) (now : ℕ) → (send_step s (Heard f) now).after.state ≡ Done
    → (s.state ≡ Done) ⊎ Acks s (said_between s.destination s.message.source f)
unfolding send_step
done_heard s f now = go _ _ (heard_case s (said_between s.destination s.message.source f) now)
  where
    go : (o : Option ℕ) (r : SenderRecord) → HeardCase s (said_between s.destination s.message.source f) now o r → r.state ≡ Done
        → (s.state ≡ Done) ⊎ Acks s (said_between s.destination s.message.source f)
    go o r same e = inl e
    go o r (done w x) e = inr x
    go o r other e = absurd (cc)

pub done_ticked : (s : SenderRecord) (now : ℕ) → (send_step s Tick now).after.state ≡ Done → s.state ≡ Done
unfolding send_step ticks_in sends_packet
done_ticked s now e = grind (arith, e)

pub done_given_up : (s : SenderRecord) (reason : ℕ) → (aborted reason s).state ≡ Done → s.state ≡ Done
unfolding aborted
done_given_up s reason = cond_both (is_running s.state) _ _ (λ (r : SenderRecord). r.state ≡ Done → s.state ≡ Done) (λ t e. absurd (cc)) (λ t e. e)

-- ---- when it failed

pub failed_heard : (s : SenderRecord) (f : FrameRecord) (now reason : ℕ) → (send_step s (Heard f) now).after.state ≡ Failed reason
    → (s.state ≡ Failed reason) ⊎ (said_between s.destination s.message.source f ≡ Some (Abort reason s.message.pgn))
unfolding send_step
failed_heard s f now reason = go _ _ (heard_case s (said_between s.destination s.message.source f) now)
  where
    go : (o : Option ℕ) (r : SenderRecord) → HeardCase s (said_between s.destination s.message.source f) now o r → r.state ≡ Failed reason
        → (s.state ≡ Failed reason) ⊎ (said_between s.destination s.message.source f ≡ Some (Abort reason s.message.pgn))
    go o r same e = inl e
    go o r (fails given w i) e = let z : given ≡ reason = cc in inr (i ∙ ap (λ (n : ℕ). Some (Abort n s.message.pgn)) z)
    go o r other e = absurd (cc)

pub failed_ticked : (s : SenderRecord) (now reason : ℕ) → (send_step s Tick now).after.state ≡ Failed reason
    → (s.state ≡ Failed reason) ⊎ ((send_step s Tick now).says ≡ Some (Abort reason s.message.pgn))
unfolding send_step ticks_in sends_packet
failed_ticked s now reason = go s.state
  where
    go : (u : SendState) → (ticks_in u now s).after.state ≡ Failed reason
        → (s.state ≡ Failed reason) ⊎ ((ticks_in u now s).says ≡ Some (Abort reason s.message.pgn))
    go Idle = λ e. absurd (cc)
    go (Waiting limit) = cond_both (nat_lt (s.since + limit) now) _ _
        (λ (r : SendResult). r.after.state ≡ Failed reason → (s.state ≡ Failed reason) ⊎ (r.says ≡ Some (Abort reason s.message.pgn)))
        (λ t e. (let z : timeout ≡ reason = cc in inr (λ i. Some (Abort (z i) s.message.pgn)))) (λ t e. inl e)
    go (Sending next last) = λ e. absurd (cond_both (next == last) (Waiting 1250000) (Sending (next + 1) last) (λ (x : SendState). x ≡ Failed reason → ⊥) (λ t k. absurd (cc)) (λ t k. absurd (cc)) e)
    go u = λ e. inl e

pub failed_given_up : (s : SenderRecord) (given reason : ℕ) → (aborted given s).state ≡ Failed reason → (s.state ≡ Failed reason) ⊎ (given ≡ reason)
unfolding aborted
failed_given_up s given reason = cond_both (is_running s.state) _ _ (λ (r : SenderRecord). r.state ≡ Failed reason → (s.state ≡ Failed reason) ⊎ (given ≡ reason))
    (λ t e. (let z : given ≡ reason = cc in inr z)) (λ t e. inl e)

-- ---- what was taken of it

abbrev pub StateFits : ℕ → ℕ → List Message → SendState → Type 0
StateFits n h xs Idle = xs ≡ []
StateFits n h xs (Sending next last) = (xs ≢ []) × (1 ≤ next) × (next ≤ last) × (last ≤ n) × (next ≤ h + 1)
StateFits n h xs u = xs ≢ []

-- its packets up to the highest were taken
pub record Moved (s : SenderRecord) (xs : List Message) : Type 0 where
  pub state : StateFits (packets_of s.message) s.highest xs s.state
  pub taken : (i : ℕ) → 1 ≤ i → i ≤ s.highest → IsAmong xs (packet_move s.destination s.message i)

pub running_some : (n h : ℕ) (xs : List Message) (u : SendState) → StateFits n h xs u → is_running u ≡ true → xs ≢ []
running_some n h xs u e f = grind (arith, f)

waits_runs : (u : SendState) → is_waiting u ≡ true → is_running u ≡ true
waits_runs u e = ap is_running (waiting_is u e).1

pub moved_heard : (s : SenderRecord) (f : FrameRecord) (now : ℕ) (xs : List Message) → Moved s xs → Moved (send_step s (Heard f) now).after xs
unfolding send_step
moved_heard s f now xs h = go _ _ (heard_case s (said_between s.destination s.message.source f) now)
  where
    go : (o : Option ℕ) (r : SenderRecord) → HeardCase s (said_between s.destination s.message.source f) now o r → Moved r xs
    go o r same = h
    go o r (done w x) = record { state = running_some _ _ xs s.state h.state (waits_runs s.state w); taken = h.taken }
    go o r (fails reason w i) = record { state = running_some _ _ xs s.state h.state w; taken = h.taken }
    go o r (holds limit i) = record { state = running_some _ _ xs s.state h.state (ap is_running i); taken = h.taken }
    go o r (clears limit next last i n) = record {
      state = (running_some _ _ xs s.state h.state (ap is_running i), n.some, n.order, n.most, n.known);
      taken = h.taken;
    }

some_more : (xs : List Message) (x : Message) → xs ++ x ∷ [] ≢ []
some_more [] x e = absurd (cc)
some_more (y ∷ xs) x e = absurd (cc)

keeps_among : (xs : List Message) (y x : Message) → IsAmong xs x → IsAmong (xs ++ y ∷ []) x
keeps_among xs y x (k, e) = (k, get_front xs (y ∷ []) k x e)

-- one more frame of it was taken
pub moved_ticked : (s : SenderRecord) (now : ℕ) (xs : List Message) (a : Signal) → Moved s xs → (send_step s Tick now).says ≡ Some a
    → Moved (send_step s Tick now).after (xs ++ says s a ∷ [])
unfolding send_step ticks_in sends_packet
moved_ticked s now xs a h = go s.state h.state
  where
    kept : (i : ℕ) → 1 ≤ i → i ≤ s.highest → IsAmong (xs ++ says s a ∷ []) (packet_move s.destination s.message i)
    kept i l m = keeps_among xs (says s a) (packet_move s.destination s.message i) (h.taken i l m)

    packet : (next : ℕ) → next ≤ s.highest + 1 → Packet next (packet_data s.message.bytes next) ≡ a → (i : ℕ) → 1 ≤ i → i ≤ max s.highest next
        → IsAmong (xs ++ says s a ∷ []) (packet_move s.destination s.message i)
    packet next b e i l m = elim (cases_lt i (s.highest + 1)) [
      | inl w ↦ kept i l (omega (arith, w))
      | inr w ↦
          let z : next ≡ i = omega (arith, b, l, m, w) in
          (length xs, get_last xs (says s a) ∙ (ap (λ (y : Signal). Some (move s.destination s.message y)) (sym e) ∙ ap (λ (k : ℕ). Some (packet_move s.destination s.message k)) z))
    ]

    less : (k n : ℕ) → k ≤ n → k ≢ n → k + 1 ≤ n
    less k n l d = elim (cases_eq k n) [ inl w ↦ absurd (d w) | inr w ↦ (let v : k < n = grind (arith, l, w) in omega (arith, v)) ]

    go : (u : SendState) → StateFits (packets_of s.message) s.highest xs u → (ticks_in u now s).says ≡ Some a → Moved (ticks_in u now s).after (xs ++ says s a ∷ [])
    go Idle f = λ e. record { state = some_more xs (says s a); taken = kept }
    go (Waiting limit) f = cond_both (nat_lt (s.since + limit) now) _ _ (λ (r : SendResult). r.says ≡ Some a → Moved r.after (xs ++ says s a ∷ []))
        (λ t e. record { state = some_more xs (says s a); taken = kept }) (λ t e. absurd (cc))
    go (Sending next last) f = λ e. record {
      state = cond_both (next == last) (Waiting 1250000) (Sending (next + 1) last) (StateFits (packets_of s.message) (max s.highest next) (xs ++ says s a ∷ []))
          (λ t. some_more xs (says s a))
          (λ t. (let k = f.2 in let n = eqb-false next last t in let b = f.3 in (some_more xs (says s a), omega arith, less next last k n, b, omega arith)));
      taken = packet next f.4 (let z : Packet next (packet_data s.message.bytes next) ≡ a = cc in z);
    }
    go u f = λ e. absurd (cc)

pub moved_given_up : (s : SenderRecord) (reason : ℕ) (xs : List Message) (x : Message) → is_running s.state ≡ true → Moved s xs
    → Moved (aborted reason s) (xs ++ x ∷ [])
unfolding aborted
moved_given_up s reason xs x r h = cond_both (is_running s.state) _ _ (λ r. Moved r (xs ++ x ∷ []))
    (λ t. record { state = some_more xs x; taken = λ i l m. keeps_among xs x _ (h.taken i l m) })
    (λ t. absurd (let z : true ≡ false = sym r ∙ t in cc))

-- ---- which frame it sends

pub data SignalCase (s : SenderRecord) (xs : List Message) (a : Signal) : Type 0 where
  requests : xs ≡ [] → a ≡ request_of s.message → SignalCase s xs a
  packs : (i : ℕ) → xs ≢ [] → 1 ≤ i → i ≤ packets_of s.message → a ≡ Packet i (packet_data s.message.bytes i) → SignalCase s xs a
  times_out : xs ≢ [] → a ≡ Abort 3 s.message.pgn → SignalCase s xs a

pub signal_case : (s : SenderRecord) (now : ℕ) (xs : List Message) (a : Signal) → Moved s xs → (send_step s Tick now).says ≡ Some a → SignalCase s xs a
unfolding send_step ticks_in sends_packet
signal_case s now xs a h = go s.state h.state
  where
    go : (u : SendState) → StateFits (packets_of s.message) s.highest xs u → (ticks_in u now s).says ≡ Some a → SignalCase s xs a
    go Idle f = λ e. requests f (let z : request_of s.message ≡ a = cc in sym z)
    go (Waiting limit) f = cond_both (nat_lt (s.since + limit) now) _ _ (λ (r : SendResult). r.says ≡ Some a → SignalCase s xs a)
        (λ t e. times_out f (let z : Abort timeout s.message.pgn ≡ a = cc in sym z)) (λ t e. absurd (cc))
    go (Sending next last) f = λ e.
        let b = f.2 in let d = f.3 in
        packs next f.0 f.1 (omega (arith, b, d)) (let z : Packet next (packet_data s.message.bytes next) ≡ a = cc in sym z)
    go u f = λ e. absurd (cc)
