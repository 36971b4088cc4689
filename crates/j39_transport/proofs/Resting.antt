-- What hears nothing more comes to rest, after three ticks that are far apart: law `rests`.
use Rattle.std.proofs.Common.{◌≡◌, ℕ, ◌+◌, ◌-◌, ◌<◌, ◌≤◌, ◌==◌, nat_lt, min, Bool, true, false, ◌&&◌, cond, List, [], ◌∷◌, length, Option, Some, None, refl, sym, ap, ◌∙◌, subst, inl, inr, arith, ne_eqb, eqb-true, leb-true}
use Rattle.std.specs.Prelude.{IsSome, is_some}
use Rattle.std.proofs.lemmas.Bool.{cond_both, cases_Bool, and_parts, eqb-false, ltb-false}
use Rattle.j39_frame.specs.Frame.{FrameRecord}
use Rattle.j39_transport.specs.Cutting.{at_moment}
use Rattle.j39_transport.specs.Key.{Key, sender, Directed}
use Rattle.j39_transport.specs.Liveness.{AreFar, has_sent, ticked_sender, has_received, ticked_receiver, time_of, SenderRestsLaw, ReceiverRestsLaw, SenderLastsLaw, ReceiverLastsLaw}
use Rattle.j39_transport.specs.Message.{MessageRecord, IsLong, packets_of}
use Rattle.j39_transport.specs.Net.{is_over}
use Rattle.j39_transport.specs.Receiving.{ReceiverRecord, RecvEvent, RecvResult, said_to, recv_step, new_receiver}
use Rattle.j39_transport.specs.Receiving as receiving
use Rattle.j39_transport.specs.Reception.{ReceptionRecord, Reaction, quiet, answers, granted_at, grants, asks_again, begun, delivers_message, goes_on, takes_packet, is_from, is_taken, takes_request, takes_data, takes_abort, takes_signal, limit_of, takes_tick}
use Rattle.j39_transport.specs.Sending.{SenderRecord, SendEvent, SendState, SendResult, Idle, Waiting, Sending, Done, Failed, Tick, Heard, waits, sends_packet, ticks_in, is_waiting, is_running, may_name, cleared, acknowledged, aborted, hears, send_step, new_sender}
use Rattle.j39_transport.specs.Protocol.{timer_t3}
use Rattle.j39_transport.specs.Session.{SessionRecord, opened, grown}
use Rattle.j39_transport.specs.SenderModel.{IsState}
use Rattle.j39_transport.specs.Signals.{Signal, BroadcastAnnounce, RequestToSend, ClearToSend, Acknowledgment, Abort, Packet, said_between, written}
use Rattle.j39_transport.proofs.Finishing.{cts_heard}
use Rattle.j39_transport.proofs.SenderLemmas.{pgn_fits}
use Rattle.j39_transport.proofs.SignalLemmas.{heard_by_sender, heard_by_receiver}

-- ---- a sender's state is of its message, whatever happens

pub record IsSound (m : MessageRecord) (s : SenderRecord) : Type 0 where
  pub message_is : s.message ≡ m
  pub state_is : IsState (packets_of m) s.state

-- how many ticks are left at most
left : SendState → ℕ
left Idle = 2
left (Waiting limit) = 1
left (Sending next last) = last + 2 - next
left Done = 0
left (Failed reason) = 0

record Falls (m : MessageRecord) (now before : ℕ) (r : SenderRecord) : Type 0 where
  sound : IsSound m r
  since_is : r.since ≤ now
  falls : left r.state ≤ before - 1

packet_falls : (m : MessageRecord) (s : SenderRecord) (next last now : ℕ) → s.message ≡ m → IsState (packets_of m) (Sending next last) → s.since ≤ now
    → Falls m now (left (Sending next last)) (sends_packet next last now s).after
unfolding sends_packet left
packet_falls m s next last now e h b = record {
  sound = record {
    message_is = e;
    state_is = cond_both (next == last) (Waiting timer_t3) (Sending (next + 1) last) (IsState (packets_of m))
        (λ t. omega arith)
        (λ t. (omega arith, let n = eqb-false next last t in let l : next ≤ last = h.1 in omega arith, h.2));
  };
  since_is = cond_both (next == last) now s.since (λ (v : ℕ). v ≤ now) (λ t. omega arith) (λ t. b);
  falls = cond_both (next == last) (Waiting timer_t3) (Sending (next + 1) last) (λ (t : SendState). left t ≤ last + 2 - next - 1)
      (λ t. let k : next ≡ last = eqb-true _ _ t in omega arith) (λ t. omega arith);
}

tick_falls : (m : MessageRecord) (s : SenderRecord) (st : SendState) (moment now : ℕ) → s.message ≡ m → s.state ≡ st → IsState (packets_of m) st → s.since ≤ moment → moment + 1250000 < now
    → Falls m now (left st) (ticks_in st now s).after
unfolding ticks_in left
tick_falls m s Idle moment now e k h b f = record { sound = record { message_is = e; state_is = omega arith }; since_is = omega arith; falls = omega arith }
tick_falls m s (Waiting limit) moment now e k h b f = cond_both (nat_lt (s.since + limit) now) _ _ (λ (r : SendResult). Falls m now 1 r.after)
    (λ t. record { sound = record { message_is = e; state_is = tt }; since_is = omega arith; falls = omega arith })
    (λ t. absurd (let l : now ≤ s.since + limit = ltb-false _ _ t in omega arith))
tick_falls m s (Sending next last) moment now e k h b f = packet_falls m s next last now e h (omega arith)
tick_falls m s Done moment now e k h b f =
    record { sound = record { message_is = e; state_is = subst (IsState (packets_of m)) (sym k) tt }; since_is = omega arith; falls = subst (λ (t : SendState). left t ≤ 0) (sym k) (omega arith) }
tick_falls m s (Failed reason) moment now e k h b f =
    record { sound = record { message_is = e; state_is = subst (IsState (packets_of m)) (sym k) tt }; since_is = omega arith; falls = subst (λ (t : SendState). left t ≤ 0) (sym k) (omega arith) }

-- nothing is left
is_at_rest : (p : ℕ) (st : SendState) → IsState p st → left st ≤ 0 → is_over st ≡ true
unfolding left
is_at_rest p Idle h l = absurd (omega arith)
is_at_rest p (Waiting limit) h l = absurd (omega arith)
is_at_rest p (Sending next last) h l = absurd (let n : next ≤ last = h.1 in omega arith)
is_at_rest p Done h l = refl
is_at_rest p (Failed reason) h l = refl

few_left : (p : ℕ) (st : SendState) → 2 ≤ p → IsState p st → left st ≤ p + 1
unfolding left
few_left p Idle b h = omega arith
few_left p (Waiting limit) b h = omega arith
few_left p (Sending next last) b h = let n : 1 ≤ next = h.0 in let l : last ≤ p = h.2 in omega arith
few_left p Done b h = omega arith
few_left p (Failed reason) b h = omega arith

sender_rests : (m : MessageRecord) (moments : List ℕ) (moment : ℕ) (s : SenderRecord) → IsSound m s → s.since ≤ moment → AreFar moment moments → left s.state ≤ length moments
    → is_over (ticked_sender moments s).state ≡ true
unfolding has_sent send_step
sender_rests m [] moment s h b f l = is_at_rest (packets_of m) s.state h.state_is (omega arith)
sender_rests m (now ∷ moments) moment s h b f l =
    let c : Falls m now (left s.state) (ticks_in s.state now s).after = tick_falls m s s.state moment now h.message_is refl h.state_is b f.0 in
    let d : left (ticks_in s.state now s).after.state ≤ left s.state - 1 = c.falls in
    sender_rests m moments now (ticks_in s.state now s).after c.sound c.since_is f.1 (omega arith)

-- ---- every step keeps it

pub tick_sound : (m : MessageRecord) (s : SenderRecord) (st : SendState) (now : ℕ) → s.message ≡ m → s.state ≡ st → IsState (packets_of m) st → IsSound m (ticks_in st now s).after
unfolding ticks_in sends_packet
tick_sound m s Idle now e k h = record { message_is = e; state_is = omega arith }
tick_sound m s (Waiting limit) now e k h = cond_both (nat_lt (s.since + limit) now) _ _ (λ (r : SendResult). IsSound m r.after)
    (λ t. record { message_is = e; state_is = tt }) (λ t. record { message_is = e; state_is = subst (IsState (packets_of m)) (sym k) h })
tick_sound m s (Sending next last) now e k h = record {
  message_is = e;
  state_is = cond_both (next == last) (Waiting timer_t3) (Sending (next + 1) last) (IsState (packets_of m))
      (λ t. omega arith)
      (λ t. (omega arith, let n = eqb-false next last t in let l : next ≤ last = h.1 in omega arith, h.2));
}
tick_sound m s Done now e k h = record { message_is = e; state_is = subst (IsState (packets_of m)) (sym k) h }
tick_sound m s (Failed reason) now e k h = record { message_is = e; state_is = subst (IsState (packets_of m)) (sym k) h }

named_sound : (m : MessageRecord) (s : SenderRecord) (count p : ℕ) → s.message ≡ m → may_name s p ≡ true → (count == 0) ≡ false → IsState (packets_of m) (Sending p (min (p + count - 1) (packets_of s.message)))
named_sound m s count p e n z =
    let a = and_parts _ _ (and_parts _ _ n).0 in
    let b : 1 ≤ p = leb-true _ _ a.0 in
    let c : p ≤ packets_of s.message = leb-true _ _ a.1 in
    let d : packets_of s.message ≡ packets_of m = ap packets_of e in
    let z1 = eqb-false count 0 z in
    (b, omega arith, omega arith)

cleared_sound : (m : MessageRecord) (s : SenderRecord) (count p now : ℕ) → IsSound m s → IsSound m (cleared count p now s)
unfolding cleared
cleared_sound m s count p now h = cond_both (is_waiting s.state) _ _ (IsSound m)
    (λ t. cond_both (count == 0) _ _ (IsSound m)
    (λ u. record { message_is = h.message_is; state_is = omega arith })
    (λ u. cond_both (may_name s p) _ _ (IsSound m)
    (λ v. record { message_is = h.message_is; state_is = named_sound m s count p h.message_is v u })
    (λ v. h)))
    (λ t. h)

heard_sound : (m : MessageRecord) (s : SenderRecord) (a : Option Signal) (now : ℕ) → IsSound m s → IsSound m (hears a now s)
unfolding hears acknowledged aborted
heard_sound m s None now h = h
heard_sound m s (Some (BroadcastAnnounce size packets pgn)) now h = h
heard_sound m s (Some (RequestToSend size packets most pgn)) now h = h
heard_sound m s (Some (Packet k part)) now h = h
heard_sound m s (Some (ClearToSend count p pgn)) now h = cond_both (pgn == s.message.pgn) _ _ (IsSound m) (λ t. cleared_sound m s count p now h) (λ t. h)
heard_sound m s (Some (Acknowledgment size packets pgn)) now h = cond_both (pgn == s.message.pgn) _ _ (IsSound m)
    (λ t. cond_both (is_waiting s.state && size == length s.message.bytes && packets == packets_of s.message && s.highest == packets_of s.message) _ _ (IsSound m)
    (λ u. record { message_is = h.message_is; state_is = tt }) (λ u. h))
    (λ t. h)
heard_sound m s (Some (Abort reason pgn)) now h = cond_both (pgn == s.message.pgn) _ _ (IsSound m)
    (λ t. cond_both (is_running s.state) _ _ (IsSound m) (λ u. record { message_is = h.message_is; state_is = tt }) (λ u. h))
    (λ t. h)

step_sound : (m : MessageRecord) (s : SenderRecord) (e : SendEvent) (now : ℕ) → IsSound m s → IsSound m (send_step s e now).after
unfolding send_step
step_sound m s Tick now h = tick_sound m s s.state now h.message_is refl h.state_is
step_sound m s (Heard f) now h = heard_sound m s (said_between s.destination s.message.source f) now h

pub all_sound : (m : MessageRecord) (es : List (SendEvent × ℕ)) (s : SenderRecord) → IsSound m s → IsSound m (has_sent es s)
unfolding has_sent
all_sound m [] s h = h
all_sound m (e ∷ es) s h = all_sound m es (send_step s e.0 e.1).after (step_sound m s e.0 e.1 h)

pub new_sound : (m : MessageRecord) (to : ℕ) → IsSound m (new_sender m to)
unfolding new_sender
new_sound m to = record { message_is = refl; state_is = tt }

pub sender_at_rest : SenderRestsLaw
sender_at_rest m to l es moments f n =
    let s : SenderRecord = has_sent es (new_sender m to) in
    let h : IsSound m s = all_sound m es (new_sender m to) (new_sound m to) in
    let b : 9 ≤ length m.bytes = l.least in
    let c : left s.state ≤ packets_of m + 1 = few_left (packets_of m) s.state (omega arith) h.state_is in
    sender_rests m moments s.since s h (omega arith) f (omega arith)

-- ---- a receiver asks at most twice

abbrev pub AsksFew : Option ReceptionRecord → Type 0
AsksFew None = Unit {0}
AsksFew (Some r) = r.asks ≤ 2

abbrev FewIn : Reaction → Type 0
FewIn x = AsksFew x.session

few_grants : (now : ℕ) (r : ReceptionRecord) → r.asks ≤ 2 → FewIn (grants now r)
unfolding grants granted_at
few_grants now r h = h

few_asks : (now : ℕ) (r : ReceptionRecord) → r.asks ≤ 2 → FewIn (asks_again now r)
unfolding asks_again
few_asks now r h = cond_both (r.asks == 2) _ _ FewIn (λ t. tt) (λ t. few_grants now (record r { asks = r.asks + 1 }) (let n = eqb-false r.asks 2 t in omega arith))

few_goes_on : (now : ℕ) (r : ReceptionRecord) → r.asks ≤ 2 → FewIn (goes_on now r)
unfolding goes_on delivers_message
few_goes_on now r h = cond_both (r.message.count == r.message.packets) _ _ FewIn (λ t. tt)
    (λ t. cond_both (r.message.count == r.granted) _ _ FewIn (λ u. few_grants now r h) (λ u. h))

few_packet : (number : ℕ) (part : List ℕ) (now : ℕ) (r : ReceptionRecord) → r.asks ≤ 2 → FewIn (takes_packet number part now r)
unfolding takes_packet
few_packet number part now r h = cond_both (number == r.message.count + 1) _ _ FewIn
    (λ t. few_goes_on now (record r { message = grown now part r.message; fresh = false }) h)
    (λ t. cond_both (number == r.granted) _ _ FewIn (λ u. few_asks now r h) (λ u. h))

few_request : (x : SessionRecord) (most now : ℕ) (found : Bool) (o : Option ReceptionRecord) → AsksFew o → FewIn (takes_request x most now found o)
unfolding takes_request begun
few_request x most now found o h = cond_both (is_taken x.source o) _ _ FewIn (λ t. h)
    (λ t. cond_both found _ _ FewIn (λ u. few_grants now (begun x most) (omega arith)) (λ u. h))

few_signal : (k : Key) (a : Option Signal) (now : ℕ) (found : Bool) (o : Option ReceptionRecord) → AsksFew o → FewIn (takes_signal k a now found o)
unfolding takes_signal takes_data takes_abort
few_signal k None now found o h = h
few_signal k (Some (BroadcastAnnounce size packets pgn)) now found o h = h
few_signal k (Some (RequestToSend size packets most pgn)) now found o h = few_request (opened k pgn size packets now) most now found o h
few_signal k (Some (ClearToSend count next pgn)) now found o h = h
few_signal k (Some (Acknowledgment size packets pgn)) now found o h = h
few_signal k (Some (Abort reason pgn)) now found None h = h
few_signal k (Some (Abort reason pgn)) now found (Some r) h = cond_both (is_from (sender k) r && pgn == r.message.group) _ _ FewIn (λ t. tt) (λ t. h)
few_signal k (Some (Packet number part)) now found None h = h
few_signal k (Some (Packet number part)) now found (Some r) h = cond_both (is_from (sender k) r) _ _ FewIn (λ t. few_packet number part now r h) (λ t. h)

few_tick : (now : ℕ) (o : Option ReceptionRecord) → AsksFew o → FewIn (takes_tick now o)
unfolding takes_tick
few_tick now None h = h
few_tick now (Some r) h = cond_both (nat_lt (r.message.last + limit_of r) now) _ _ FewIn (λ t. few_asks now r h) (λ t. h)

few_step : (r : ReceiverRecord) (e : RecvEvent) (now : ℕ) (found : Bool) → AsksFew r.session → AsksFew (recv_step r e now found).after.session
unfolding recv_step
few_step r receiving.Tick now found h = few_tick now r.session h
few_step r (receiving.Heard f) now found h = few_signal _ (said_to r.own f) now found r.session h

pub all_few : (es : List (RecvEvent × ℕ × Bool)) (r : ReceiverRecord) → AsksFew r.session → AsksFew (has_received es r).session
unfolding has_received
all_few [] r h = h
all_few (e ∷ es) r h = all_few es (recv_step r e.0 e.1 e.2).after (few_step r e.0 e.1 e.2 h)

-- how often it is still ticked until it gives up
ticks_left : Option ReceptionRecord → ℕ
ticks_left None = 0
ticks_left (Some r) = 3 - r.asks

record Nears (now before : ℕ) (o : Option ReceptionRecord) : Type 0 where
  few : AsksFew o
  time_is : time_of o ≤ now
  nears : ticks_left o ≤ before - 1

pub limit_most : (r : ReceptionRecord) → limit_of r ≤ 1250000
limit_most r = cond_both r.fresh _ _ (λ (n : ℕ). n ≤ 1250000) (λ t. omega arith) (λ t. omega arith)

asks_nears : (now : ℕ) (r : ReceptionRecord) → r.asks ≤ 2 → Nears now (3 - r.asks) (asks_again now r).session
unfolding asks_again grants granted_at ticks_left
asks_nears now r h = cond_both (r.asks == 2) _ _ (λ (x : Reaction). Nears now (3 - r.asks) x.session)
    (λ t. record { few = tt; time_is = omega arith; nears = omega arith })
    (λ t. let n = eqb-false r.asks 2 t in record { few = omega arith; time_is = omega arith; nears = omega arith })

tick_nears : (o : Option ReceptionRecord) (moment now : ℕ) → AsksFew o → time_of o ≤ moment → moment + 1250000 < now → Nears now (ticks_left o) (takes_tick now o).session
unfolding takes_tick ticks_left
tick_nears None moment now h b f = record { few = tt; time_is = omega arith; nears = omega arith }
tick_nears (Some r) moment now h b f = cond_both (nat_lt (r.message.last + limit_of r) now) _ _ (λ (x : Reaction). Nears now (3 - r.asks) x.session)
    (λ t. asks_nears now r h)
    (λ t. absurd (let n : limit_of r ≤ 1250000 = limit_most r in let l : now ≤ r.message.last + limit_of r = ltb-false _ _ t in omega arith))

none_left : (o : Option ReceptionRecord) → AsksFew o → ticks_left o ≤ 0 → o ≡ None
unfolding ticks_left
none_left None h l = refl
none_left (Some r) h l = absurd (omega arith)

three_left : (o : Option ReceptionRecord) → ticks_left o ≤ 3
unfolding ticks_left
three_left None = omega arith
three_left (Some r) = omega arith

receiver_rests : (moments : List ℕ) (moment : ℕ) (r : ReceiverRecord) → AsksFew r.session → time_of r.session ≤ moment → AreFar moment moments → ticks_left r.session ≤ length moments
    → (ticked_receiver moments r).session ≡ None
unfolding has_received recv_step
receiver_rests [] moment r h b f l = none_left r.session h (omega arith)
receiver_rests (now ∷ moments) moment r h b f l =
    let c : Nears now (ticks_left r.session) (takes_tick now r.session).session = tick_nears r.session moment now h b f.0 in
    let d : ticks_left (takes_tick now r.session).session ≤ ticks_left r.session - 1 = c.nears in
    receiver_rests moments now (recv_step r receiving.Tick now true).after c.few c.time_is f.1 (omega arith)

pub receiver_at_rest : ReceiverRestsLaw
receiver_at_rest own es moments f n =
    let r : ReceiverRecord = has_received es (new_receiver own) in
    let l : ticks_left r.session ≤ 3 = three_left r.session in
    receiver_rests moments (time_of r.session) r (all_few es (new_receiver own) tt) (omega arith) f (omega arith)

-- ---- neither number is too large

-- while packets are left, and then it waits
lasts : (moments : List ℕ) (s : SenderRecord) (next last : ℕ) → s.state ≡ Sending next last → next + length moments ≡ last + 1
    → is_over (ticked_sender moments s).state ≡ false
unfolding has_sent send_step ticks_in sends_packet
lasts [] s next last e n = ap is_over e
lasts (now ∷ []) s next last e n =
    subst (λ (st : SendState). is_over (ticks_in st now s).after.state ≡ false) (sym e)
    (cond_both (next == last) (Waiting timer_t3) (Sending (next + 1) last) (λ (st : SendState). is_over st ≡ false) (λ t. refl) (λ t. refl))
lasts (now ∷ later ∷ moments) s next last e n =
    lasts (later ∷ moments) (ticks_in s.state now s).after (next + 1) last
    (ap (λ (st : SendState). (ticks_in st now s).after.state) e
    ∙ ap (λ (b : Bool). cond b (Waiting timer_t3) (Sending (next + 1) last)) (ne_eqb next last (λ k. absurd (omega arith)))) (omega arith)

-- its RTS was answered by a CTS of all packets
all_granted : (m : MessageRecord) (to : ℕ) → IsLong m → to < 254
    → (has_sent ((Tick, 0) ∷ (Heard (at_moment 0 (written to m.source (ClearToSend (packets_of m) 1 m.pgn))), 0) ∷ []) (new_sender m to)).state ≡ Sending 1 (packets_of m)
unfolding has_sent send_step ticks_in new_sender
all_granted m to l t =
    let s : SenderRecord = waits timer_t3 0 (new_sender m to) in
    ap (λ (r : SendResult). r.after.state) (heard_by_sender s (ClearToSend (packets_of m) 1 m.pgn) 0 t l.message.source (pgn_fits m m.pgn l refl))
    ∙ ap (λ (r : SenderRecord). r.state) (cts_heard m to 0 l)

pub sender_lasts : SenderLastsLaw
sender_lasts m to l t moments n =
    let es : List (SendEvent × ℕ) = (Tick, 0) ∷ (Heard (at_moment 0 (written to m.source (ClearToSend (packets_of m) 1 m.pgn))), 0) ∷ [] in
    (es, lasts moments (has_sent es (new_sender m to)) 1 (packets_of m) (all_granted m to l t) (omega arith))

session_lasts : (moments : List ℕ) (r : ReceiverRecord) (q : ReceptionRecord) → r.session ≡ Some q → q.asks + length moments ≤ 2 → IsSome (ticked_receiver moments r).session
unfolding has_received recv_step takes_tick asks_again grants granted_at
session_lasts [] r q e n = ap is_some e
session_lasts (now ∷ moments) r q e n =
    let few : (q.asks == 2) ≡ false = ne_eqb q.asks 2 (λ k. absurd (omega arith)) in
    let asked : Reaction = grants now (record q { asks = q.asks + 1 }) in
    elim (cases_Bool (nat_lt (q.message.last + limit_of q) now)) [
      | inl t ↦ session_lasts moments (recv_step r receiving.Tick now true).after (granted_at now (record q { asks = q.asks + 1 }))
          (ap (λ (o : Option ReceptionRecord). (takes_tick now o).session) e
          ∙ (ap (λ (b : Bool). (cond b (asks_again now q) (quiet (Some q))).session) t
          ∙ ap (λ (b : Bool). (cond b (answers None (Abort 3 q.message.group)) asked).session) few)) (omega arith)
      | inr t ↦ session_lasts moments (recv_step r receiving.Tick now true).after q
          (ap (λ (o : Option ReceptionRecord). (takes_tick now o).session) e ∙ ap (λ (b : Bool). (cond b (asks_again now q) (quiet (Some q))).session) t) (omega arith)
    ]

pub receiver_lasts : ReceiverLastsLaw
unfolding has_received takes_signal takes_request grants granted_at begun
receiver_lasts own t moments n =
    let a : Signal = RequestToSend 9 2 255 0 in
    let f : FrameRecord = at_moment 0 (written 0 own a) in
    let es : List (RecvEvent × ℕ × Bool) = (receiving.Heard f, 0, true) ∷ [] in
    let x : Reaction = takes_signal (Directed 0 own) (Some a) 0 true None in
    let q : ReceptionRecord = granted_at 0 (begun (opened (Directed 0 own) 0 9 2 0) 255) in
    let e : (recv_step (new_receiver own) (receiving.Heard f) 0 true).after.session ≡ Some q =
    ap (λ (y : RecvResult). y.after.session) (heard_by_receiver (new_receiver own) 0 a 0 true (omega arith) t (record { size_fits = omega arith; pgn_fits = omega arith; agrees = refl })) in
    (es, session_lasts moments (has_received es (new_receiver own)) q e (omega arith))
