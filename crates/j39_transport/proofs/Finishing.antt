-- On a bus that loses nothing a message is delivered in as many ticks as it has frames: law `completes`.
use Rattle.std.proofs.Common.{◌≡◌, ◌⊎◌, ℕ, ◌+◌, ◌-◌, ◌<◌, ◌≤◌, ◌==◌, nat_lt, nat_le, min, max, Bool, true, false, ◌&&◌, cond, List, [], ◌∷◌, length, Option, Some, None, refl, sym, ap, ◌∙◌, subst, inl, inr, arith, eq-eqb, ne_eqb, le-leb}
use Rattle.std.proofs.lemmas.Bool.{cond_both, cases_eq, both_ways, le-ltb}
use Rattle.std.specs.Option.{option_map}
use Rattle.j39_transport.specs.Cutting.{ToSend, packet_data, at_moment}
use Rattle.j39_transport.specs.Frames.{source_of}
use Rattle.j39_transport.specs.Key.{Directed}
use Rattle.j39_transport.specs.Liveness.{sender_ticks, IsPrompt, HasCompleted, CompletesLaw}
use Rattle.j39_transport.specs.Message.{MessageRecord, IsLong, packets_of}
use Rattle.j39_transport.specs.Net.{World, with_delivery, handed_back, replied, carried, NetEvent, SenderTick, ReceiverTick, Next, Third, is_busy_with, happens, run, of_source, IsThird}
use Rattle.j39_transport.specs.Receiving.{RecvResult, Heard, said_to, partner_of, result_of, recv_step, new_receiver}
use Rattle.j39_transport.specs.Reception.{ReceptionRecord, Reaction, quiet, answers, begun, granted_at, grants, asks_again, delivers_message, goes_on, takes_packet, is_from, takes_request, takes_data, takes_signal, limit_of, takes_tick}
use Rattle.j39_transport.specs.Sending.{SenderRecord, SendState, SendResult, Waiting, Sending, Done, is_waiting, is_running, may_name, silent, waits, sends_packet, ticks_in, cleared, acknowledged, aborted, hears, send_step, sent_by, new_sender}
use Rattle.j39_transport.specs.Protocol.{timer_t3, timer_t4}
use Rattle.j39_transport.specs.Sending as sender
use Rattle.j39_transport.specs.Session.{opened, grown, touched}
use Rattle.j39_transport.specs.Signals.{Signal, BroadcastAnnounce, RequestToSend, ClearToSend, Acknowledgment, Abort, Packet, said_between, written}
use Rattle.j39_transport.proofs.PacketLemmas.{packet_length}
use Rattle.j39_transport.proofs.ReceiverLemmas.{IsOf, IsPart, one_more, whole}
use Rattle.j39_transport.proofs.SenderLemmas.{pgn_fits, own_can_say}
use Rattle.j39_transport.proofs.SignalLemmas.{heard_by_sender, heard_by_receiver}
use Rattle.j39_transport.proofs.ThirdLemmas.{IfOpen, IsNot, source_fits, Keeps, keeps_signal, keeps_tick, not_from, third_signal, third_unheard, answer_unheard, none_of_source, one_of_source}

-- ---- a sender that is done

done_hears : (s : SenderRecord) (a : Option Signal) (now : ℕ) → s.state ≡ Done → (hears a now s).state ≡ Done
unfolding hears cleared acknowledged aborted
done_hears s None now e = e
done_hears s (Some (BroadcastAnnounce size packets pgn)) now e = e
done_hears s (Some (RequestToSend size packets most pgn)) now e = e
done_hears s (Some (Packet k part)) now e = e
done_hears s (Some (ClearToSend count next pgn)) now e = cond_both (pgn == s.message.pgn) _ _ (λ (r : SenderRecord). r.state ≡ Done)
    (λ t. cond_both (is_waiting s.state) _ _ (λ (r : SenderRecord). r.state ≡ Done) (λ u. absurd (both_ways _ (ap is_waiting e) u)) (λ u. e))
    (λ t. e)
done_hears s (Some (Acknowledgment size packets pgn)) now e = cond_both (pgn == s.message.pgn) _ _ (λ (r : SenderRecord). r.state ≡ Done)
    (λ t. cond_both (is_waiting s.state && size == length s.message.bytes && packets == packets_of s.message && s.highest == packets_of s.message) _ _ (λ (r : SenderRecord). r.state ≡ Done) (λ u. refl) (λ u. e))
    (λ t. e)
done_hears s (Some (Abort reason pgn)) now e = cond_both (pgn == s.message.pgn) _ _ (λ (r : SenderRecord). r.state ≡ Done)
    (λ t. cond_both (is_running s.state) _ _ (λ (r : SenderRecord). r.state ≡ Done) (λ u. absurd (both_ways _ (ap is_running e) u)) (λ u. e))
    (λ t. e)

done_back : (s : SenderRecord) (o : Option ToSend) (now : ℕ) (is_lost : Bool) → s.state ≡ Done → (handed_back o now is_lost s).state ≡ Done
unfolding send_step
done_back s None now is_lost e = e
done_back s (Some f) now true e = e
done_back s (Some f) now false e = done_hears s (said_between s.destination s.message.source (at_moment now f)) now e

-- the message was delivered, and the receiver has no session of its source
record Rests (source : ℕ) (m : MessageRecord) (mine : List MessageRecord) (w : World) : Type 0 where
  done : w.sender.state ≡ Done
  others : IfOpen (IsNot source) w.receiver.session
  delivered : of_source source w.delivered ≡ m ∷ mine

replied_rests : (source partner : ℕ) (m : MessageRecord) (mine : List MessageRecord) (w : World) (s : SenderRecord) (x : Reaction) (now : ℕ) (is_lost : Bool)
    → s.state ≡ Done → Keeps (IsNot source) x → of_source source w.delivered ≡ m ∷ mine → Rests source m mine (replied w s (result_of w.receiver.own partner x) now is_lost)
replied_rests source partner m mine w s x now is_lost d k e = record {
  done = done_back s _ now is_lost d;
  others = k.session_is;
  delivered = none_of_source source x.delivers w.delivered k.delivers_is ∙ e;
}

rests_tick : (source : ℕ) (m : MessageRecord) (mine : List MessageRecord) (w : World) (now : ℕ) (a b c : Bool) → Rests source m mine w → Rests source m mine (happens w (SenderTick now a b c))
unfolding happens send_step ticks_in
rests_tick source m mine w now a b c h =
    subst (λ (r : SendResult). Rests source m mine (carried w r.after (sent_by w.sender r.says) now a b c)) (ap (λ (st : SendState). ticks_in st now w.sender) (sym h.done)) h

rests_after : (source to : ℕ) (m : MessageRecord) (mine : List MessageRecord) (es : List NetEvent) (w : World) (last : ℕ) → IsPrompt source to last es → Rests source m mine w
    → Rests source m mine (run es w)
unfolding run happens recv_step
rests_after source to m mine [] w last p h = h
rests_after source to m mine (SenderTick now a b c ∷ es) w last p h =
    rests_after source to m mine es (happens w (SenderTick now a b c)) now p.2 (rests_tick source m mine w now a b c h)
rests_after source to m mine (ReceiverTick now a ∷ es) w last p h =
    rests_after source to m mine es (happens w (ReceiverTick now a)) last p.1
    (replied_rests source (partner_of w.receiver.session) m mine w w.sender (takes_tick now w.receiver.session) now a h.done (keeps_tick (IsNot source) now w.receiver.session h.others) h.delivered)
rests_after source to m mine (Next n ∷ es) w last p h = absurd p
rests_after source to m mine (Third f now a true c d ∷ es) w last p h =
    rests_after source to m mine es (happens w (Third f now a true c d)) last p.1 (record { done = done_back w.sender (Some f) now a h.done; others = h.others; delivered = h.delivered })
rests_after source to m mine (Third f now a false c d ∷ es) w last p h =
    rests_after source to m mine es (happens w (Third f now a false c d)) last p.1
    (replied_rests source (source_of f.id) m mine w (handed_back (Some f) now a w.sender) _ now c
    (done_back w.sender (Some f) now a h.done)
    (keeps_signal (IsNot source) (Directed (source_of f.id) w.receiver.own) (said_to w.receiver.own (at_moment now f)) now d w.receiver.session p.0.not_source h.others) h.delivered)

-- ---- one that sends

-- packets below next were sent, and the receiver has them
abbrev pub sending : MessageRecord → ℕ → (next since highest : ℕ) → SenderRecord
sending m to next since highest = record { message = m; destination = to; state = Sending next (packets_of m); since = since; highest = highest }

abbrev during : (past : List (MessageRecord × Bool)) → SenderRecord → ℕ → ReceptionRecord → List MessageRecord → World
during past s to r delivered = record { past = past; sender = s; receiver = record { own = to; session = Some r }; delivered = delivered }

record IsAt (m : MessageRecord) (last count : ℕ) (r : ReceptionRecord) : Type 0 where
  part : IsPart m r.message
  count_is : r.message.count ≡ count
  granted_is : r.granted ≡ packets_of m
  last_is : r.message.last ≡ last

record Sends (to : ℕ) (m : MessageRecord) (mine : List MessageRecord) (last count : ℕ) (w : World) : Type 0 where
  past : List (MessageRecord × Bool)
  since : ℕ
  highest : ℕ
  low : highest ≤ count
  r : ReceptionRecord
  delivered : List MessageRecord
  world_is : w ≡ during past (sending m to (count + 1) since highest) to r delivered
  is_at : IsAt m last count r
  mine_is : of_source m.source delivered ≡ mine

-- the next packet
takes_next : (m : MessageRecord) (to last count now : ℕ) (found : Bool) (r : ReceptionRecord) → IsAt m last count r
    → takes_signal (Directed m.source to) (Some (Packet (count + 1) (packet_data m.bytes (count + 1)))) now found (Some r)
    ≡ goes_on now (record r { message = grown now (packet_data m.bytes (count + 1)) r.message; fresh = false })
unfolding takes_signal takes_data takes_packet
takes_next m to last count now found r h =
    let part : List ℕ = packet_data m.bytes (count + 1) in
    let a : is_from m.source r ≡ true = eq-eqb _ _ (sym h.part.is_of.source_is) in
    let c : r.message.count ≡ count = h.count_is in
    let n : (count + 1 == r.message.count + 1) ≡ true = eq-eqb _ _ (omega arith) in
    ap (λ (b : Bool). cond b (takes_packet (count + 1) part now r) (quiet (Some r))) a
    ∙ ap (λ (b : Bool). cond b (goes_on now (record r { message = grown now part r.message; fresh = false }))
    (cond (count + 1 == r.granted) (asks_again now r) (quiet (Some (record r { message = touched now r.message; fresh = false }))))) n

more_of : (m : MessageRecord) (last count now : ℕ) (r : ReceptionRecord) → IsAt m last count r → IsOf m (grown now (packet_data m.bytes (count + 1)) r.message)
more_of m last count now r h = one_more m r.message (packet_data m.bytes (count + 1)) now h.part (ap (λ (n : ℕ). packet_data m.bytes (n + 1)) (sym h.count_is))

-- it isn't the last
goes_quiet : (m : MessageRecord) (now : ℕ) (r : ReceptionRecord) → IsOf m r.message → r.granted ≡ packets_of m → r.message.count < packets_of m → goes_on now r ≡ quiet (Some r)
unfolding goes_on
goes_quiet m now r h g l =
    let p : r.message.packets ≡ packets_of m = h.packets_is in
    let a : (r.message.count == r.message.packets) ≡ false = ne_eqb _ _ (λ e. absurd (omega arith)) in
    let b : (r.message.count == r.granted) ≡ false = ne_eqb _ _ (λ e. absurd (omega arith)) in
    ap (λ (t : Bool). cond t (delivers_message r.message) (cond (r.message.count == r.granted) (grants now r) (quiet (Some r)))) a ∙ ap (λ (t : Bool). cond t (grants now r) (quiet (Some r))) b

-- it is the last
abbrev acknowledges : MessageRecord → Reaction
acknowledges m = record { session = None; says = Some (Acknowledgment (length m.bytes) (packets_of m) m.pgn); delivers = Some m }

goes_full : (m : MessageRecord) (now : ℕ) (r : ReceptionRecord) → IsLong m → IsOf m r.message → r.message.count ≡ packets_of m → goes_on now r ≡ acknowledges m
unfolding goes_on delivers_message
goes_full m now r l h e =
    let p : r.message.packets ≡ packets_of m = h.packets_is in
    let a : (r.message.count == r.message.packets) ≡ true = eq-eqb _ _ (omega arith) in
    let w = whole m r.message l h (e ∙ sym p) in
    ap (λ (t : Bool). cond t (delivers_message r.message) (cond (r.message.count == r.granted) (grants now r) (quiet (Some r)))) a
    ∙ (λ i. record { session = None; says = Some (Acknowledgment (h.size_is i) (p i) (h.group_is i)); delivers = Some (w i) })

-- the sender after packet k
abbrev sent : MessageRecord → (to k since highest now : ℕ) → SenderRecord
sent m to k since highest now = record {
  message = m;
  destination = to;
  state = (cond (k == packets_of m) (Waiting timer_t3) (Sending (k + 1) (packets_of m)));
  since = (cond (k == packets_of m) now since);
  highest = max highest k;
}

-- the world after the sender's tick
ticks_on : (past : List (MessageRecord × Bool)) (m : MessageRecord) (to since highest last count now : ℕ) (found : Bool) (r : ReceptionRecord) (delivered : List MessageRecord)
    → m.source < 254 → to < 254 → IsLong m → IsAt m last count r
    → happens (during past (sending m to (count + 1) since highest) to r delivered) (SenderTick now false false found)
    ≡ replied (during past (sending m to (count + 1) since highest) to r delivered) (sent m to (count + 1) since highest now)
    (result_of to m.source (goes_on now (record r { message = grown now (packet_data m.bytes (count + 1)) r.message; fresh = false }))) now false
unfolding happens send_step ticks_in sends_packet
ticks_on past m to since highest last count now found r delivered f t l h =
    let w : World = during past (sending m to (count + 1) since highest) to r delivered in
    let s : SenderRecord = sent m to (count + 1) since highest now in
    ap (λ (x : RecvResult). replied w s x now false)
    (heard_by_receiver w.receiver m.source (Packet (count + 1) (packet_data m.bytes (count + 1))) now found f t (packet_length m.bytes (count + 1))
    ∙ ap (result_of to m.source) (takes_next m to last count now found r h))

ack_done : (s : SenderRecord) (now : ℕ) → is_waiting s.state ≡ true → s.highest ≡ packets_of s.message
    → (hears (Some (Acknowledgment (length s.message.bytes) (packets_of s.message) s.message.pgn)) now s).state ≡ Done
unfolding hears acknowledged
ack_done s now w h =
    let a : (s.message.pgn == s.message.pgn) ≡ true = eq-eqb _ _ refl in
    let b : (length s.message.bytes == length s.message.bytes) ≡ true = eq-eqb _ _ refl in
    let c : (packets_of s.message == packets_of s.message) ≡ true = eq-eqb _ _ refl in
    let d : (s.highest == packets_of s.message) ≡ true = eq-eqb _ _ h in
    ap (λ (t : Bool). (cond t (acknowledged (length s.message.bytes) (packets_of s.message) s) s).state) a
    ∙ (λ i. (cond (w i && b i && c i && d i) (record s { state = Done }) s).state)

ticks_last : (past : List (MessageRecord × Bool)) (m : MessageRecord) (to since highest last count now : ℕ) (found : Bool) (r : ReceptionRecord) (delivered mine : List MessageRecord)
    → m.source < 254 → to < 254 → IsLong m → IsAt m last count r → highest ≤ count → count + 1 ≡ packets_of m → of_source m.source delivered ≡ mine
    → Rests m.source m mine (happens (during past (sending m to (count + 1) since highest) to r delivered) (SenderTick now false false found))
ticks_last past m to since highest last count now found r delivered mine f t l h low e d =
    let w : World = during past (sending m to (count + 1) since highest) to r delivered in
    let s : SenderRecord = sent m to (count + 1) since highest now in
    let next : ReceptionRecord = record r { message = grown now (packet_data m.bytes (count + 1)) r.message; fresh = false } in
    let c : r.message.count ≡ count = h.count_is in
    let g : goes_on now next ≡ acknowledges m = goes_full m now next l (more_of m last count now r h) (omega arith) in
    let k : (count + 1 == packets_of m) ≡ true = eq-eqb _ _ e in
    let long : length m.bytes < 65536 = let most : length m.bytes ≤ 1785 = l.message.most in omega arith in
    let a : Signal = Acknowledgment (length m.bytes) (packets_of m) m.pgn in
    let done : (hears (Some a) now s).state ≡ Done = ack_done s now (ap (λ (b : Bool). is_waiting (cond b (Waiting timer_t3) (Sending (count + 1 + 1) (packets_of m)))) k) (omega arith) in
    let heard : (send_step s (sender.Heard (at_moment now (written to m.source a))) now).after.state ≡ Done =
    ap (λ (x : SendResult). x.after.state) (heard_by_sender s a now t f (long, pgn_fits m m.pgn l refl)) ∙ done in
    subst (Rests m.source m mine) (sym (ticks_on past m to since highest last count now found r delivered f t l h
    ∙ ap (λ (x : Reaction). replied w s (result_of to m.source x) now false) g))
    (record { done = heard; others = tt; delivered = one_of_source m.source m delivered refl ∙ ap (λ (ms : List MessageRecord). m ∷ ms) d })

ticks_more : (past : List (MessageRecord × Bool)) (m : MessageRecord) (to since highest last count now : ℕ) (found : Bool) (r : ReceptionRecord) (delivered mine : List MessageRecord)
    → m.source < 254 → to < 254 → IsLong m → IsAt m last count r → highest ≤ count → count + 1 < packets_of m → of_source m.source delivered ≡ mine
    → Sends to m mine now (count + 1) (happens (during past (sending m to (count + 1) since highest) to r delivered) (SenderTick now false false found))
ticks_more past m to since highest last count now found r delivered mine f t l h low e d =
    let w : World = during past (sending m to (count + 1) since highest) to r delivered in
    let s : SenderRecord = sent m to (count + 1) since highest now in
    let next : ReceptionRecord = record r { message = grown now (packet_data m.bytes (count + 1)) r.message; fresh = false } in
    let c : r.message.count ≡ count = h.count_is in
    let o : IsOf m next.message = more_of m last count now r h in
    let p : next.message.packets ≡ packets_of m = o.packets_is in
    let g : goes_on now next ≡ quiet (Some next) = goes_quiet m now next o h.granted_is (omega arith) in
    let k : (count + 1 == packets_of m) ≡ false = ne_eqb _ _ (λ x. absurd (omega arith)) in
    record {
      past = past;
      since = cond (count + 1 == packets_of m) now since;
      highest = max highest (count + 1);
      low = omega arith;
      r = next;
      delivered = delivered;
      world_is = ticks_on past m to since highest last count now found r delivered f t l h
          ∙ (ap (λ (x : Reaction). replied w s (result_of to m.source x) now false) g
          ∙ ap (λ (b : Bool). during past (record { message = m; destination = to; state = cond b (Waiting timer_t3) (Sending (count + 1 + 1) (packets_of m)); since = cond (count + 1 == packets_of m) now since; highest = max highest (count + 1) }) to next delivered) k);
      is_at = record { part = record { is_of = o; lacks = omega arith }; count_is = omega arith; granted_is = h.granted_is; last_is = refl };
      mine_is = d;
    }

sender_goes : (to : ℕ) (m : MessageRecord) (mine : List MessageRecord) (last count now : ℕ) (found : Bool) (w : World) → m.source < 254 → to < 254 → IsLong m → Sends to m mine last count w
    → Sends to m mine now (count + 1) (happens w (SenderTick now false false found)) ⊎ Rests m.source m mine (happens w (SenderTick now false false found))
sender_goes to m mine last count now found w f t l h =
    let c : h.r.message.count ≡ count = h.is_at.count_is in
    let b : h.r.message.count < h.r.message.packets = h.is_at.part.lacks in
    let p : h.r.message.packets ≡ packets_of m = h.is_at.part.is_of.packets_is in
    subst (λ (v : World). Sends to m mine now (count + 1) (happens v (SenderTick now false false found)) ⊎ Rests m.source m mine (happens v (SenderTick now false false found))) (sym h.world_is)
    (elim (cases_eq (count + 1) (packets_of m)) [
      | inl e ↦ inr (ticks_last h.past m to h.since h.highest last count now found h.r h.delivered mine f t l h.is_at h.low e h.mine_is)
      | inr e ↦ inl (ticks_more h.past m to h.since h.highest last count now found h.r h.delivered mine f t l h.is_at h.low (omega arith) h.mine_is)
    ])

-- a tick of the receiver in time
limit_least : (r : ReceptionRecord) → 750000 ≤ limit_of r
limit_least r = cond_both r.fresh _ _ (λ (n : ℕ). 750000 ≤ n) (λ t. omega arith) (λ t. omega arith)

tick_quiet : (r : ReceptionRecord) (last now : ℕ) → r.message.last ≡ last → now ≤ last + 750000 → takes_tick now (Some r) ≡ quiet (Some r)
unfolding takes_tick
tick_quiet r last now e l =
    let n : 750000 ≤ limit_of r = limit_least r in
    let b : nat_lt (r.message.last + limit_of r) now ≡ false = le-ltb _ _ (omega arith) in
    ap (λ (t : Bool). cond t (asks_again now r) (quiet (Some r))) b

receiver_waits : (to : ℕ) (m : MessageRecord) (mine : List MessageRecord) (last count now : ℕ) (is_lost : Bool) (w : World) → now ≤ last + 750000 → Sends to m mine last count w
    → happens w (ReceiverTick now is_lost) ≡ w
unfolding happens recv_step
receiver_waits to m mine last count now is_lost w l h =
    subst (λ (v : World). happens v (ReceiverTick now is_lost) ≡ v) (sym h.world_is)
    (let s : SenderRecord = sending m to (count + 1) h.since h.highest in
    let v : World = during h.past s to h.r h.delivered in
    ap (λ (x : Reaction). replied v s (result_of to h.r.message.source x) now is_lost) (tick_quiet h.r last now h.is_at.last_is l))

-- a frame of a third
third_passes : (to : ℕ) (m : MessageRecord) (mine : List MessageRecord) (last count : ℕ) (f : ToSend) (now : ℕ) (a b c d : Bool) (w : World) → to < 254 → IsThird m.source to f → Sends to m mine last count w
    → happens w (Third f now a b c d) ≡ w
unfolding happens recv_step
third_passes to m mine last count f now a b c d w t i h =
    subst (λ (v : World). happens v (Third f now a b c d) ≡ v) (sym h.world_is)
    (let s : SenderRecord = sending m to (count + 1) h.since h.highest in
    let v : World = during h.past s to h.r h.delivered in
    ap (λ (x : SenderRecord). carried v x (Some f) now b c d) (third_unheard s f now a i.not_to) ∙ rest b)
  where
    rest : (b : Bool) → carried (during h.past (sending m to (count + 1) h.since h.highest) to h.r h.delivered) (sending m to (count + 1) h.since h.highest) (Some f) now b c d
        ≡ during h.past (sending m to (count + 1) h.since h.highest) to h.r h.delivered
    rest true = refl
    rest false =
        let s : SenderRecord = sending m to (count + 1) h.since h.highest in
        let x : Reaction = takes_signal (Directed (source_of f.id) to) (said_to to (at_moment now f)) now d (Some h.r) in
        let u = third_signal (Directed (source_of f.id) to) (said_to to (at_moment now f)) now d h.r (λ e. i.not_source (sym e ∙ h.is_at.part.is_of.source_is)) in
        let n : handed_back (option_map (written to (source_of f.id)) x.says) now c s ≡ s = answer_unheard s to (source_of f.id) x.says now c (omega arith) (source_fits f.id) i.not_source in
        λ j. record { past = h.past; sender = n j; receiver = record { own = to; session = u.session_is j }; delivered = with_delivery (u.delivers_is j) h.delivered }

not_busy : (source : ℕ) (o : Option ReceptionRecord) → IfOpen (IsNot source) o → is_busy_with source o ≡ false
not_busy source None n = refl
not_busy source (Some r) n = not_from source r n

-- ---- all ticks

completed : (source : ℕ) (m : MessageRecord) (old new : World) → Rests source m (of_source source old.delivered) new → HasCompleted source m old new
completed source m old new h = record { done = h.done; delivered = h.delivered; free = not_busy source new.receiver.session h.others }

goes_through : (to : ℕ) (m : MessageRecord) (mine : List MessageRecord) (es : List NetEvent) (last count : ℕ) (w : World) → m.source < 254 → to < 254 → IsLong m → Sends to m mine last count w
    → IsPrompt m.source to last es → packets_of m ≤ count + sender_ticks es → Rests m.source m mine (run es w)
unfolding run
goes_through to m mine [] last count w f t l h p n =
    let c : h.r.message.count ≡ count = h.is_at.count_is in
    let b : h.r.message.count < h.r.message.packets = h.is_at.part.lacks in
    let q : h.r.message.packets ≡ packets_of m = h.is_at.part.is_of.packets_is in
    absurd (omega arith)
goes_through to m mine (SenderTick now a b found ∷ es) last count w f t l h p n =
    subst (λ (x : Bool). Rests m.source m mine (run es (happens w (SenderTick now x b found)))) (sym p.0)
    (subst (λ (x : Bool). Rests m.source m mine (run es (happens w (SenderTick now false x found)))) (sym p.1)
    (elim (sender_goes to m mine last count now found w f t l h) [
      | inl g ↦ goes_through to m mine es now (count + 1) (happens w (SenderTick now false false found)) f t l g p.2 (omega arith)
      | inr g ↦ rests_after m.source to m mine es (happens w (SenderTick now false false found)) now p.2 g
    ]))
goes_through to m mine (ReceiverTick now a ∷ es) last count w f t l h p n =
    subst (λ (v : World). Rests m.source m mine (run es v)) (sym (receiver_waits to m mine last count now a w p.0 h))
    (goes_through to m mine es last count w f t l h p.1 n)
goes_through to m mine (Next o ∷ es) last count w f t l h p n = absurd p
goes_through to m mine (Third a now b c d e ∷ es) last count w f t l h p n =
    subst (λ (v : World). Rests m.source m mine (run es v)) (sym (third_passes to m mine last count a now b c d e w t p.0 h))
    (goes_through to m mine es last count w f t l h p.1 n)

-- ---- the first tick

-- the receiver grants all packets
abbrev granted_all : MessageRecord → (to now : ℕ) → ReceptionRecord
granted_all m to now = record { message = touched now (opened (Directed m.source to) m.pgn (length m.bytes) (packets_of m) now); most = 255; granted = packets_of m; asks = 0; fresh = true }

requested : (m : MessageRecord) (to now : ℕ) → IsLong m
    → takes_signal (Directed m.source to) (Some (RequestToSend (length m.bytes) (packets_of m) 255 m.pgn)) now true None
    ≡ answers (Some (granted_all m to now)) (ClearToSend (packets_of m) 1 m.pgn)
unfolding takes_signal takes_request grants granted_at begun
requested m to now l =
    let a : length m.bytes ≤ 1785 = l.message.most in
    let w : min 255 (packets_of m - 0) ≡ packets_of m = omega arith in
    let g : 0 + min 255 (packets_of m - 0) ≡ packets_of m = omega arith in
    λ i. answers (Some (record (granted_all m to now) { granted = g i })) (ClearToSend (w i) 1 m.pgn)

pub cts_heard : (m : MessageRecord) (to now : ℕ) → IsLong m
    → hears (Some (ClearToSend (packets_of m) 1 m.pgn)) now (waits timer_t3 now (new_sender m to)) ≡ sending m to 1 now 0
unfolding hears cleared new_sender
cts_heard m to now l =
    let b : 9 ≤ length m.bytes = l.least in
    let s : SenderRecord = waits timer_t3 now (new_sender m to) in
    let a : (m.pgn == m.pgn) ≡ true = eq-eqb _ _ refl in
    let c : (packets_of m == 0) ≡ false = ne_eqb _ _ (λ e. absurd (omega arith)) in
    let d : nat_le 1 (packets_of m) ≡ true = le-leb _ _ (omega arith) in
    let e : min (1 + packets_of m - 1) (packets_of m) ≡ packets_of m = omega arith in
    let goes : SenderRecord = record s { state = Sending 1 (min (1 + packets_of m - 1) (packets_of m)) } in
    ap (λ (t : Bool). cond t (cleared (packets_of m) 1 now s) s) a
    ∙ (ap (λ (t : Bool). cond t (waits timer_t4 now s) (cond (may_name s 1) goes s)) c
    ∙ (ap (λ (t : Bool). cond (nat_le 1 1 && t && nat_le 1 (0 + 1)) goes s) d
    ∙ ap (λ (n : ℕ). record s { state = Sending 1 n }) e))

begins : (m : MessageRecord) (to now : ℕ) (w : World) → m.source < 254 → to < 254 → IsLong m → w.sender ≡ new_sender m to → w.receiver ≡ new_receiver to
    → Sends to m (of_source m.source w.delivered) now 0 (happens w (SenderTick now false false true))
unfolding happens send_step ticks_in new_sender
begins m to now w f t l s r =
    let a : Signal = RequestToSend (length m.bytes) (packets_of m) 255 m.pgn in
    let b : Signal = ClearToSend (packets_of m) 1 m.pgn in
    let long : 9 ≤ length m.bytes = l.least in
    let waiting : SenderRecord = waits timer_t3 now (new_sender m to) in
    let v : World = record { past = w.past; sender = new_sender m to; receiver = new_receiver to; delivered = w.delivered } in
    let v_is : w ≡ v = λ i. record { past = w.past; sender = s i; receiver = r i; delivered = w.delivered } in
    let first : recv_step (new_receiver to) (Heard (at_moment now (written m.source to a))) now true ≡ result_of to m.source (answers (Some (granted_all m to now)) b) =
    heard_by_receiver (new_receiver to) m.source a now true f t (own_can_say m true a l (refl, refl, refl, refl)) ∙ ap (result_of to m.source) (requested m to now l) in
    let second : (send_step waiting (sender.Heard (at_moment now (written to m.source b))) now).after ≡ sending m to 1 now 0 =
    ap (λ (x : SendResult). x.after) (heard_by_sender waiting b now t f (pgn_fits m m.pgn l refl)) ∙ cts_heard m to now l in
    record {
      past = w.past;
      since = now;
      highest = 0;
      low = omega arith;
      r = granted_all m to now;
      delivered = w.delivered;
      world_is = ap (λ (x : World). happens x (SenderTick now false false true)) v_is
          ∙ (ap (λ (x : RecvResult). replied v waiting x now false) first
          ∙ ap (λ (x : SenderRecord). during w.past x to (granted_all m to now) w.delivered) second);
      is_at = record {
        part = record {
          is_of = record { source_is = refl; size_is = refl; packets_is = refl; group_is = refl; few = omega arith; bytes_are = refl };
          lacks = omega arith;
        };
        count_is = refl;
        granted_is = refl;
        last_is = refl;
      };
      mine_is = refl;
    }

pub completes : CompletesLaw
unfolding run
completes source to f t m h w s r now es p n =
    let g : Sends to m (of_source m.source w.delivered) now 0 (happens w (SenderTick now false false true)) =
    begins m to now w (subst (λ (v : ℕ). v < 254) (sym h.from) f) t h.long s r in
    subst (λ (v : ℕ). HasCompleted v m w (run (SenderTick now false false true ∷ es) w)) h.from
    (completed m.source m w (run (SenderTick now false false true ∷ es) w)
    (goes_through to m (of_source m.source w.delivered) es now 0 (happens w (SenderTick now false false true))
    (subst (λ (v : ℕ). v < 254) (sym h.from) f) t h.long g (subst (λ (v : ℕ). IsPrompt v to now es) (sym h.from) p) (omega arith)))
