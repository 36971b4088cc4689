-- An open session is the present sender's or a third's, and a sender sends one RTS: law `transfers`, with a third.
use Rattle.std.proofs.Common.{◌≡◌, ℕ, ◌<◌, ◌==◌, Bool, true, false, not, ◌&&◌, List, [], ◌∷◌, Option, Some, None, refl, sym, ap, ◌∙◌, subst, inl, inr, arith, eq-eqb}
use Rattle.std.proofs.lemmas.Bool.{cond_both, both_ways, and_parts}
use Rattle.std.specs.Option.{option_map}
use Rattle.j39_transport.specs.Cutting.{ToSend, at_moment}
use Rattle.j39_transport.specs.Frames.{source_of}
use Rattle.j39_transport.specs.Key.{Directed}
use Rattle.j39_transport.specs.Message.{MessageRecord, IsLong}
use Rattle.j39_transport.specs.Net.{World, with_delivery, handed_back, replied, carried, NetEvent, SenderTick, ReceiverTick, Next, Third, is_over, is_busy_with, happens, run, start, of_source, Matches, IsFrom, IsThird, AreBetween, TransfersLaw}
use Rattle.j39_transport.specs.Receiving.{RecvResult, Heard, said_to, partner_of, result_of, recv_step}
use Rattle.j39_transport.specs.Reception.{ReceptionRecord, Reaction, quiet, is_from, is_taken, takes_request, takes_data, takes_abort, takes_signal, takes_tick}
use Rattle.j39_transport.specs.Sending.{SenderRecord, SendResult, ticks_in, send_step, sent_by, new_sender, is_idle, is_done}
use Rattle.j39_transport.specs.Signals.{Signal, BroadcastAnnounce, RequestToSend, ClearToSend, Acknowledgment, Abort, Packet, written}
use Rattle.j39_transport.proofs.ReceiverLemmas.{SessionOf, Open, Closed, signal_case, tick_case}
use Rattle.j39_transport.proofs.SenderLemmas.{IsOwn, OwnIf, Ticked, ticked, pgn_fits, own_can_say, IsAck, Hears, same, Between, CanSayIf, hears_answer}
use Rattle.j39_transport.proofs.SignalLemmas.{CanSay, heard_by_receiver}
use Rattle.j39_transport.proofs.ThirdLemmas.{IfOpen, IfGiven, IsNot, Fits, source_fits, Keeps, keeps_signal, keeps_tick, not_from, third_signal, third_unheard, answer_unheard, none_of_source, one_of_source}

-- the session is of this message, or of another source, or there is none
data Held (m : MessageRecord) (o : Option ReceptionRecord) : Type 0 where
  ours : SessionOf m o → Held m o
  others : IfOpen (IsNot m.source) o → Held m o

-- before or during the transfer of the present message, or after its delivery; mine: what was delivered of its source
data Phase (s : SenderRecord) (o : Option ReceptionRecord) (mine ds : List MessageRecord) : Type 0 where
  before : Held s.message o → mine ≡ ds → is_done s.state ≡ false → Phase s o mine ds
  over : IfOpen (IsNot s.message.source) o → mine ≡ s.message ∷ ds → is_idle s.state ≡ false → Phase s o mine ds

pub record Ends (source to : ℕ) (s : SenderRecord) (own : ℕ) : Type 0 where
  pub source_is : s.message.source ≡ source
  pub destination_is : s.destination ≡ to
  pub own_is : own ≡ to
  pub long : IsLong s.message

pub record Stands (source to : ℕ) (w : World) : Type 0 where
  pub ends_are : Ends source to w.sender w.receiver.own
  fits : IfOpen Fits w.receiver.session
  ds : List MessageRecord
  past_is : Matches w.past ds
  phase : Phase w.sender w.receiver.session (of_source source w.delivered) ds

-- ---- what the receiver does to a frame or a tick, seen beside the sender

-- ack: an acknowledgment is said to the sender
data Met (s : SenderRecord) (ack : Type 0) (x : Reaction) (mine ds : List MessageRecord) : Type 0 where
  opens : Held s.message x.session → IfGiven (IsNot s.message.source) x.delivers → (ack → ⊥) → mine ≡ ds → is_done s.state ≡ false → Met s ack x mine ds
  closes : Closed s.message x → mine ≡ ds → is_idle s.state ≡ false → Met s ack x mine ds
  rests : Keeps (IsNot s.message.source) x → mine ≡ s.message ∷ ds → is_idle s.state ≡ false → Met s ack x mine ds

met_phase : (source : ℕ) (s t : SenderRecord) (ack : Type 0) (x : Reaction) (delivered ds : List MessageRecord) → s.message.source ≡ source
    → Met s ack x (of_source source delivered) ds → Hears s ack t → Phase t x.session (of_source source (with_delivery x.delivers delivered)) ds
met_phase source s t ack x delivered ds e (opens o n a g d) h =
    before (subst (λ (m : MessageRecord). Held m x.session) (sym h.message_is) o)
    (none_of_source source x.delivers delivered (subst (λ (v : ℕ). IfGiven (IsNot v) x.delivers) e n) ∙ g) (h.done_is a d)
met_phase source s t ack x delivered ds e (closes c g i) h =
    over (subst (λ (o : Option ReceptionRecord). IfOpen (IsNot t.message.source) o) (sym c.session_is) tt)
    (ap (λ (r : Option MessageRecord). of_source source (with_delivery r delivered)) c.delivers_is
    ∙ (one_of_source source s.message delivered e ∙ (λ j. sym h.message_is j ∷ g j))) (h.idle_is i)
met_phase source s t ack x delivered ds e (rests n g i) h =
    over (subst (λ (m : MessageRecord). IfOpen (IsNot m.source) x.session) (sym h.message_is) n.session_is)
    (none_of_source source x.delivers delivered (subst (λ (v : ℕ). IfGiven (IsNot v) x.delivers) e n.delivers_is)
    ∙ (g ∙ ap (λ (m : MessageRecord). m ∷ ds) (sym h.message_is))) (h.idle_is i)

-- the receiver's step and its answer, beside the sender
reply_stands : (source to partner : ℕ) (w : World) (s : SenderRecord) (ack : Type 0) (x : Reaction) (now : ℕ) (is_lost : Bool) (ds : List MessageRecord)
    → Ends source to s w.receiver.own → Matches w.past ds → IfOpen Fits x.session → Met s ack x (of_source source w.delivered) ds
    → Hears s ack (handed_back (option_map (written w.receiver.own partner) x.says) now is_lost s)
    → Stands source to (replied w s (result_of w.receiver.own partner x) now is_lost)
reply_stands source to partner w s ack x now is_lost ds n p b c h = record {
  ends_are = record {
    source_is = ap (λ (m : MessageRecord). m.source) h.message_is ∙ n.source_is;
    destination_is = h.destination_is ∙ n.destination_is;
    own_is = n.own_is;
    long = subst IsLong (sym h.message_is) n.long;
  };
  fits = b;
  ds = ds;
  past_is = p;
  phase = met_phase source s _ ack x w.delivered ds n.source_is c h;
}

-- the sender hears the receiver's answer to it
heard_answer : (source to : ℕ) (s : SenderRecord) (own : ℕ) (o : Option Signal) (now : ℕ) (is_lost : Bool) → source < 254 → to < 254 → Ends source to s own → CanSayIf o
    → Hears s (IsAck o) (handed_back (option_map (written own source) o) now is_lost s)
heard_answer source to s own o now is_lost f t n c =
    let b : Between s = record { source = subst (λ (k : ℕ). k < 254) (sym n.source_is) f; destination = subst (λ (k : ℕ). k < 254) (sym n.destination_is) t } in
    let d : s.destination ≡ own = n.destination_is ∙ sym n.own_is in
    subst (λ (k : ℕ). Hears s (IsAck o) (handed_back (option_map (written k source) o) now is_lost s)) d
    (subst (λ (k : ℕ). Hears s (IsAck o) (handed_back (option_map (written s.destination k) o) now is_lost s)) n.source_is
    (hears_answer s o now is_lost b c))

-- and nothing of one to a third
third_answer : (source to third : ℕ) (s : SenderRecord) (own : ℕ) (o : Option Signal) (now : ℕ) (is_lost : Bool) → to < 254 → Ends source to s own → third < 256 → IsNot source third
    → Hears s ⊥ (handed_back (option_map (written own third) o) now is_lost s)
third_answer source to third s own o now is_lost t n h k =
    let b : own < 256 = let e : own ≡ to = n.own_is in omega arith in
    subst (Hears s ⊥) (sym (answer_unheard s own third o now is_lost b h (λ e. k (e ∙ n.source_is)))) (same s ⊥)

-- ---- a tick of the sender

ticked_ends : (source to own : ℕ) (s : SenderRecord) (r : SendResult) → Ticked s r → Ends source to s own → Ends source to r.after own
ticked_ends source to own s r t n = record {
  source_is = ap (λ (m : MessageRecord). m.source) t.message_is ∙ n.source_is;
  destination_is = t.destination_is ∙ n.destination_is;
  own_is = n.own_is;
  long = subst IsLong (sym t.message_is) n.long;
}

ticked_phase : (s : SenderRecord) (r : SendResult) (o : Option ReceptionRecord) (mine ds : List MessageRecord) → Ticked s r → Phase s o mine ds → Phase r.after o mine ds
ticked_phase s r o mine ds t (before h g k) = before (subst (λ (m : MessageRecord). Held m o) (sym t.message_is) h) g (t.done_is k)
ticked_phase s r o mine ds t (over h g k) =
    over (subst (λ (m : MessageRecord). IfOpen (IsNot m.source) o) (sym t.message_is) h) (g ∙ ap (λ (m : MessageRecord). m ∷ ds) (sym t.message_is)) t.idle_is

-- after its delivery no frame of the message opens a session
stays_closed : (m : MessageRecord) (source own : ℕ) (a : Signal) (now : ℕ) (found : Bool) → IsOwn m false a → takes_signal (Directed source own) (Some a) now found None ≡ quiet None
unfolding takes_signal takes_data takes_abort
stays_closed m source own (BroadcastAnnounce size packets pgn) now found h = absurd h
stays_closed m source own (RequestToSend size packets most pgn) now found h = absurd (both_ways false refl h.0)
stays_closed m source own (ClearToSend count next pgn) now found h = absurd h
stays_closed m source own (Acknowledgment size packets pgn) now found h = absurd h
stays_closed m source own (Abort reason pgn) now found h = refl
stays_closed m source own (Packet k part) now found h = refl

-- beside the session of a third
record Aside (x : Reaction) : Type 0 where
  no_ack : IsAck x.says → ⊥
  can_say : CanSayIf x.says

says_aside : (m : MessageRecord) (own : ℕ) (idle : Bool) (a : Signal) (now : ℕ) (found : Bool) (r : ReceptionRecord) → IsLong m → IsOwn m idle a → IsNot m.source r.message.source
    → Aside (takes_signal (Directed m.source own) (Some a) now found (Some r))
unfolding takes_signal takes_data takes_abort takes_request
says_aside m own idle (BroadcastAnnounce size packets pgn) now found r l h n = absurd h
says_aside m own idle (RequestToSend size packets most pgn) now found r l h n = cond_both (is_taken m.source (Some r)) _ _ Aside
    (λ t. record { no_ack = λ a. a; can_say = pgn_fits m pgn l h.3 })
    (λ t. absurd (both_ways _ t (ap not (not_from m.source r n))))
says_aside m own idle (ClearToSend count next pgn) now found r l h n = absurd h
says_aside m own idle (Acknowledgment size packets pgn) now found r l h n = absurd h
says_aside m own idle (Abort reason pgn) now found r l h n = cond_both (is_from m.source r && pgn == r.message.group) _ _ Aside
    (λ t. record { no_ack = λ a. a; can_say = tt }) (λ t. record { no_ack = λ a. a; can_say = tt })
says_aside m own idle (Packet k part) now found r l h n = cond_both (is_from m.source r) _ _ Aside
    (λ t. absurd (both_ways _ (not_from m.source r n) t)) (λ t. record { no_ack = λ a. a; can_say = tt })

record Replied (s : SenderRecord) (x : Reaction) (mine ds : List MessageRecord) : Type 0 where
  met : Met s (IsAck x.says) x mine ds
  can_say : CanSayIf x.says

replied_open : (s : SenderRecord) (x : Reaction) (mine ds : List MessageRecord) → Open s.message x → mine ≡ ds → is_done s.state ≡ false → Replied s x mine ds
replied_open s x mine ds p g d = record {
  met = opens (ours p.session_is) (subst (IfGiven (IsNot s.message.source)) (sym p.delivers_is) tt) p.no_ack g d;
  can_say = p.can_say;
}

-- the sender's frame meets the receiver, which has a session of the message or none
meets_ours : (s : SenderRecord) (r : SendResult) (a : Signal) (own : ℕ) (o : Option ReceptionRecord) (now : ℕ) (found : Bool) (mine ds : List MessageRecord)
    → IsLong s.message → Ticked s r → IsOwn s.message (is_idle s.state) a → SessionOf s.message o → mine ≡ ds → is_done s.state ≡ false
    → Replied r.after (takes_signal (Directed s.message.source own) (Some a) now found o) mine ds
meets_ours s r a own o now found mine ds l t w h g k =
    let x : Reaction = takes_signal (Directed s.message.source own) (Some a) now found o in
    elim (signal_case s.message own (is_idle s.state) o a now found l h w) [
      | inl p ↦ replied_open r.after x mine ds (subst (λ (m : MessageRecord). Open m x) (sym t.message_is) p) g (t.done_is k)
      | inr p ↦ record { met = closes (subst (λ (m : MessageRecord). Closed m x) (sym t.message_is) p) g t.idle_is; can_say = p.can_say }
    ]

-- a session of a third
meets_third : (s : SenderRecord) (r : SendResult) (a : Signal) (own : ℕ) (q : ReceptionRecord) (now : ℕ) (found : Bool) (mine ds : List MessageRecord)
    → IsLong s.message → Ticked s r → IsOwn s.message (is_idle s.state) a → IsNot s.message.source q.message.source → Phase s (Some q) mine ds
    → Replied r.after (takes_signal (Directed s.message.source own) (Some a) now found (Some q)) mine ds
meets_third s r a own q now found mine ds l t w n p =
    let x : Reaction = takes_signal (Directed s.message.source own) (Some a) now found (Some q) in
    let c : Aside x = says_aside s.message own (is_idle s.state) a now found q l w n in
    let u = third_signal (Directed s.message.source own) (Some a) now found q n in
    let e = sym t.message_is in
    let b : IfOpen (IsNot r.after.message.source) x.session =
    subst (λ (m : MessageRecord). IfOpen (IsNot m.source) x.session) e (subst (IfOpen (IsNot s.message.source)) (sym u.session_is) n) in
    let d : IfGiven (IsNot r.after.message.source) x.delivers = subst (IfGiven (IsNot r.after.message.source)) (sym u.delivers_is) tt in
    record { met = of_phase x b d c.no_ack p; can_say = c.can_say }
  where
    of_phase : (x : Reaction) → IfOpen (IsNot r.after.message.source) x.session → IfGiven (IsNot r.after.message.source) x.delivers → (IsAck x.says → ⊥) → Phase s (Some q) mine ds
        → Met r.after (IsAck x.says) x mine ds
    of_phase x b d c (before h g k) = opens (others b) d c g (t.done_is k)
    of_phase x b d c (over h g k) = rests (record { session_is = b; delivers_is = d }) (g ∙ ap (λ (m : MessageRecord). m ∷ ds) (sym t.message_is)) t.idle_is

meets : (s : SenderRecord) (r : SendResult) (a : Signal) (own : ℕ) (o : Option ReceptionRecord) (now : ℕ) (found : Bool) (mine ds : List MessageRecord)
    → IsLong s.message → Ticked s r → IsOwn s.message (is_idle s.state) a → Phase s o mine ds
    → Replied r.after (takes_signal (Directed s.message.source own) (Some a) now found o) mine ds
meets s r a own o now found mine ds l t w (before (ours h) g k) = meets_ours s r a own o now found mine ds l t w h g k
meets s r a own None now found mine ds l t w (before (others n) g k) = meets_ours s r a own None now found mine ds l t w tt g k
meets s r a own (Some q) now found mine ds l t w (before (others n) g k) = meets_third s r a own q now found mine ds l t w n (before (others n) g k)
meets s r a own None now found mine ds l t w (over n g k) =
    let e : takes_signal (Directed s.message.source own) (Some a) now found None ≡ quiet None =
    stays_closed s.message s.message.source own a now found (subst (λ (b : Bool). IsOwn s.message b a) k w) in
    subst (λ (x : Reaction). Replied r.after x mine ds) (sym e)
    (record { met = rests (record { session_is = tt; delivers_is = tt }) (g ∙ ap (λ (m : MessageRecord). m ∷ ds) (sym t.message_is)) t.idle_is; can_say = tt })
meets s r a own (Some q) now found mine ds l t w (over n g k) = meets_third s r a own q now found mine ds l t w n (over n g k)

-- its frame is lost, or there is none
unmet : (source to : ℕ) (w : World) (r : SendResult) → Stands source to w → Ticked w.sender r → Stands source to (record w { sender = r.after })
unmet source to w r h k = record {
  ends_are = ticked_ends source to w.receiver.own w.sender r k h.ends_are;
  fits = h.fits;
  ds = h.ds;
  past_is = h.past_is;
  phase = ticked_phase w.sender r w.receiver.session (of_source source w.delivered) h.ds k h.phase;
}

-- the receiver hears the sender's frame
pub received : (source to : ℕ) (w : World) (a : Signal) (now : ℕ) (found : Bool) → source < 254 → to < 254 → Ends source to w.sender w.receiver.own → CanSay a
    → recv_step w.receiver (Heard (at_moment now (written w.sender.message.source w.sender.destination a))) now found
    ≡ result_of w.receiver.own source (takes_signal (Directed w.sender.message.source w.receiver.own) (Some a) now found w.receiver.session)
received source to w a now found f t n c =
    let s : w.sender.message.source < 254 = subst (λ (v : ℕ). v < 254) (sym n.source_is) f in
    let d : w.receiver.own < 254 = subst (λ (v : ℕ). v < 254) (sym n.own_is) t in
    let x : Reaction = takes_signal (Directed w.sender.message.source w.receiver.own) (Some a) now found w.receiver.session in
    ap (λ (v : ℕ). recv_step w.receiver (Heard (at_moment now (written w.sender.message.source v a))) now found) (n.destination_is ∙ sym n.own_is)
    ∙ (heard_by_receiver w.receiver w.sender.message.source a now found s d c
    ∙ ap (λ (v : ℕ). result_of w.receiver.own v x) n.source_is)

carried_stands : (source to : ℕ) (w : World) (r : SendResult) (o : Option Signal) (now : ℕ) (is_lost answer_lost found : Bool)
    → source < 254 → to < 254 → Stands source to w → Ticked w.sender r → OwnIf w.sender.message (is_idle w.sender.state) o
    → Stands source to (carried w r.after (sent_by w.sender o) now is_lost answer_lost found)
carried_stands source to w r None now is_lost answer_lost found f t h k own = unmet source to w r h k
carried_stands source to w r (Some a) now true answer_lost found f t h k own = unmet source to w r h k
carried_stands source to w r (Some a) now false answer_lost found f t h k own =
    let n = h.ends_are in
    let c : CanSay a = own_can_say w.sender.message (is_idle w.sender.state) a n.long own in
    let s : w.sender.message.source < 254 = subst (λ (v : ℕ). v < 254) (sym n.source_is) f in
    let b : w.sender.message.source < 256 = omega arith in
    let x : Reaction = takes_signal (Directed w.sender.message.source w.receiver.own) (Some a) now found w.receiver.session in
    let z : Ends source to r.after w.receiver.own = ticked_ends source to w.receiver.own w.sender r k n in
    let m : Replied r.after x (of_source source w.delivered) h.ds =
    meets w.sender r a w.receiver.own w.receiver.session now found (of_source source w.delivered) h.ds n.long k own h.phase in
    let fit = keeps_signal Fits (Directed w.sender.message.source w.receiver.own) (Some a) now found w.receiver.session b h.fits in
    subst (λ (y : RecvResult). Stands source to (replied w r.after y now answer_lost)) (sym (received source to w a now found f t n c))
    (reply_stands source to source w r.after (IsAck x.says) x now answer_lost h.ds z h.past_is fit.session_is m.met
    (heard_answer source to r.after w.receiver.own x.says now answer_lost f t z m.can_say))

-- ---- a tick of the receiver

tick_replied : (source to : ℕ) (w : World) (o : Option ReceptionRecord) (now : ℕ) (is_lost : Bool) (ds : List MessageRecord) → source < 254 → to < 254
    → Ends source to w.sender w.receiver.own → Matches w.past ds → IfOpen Fits o → Phase w.sender o (of_source source w.delivered) ds
    → Stands source to (replied w w.sender (result_of w.receiver.own (partner_of o) (takes_tick now o)) now is_lost)
unfolding takes_tick
tick_replied source to w None now is_lost ds f t n p b c =
    reply_stands source to (partner_of None) w w.sender ⊥ (takes_tick now None) now is_lost ds n p (keeps_tick Fits now None b).session_is (met c) (same w.sender ⊥)
  where
    met : Phase w.sender None (of_source source w.delivered) ds → Met w.sender ⊥ (takes_tick now None) (of_source source w.delivered) ds
    met (before h g k) = let x = keeps_tick (IsNot w.sender.message.source) now None tt in opens (others x.session_is) x.delivers_is (λ a. a) g k
    met (over h g k) = rests (keeps_tick (IsNot w.sender.message.source) now None tt) g k
tick_replied source to w (Some r) now is_lost ds f t n p b (before (ours h) g k) =
    let m = w.sender.message in
    let x : Reaction = takes_tick now (Some r) in
    let c : Open m x = tick_case m (Some r) now n.long h in
    let z : Replied w.sender x (of_source source w.delivered) ds = replied_open w.sender x (of_source source w.delivered) ds c g k in
    subst (λ (v : ℕ). Stands source to (replied w w.sender (result_of w.receiver.own v x) now is_lost)) (sym (h.is_of.source_is ∙ n.source_is))
    (reply_stands source to source w w.sender (IsAck x.says) x now is_lost ds n p (keeps_tick Fits now (Some r) b).session_is z.met
    (heard_answer source to w.sender w.receiver.own x.says now is_lost f t n c.can_say))
tick_replied source to w (Some r) now is_lost ds f t n p b (before (others h) g k) =
    let x = keeps_tick (IsNot w.sender.message.source) now (Some r) h in
    reply_stands source to r.message.source w w.sender ⊥ (takes_tick now (Some r)) now is_lost ds n p (keeps_tick Fits now (Some r) b).session_is
    (opens (others x.session_is) x.delivers_is (λ a. a) g k)
    (third_answer source to r.message.source w.sender w.receiver.own (takes_tick now (Some r)).says now is_lost t n b (λ e. h (e ∙ sym n.source_is)))
tick_replied source to w (Some r) now is_lost ds f t n p b (over h g k) =
    reply_stands source to r.message.source w w.sender ⊥ (takes_tick now (Some r)) now is_lost ds n p (keeps_tick Fits now (Some r) b).session_is
    (rests (keeps_tick (IsNot w.sender.message.source) now (Some r) h) g k)
    (third_answer source to r.message.source w.sender w.receiver.own (takes_tick now (Some r)).says now is_lost t n b (λ e. h (e ∙ sym n.source_is)))

-- ---- a frame of a third

third_met : (s : SenderRecord) (own third : ℕ) (a : Option Signal) (now : ℕ) (found : Bool) (o : Option ReceptionRecord) (mine ds : List MessageRecord)
    → IsNot s.message.source third → Phase s o mine ds → Met s ⊥ (takes_signal (Directed third own) a now found o) mine ds
third_met s own third a now found None mine ds n (before h g k) =
    let x = keeps_signal (IsNot s.message.source) (Directed third own) a now found None n tt in opens (others x.session_is) x.delivers_is (λ a. a) g k
third_met s own third a now found (Some r) mine ds n (before (ours h) g k) =
    let u = third_signal (Directed third own) a now found r (λ e. n (sym e ∙ h.is_of.source_is)) in
    opens (ours (subst (SessionOf s.message) (sym u.session_is) h)) (subst (IfGiven (IsNot s.message.source)) (sym u.delivers_is) tt) (λ a. a) g k
third_met s own third a now found (Some r) mine ds n (before (others h) g k) =
    let x = keeps_signal (IsNot s.message.source) (Directed third own) a now found (Some r) n h in opens (others x.session_is) x.delivers_is (λ a. a) g k
third_met s own third a now found o mine ds n (over h g k) = rests (keeps_signal (IsNot s.message.source) (Directed third own) a now found o n h) g k

third_stands : (source to : ℕ) (w : World) (f : ToSend) (now : ℕ) (is_lost answer_lost found : Bool) → to < 254 → IsThird source to f → Stands source to w
    → Stands source to (carried w w.sender (Some f) now is_lost answer_lost found)
unfolding recv_step
third_stands source to w f now true answer_lost found t i h = h
third_stands source to w f now false answer_lost found t i h =
    let n = h.ends_are in
    let own = w.receiver.own in
    let third : ℕ = source_of f.id in
    let b : third < 256 = source_fits f.id in
    let a : Option Signal = said_to own (at_moment now f) in
    let o = w.receiver.session in
    reply_stands source to third w w.sender ⊥ (takes_signal (Directed third own) a now found o) now answer_lost h.ds n h.past_is
    (keeps_signal Fits (Directed third own) a now found o b h.fits).session_is
    (third_met w.sender own third a now found o (of_source source w.delivered) h.ds (λ e. i.not_source (e ∙ n.source_is)) h.phase)
    (third_answer source to third w.sender own (takes_signal (Directed third own) a now found o).says now answer_lost t n b i.not_source)

-- ---- all steps

matched : (s : SenderRecord) (past : List (MessageRecord × Bool)) (o : Option ReceptionRecord) (mine ds : List MessageRecord) → Matches past ds → Phase s o mine ds
    → Matches ((s.message, is_done s.state) ∷ past) mine
matched s past o mine ds m (before h g k) = inl (k, subst (λ (xs : List MessageRecord). Matches past xs) (sym g) m)
matched s past o mine ds m (over h g k) = inr (ds, g, m)

free : (source : ℕ) (o : Option ReceptionRecord) → not (is_busy_with source o) ≡ true → IfOpen (IsNot source) o
free source None e = tt
free source (Some r) e = λ k. absurd (both_ways _ (ap not (eq-eqb source r.message.source (sym k))) e)

abbrev pub FromOf : ℕ → ℕ → NetEvent → Type 0
FromOf source to (SenderTick now a b c) = Unit {0}
FromOf source to (ReceiverTick now a) = Unit {0}
FromOf source to (Next m) = IsFrom source m
FromOf source to (Third f now a b c d) = IsThird source to f

pub step_stands : (source to : ℕ) (w : World) (e : NetEvent) → source < 254 → to < 254 → FromOf source to e → Stands source to w → Stands source to (happens w e)
unfolding happens send_step new_sender recv_step
step_stands source to w (SenderTick now is_lost answer_lost found) f t g h =
    let k : Ticked w.sender (ticks_in w.sender.state now w.sender) = ticked w.sender w.sender.state now refl in
    carried_stands source to w (ticks_in w.sender.state now w.sender) (ticks_in w.sender.state now w.sender).says now is_lost answer_lost found f t h k k.says_own
step_stands source to w (ReceiverTick now is_lost) f t g h =
    tick_replied source to w w.receiver.session now is_lost h.ds f t h.ends_are h.past_is h.fits h.phase
step_stands source to w (Next m) f t g h = cond_both (is_over w.sender.state && not (is_busy_with w.sender.message.source w.receiver.session)) _ _ (Stands source to)
    (λ c. record {
      ends_are = record { source_is = g.from; destination_is = h.ends_are.destination_is; own_is = h.ends_are.own_is; long = g.long };
      fits = h.fits;
      ds = of_source source w.delivered;
      past_is = matched w.sender w.past w.receiver.session (of_source source w.delivered) h.ds h.past_is h.phase;
      phase = before (others (subst (λ (v : ℕ). IfOpen (IsNot v) w.receiver.session) (h.ends_are.source_is ∙ sym g.from)
          (free w.sender.message.source w.receiver.session (and_parts (is_over w.sender.state) (not (is_busy_with w.sender.message.source w.receiver.session)) c).1))) refl refl;
    })
    (λ c. h)
step_stands source to w (Third a now sender_loses receiver_loses answer_lost found) f t g h =
    subst (λ (s : SenderRecord). Stands source to (carried w s (Some a) now receiver_loses answer_lost found))
    (sym (third_unheard w.sender a now sender_loses (λ e. g.not_to (e ∙ h.ends_are.destination_is))))
    (third_stands source to w a now receiver_loses answer_lost found t g h)

run_stands : (source to : ℕ) (es : List NetEvent) (w : World) → source < 254 → to < 254 → AreBetween source to es → Stands source to w → Stands source to (run es w)
unfolding run
run_stands source to [] w f t g h = h
run_stands source to (SenderTick now a b c ∷ es) w f t g h = run_stands source to es (happens w (SenderTick now a b c)) f t g (step_stands source to w (SenderTick now a b c) f t tt h)
run_stands source to (ReceiverTick now a ∷ es) w f t g h = run_stands source to es (happens w (ReceiverTick now a)) f t g (step_stands source to w (ReceiverTick now a) f t tt h)
run_stands source to (Next m ∷ es) w f t g h = run_stands source to es (happens w (Next m)) f t g.1 (step_stands source to w (Next m) f t g.0 h)
run_stands source to (Third a now b c d e ∷ es) w f t g h =
    run_stands source to es (happens w (Third a now b c d e)) f t g.1 (step_stands source to w (Third a now b c d e) f t g.0 h)

pub start_stands : (source to : ℕ) (m : MessageRecord) → IsFrom source m → Stands source to (start to m)
unfolding start new_sender
start_stands source to m h = record {
  ends_are = record { source_is = h.from; destination_is = refl; own_is = refl; long = h.long };
  fits = tt;
  ds = [];
  past_is = refl;
  phase = before (ours tt) refl refl;
}

pub transfers : TransfersLaw
transfers source to f t m es h g =
    let s = run_stands source to es (start to m) f t g (start_stands source to m h) in
    matched (run es (start to m)).sender (run es (start to m)).past (run es (start to m)).receiver.session (of_source source (run es (start to m)).delivered) s.ds s.past_is s.phase
