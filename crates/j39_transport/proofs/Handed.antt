-- A receiver stands for the frames that were handed to it.
use Rattle.std.proofs.Common.{◌≡◌, ℕ, ◌+◌, ◌==◌, nat_lt, suc, Bool, false, ◌&&◌, List, [], ◌∷◌, ◌++◌, length, Option, Some, None, refl, sym, ap, ◌∙◌, subst, arith, slice_index, eqb-true}
use Rattle.std.proofs.lemmas.Bool.{cond_both, and_parts}
use Rattle.j39_frame.specs.Address.{null_address, global_address}
use Rattle.j39_frame.specs.Frame.{FrameRecord}
use Rattle.j39_frame.specs.Network.{transport_control_group, transport_data_group}
use Rattle.j39_transport.specs.Frames.{group_of, source_of, destination_of, packets_for, names_message}
use Rattle.j39_transport.specs.Key.{Broadcast, Directed, is_key, key_between}
use Rattle.j39_transport.specs.Protocol.{request_to_send, clear_to_send, acknowledgment, connection_abort, broadcast_announce}
use Rattle.j39_transport.specs.Reception.{ReceptionRecord, Reaction, quiet, granted_at, grants, asks_again, begun, delivers_message, goes_on, takes_packet, is_from, is_taken, takes_request, takes_data, takes_abort, takes_signal, limit_of, takes_tick}
use Rattle.j39_transport.specs.Receiving.{ReceiverRecord, BoxedReceiver, HearStep, ReceiverAnswer, Heard, Tick, answer_in, said_to, recv_step, RecvStep}
use Rattle.j39_transport.specs.ReceiverStands.{AreJoined, requested, passed, packed, IsReceived, AreReceived, ReceiverStandsFor, WereHanded, HasHeard}
use Rattle.j39_transport.specs.Session.{opened, grown}
use Rattle.j39_transport.specs.Signals.{Signal, BroadcastAnnounce, RequestToSend, ClearToSend, Acknowledgment, Abort, Packet, said_between, said_by, packet_in, control_in, request_in, broadcast_in}
use Rattle.j39_transport.proofs.FrameFacts.{message_facts}

-- ---- an RTS names as many packets as its size takes

abbrev Agrees : Option Signal → Type 0
Agrees None = Unit {0}
Agrees (Some (BroadcastAnnounce size packets pgn)) = Unit {0}
Agrees (Some (RequestToSend size packets most pgn)) = packets ≡ packets_for size
Agrees (Some (ClearToSend count next pgn)) = Unit {0}
Agrees (Some (Acknowledgment size packets pgn)) = Unit {0}
Agrees (Some (Abort reason pgn)) = Unit {0}
Agrees (Some (Packet number part)) = Unit {0}

said_agrees : (s d : ℕ) (f : FrameRecord) → Agrees (said_between s d f)
unfolding said_between said_by packet_in control_in request_in broadcast_in
said_agrees s d f = cond_both (source_of f.id == s && destination_of f.id == d) _ _ Agrees
    (λ a. cond_both (group_of f.id == transport_data_group && length f.bytes == 8) _ _ Agrees
    (λ b. cond_both (is_key (key_between (source_of f.id) (destination_of f.id))) _ _ Agrees (λ c. tt) (λ c. tt))
    (λ b. cond_both (group_of f.id == transport_control_group && length f.bytes == 8) _ _ Agrees (λ c. control) (λ c. tt)))
    (λ a. tt)
  where
    control : Agrees (control_in f)
    control = cond_both (slice_index f.bytes 0 == request_to_send) _ _ Agrees
        (λ a. cond_both (is_key (Directed (source_of f.id) (destination_of f.id)) && names_message f) _ _ Agrees
        (λ b. (message_facts f (and_parts (is_key (Directed (source_of f.id) (destination_of f.id))) (names_message f) b).1).count) (λ b. tt))
        (λ a. cond_both (slice_index f.bytes 0 == broadcast_announce) _ _ Agrees
        (λ b. cond_both (is_key (Broadcast (source_of f.id)) && destination_of f.id == global_address && names_message f) _ _ Agrees (λ c. tt) (λ c. tt))
        (λ b. cond_both (slice_index f.bytes 0 == clear_to_send) _ _ Agrees (λ c. tt)
        (λ c. cond_both (slice_index f.bytes 0 == acknowledgment) _ _ Agrees (λ d. tt)
        (λ d. cond_both (slice_index f.bytes 0 == connection_abort) _ _ Agrees (λ e. tt) (λ e. tt)))))

-- ---- each event

-- what is open and what is delivered was handed in
record Fair (own : ℕ) (E : List FrameRecord) (x : Reaction) : Type 0 where
  session : AreReceived own E x.session
  delivers : WereHanded own E x.delivers

fair_quiet : (own : ℕ) (E : List FrameRecord) (o : Option ReceptionRecord) → AreReceived own E o → Fair own E (quiet o)
fair_quiet own E o h = record { session = h; delivers = tt }

received_on : (own : ℕ) (E : List FrameRecord) (f : FrameRecord) (o : Option ReceptionRecord) → AreReceived own E o → AreReceived own (E ++ f ∷ []) o
received_on own E f None h = tt
received_on own E f (Some r) h = record { packets_are = h.packets_are; joined_are = passed E f _ _ h.joined_are }

fair_grants : (own : ℕ) (E : List FrameRecord) (r : ReceptionRecord) (now : ℕ) → IsReceived own E r → Fair own E (grants now r)
unfolding grants granted_at
fair_grants own E r now h = record { session = record { packets_are = h.packets_are; joined_are = h.joined_are }; delivers = tt }

fair_asks : (own : ℕ) (E : List FrameRecord) (r : ReceptionRecord) (now : ℕ) → IsReceived own E r → Fair own E (asks_again now r)
unfolding asks_again
fair_asks own E r now h = cond_both (r.asks == 2) _ _ (Fair own E)
    (λ t. record { session = tt; delivers = tt })
    (λ t. fair_grants own E (record r { asks = r.asks + 1 }) now (record { packets_are = h.packets_are; joined_are = h.joined_are }))

fair_goes_on : (own : ℕ) (E : List FrameRecord) (r : ReceptionRecord) (now : ℕ) → IsReceived own E r → Fair own E (goes_on now r)
unfolding goes_on delivers_message
fair_goes_on own E r now h = cond_both (r.message.count == r.message.packets) _ _ (Fair own E)
    (λ t. record {
      session = tt;
      delivers = record {
        size = r.message.size;
        joined = r.message.bytes;
        bytes_are = refl;
        joined_are = subst (λ (n : ℕ). AreJoined own r.message.source r.message.size r.message.group E n r.message.bytes) (eqb-true _ _ t ∙ h.packets_are) h.joined_are;
      };
    })
    (λ t. cond_both (r.message.count == r.granted) _ _ (Fair own E) (λ u. fair_grants own E r now h) (λ u. fair_quiet own E (Some r) h))

fair_packet : (own : ℕ) (E : List FrameRecord) (f : FrameRecord) (r : ReceptionRecord) (n : ℕ) (more : List ℕ) (now : ℕ)
    → IsReceived own E r → said_between r.message.source own f ≡ Some (Packet n more)
    → Fair own (E ++ f ∷ []) (takes_packet n more now r)
unfolding takes_packet
fair_packet own E f r n more now h s = cond_both (n == r.message.count + 1) _ _ (Fair own (E ++ f ∷ []))
    (λ t. fair_goes_on own (E ++ f ∷ []) (record r { message = grown now more r.message; fresh = false }) now (record {
      packets_are = h.packets_are;
      joined_are = next (eqb-true _ _ t);
    }))
    (λ t.
    let g : IsReceived own (E ++ f ∷ []) r = received_on own E f (Some r) h in
    cond_both (n == r.granted) _ _ (Fair own (E ++ f ∷ []))
    (λ u. fair_asks own (E ++ f ∷ []) r now g)
    (λ u. record { session = record { packets_are = g.packets_are; joined_are = g.joined_are }; delivers = tt }))
  where
    next : n ≡ r.message.count + 1 → AreJoined own r.message.source r.message.size r.message.group (E ++ f ∷ []) (suc r.message.count) (r.message.bytes ++ more)
    next e =
        let p : AreJoined own r.message.source r.message.size r.message.group (E ++ f ∷ []) (r.message.count + 1) (r.message.bytes ++ more) =
        packed E f r.message.count r.message.bytes more h.joined_are (s ∙ ap (λ (k : ℕ). Some (Packet k more)) e) in
        subst (λ (k : ℕ). AreJoined own r.message.source r.message.size r.message.group (E ++ f ∷ []) k (r.message.bytes ++ more)) (omega arith) p

fair_request : (own : ℕ) (E : List FrameRecord) (f : FrameRecord) (o : Option ReceptionRecord) (source size packets most pgn now : ℕ) (found : Bool)
    → AreReceived own E o → said_between source own f ≡ Some (RequestToSend size packets most pgn)
    → Fair own (E ++ f ∷ []) (takes_request (opened (Directed source own) pgn size packets now) most now found o)
unfolding takes_request begun
fair_request own E f o source size packets most pgn now found h s =
    let on = received_on own E f o h in
    let agrees : packets ≡ packets_for size = subst Agrees s (said_agrees source own f) in
    cond_both (is_taken source o) _ _ (Fair own (E ++ f ∷ []))
    (λ t. record { session = on; delivers = tt })
    (λ t. cond_both found _ _ (Fair own (E ++ f ∷ []))
    (λ u. fair_grants own (E ++ f ∷ []) (begun (opened (Directed source own) pgn size packets now) most) now
    (record { packets_are = agrees; joined_are = requested E f packets most s }))
    (λ u. record { session = on; delivers = tt }))

fair_signal : (own : ℕ) (E : List FrameRecord) (f : FrameRecord) (o : Option ReceptionRecord) (source : ℕ) (a : Option Signal) (now : ℕ) (found : Bool)
    → said_between source own f ≡ a → AreReceived own E o
    → Fair own (E ++ f ∷ []) (takes_signal (Directed source own) a now found o)
unfolding takes_signal takes_data takes_abort
fair_signal own E f o source None now found s h = fair_quiet own _ o (received_on own E f o h)
fair_signal own E f o source (Some (BroadcastAnnounce size packets pgn)) now found s h = fair_quiet own _ o (received_on own E f o h)
fair_signal own E f o source (Some (RequestToSend size packets most pgn)) now found s h = fair_request own E f o source size packets most pgn now found h s
fair_signal own E f o source (Some (ClearToSend count next pgn)) now found s h = fair_quiet own _ o (received_on own E f o h)
fair_signal own E f o source (Some (Acknowledgment size packets pgn)) now found s h = fair_quiet own _ o (received_on own E f o h)
fair_signal own E f None source (Some (Abort reason pgn)) now found s h = fair_quiet own _ None tt
fair_signal own E f (Some r) source (Some (Abort reason pgn)) now found s h = cond_both (is_from source r && pgn == r.message.group) _ _ (Fair own (E ++ f ∷ []))
    (λ t. fair_quiet own _ None tt) (λ t. fair_quiet own _ (Some r) (received_on own E f (Some r) h))
fair_signal own E f None source (Some (Packet n more)) now found s h = fair_quiet own _ None tt
fair_signal own E f (Some r) source (Some (Packet n more)) now found s h = cond_both (is_from source r) _ _ (Fair own (E ++ f ∷ []))
    (λ t. fair_packet own E f r n more now h (ap (λ (k : ℕ). said_between k own f) (sym (eqb-true source r.message.source t)) ∙ s))
    (λ t. fair_quiet own _ (Some r) (received_on own E f (Some r) h))

fair_frame : (E : List FrameRecord) (r : ReceiverRecord) (f : FrameRecord) (now : ℕ) (found : Bool) → ReceiverStandsFor E r
    → Fair r.own (E ++ f ∷ []) (takes_signal (Directed (source_of f.id) r.own) (said_to r.own f) now found r.session)
unfolding said_to takes_signal
fair_frame E r f now found h = cond_both (nat_lt (source_of f.id) null_address) _ _
    (λ (a : Option Signal). Fair r.own (E ++ f ∷ []) (takes_signal (Directed (source_of f.id) r.own) a now found r.session))
    (λ t. fair_signal r.own E f r.session (source_of f.id) (said_between (source_of f.id) r.own f) now found refl h)
    (λ t. fair_quiet r.own _ r.session (received_on r.own E f r.session h))

fair_tick : (own : ℕ) (E : List FrameRecord) (o : Option ReceptionRecord) (now : ℕ) → AreReceived own E o → Fair own E (takes_tick now o)
unfolding takes_tick
fair_tick own E None now h = fair_quiet own E None tt
fair_tick own E (Some r) now h = cond_both (nat_lt (r.message.last + limit_of r) now) _ _ (Fair own E) (λ t. fair_asks own E r now h) (λ t. fair_quiet own E (Some r) h)

-- ---- the receiver

-- what a frame delivers was handed in
pub were_handed : (E : List FrameRecord) (r : ReceiverRecord) (f : FrameRecord) (now : ℕ) (found : Bool) (answer : ReceiverAnswer)
    → answer ≡ answer_in (recv_step r (Heard f) now found) → ReceiverStandsFor E r → WereHanded r.own (E ++ f ∷ []) answer.delivers
unfolding recv_step
were_handed E r f now found answer e h = subst (λ (a : ReceiverAnswer). WereHanded r.own (E ++ f ∷ []) a.delivers) (sym e) (fair_frame E r f now found h).delivers

-- a receiver that was handed a frame stands for one frame more
pub stands_more : (E : List FrameRecord) (r : ReceiverRecord) (f : FrameRecord) (now : ℕ) (found : Bool) → ReceiverStandsFor E r
    → ReceiverStandsFor (E ++ f ∷ []) (recv_step r (Heard f) now found).after
unfolding recv_step
stands_more E r f now found h = (fair_frame E r f now found h).session

pub has_heard : (old : BoxedReceiver) (f : FrameRecord) (now : ℕ) (answer : ReceiverAnswer) (new : BoxedReceiver)
    → HearStep old f now answer new → HasHeard old f now answer new
has_heard old f now answer new s = record {
  takes = s;
  stands = λ E h. subst (ReceiverStandsFor (E ++ f ∷ [])) (sym s.step.after) (stands_more E old.state f now s.step.found h);
}

-- one that let time pass stands for the same frames
pub stands_still : (E : List FrameRecord) (old : ReceiverRecord) (now : ℕ) (answer : ReceiverAnswer) (new : ReceiverRecord)
    → RecvStep old Tick now answer new → ReceiverStandsFor E old → ReceiverStandsFor E new
unfolding recv_step
stands_still E old now answer new s h = subst (ReceiverStandsFor E) (sym s.after) (fair_tick old.own E old.session now h).session
