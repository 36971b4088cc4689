-- How long each end waits: law `waits`.
use Rattle.std.proofs.Common.{◌≡◌, ℕ, ◌+◌, ◌==◌, nat_lt, Bool, true, false, ◌&&◌, cond, List, Option, Some, None, refl, sym, ap, ◌∙◌, subst, arith, eq-eqb, lt-ltb}
use Rattle.std.specs.Prelude.{IsSome}
use Rattle.std.proofs.lemmas.Bool.{cond_both, both_ways, le-ltb}
use Rattle.j39_transport.specs.Key.{Key, sender}
use Rattle.j39_transport.specs.Liveness.{SenderWaits, SenderWaitsLaw, ReceiverWaits, ReceiverWaitsLaw}
use Rattle.j39_transport.specs.Net.{is_busy_with}
use Rattle.j39_transport.specs.Reception.{ReceptionRecord, Reaction, quiet, answers, granted_at, grants, asks_again, begun, delivers_message, goes_on, takes_packet, is_from, is_taken, takes_request, takes_data, takes_abort, takes_signal, limit_of, takes_tick}
use Rattle.j39_transport.specs.Sending.{SenderRecord, SendState, SendResult, Idle, Waiting, Sending, Done, Failed, is_waiting, silent, waits, sends_packet, ticks_in, cleared, hears, send_step}
use Rattle.j39_transport.specs.Protocol.{timer_t3, timer_t4}
use Rattle.j39_transport.specs.Session.{SessionRecord, opened, grown, touched}
use Rattle.j39_transport.specs.Signals.{Signal, BroadcastAnnounce, RequestToSend, ClearToSend, Acknowledgment, Abort, Packet}

-- ---- the sender

-- it waits so long from this moment on
record WaitsSo (limit since : ℕ) (s : SenderRecord) : Type 0 where
  state_is : s.state ≡ Waiting limit
  since_is : s.since ≡ since

late : SenderRecord → SendResult
late s = record { after = record s { state = Failed 3 }; says = Some (Abort 3 s.message.pgn) }

waits_so : (limit since : ℕ) (s : SenderRecord) → WaitsSo limit since s → SenderWaits limit since s
unfolding send_step ticks_in late
waits_so limit since s h =
    let e : s.since ≡ since = h.since_is in
    record {
      waits = λ now l. ap (λ (st : SendState). ticks_in st now s) h.state_is
          ∙ ap (λ (b : Bool). cond b (late s) (silent s)) (le-ltb (s.since + limit) now (omega arith));
      fails = λ now l. ap (λ (st : SendState). ticks_in st now s) h.state_is
          ∙ ap (λ (b : Bool). cond b (late s) (silent s)) (lt-ltb (s.since + limit) now (omega arith));
    }

sent_so : (s : SenderRecord) (st : SendState) (now : ℕ) → s.state ≡ st → IsSome (ticks_in st now s).says → is_waiting (ticks_in st now s).after.state ≡ true
    → WaitsSo 1250000 now (ticks_in st now s).after
unfolding ticks_in sends_packet late
sent_so s Idle now e a w = record { state_is = refl; since_is = refl }
sent_so s (Waiting limit) now e a w = nothing_sent (nat_lt (s.since + limit) now) a w
  where
    nothing_sent : (b : Bool) → IsSome (cond b (late s) (silent s)).says → is_waiting (cond b (late s) (silent s)).after.state ≡ true → WaitsSo 1250000 now (cond b (late s) (silent s)).after
    nothing_sent true a w = absurd (both_ways false refl w)
    nothing_sent false a w = absurd (both_ways false refl a)
sent_so s (Sending next last) now e a w = packet_so (next == last) w
  where
    packet_so : (b : Bool) → is_waiting (cond b (Waiting timer_t3) (Sending (next + 1) last)) ≡ true
        → WaitsSo 1250000 now (record (ticks_in (Sending next last) now s).after { state = cond b (Waiting timer_t3) (Sending (next + 1) last); since = cond b now s.since })
    packet_so true w = record { state_is = refl; since_is = refl }
    packet_so false w = absurd (both_ways false refl w)
sent_so s Done now e a w = absurd (both_ways false refl a)
sent_so s (Failed reason) now e a w = absurd (both_ways false refl a)

held_so : (s : SenderRecord) (next now : ℕ) → is_waiting s.state ≡ true → hears (Some (ClearToSend 0 next s.message.pgn)) now s ≡ waits timer_t4 now s
unfolding hears cleared
held_so s next now w =
    let a : (s.message.pgn == s.message.pgn) ≡ true = eq-eqb _ _ refl in
    ap (λ (b : Bool). cond b (cleared 0 next now s) s) a ∙ ap (λ (b : Bool). cond b (waits timer_t4 now s) s) w

pub sender_waits : SenderWaitsLaw
unfolding send_step
sender_waits s now = record {
  sent = λ a w. waits_so 1250000 now (ticks_in s.state now s).after (sent_so s s.state now refl a w);
  held = λ f next w e. subst (SenderWaits 1050000 now) (sym (ap (λ (a : Option Signal). hears a now s) e ∙ held_so s next now w))
      (waits_so 1050000 now (waits timer_t4 now s) (record { state_is = refl; since_is = refl }));
}

-- ---- the receiver

-- its session was set at this moment, by a CTS or by a packet
record IsSet (fresh : Bool) (now : ℕ) (o : Option ReceptionRecord) : Type 0 where
  session : ReceptionRecord
  session_is : o ≡ Some session
  last_is : session.message.last ≡ now
  fresh_is : session.fresh ≡ fresh

says_again : (now : ℕ) (r : ReceptionRecord) → IsSome (asks_again now r).says
unfolding asks_again grants
says_again now r =
    cond_both (r.asks == 2) (answers None (Abort 3 r.message.group)) (grants now (record r { asks = r.asks + 1 })) (λ (x : Reaction). IsSome x.says) (λ t. refl) (λ t. refl)

session_waits : (limit since : ℕ) (r : ReceptionRecord) → r.message.last ≡ since → limit_of r ≡ limit → ReceiverWaits limit since (Some r)
unfolding takes_tick
session_waits limit since r e l = record {
  waits = λ now h. ap (λ (b : Bool). cond b (asks_again now r) (quiet (Some r))) (le-ltb (r.message.last + limit_of r) now (omega arith));
  asks = λ now h. subst (λ (b : Bool). IsSome (cond b (asks_again now r) (quiet (Some r))).says) (sym (lt-ltb (r.message.last + limit_of r) now (omega arith))) (says_again now r);
}

receiver_waits : (fresh : Bool) (since : ℕ) (o : Option ReceptionRecord) → IsSet fresh since o → ReceiverWaits (cond fresh 1250000 750000) since o
receiver_waits fresh since o h =
    subst (ReceiverWaits (cond fresh 1250000 750000) since) (sym h.session_is)
    (session_waits (cond fresh 1250000 750000) since h.session h.last_is (ap (λ (b : Bool). cond b 1250000 750000) h.fresh_is))

-- ---- after a CTS

abbrev is_cts : Option Signal → Bool
is_cts None = false
is_cts (Some (BroadcastAnnounce size packets pgn)) = false
is_cts (Some (RequestToSend size packets most pgn)) = false
is_cts (Some (ClearToSend count next pgn)) = true
is_cts (Some (Acknowledgment size packets pgn)) = false
is_cts (Some (Abort reason pgn)) = false
is_cts (Some (Packet number part)) = false

abbrev SetByCts : ℕ → Reaction → Type 0
SetByCts now x = is_cts x.says ≡ true → IsSet true now x.session

cts_grants : (now : ℕ) (r : ReceptionRecord) → SetByCts now (grants now r)
unfolding grants granted_at
cts_grants now r e = record { session = granted_at now r; session_is = refl; last_is = refl; fresh_is = refl }

cts_asks : (now : ℕ) (r : ReceptionRecord) → SetByCts now (asks_again now r)
unfolding asks_again
cts_asks now r = cond_both (r.asks == 2) _ _ (SetByCts now) (λ t e. absurd (both_ways false refl e)) (λ t. cts_grants now (record r { asks = r.asks + 1 }))

cts_goes_on : (now : ℕ) (r : ReceptionRecord) → SetByCts now (goes_on now r)
unfolding goes_on delivers_message
cts_goes_on now r = cond_both (r.message.count == r.message.packets) _ _ (SetByCts now) (λ t e. absurd (both_ways false refl e))
    (λ t. cond_both (r.message.count == r.granted) _ _ (SetByCts now) (λ u. cts_grants now r) (λ u e. absurd (both_ways false refl e)))

cts_packet : (number : ℕ) (part : List ℕ) (now : ℕ) (r : ReceptionRecord) → SetByCts now (takes_packet number part now r)
unfolding takes_packet
cts_packet number part now r = cond_both (number == r.message.count + 1) _ _ (SetByCts now)
    (λ t. cts_goes_on now (record r { message = grown now part r.message; fresh = false }))
    (λ t. cond_both (number == r.granted) _ _ (SetByCts now) (λ u. cts_asks now r) (λ u e. absurd (both_ways false refl e)))

cts_request : (x : SessionRecord) (most now : ℕ) (found : Bool) (o : Option ReceptionRecord) → SetByCts now (takes_request x most now found o)
unfolding takes_request
cts_request x most now found o = cond_both (is_taken x.source o) _ _ (SetByCts now) (λ t e. absurd (both_ways false refl e))
    (λ t. cond_both found _ _ (SetByCts now) (λ u. cts_grants now (begun x most)) (λ u e. absurd (both_ways false refl e)))

cts_signal : (k : Key) (a : Option Signal) (now : ℕ) (found : Bool) (o : Option ReceptionRecord) → SetByCts now (takes_signal k a now found o)
unfolding takes_signal takes_data takes_abort
cts_signal k None now found o = λ e. absurd (both_ways false refl e)
cts_signal k (Some (BroadcastAnnounce size packets pgn)) now found o = λ e. absurd (both_ways false refl e)
cts_signal k (Some (RequestToSend size packets most pgn)) now found o = cts_request (opened k pgn size packets now) most now found o
cts_signal k (Some (ClearToSend count next pgn)) now found o = λ e. absurd (both_ways false refl e)
cts_signal k (Some (Acknowledgment size packets pgn)) now found o = λ e. absurd (both_ways false refl e)
cts_signal k (Some (Abort reason pgn)) now found None = λ e. absurd (both_ways false refl e)
cts_signal k (Some (Abort reason pgn)) now found (Some r) = cond_both (is_from (sender k) r && pgn == r.message.group) _ _ (SetByCts now)
    (λ t e. absurd (both_ways false refl e)) (λ t e. absurd (both_ways false refl e))
cts_signal k (Some (Packet number part)) now found None = λ e. absurd (both_ways false refl e)
cts_signal k (Some (Packet number part)) now found (Some r) = cond_both (is_from (sender k) r) _ _ (SetByCts now)
    (λ t. cts_packet number part now r) (λ t e. absurd (both_ways false refl e))

cts_tick : (now : ℕ) (o : Option ReceptionRecord) → SetByCts now (takes_tick now o)
unfolding takes_tick
cts_tick now None = λ e. absurd (both_ways false refl e)
cts_tick now (Some r) = cond_both (nat_lt (r.message.last + limit_of r) now) _ _ (SetByCts now) (λ t. cts_asks now r) (λ t e. absurd (both_ways false refl e))

-- ---- after a packet that isn't answered

abbrev is_quiet : Option Signal → Bool
is_quiet None = true
is_quiet (Some a) = false

abbrev SetByPacket : ℕ → Reaction → Type 0
SetByPacket now x = is_quiet x.says ≡ true → IsSet false now x.session

not_quiet_asks : (now : ℕ) (r : ReceptionRecord) → SetByPacket now (asks_again now r)
unfolding asks_again grants
not_quiet_asks now r = cond_both (r.asks == 2) _ _ (SetByPacket now) (λ t e. absurd (both_ways false refl e)) (λ t e. absurd (both_ways false refl e))

packet_goes_on : (now : ℕ) (r : ReceptionRecord) → r.message.last ≡ now → r.fresh ≡ false → SetByPacket now (goes_on now r)
unfolding goes_on delivers_message grants
packet_goes_on now r l f = cond_both (r.message.count == r.message.packets) _ _ (SetByPacket now) (λ t e. absurd (both_ways false refl e))
    (λ t. cond_both (r.message.count == r.granted) _ _ (SetByPacket now) (λ u e. absurd (both_ways false refl e))
    (λ u e. record { session = r; session_is = refl; last_is = l; fresh_is = f }))

set_by_packet : (number : ℕ) (part : List ℕ) (now : ℕ) (r : ReceptionRecord) → SetByPacket now (takes_packet number part now r)
unfolding takes_packet
set_by_packet number part now r = cond_both (number == r.message.count + 1) _ _ (SetByPacket now)
    (λ t. packet_goes_on now (record r { message = grown now part r.message; fresh = false }) refl refl)
    (λ t. cond_both (number == r.granted) _ _ (SetByPacket now) (λ u. not_quiet_asks now r)
    (λ u e. record { session = record r { message = touched now r.message; fresh = false }; session_is = refl; last_is = refl; fresh_is = refl }))

packet_sets : (k : Key) (number : ℕ) (part : List ℕ) (now : ℕ) (found : Bool) (o : Option ReceptionRecord) → is_busy_with (sender k) o ≡ true
    → SetByPacket now (takes_signal k (Some (Packet number part)) now found o)
unfolding takes_signal takes_data
packet_sets k number part now found None b = absurd (both_ways false refl b)
packet_sets k number part now found (Some r) b = cond_both (is_from (sender k) r) _ _ (SetByPacket now)
    (λ t. set_by_packet number part now r) (λ t. absurd (both_ways _ t b))

pub receiver_waits_so : ReceiverWaitsLaw
receiver_waits_so k now found o = record {
  granted = λ a count next pgn e. receiver_waits true now (takes_signal k a now found o).session (cts_signal k a now found o (ap is_cts e));
  asked = λ count next pgn e. receiver_waits true now (takes_tick now o).session (cts_tick now o (ap is_cts e));
  packed = λ number part b e. receiver_waits false now (takes_signal k (Some (Packet number part)) now found o).session (packet_sets k number part now found o b (ap is_quiet e));
}
