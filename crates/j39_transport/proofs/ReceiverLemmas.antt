-- What a receiver does with the packets of one message.
use Rattle.std.proofs.Common.{◌≡◌, ◌⊎◌, ℕ, suc, ◌+◌, ◌*◌, ◌<◌, ◌≤◌, ◌==◌, nat_lt, Bool, false, not, ◌&&◌, List, ◌++◌, length, take, replicate, Option, Some, None, refl, sym, ap, ◌∙◌, subst, inl, inr, arith, eqb-true, eq-eqb}
use Rattle.std.proofs.lemmas.Bool.{cond_both, both_ways, eqb-false}
use Rattle.std.proofs.lemmas.List.{take_at, take-take}
use Rattle.j39_transport.specs.Protocol.{filler}
use Rattle.j39_transport.specs.Cutting.{packet_data}
use Rattle.j39_transport.specs.Key.{Directed}
use Rattle.j39_transport.specs.Message.{MessageRecord, IsLong, packets_of}
use Rattle.j39_transport.specs.Reception.{ReceptionRecord, Reaction, quiet, granted_at, grants, asks_again, begun, message_of, delivers_message, goes_on, takes_packet, is_from, is_taken, takes_request, takes_data, takes_abort, takes_signal, limit_of, takes_tick}
use Rattle.j39_transport.specs.Session.{SessionRecord, opened, grown, touched}
use Rattle.j39_transport.specs.Signals.{Signal, BroadcastAnnounce, RequestToSend, ClearToSend, Acknowledgment, Abort, Packet}
use Rattle.j39_transport.proofs.PacketLemmas.{joined_more}
use Rattle.j39_transport.proofs.SenderLemmas.{IsOwn, IsAck, CanSayIf, pgn_fits}

-- the session is of this message, and has its first packets
pub record IsOf (m : MessageRecord) (x : SessionRecord) : Type 0 where
  pub source_is : x.source ≡ m.source
  pub size_is : x.size ≡ length m.bytes
  pub packets_is : x.packets ≡ packets_of m
  pub group_is : x.group ≡ m.pgn
  pub few : x.count ≤ x.packets
  pub bytes_are : x.bytes ≡ take (7 * x.count) (m.bytes ++ replicate 7 filler)

-- it lacks one
pub record IsPart (m : MessageRecord) (x : SessionRecord) : Type 0 where
  pub is_of : IsOf m x
  pub lacks : x.count < x.packets

abbrev pub SessionOf : MessageRecord → Option ReceptionRecord → Type 0
SessionOf m None = Unit {0}
SessionOf m (Some r) = IsPart m r.message

-- the session goes on, or is over without a message
pub record Open (m : MessageRecord) (x : Reaction) : Type 0 where
  pub session_is : SessionOf m x.session
  pub delivers_is : x.delivers ≡ None
  pub no_ack : IsAck x.says → ⊥
  pub can_say : CanSayIf x.says

-- it delivers the message
pub record Closed (m : MessageRecord) (x : Reaction) : Type 0 where
  pub session_is : x.session ≡ None
  pub delivers_is : x.delivers ≡ Some m
  pub can_say : CanSayIf x.says

open_quiet : (m : MessageRecord) (o : Option ReceptionRecord) → SessionOf m o → Open m (quiet o)
open_quiet m o h = record { session_is = h; delivers_is = refl; no_ack = λ a. a; can_say = tt }

-- a later time changes nothing of it
touched_on : (m : MessageRecord) (x : SessionRecord) (now : ℕ) → IsPart m x → IsPart m (touched now x)
touched_on m x now h = record {
  is_of = record { source_is = h.is_of.source_is; size_is = h.is_of.size_is; packets_is = h.is_of.packets_is; group_is = h.is_of.group_is; few = h.is_of.few; bytes_are = h.is_of.bytes_are };
  lacks = h.lacks;
}

open_grants : (m : MessageRecord) (r : ReceptionRecord) (now : ℕ) → IsLong m → IsPart m r.message → Open m (grants now r)
unfolding grants granted_at
open_grants m r now l h = record {
  session_is = touched_on m r.message now h;
  delivers_is = refl;
  no_ack = λ a. a;
  can_say = pgn_fits m r.message.group l h.is_of.group_is;
}

open_asks : (m : MessageRecord) (r : ReceptionRecord) (now : ℕ) → IsLong m → IsPart m r.message → Open m (asks_again now r)
unfolding asks_again
open_asks m r now l h = cond_both (r.asks == 2) _ _ (Open m)
    (λ t. record { session_is = tt; delivers_is = refl; no_ack = λ a. a; can_say = pgn_fits m r.message.group l h.is_of.group_is })
    (λ t. open_grants m (record r { asks = r.asks + 1 }) now l h)

pub one_more : (m : MessageRecord) (x : SessionRecord) (part : List ℕ) (now : ℕ) → IsPart m x → part ≡ packet_data m.bytes (x.count + 1) → IsOf m (grown now part x)
one_more m x part now h e =
    let f : x.count < x.packets = h.lacks in
    let p : x.packets ≡ packets_of m = h.is_of.packets_is in
    let b : 7 * x.count ≤ length m.bytes = omega arith in
    let n : x.count + 1 ≡ suc x.count = omega arith in
    record {
      source_is = h.is_of.source_is;
      size_is = h.is_of.size_is;
      packets_is = h.is_of.packets_is;
      group_is = h.is_of.group_is;
      few = omega arith;
      bytes_are = (λ i. h.is_of.bytes_are i ++ e i) ∙ (joined_more m.bytes x.count b ∙ ap (λ (k : ℕ). take (7 * k) (m.bytes ++ replicate 7 filler)) n);
    }

pub whole : (m : MessageRecord) (x : SessionRecord) → IsLong m → IsOf m x → x.count ≡ x.packets → message_of x ≡ m
whole m x l h e =
    let p : x.packets ≡ packets_of m = h.packets_is in
    let n : length m.bytes ≤ 7 * x.count = omega arith in
    let s : x.size ≡ length m.bytes = h.size_is in
    let b : take x.size x.bytes ≡ m.bytes =
    (λ i. take (s i) (h.bytes_are i)) ∙ (take-take (length m.bytes) (7 * x.count) (m.bytes ++ replicate 7 filler) n ∙ take_at m.bytes (replicate 7 filler) (length m.bytes) refl) in
    λ i. record { source = h.source_is i; pgn = h.group_is i; bytes = b i }

goes_on_case : (m : MessageRecord) (r : ReceptionRecord) (now : ℕ) → IsLong m → IsOf m r.message → Open m (goes_on now r) ⊎ Closed m (goes_on now r)
unfolding goes_on delivers_message
goes_on_case m r now l h = cond_both (r.message.count == r.message.packets) _ _ (λ (x : Reaction). Open m x ⊎ Closed m x)
    (λ t. inr (record {
      session_is = refl;
      delivers_is = ap (λ (b : MessageRecord). Some b) (whole m r.message l h (eqb-true _ _ t));
      can_say = (let s : r.message.size ≡ length m.bytes = h.size_is in let c : length m.bytes ≤ 1785 = l.message.most in omega arith, pgn_fits m r.message.group l h.group_is);
    }))
    (λ t.
    let f : r.message.count < r.message.packets = omega (arith, h.few, eqb-false r.message.count r.message.packets t) in
    let o : IsPart m r.message = record { is_of = h; lacks = f } in
    inl (cond_both (r.message.count == r.granted) _ _ (Open m) (λ u. open_grants m r now l o) (λ u. open_quiet m (Some r) o)))

packet_case : (m : MessageRecord) (r : ReceptionRecord) (k : ℕ) (part : List ℕ) (now : ℕ) → IsLong m → IsPart m r.message → part ≡ packet_data m.bytes k
    → Open m (takes_packet k part now r) ⊎ Closed m (takes_packet k part now r)
unfolding takes_packet
packet_case m r k part now l h s = cond_both (k == r.message.count + 1) _ _ (λ (x : Reaction). Open m x ⊎ Closed m x)
    (λ t. goes_on_case m (record r { message = grown now part r.message; fresh = false }) now l (one_more m r.message part now h (s ∙ ap (packet_data m.bytes) (eqb-true _ _ t))))
    (λ t. inl (cond_both (k == r.granted) _ _ (Open m)
    (λ u. open_asks m r now l h)
    (λ u. open_quiet m (Some (record r { message = touched now r.message; fresh = false })) (touched_on m r.message now h))))

-- the session of the message isn't another source's
not_taken : (m : MessageRecord) (o : Option ReceptionRecord) → SessionOf m o → is_taken m.source o ≡ false
not_taken m None h = refl
not_taken m (Some r) h = ap not (eq-eqb m.source r.message.source (sym h.is_of.source_is))

request_case : (m : MessageRecord) (own : ℕ) (o : Option ReceptionRecord) (most now : ℕ) (found : Bool) → IsLong m → SessionOf m o
    → Open m (takes_request (opened (Directed m.source own) m.pgn (length m.bytes) (packets_of m) now) most now found o)
unfolding takes_request begun
request_case m own o most now found l h = cond_both (is_taken m.source o) _ _ (Open m)
    (λ t. absurd (both_ways _ (not_taken m o h) t))
    (λ t. cond_both found _ _ (Open m)
    (λ u. open_grants m (begun (opened (Directed m.source own) m.pgn (length m.bytes) (packets_of m) now) most) now l (record {
      is_of = record { source_is = refl; size_is = refl; packets_is = refl; group_is = refl; few = omega arith; bytes_are = refl };
      lacks = (let c : 9 ≤ length m.bytes = l.least in omega arith);
    }))
    (λ u. record { session_is = h; delivers_is = refl; no_ack = λ a. a; can_say = pgn_fits m m.pgn l refl }))

-- what the sender of the message says
pub signal_case : (m : MessageRecord) (own : ℕ) (idle : Bool) (o : Option ReceptionRecord) (a : Signal) (now : ℕ) (found : Bool) → IsLong m → SessionOf m o → IsOwn m idle a
    → Open m (takes_signal (Directed m.source own) (Some a) now found o) ⊎ Closed m (takes_signal (Directed m.source own) (Some a) now found o)
unfolding takes_signal takes_data takes_abort
signal_case m own idle o (BroadcastAnnounce size packets pgn) now found l h s = absurd s
signal_case m own idle o (RequestToSend size packets most pgn) now found l h s =
    let e : opened (Directed m.source own) m.pgn (length m.bytes) (packets_of m) now ≡ opened (Directed m.source own) pgn size packets now =
    λ i. opened (Directed m.source own) (sym s.3 i) (sym s.1 i) (sym s.2 i) now in
    inl (subst (λ (x : SessionRecord). Open m (takes_request x most now found o)) e (request_case m own o most now found l h))
signal_case m own idle o (ClearToSend count next pgn) now found l h s = absurd s
signal_case m own idle o (Acknowledgment size packets pgn) now found l h s = absurd s
signal_case m own idle None (Abort reason pgn) now found l h s = inl (open_quiet m None tt)
signal_case m own idle (Some r) (Abort reason pgn) now found l h s = inl (cond_both (is_from m.source r && pgn == r.message.group) _ _ (Open m) (λ t. open_quiet m None tt) (λ t. open_quiet m (Some r) h))
signal_case m own idle None (Packet k part) now found l h s = inl (open_quiet m None tt)
signal_case m own idle (Some r) (Packet k part) now found l h s = cond_both (is_from m.source r) _ _ (λ (x : Reaction). Open m x ⊎ Closed m x)
    (λ t. packet_case m r k part now l h s) (λ t. inl (open_quiet m (Some r) h))

pub tick_case : (m : MessageRecord) (o : Option ReceptionRecord) (now : ℕ) → IsLong m → SessionOf m o → Open m (takes_tick now o)
unfolding takes_tick
tick_case m None now l h = open_quiet m None tt
tick_case m (Some r) now l h = cond_both (nat_lt (r.message.last + limit_of r) now) _ _ (Open m) (λ t. open_asks m r now l h) (λ t. open_quiet m (Some r) h)
