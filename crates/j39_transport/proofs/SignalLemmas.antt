-- What an end writes, the other end reads.
use Rattle.std.proofs.Common.{◌≡◌, ℕ, suc, ◌+◌, ◌*◌, ◌<◌, ◌==◌, nat_lt, Bool, true, false, ◌&&◌, cond, List, [], ◌∷◌, length, slice_index, Option, Some, None, refl, ap, ◌∙◌, arith, ne_eqb, lt-ltb, eqb-true}
use Rattle.std.proofs.lemmas.Bool.{and_parts, and_from}
use Rattle.byteorder.specs.Endian.{little_bytes}
use Rattle.byteorder.specs.Numbers.{little_number-reads_back}
use Rattle.j39_frame.specs.Frame.{FrameRecord}
use Rattle.j39_frame.specs.Network.{transport_control_group, transport_data_group}
use Rattle.j39_transport.specs.Cutting.{at_moment}
use Rattle.j39_transport.specs.Frames.{group_of, source_of, destination_of, goes, agree, size_named, pgn_named, names_message}
use Rattle.j39_transport.specs.Key.{Directed, is_key}
use Rattle.j39_transport.specs.Protocol.{request_to_send, clear_to_send, acknowledgment, connection_abort, filler}
use Rattle.j39_transport.specs.Receiving.{ReceiverRecord, Heard, said_to, recv_step, result_of}
use Rattle.j39_transport.specs.Reception.{takes_signal}
use Rattle.j39_transport.specs.Sending.{SenderRecord, hears, send_step, silent}
use Rattle.j39_transport.specs.Sending as sending
use Rattle.j39_transport.specs.Signals.{Signal, BroadcastAnnounce, RequestToSend, ClearToSend, Acknowledgment, Abort, Packet, said_between, said_by, packet_in, control_in, request_in, group_with, bytes_with, written}
use Rattle.j39_transport.proofs.FrameFacts.{goes_parts}
use Rattle.j39_transport.proofs.FrameLemmas.{is_control_group, is_data_group, goes_there, size_back, pgn_back}
use Rattle.j39_transport.proofs.ReadLemmas.{key_is}

-- a signal whose numbers fit its frame; an RTS announces a message
pub record IsRequest (size packets pgn : ℕ) : Type 0 where
  pub size_fits : size < 65536
  pub pgn_fits : pgn < 16777216
  pub agrees : agree size packets pgn ≡ true

abbrev pub CanSay : Signal → Type 0
CanSay (BroadcastAnnounce size packets pgn) = ⊥
CanSay (RequestToSend size packets most pgn) = IsRequest size packets pgn
CanSay (ClearToSend count next pgn) = pgn < 16777216
CanSay (Acknowledgment size packets pgn) = (size < 65536) × (pgn < 16777216)
CanSay (Abort reason pgn) = pgn < 16777216
CanSay (Packet number part) = length part ≡ 7

-- ---- where it goes

abbrev frame_of : ℕ → ℕ → ℕ → Signal → FrameRecord
frame_of now s d a = at_moment now (written s d a)

eight : (a : Signal) → CanSay a → length (bytes_with a) ≡ 8
eight (BroadcastAnnounce size packets pgn) c = absurd c
eight (RequestToSend size packets most pgn) c = refl
eight (ClearToSend count next pgn) c = refl
eight (Acknowledgment size packets pgn) c = refl
eight (Abort reason pgn) c = refl
eight (Packet number part) c = ap suc c

goes_out : (now s d : ℕ) (a : Signal) → s < 256 → d < 256 → CanSay a → goes (group_with a) s d (frame_of now s d a) ≡ true
unfolding written
goes_out now s d (BroadcastAnnounce size packets pgn) h k c = absurd c
goes_out now s d (RequestToSend size packets most pgn) h k c = goes_there _ s d now _ is_control_group h k refl
goes_out now s d (ClearToSend count next pgn) h k c = goes_there _ s d now _ is_control_group h k refl
goes_out now s d (Acknowledgment size packets pgn) h k c = goes_there _ s d now _ is_control_group h k refl
goes_out now s d (Abort reason pgn) h k c = goes_there _ s d now _ is_control_group h k refl
goes_out now s d (Packet number part) h k c = goes_there _ s d now _ is_data_group h k (ap suc c)

-- ---- what it says

record Parts (group s d : ℕ) (f : FrameRecord) : Type 0 where
  group_is : (group_of f.id == group) ≡ true
  from : (source_of f.id == s) ≡ true
  to : (destination_of f.id == d) ≡ true
  long : (length f.bytes == 8) ≡ true

parts_of : (group s d : ℕ) (f : FrameRecord) → goes group s d f ≡ true → Parts group s d f
unfolding goes
parts_of group s d f e =
    let p = and_parts (group_of f.id == group && destination_of f.id == d && source_of f.id == s) (length f.bytes == 8) e in
    let q = and_parts (group_of f.id == group && destination_of f.id == d) (source_of f.id == s) p.0 in
    let r = and_parts (group_of f.id == group) (destination_of f.id == d) q.0 in
    record { group_is = r.0; from = q.1; to = r.1; long = p.1 }

of_control : (s d : ℕ) (f : FrameRecord) → goes transport_control_group s d f ≡ true → said_between s d f ≡ control_in f
unfolding said_between said_by
of_control s d f e =
    let p = parts_of transport_control_group s d f e in
    let n : (group_of f.id == transport_data_group) ≡ false = ne_eqb _ _ (λ x. absurd (let y : group_of f.id ≡ transport_control_group = eqb-true _ _ p.group_is in omega arith)) in
    λ i. cond (p.from i && p.to i) (cond (n i && p.long i) (packet_in f) (cond (p.group_is i && p.long i) (control_in f) None)) None

of_data : (s d : ℕ) (f : FrameRecord) → goes transport_data_group s d f ≡ true → said_between s d f ≡ packet_in f
unfolding said_between said_by
of_data s d f e =
    let p = parts_of transport_data_group s d f e in
    λ i. cond (p.from i && p.to i) (cond (p.group_is i && p.long i) (packet_in f) (cond (group_of f.id == transport_control_group && length f.bytes == 8) (control_in f) None)) None

-- both ends are addresses
pair_named : (group s d : ℕ) (f : FrameRecord) → goes group s d f ≡ true → s < 254 → d < 254 → is_key (Directed (source_of f.id) (destination_of f.id)) ≡ true
pair_named group s d f e h k =
    let p = goes_parts group s d f e in
    ap is_key (λ i. Directed (p.1 i) (p.2 i)) ∙ and_from (nat_lt s 254) (nat_lt d 254) (lt-ltb s 254 h) (lt-ltb d 254 k)

short_pgn_back : (a b c d e pgn : ℕ) → pgn < 16777216
    → let bytes : List ℕ = a ∷ b ∷ c ∷ d ∷ e ∷ little_bytes 3 pgn in slice_index bytes 5 + 256 * slice_index bytes 6 + 65536 * slice_index bytes 7 ≡ pgn
short_pgn_back a b c d e pgn h = omega (arith, little_number-reads_back 3 pgn [] h)

control_back : (now s d : ℕ) (a : Signal) → group_with a ≡ transport_control_group → s < 254 → d < 254 → CanSay a → control_in (frame_of now s d a) ≡ Some a
unfolding control_in request_in names_message written
control_back now s d (BroadcastAnnounce size packets pgn) g h k c = absurd c
control_back now s d (RequestToSend size packets most pgn) g h k c =
    let a : Signal = RequestToSend size packets most pgn in
    let z = size_back request_to_send size packets most pgn c.size_fits in
    let p = pgn_back request_to_send size packets most pgn c.pgn_fits in
    let q : is_key (Directed (source_of (frame_of now s d a).id) (destination_of (frame_of now s d a).id)) ≡ true =
    pair_named transport_control_group s d (frame_of now s d a) (goes_out now s d a (omega arith) (omega arith) c) h k in
    let n : agree (size_named (frame_of now s d a)) packets (pgn_named (frame_of now s d a)) ≡ true = (λ i. agree (z i) packets (p i)) ∙ c.agrees in
    λ i. cond (q i && n i) (Some (RequestToSend (z i) packets most (p i))) None
control_back now s d (ClearToSend count next pgn) g h k c = ap (λ (p : ℕ). Some (ClearToSend count next p)) (short_pgn_back clear_to_send count next filler filler pgn c)
control_back now s d (Acknowledgment size packets pgn) g h k c =
    λ i. Some (Acknowledgment (size_back acknowledgment size packets filler pgn c.0 i) packets (pgn_back acknowledgment size packets filler pgn c.1 i))
control_back now s d (Abort reason pgn) g h k c = ap (λ (p : ℕ). Some (Abort reason p)) (short_pgn_back connection_abort reason filler filler filler pgn c)
control_back now s d (Packet number part) g h k c = absurd (omega (arith, g))

packet_back : (now s d number : ℕ) (part : List ℕ) → s < 254 → d < 254 → CanSay (Packet number part) → packet_in (frame_of now s d (Packet number part)) ≡ Some (Packet number part)
unfolding packet_in written
packet_back now s d number part h k c =
    let f : FrameRecord = frame_of now s d (Packet number part) in
    let q : is_key (Directed (source_of f.id) (destination_of f.id)) ≡ true = pair_named transport_data_group s d f (goes_out now s d (Packet number part) (omega arith) (omega arith) c) h k in
    ap (λ (b : Bool). cond b (Some (Packet number part)) None) (ap is_key (key_is (Directed (source_of f.id) (destination_of f.id)) q) ∙ q)

read_back : (now s d : ℕ) (a : Signal) → s < 254 → d < 254 → CanSay a → said_between s d (frame_of now s d a) ≡ Some a
read_back now s d a h k c = go a c (goes_out now s d a (omega arith) (omega arith) c)
  where
    go : (a : Signal) → CanSay a → goes (group_with a) s d (frame_of now s d a) ≡ true → said_between s d (frame_of now s d a) ≡ Some a
    go (BroadcastAnnounce size packets pgn) c e = absurd c
    go (RequestToSend size packets most pgn) c e = of_control s d _ e ∙ control_back now s d (RequestToSend size packets most pgn) refl h k c
    go (ClearToSend count next pgn) c e = of_control s d _ e ∙ control_back now s d (ClearToSend count next pgn) refl h k c
    go (Acknowledgment size packets pgn) c e = of_control s d _ e ∙ control_back now s d (Acknowledgment size packets pgn) refl h k c
    go (Abort reason pgn) c e = of_control s d _ e ∙ control_back now s d (Abort reason pgn) refl h k c
    go (Packet number part) c e = of_data s d _ e ∙ packet_back now s d number part h k c

from_is : (now s d : ℕ) (a : Signal) → s < 256 → d < 256 → CanSay a → source_of (frame_of now s d a).id ≡ s
from_is now s d a h k c = (goes_parts (group_with a) s d (frame_of now s d a) (goes_out now s d a h k c)).1

-- ---- the frames of either end, handed to the other

-- the sender hears what the receiver says to it
pub heard_by_sender : (s : SenderRecord) (a : Signal) (now : ℕ) → s.destination < 254 → s.message.source < 254 → CanSay a
    → send_step s (sending.Heard (frame_of now s.destination s.message.source a)) now ≡ silent (hears (Some a) now s)
unfolding send_step
heard_by_sender s a now h k c =
    ap (λ (x : Option Signal). silent (hears x now s)) (read_back now s.destination s.message.source a h k c)

-- the receiver hears what a source says to it
pub heard_by_receiver : (r : ReceiverRecord) (source : ℕ) (a : Signal) (now : ℕ) (found : Bool) → source < 254 → r.own < 254 → CanSay a
    → recv_step r (Heard (frame_of now source r.own a)) now found ≡ result_of r.own source (takes_signal (Directed source r.own) (Some a) now found r.session)
unfolding recv_step said_to
heard_by_receiver r source a now found h k c =
    let l : source < 256 = omega arith in
    let m : r.own < 256 = omega arith in
    let e : source_of (frame_of now source r.own a).id ≡ source = from_is now source r.own a l m c in
    let t : nat_lt source 254 ≡ true = lt-ltb _ _ h in
    let q : said_between source r.own (frame_of now source r.own a) ≡ Some a = read_back now source r.own a h k c in
    ap (λ (n : ℕ). result_of r.own n (takes_signal (Directed n r.own) (cond (nat_lt n 254) (said_between n r.own (frame_of now source r.own a)) None) now found r.session)) e
    ∙ (λ i. result_of r.own source (takes_signal (Directed source r.own) (cond (t i) (q i) None) now found r.session))
