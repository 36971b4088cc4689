-- What the frames of the transport protocol are, and that no event is of two kinds.
use Rattle.std.proofs.Common.{◌≡◌, ◌⊎◌, ℕ, ◌+◌, ◌/◌, ◌^◌, ◌<◌, ◌≤◌, true, false, ◌||◌, ◌&&◌, refl, ap, ◌∙◌, inl, inr, arith, slice_index, ◌==◌, eqb-true, ltb-true, nat_lt, nat_le}
use Rattle.std.proofs.lemmas.Bool.{leb-true, and_parts, or_cases, false_from_ne_true, both_ways}
use Rattle.j39_frame.specs.Frame.{FrameRecord}
use Rattle.j39_frame.specs.Network.{transport_control_group, transport_data_group}
use Rattle.j39_transport.specs.Protocol.{request_to_send, clear_to_send, acknowledgment, connection_abort, broadcast_announce}
use Rattle.j39_transport.specs.Key.{Key, sender, goes_to, opening, is_key}
use Rattle.j39_transport.specs.Frames.{packets_named, size_named, pgn_named, packets_for, names_message, is_announcement, is_packet, is_control, is_clear_to_send, is_end, is_rival, goes, group_of, source_of, destination_of}
use Rattle.j39_transport.specs.Key.Key.{Broadcast, Directed}
use Rattle.j39_transport.specs.Events.{Event, announces, sends, grants, ends, rivals, packets}
use Rattle.j39_transport.specs.Events.Event.{Frame, Forget}

-- ---- no event is of two kinds

pub goes_parts : (pgn s d : ℕ) (f : FrameRecord) → goes pgn s d f ≡ true → (group_of f.id ≡ pgn) × (source_of f.id ≡ s) × (destination_of f.id ≡ d)
unfolding goes
goes_parts pgn s d f h =
    let a = and_parts _ _ (and_parts _ _ h).0 in
    let b = and_parts _ _ a.0 in
    (eqb-true _ _ b.0, eqb-true _ _ a.1, eqb-true _ _ b.1)

pub record NamesMessage (f : FrameRecord) : Type 0 where
  pub small : size_named f ≤ 1785
  pub large : 9 ≤ size_named f
  pub count : packets_named f ≡ (size_named f + 6) / 7

pub message_facts : (f : FrameRecord) → names_message f ≡ true → NamesMessage f
unfolding names_message
message_facts f h =
    let a = and_parts (nat_le 9 (size_named f) && nat_le (size_named f) 1785 && packets_named f == packets_for (size_named f)) (nat_lt (pgn_named f) (2 ^ 18)) h in
    let b = and_parts (nat_le 9 (size_named f) && nat_le (size_named f) 1785) (packets_named f == packets_for (size_named f)) a.0 in
    let c = and_parts (nat_le 9 (size_named f)) (nat_le (size_named f) 1785) b.0 in
    record { small = leb-true _ _ c.1; large = leb-true _ _ c.0; count = eqb-true _ _ b.1 }

pub record Announced (k : Key) (f : FrameRecord) : Type 0 where
  pub key : is_key k ≡ true
  pub pgn : group_of f.id ≡ transport_control_group
  pub source : source_of f.id ≡ sender k
  pub destination : destination_of f.id ≡ goes_to k
  pub first : slice_index f.bytes 0 ≡ opening k
  pub names : names_message f ≡ true
  pub small : size_named f ≤ 1785
  pub large : 9 ≤ size_named f
  pub count : packets_named f ≡ (size_named f + 6) / 7

pub announcement_facts : (k : Key) (f : FrameRecord) → is_announcement k f ≡ true → Announced k f
unfolding is_announcement
announcement_facts k f h =
    let a = and_parts (is_key k && goes transport_control_group (sender k) (goes_to k) f && slice_index f.bytes 0 == opening k) (names_message f) h in
    let b = and_parts (is_key k && goes transport_control_group (sender k) (goes_to k) f) (slice_index f.bytes 0 == opening k) a.0 in
    let c = and_parts (is_key k) (goes transport_control_group (sender k) (goes_to k) f) b.0 in
    let g = goes_parts transport_control_group (sender k) (goes_to k) f c.1 in
    let n = message_facts f a.1 in
    record { key = c.0; pgn = g.0; source = g.1; destination = g.2; first = eqb-true _ _ b.1; names = a.1; small = n.small; large = n.large; count = n.count }

pub record Sent (k : Key) (f : FrameRecord) : Type 0 where
  pub key : is_key k ≡ true
  pub pgn : group_of f.id ≡ transport_data_group
  pub source : source_of f.id ≡ sender k
  pub destination : destination_of f.id ≡ goes_to k

pub packet_facts : (k : Key) (f : FrameRecord) → is_packet k f ≡ true → Sent k f
unfolding is_packet
packet_facts k f h =
    let a = and_parts _ _ h in
    let g = goes_parts _ _ _ f a.1 in
    record { key = a.0; pgn = g.0; source = g.1; destination = g.2 }

pub key_below : (k : Key) → is_key k ≡ true → sender k < 254
key_below (Broadcast s) h = ltb-true _ _ h
key_below (Directed s d) h = ltb-true _ _ (and_parts _ _ h).0

-- a key is its source and where its frames go
pub one_key : (j k : Key) → is_key j ≡ true → is_key k ≡ true → sender j ≡ sender k → goes_to j ≡ goes_to k → j ≡ k
one_key (Broadcast s) (Broadcast t) a b e f = ap (λ (x : ℕ). Broadcast x) e
one_key (Broadcast s) (Directed t d) a b e f = absurd (let l : d < 254 = ltb-true _ _ (and_parts _ _ b).1 in omega arith)
one_key (Directed s d) (Broadcast t) a b e f = absurd (let l : d < 254 = ltb-true _ _ (and_parts _ _ a).1 in omega arith)
one_key (Directed s d) (Directed t c) a b e f = ap (λ (x : ℕ). Directed x d) e ∙ ap (λ (x : ℕ). Directed t x) f

pub answer_facts : (b s d g : ℕ) (f : FrameRecord) → is_control b s d g f ≡ true → (group_of f.id ≡ transport_control_group) × (slice_index f.bytes 0 ≡ b)
unfolding is_control
answer_facts b s d g f h = let a = and_parts _ _ (and_parts _ _ h).0 in ((goes_parts _ _ _ f a.0).0, eqb-true _ _ a.1)

pub closing_facts : (k : Key) (g : ℕ) (f : FrameRecord) → is_end k g f ≡ true → (group_of f.id ≡ transport_control_group) × ((slice_index f.bytes 0 ≡ acknowledgment) ⊎ (slice_index f.bytes 0 ≡ connection_abort))
unfolding is_end
closing_facts (Broadcast s) g f h = absurd (both_ways false refl h)
closing_facts (Directed s d) g f h = elim (or_cases (is_control acknowledgment d s g f || is_control connection_abort d s g f) (is_control connection_abort s d g f) h) [
  | inl a ↦ elim (or_cases (is_control acknowledgment d s g f) (is_control connection_abort d s g f) a) [
    | inl b ↦ (let r = answer_facts acknowledgment d s g f b in (r.0, inl r.1))
    | inr b ↦ (let r = answer_facts connection_abort d s g f b in (r.0, inr r.1))
  ]
  | inr a ↦ (let r = answer_facts connection_abort s d g f a in (r.0, inr r.1))
]

pub allowing_facts : (k : Key) (g : ℕ) (f : FrameRecord) → is_clear_to_send k g f ≡ true → (group_of f.id ≡ transport_control_group) × (slice_index f.bytes 0 ≡ clear_to_send)
unfolding is_clear_to_send
allowing_facts (Broadcast s) g f h = absurd (both_ways false refl h)
allowing_facts (Directed s d) g f h = answer_facts clear_to_send d s g f h

pub pressing_facts : (k : Key) (f : FrameRecord) → is_rival k f ≡ true → (group_of f.id ≡ transport_control_group) × (slice_index f.bytes 0 ≡ request_to_send)
unfolding is_rival
pressing_facts (Broadcast s) f h = absurd (both_ways false refl h)
pressing_facts (Directed s d) f h = let r = announcement_facts (Directed (source_of f.id) (destination_of f.id)) f h in (r.pgn, r.first)

pub opening_is : (k : Key) → (opening k ≡ broadcast_announce) ⊎ (opening k ≡ request_to_send)
opening_is (Broadcast s) = inl refl
opening_is (Directed s d) = inr refl

-- a packet is nothing else
pub record OnlySent (j k : Key) (g : ℕ) (e : Event) : Type 0 where
  pub no_announcement : announces j e ≡ false
  pub no_end : ends k g e ≡ false
  pub no_grant : grants k g e ≡ false
  pub no_rival : rivals k e ≡ false

pub sends-others : (i j k : Key) (g : ℕ) (e : Event) → sends i e ≡ true → OnlySent j k g e
unfolding announces sends ends grants rivals
sends-others i j k g (Frame f) h =
    let p : group_of f.id ≡ transport_data_group = (packet_facts i f h).pgn in
    record {
      no_announcement = false_from_ne_true _ (λ t. let q : group_of f.id ≡ transport_control_group = (announcement_facts j f t).pgn in omega arith);
      no_end = false_from_ne_true _ (λ t. let q : group_of f.id ≡ transport_control_group = (closing_facts k g f t).0 in omega arith);
      no_grant = false_from_ne_true _ (λ t. let q : group_of f.id ≡ transport_control_group = (allowing_facts k g f t).0 in omega arith);
      no_rival = false_from_ne_true _ (λ t. let q : group_of f.id ≡ transport_control_group = (pressing_facts k f t).0 in omega arith);
    }
sends-others i j k g (Forget t) h = absurd (both_ways false refl h)

-- an announcement has packets, 255 at most
pub announces-packets : (k : Key) (e : Event) → announces k e ≡ true → 0 < packets e
unfolding announces packets
announces-packets k (Frame f) h = let a = announcement_facts k f h in let n : packets_named f ≡ (size_named f + 6) / 7 = a.count in let z : 9 ≤ size_named f = a.large in omega arith
announces-packets k (Forget t) h = absurd (both_ways false refl h)

pub few_packets : (k : Key) (e : Event) → announces k e ≡ true → packets e ≤ 255
unfolding announces packets
few_packets k (Frame f) h = let a = announcement_facts k f h in let n : packets_named f ≡ (size_named f + 6) / 7 = a.count in let z : size_named f ≤ 1785 = a.small in omega arith
few_packets k (Forget t) h = absurd (both_ways false refl h)

-- an announcement ends nothing
pub announces-ends : (j k : Key) (g : ℕ) (e : Event) → announces j e ≡ true → ends k g e ≡ false
unfolding announces ends
announces-ends j k g (Frame f) h = false_from_ne_true _ (λ t.
    let a : slice_index f.bytes 0 ≡ opening j = (announcement_facts j f h).first in
    elim (closing_facts k g f t).1 [
      | inl b ↦ elim (opening_is j) [ inl c ↦ omega arith | inr c ↦ omega arith ]
      | inr b ↦ elim (opening_is j) [ inl c ↦ omega arith | inr c ↦ omega arith ]
    ])
announces-ends j k g (Forget t) h = absurd (both_ways false refl h)

pub record IsNothing (k : Key) (g : ℕ) (e : Event) : Type 0 where
  pub no_announcement : announces k e ≡ false
  pub no_packet : sends k e ≡ false
  pub no_grant : grants k g e ≡ false
  pub no_end : ends k g e ≡ false
  pub no_rival : rivals k e ≡ false

pub nothing : (k : Key) (g : ℕ) → IsNothing k g (Forget 255)
unfolding announces sends grants ends rivals
nothing k g = record {
  no_announcement = refl;
  no_packet = refl;
  no_grant = refl;
  no_rival = refl;
  no_end = false_from_ne_true _ (λ h. let l : sender k < 254 = key_below k (and_parts (sender k == 255) (is_key k) h).1 in let e : sender k ≡ 255 = eqb-true _ _ (and_parts (sender k == 255) (is_key k) h).0 in omega arith);
}
