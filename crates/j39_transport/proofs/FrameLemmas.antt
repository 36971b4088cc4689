-- What the frames of a cut say.
use Rattle.std.proofs.Common.{◌≡◌, ℕ, suc, ◌+◌, ◌*◌, ◌%◌, ◌^◌, ◌<◌, ◌≤◌, ◌==◌, nat_le, nat_lt, Bool, true, ◌&&◌, if◌then◌else◌, List, [], ◌∷◌, length, slice_index, refl, sym, ap, ◌∙◌, arith, eq-eqb, lt-ltb, ltb-true, le-leb, lit<}
use Rattle.std.proofs.lemmas.Bool.{and_parts}
use Rattle.byteorder.specs.Numbers.{little_number-reads_back}
use Rattle.j39_frame.specs.Identifier.{pf_of, page_of, pgn_of, ps_of}
use Rattle.j39_frame.specs.Network.{transport_control_group, transport_data_group}
use Rattle.j39_frame.specs.Frame.{FrameRecord}
use Rattle.j39_transport.specs.Key.{Key, Broadcast, Directed, sender, goes_to, opening, is_key}
use Rattle.j39_transport.specs.Frames.{group_of, source_of, destination_of, goes, size_named, packets_named, pgn_named, packets_for, names_message, is_announcement, is_packet}
use Rattle.j39_transport.specs.Message.{MessageRecord, IsLong, packets_of}
use Rattle.j39_transport.specs.Cutting.{transport_id, announcement_bytes, announcement_of, packet_data, packet_of, at_moment}
use Rattle.j39_transport.proofs.PacketLemmas.{packet_length}

-- ---- identifiers

pub record IsTransportGroup (group : ℕ) : Type 0 where
  pub front : ℕ
  pub directed : front < 240
  pub group_is : group ≡ front * 256

pub is_control_group : IsTransportGroup transport_control_group
is_control_group = record { front = 236; directed = omega arith; group_is = refl }

pub is_data_group : IsTransportGroup transport_data_group
is_data_group = record { front = 235; directed = omega arith; group_is = refl }

pf_is : (raw group front s d : ℕ) → raw ≡ transport_id group s d → group ≡ front * 256 → front < 240 → s < 256 → d < 256 → pf_of raw ≡ front
pf_is raw group front s d e g f h k = let r : raw ≡ 469762048 + front * 65536 + d * 256 + s = omega arith in omega arith

page_is : (raw group front s d : ℕ) → raw ≡ transport_id group s d → group ≡ front * 256 → front < 240 → s < 256 → d < 256 → page_of raw ≡ 0
page_is raw group front s d e g f h k = let r : raw ≡ 469762048 + front * 65536 + d * 256 + s = omega arith in omega arith

source_is : (raw group front s d : ℕ) → raw ≡ transport_id group s d → group ≡ front * 256 → s < 256 → raw % 256 ≡ s
source_is raw group front s d e g h = let r : raw ≡ 469762048 + front * 65536 + d * 256 + s = omega arith in omega arith

pub ps_is : (raw group front s d : ℕ) → raw ≡ transport_id group s d → group ≡ front * 256 → s < 256 → d < 256 → ps_of raw ≡ d
ps_is raw group front s d e g h k = let r : raw ≡ 469762048 + front * 65536 + d * 256 + s = omega arith in omega arith

pgn_from : (raw front : ℕ) → page_of raw ≡ 0 → pf_of raw ≡ front → nat_lt front 240 ≡ true → pgn_of raw ≡ front * 256
pgn_from raw front p f t =
    (λ i. p i * 65536 + f i * 256 + (if nat_lt (f i) 240 then 0 else ps_of raw))
    ∙ ap (λ (b : Bool). 0 * 65536 + front * 256 + (if b then 0 else ps_of raw)) t
    ∙ omega arith

pub goes_there : (group s d t : ℕ) (bytes : List ℕ) → IsTransportGroup group → s < 256 → d < 256 → length bytes ≡ 8
    → goes group s d (record { stamp = t; id = transport_id group s d; bytes = bytes }) ≡ true
unfolding goes group_of source_of destination_of
goes_there group s d t bytes g h k e =
    let raw : ℕ = transport_id group s d in
    let pgn : pgn_of raw ≡ group = pgn_from raw g.front (page_is raw group g.front s d refl g.group_is g.directed h k) (pf_is raw group g.front s d refl g.group_is g.directed h k) (lt-ltb _ _ g.directed) ∙ sym g.group_is in
    let p : (pgn_of raw == group) ≡ true = eq-eqb _ _ pgn in
    let q : (ps_of raw == d) ≡ true = eq-eqb _ _ (ps_is raw group g.front s d refl g.group_is h k) in
    let r : (raw % 256 == s) ≡ true = eq-eqb _ _ (source_is raw group g.front s d refl g.group_is h) in
    let l : (length bytes == 8) ≡ true = eq-eqb _ _ e in
    λ i. p i && q i && r i && l i

sender_below : (k : Key) → is_key k ≡ true → sender k < 256
sender_below (Broadcast s) h = let b : s < 254 = ltb-true _ _ h in omega arith
sender_below (Directed s d) h = let b : s < 254 = ltb-true _ _ (and_parts _ _ h).0 in omega arith

goes_to_below : (k : Key) → is_key k ≡ true → goes_to k < 256
goes_to_below (Broadcast s) h = lit< tt
goes_to_below (Directed s d) h = let b : d < 254 = ltb-true _ _ (and_parts _ _ h).1 in omega arith

-- ---- the announcement

pub size_back : (kind size packets most pgn : ℕ) → size < 65536 → let b : List ℕ = announcement_bytes kind size packets most pgn in slice_index b 1 + 256 * slice_index b 2 ≡ size
size_back kind size packets most pgn h = omega (arith, little_number-reads_back 2 size [] h)

pub pgn_back : (kind size packets most pgn : ℕ) → pgn < 16777216
    → let b : List ℕ = announcement_bytes kind size packets most pgn in slice_index b 5 + 256 * slice_index b 6 + 65536 * slice_index b 7 ≡ pgn
pgn_back kind size packets most pgn h = omega (arith, little_number-reads_back 3 pgn [] h)

-- an announcement of k that names the size, the packets and the group of m
pub record AnnouncesOf (k : Key) (m : MessageRecord) (f : FrameRecord) : Type 0 where
  pub announced : is_announcement k f ≡ true
  pub size : size_named f ≡ length m.bytes
  pub packets : packets_named f ≡ packets_of m
  pub pgn : pgn_named f ≡ m.pgn

pub names : (f : FrameRecord) (m : MessageRecord) → IsLong m → size_named f ≡ length m.bytes → packets_named f ≡ packets_of m → pgn_named f ≡ m.pgn → names_message f ≡ true
unfolding names_message
names f m l size packets pgn =
    let long : 9 ≤ length m.bytes = l.least in
    let most : length m.bytes ≤ 1785 = l.message.most in
    let fits : m.pgn < 2 ^ 18 = l.message.pgn in
    let a : nat_le 9 (size_named f) ≡ true = le-leb _ _ (omega arith) in
    let b : nat_le (size_named f) 1785 ≡ true = le-leb _ _ (omega arith) in
    let c : (packets_named f == packets_for (size_named f)) ≡ true = eq-eqb _ _ (packets ∙ ap packets_for (sym size)) in
    let d : nat_lt (pgn_named f) (2 ^ 18) ≡ true = lt-ltb _ _ (omega arith) in
    λ i. a i && b i && c i && d i

pub announces : (k : Key) (m : MessageRecord) (t : ℕ) → IsLong m → is_key k ≡ true → AnnouncesOf k m (at_moment t (announcement_of k m))
unfolding announcement_of is_announcement
announces k m t l h =
    let f : FrameRecord = at_moment t (announcement_of k m) in
    let most : length m.bytes ≤ 1785 = l.message.most in
    let fits : m.pgn < 2 ^ 18 = l.message.pgn in
    let size : size_named f ≡ length m.bytes = size_back (opening k) (length m.bytes) (packets_of m) 255 m.pgn (omega arith) in
    let pgn : pgn_named f ≡ m.pgn = pgn_back (opening k) (length m.bytes) (packets_of m) 255 m.pgn (omega arith) in
    let g : goes transport_control_group (sender k) (goes_to k) f ≡ true = goes_there transport_control_group (sender k) (goes_to k) t f.bytes is_control_group (sender_below k h) (goes_to_below k h) refl in
    let o : (opening k == opening k) ≡ true = eq-eqb _ _ refl in
    let n : names_message f ≡ true = names f m l size refl pgn in
    record {
      announced = λ i. h i && g i && o i && n i;
      size = size;
      packets = refl;
      pgn = pgn;
    }

-- ---- the packets

pub packs : (k : Key) (m : MessageRecord) (t number : ℕ) → is_key k ≡ true → is_packet k (at_moment t (packet_of k m number)) ≡ true
unfolding packet_of is_packet
packs k m t number h =
    let e : length (number ∷ packet_data m.bytes number) ≡ 8 = ap suc (packet_length m.bytes number) in
    let g : goes transport_data_group (sender k) (goes_to k) (at_moment t (packet_of k m number)) ≡ true =
    goes_there transport_data_group (sender k) (goes_to k) t (number ∷ packet_data m.bytes number) is_data_group (sender_below k h) (goes_to_below k h) e in
    λ i. h i && g i
