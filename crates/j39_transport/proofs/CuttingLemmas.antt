-- The frames of a cut carry its message.
use Rattle.std.proofs.Common.{◌≡◌, ℕ, zero, suc, ◌+◌, ◌-◌, ◌*◌, ◌<◌, ◌≤◌, Bool, true, cond, List, [], ◌∷◌, ◌++◌, length, take, drop, map, get_or, replicate, slice_index, refl, sym, ap, ◌∙◌, subst, inr, arith, append_assoc, lt-ltb}
use Rattle.std.proofs.Math.Seq.{take-append-add}
use Rattle.std.proofs.lemmas.List.{append-nil, length-take, length-map, take_at}
use Rattle.std.proofs.lemmas.List.FromFn.{length-map-range_with_len}
use Rattle.std.proofs.lemmas.Bool.{ne_eqb}
use Rattle.std.specs.List.{range_with_len}
use Rattle.j39_frame.specs.Frame.{FrameRecord}
use Rattle.j39_transport.specs.Protocol.{filler}
use Rattle.j39_transport.specs.Key.{Key, sender, is_key}
use Rattle.j39_transport.specs.Frames.{is_packet}
use Rattle.j39_transport.specs.Message.{MessageRecord, IsLong, packets_of, as_broadcast}
use Rattle.j39_transport.specs.Carries.{AreNumbered, joined, Carries}
use Rattle.j39_transport.specs.Cutting.{ToSend, without_stamp, at_moment, announcement_of, packet_data, packet_of, cut_frame, cut_frames}
use Rattle.j39_transport.proofs.PacketLemmas.{joined_more}
use Rattle.j39_transport.proofs.FrameLemmas.{AnnouncesOf, announces, packs}

-- ---- lists of frames, with and without moments

-- the frame is this one, at some moment
stamped : (f : FrameRecord) (x : ToSend) → without_stamp f ≡ x → at_moment f.stamp x ≡ f
stamped f x e = ap (at_moment f.stamp) (sym e)

first_is : (f : FrameRecord) (fs : List FrameRecord) (x : ToSend) (xs : List ToSend) → map without_stamp (f ∷ fs) ≡ x ∷ xs → without_stamp f ≡ x
first_is f fs x xs e = ap (λ (l : List ToSend). get_or l 0 x) e

rest_are : (f : FrameRecord) (fs : List FrameRecord) (x : ToSend) (xs : List ToSend) → map without_stamp (f ∷ fs) ≡ x ∷ xs → map without_stamp fs ≡ xs
rest_are f fs x xs e = ap (λ (l : List ToSend). drop 1 l) e

pub cut_packet : (k : Key) (m : MessageRecord) (n : ℕ) → 1 ≤ n → cut_frame k m n ≡ packet_of k m n
unfolding cut_frame
cut_packet k m n h = ap (λ (b : Bool). cond b (announcement_of k m) (packet_of k m n)) (ne_eqb n 0 (λ e. absurd (omega arith)))

-- ---- the packets

-- count packets from this number on
abbrev ArePackets : Key → MessageRecord → ℕ → ℕ → List FrameRecord → Type 0
ArePackets k m n count fs = map without_stamp fs ≡ map (cut_frame k m) (range_with_len n count)

packet_is : (k : Key) (m : MessageRecord) (n : ℕ) (f : FrameRecord) → 1 ≤ n → without_stamp f ≡ cut_frame k m n → at_moment f.stamp (packet_of k m n) ≡ f
packet_is k m n f h e = stamped f (packet_of k m n) (e ∙ cut_packet k m n h)

numbered_from : (k : Key) (m : MessageRecord) (n count : ℕ) (fs : List FrameRecord) → is_key k ≡ true → 1 ≤ n → ArePackets k m n count fs → AreNumbered k n fs
unfolding packet_of
numbered_from k m n count [] h l e = tt
numbered_from k m n zero (f ∷ fs) h l e = absurd (omega (arith, ap length e))
numbered_from k m n (suc count) (f ∷ fs) h l e =
    let here : at_moment f.stamp (packet_of k m n) ≡ f = packet_is k m n f l (first_is f fs _ _ e) in (
      subst (λ (g : FrameRecord). is_packet k g ≡ true) here (packs k m f.stamp n h),
      sym (ap (λ (g : FrameRecord). slice_index g.bytes 0) here),
      numbered_from k m (n + 1) count fs h (omega arith) (rest_are f fs _ _ e),
    )

joined_from : List ℕ → ℕ → ℕ → List ℕ
joined_from bytes n zero = []
joined_from bytes n (suc count) = packet_data bytes n ++ joined_from bytes (n + 1) count

joined_is : (k : Key) (m : MessageRecord) (n count : ℕ) (fs : List FrameRecord) → 1 ≤ n → ArePackets k m n count fs → joined fs ≡ joined_from m.bytes n count
unfolding joined_from packet_of
joined_is k m n zero [] l e = refl
joined_is k m n (suc count) [] l e = absurd (omega (arith, ap length e))
joined_is k m n zero (f ∷ fs) l e = absurd (omega (arith, ap length e))
joined_is k m n (suc count) (f ∷ fs) l e =
    let here : at_moment f.stamp (packet_of k m n) ≡ f = packet_is k m n f l (first_is f fs _ _ e) in
    let bytes : drop 1 f.bytes ≡ packet_data m.bytes n = sym (ap (λ (g : FrameRecord). drop 1 g.bytes) here) in
    let rest : joined fs ≡ joined_from m.bytes (n + 1) count = joined_is k m (n + 1) count fs (omega arith) (rest_are f fs _ _ e) in
    λ i. bytes i ++ rest i

-- ---- the data of the packets, joined

-- the first n packets and count more
joined_on : (bytes : List ℕ) (n count : ℕ) → 7 * (n + count) ≤ length bytes + 6
    → take (7 * n) (bytes ++ replicate 7 filler) ++ joined_from bytes (n + 1) count ≡ take (7 * (n + count)) (bytes ++ replicate 7 filler)
unfolding joined_from
joined_on bytes n zero h = append-nil (take (7 * n) (bytes ++ replicate 7 filler)) ∙ ap (λ (k : ℕ). take k (bytes ++ replicate 7 filler)) (omega arith)
joined_on bytes n (suc count) h =
    let a : 7 * n ≤ length bytes = omega arith in
    let b : 7 * (n + 1 + count) ≤ length bytes + 6 = omega arith in
    let e : n + 1 + count ≡ n + suc count = omega arith in
    sym (append_assoc (take (7 * n) (bytes ++ replicate 7 filler)) (packet_data bytes (n + 1)) (joined_from bytes (n + 1 + 1) count))
    ∙ (ap (λ (r : List ℕ). r ++ joined_from bytes (n + 1 + 1) count) (joined_more bytes n a)
    ∙ (joined_on bytes (n + 1) count b ∙ ap (λ (k : ℕ). take (7 * k) (bytes ++ replicate 7 filler)) e))

joined_all : (bytes : List ℕ) (n : ℕ) → 7 * n ≤ length bytes + 6 → joined_from bytes 1 n ≡ take (7 * n) (bytes ++ replicate 7 filler)
joined_all bytes n h = joined_on bytes 0 n (let e : 0 + n ≡ n = omega arith in omega arith) ∙ ap (λ (k : ℕ). take (7 * k) (bytes ++ replicate 7 filler)) (omega arith)

joined_padded : (m : MessageRecord) → IsLong m → joined_from m.bytes 1 (packets_of m) ≡ m.bytes ++ take (7 * packets_of m - length m.bytes) (replicate 7 filler)
joined_padded m l =
    let e : length m.bytes + (7 * packets_of m - length m.bytes) ≡ 7 * packets_of m = omega arith in
    joined_all m.bytes (packets_of m) (omega arith)
    ∙ (ap (λ (k : ℕ). take k (m.bytes ++ replicate 7 filler)) (sym e) ∙ take-append-add m.bytes (replicate 7 filler) (7 * packets_of m - length m.bytes))

few_taken : (n : ℕ) (xs : List ℕ) → n < 7 → length (take n xs) < 7
few_taken n xs h = omega (arith, length-take n xs)

-- ---- all frames

abbrev AreCut : Key → MessageRecord → List FrameRecord → Type 0
AreCut k m frames = map without_stamp frames ≡ cut_frames k m

packets_are : (k : Key) (m : MessageRecord) (f : FrameRecord) (fs : List FrameRecord) → AreCut k m (f ∷ fs) → ArePackets k m 1 (packets_of m) fs
packets_are k m f fs e =
    let more : cut_frames k m ≡ cut_frame k m 0 ∷ map (cut_frame k m) (range_with_len 1 (packets_of m)) =
    ap (λ (n : ℕ). map (cut_frame k m) (range_with_len 0 n)) (let s : packets_of m + 1 ≡ suc (packets_of m) = omega arith in s) in
    rest_are f fs _ _ (e ∙ more)

announcement_is : (k : Key) (m : MessageRecord) (f : FrameRecord) (fs : List FrameRecord) → AreCut k m (f ∷ fs) → at_moment f.stamp (announcement_of k m) ≡ f
unfolding cut_frame
announcement_is k m f fs e =
    let more : cut_frames k m ≡ cut_frame k m 0 ∷ map (cut_frame k m) (range_with_len 1 (packets_of m)) =
    ap (λ (n : ℕ). map (cut_frame k m) (range_with_len 0 n)) (let s : packets_of m + 1 ≡ suc (packets_of m) = omega arith in s) in
    stamped f (announcement_of k m) (first_is f fs _ _ (e ∙ more))

pub cut_carries : (k : Key) (m : MessageRecord) (frames : List FrameRecord) → IsLong m → is_key k ≡ true → sender k ≡ m.source → AreCut k m frames → Carries k m frames
cut_carries k m [] l h s e = absurd (omega (arith, ap length e, length-map-range_with_len (cut_frame k m) 0 (packets_of m + 1)))
cut_carries k m (f ∷ fs) l h s e =
    let packets : ArePackets k m 1 (packets_of m) fs = packets_are k m f fs e in
    let a : AnnouncesOf k m f = subst (AnnouncesOf k m) (announcement_is k m f fs e) (announces k m f.stamp l h) in
    let n : length fs ≡ packets_of m = sym (length-map fs without_stamp) ∙ (ap length packets ∙ length-map-range_with_len (cut_frame k m) 1 (packets_of m)) in (
      l.message,
      inr (record {
        long = l.least;
        source = s;
        announced = a.announced;
        size = a.size;
        pgn = a.pgn;
        count = n ∙ sym a.packets;
        numbered = numbered_from k m 1 (packets_of m) fs h (omega arith) packets;
        padding = take (7 * packets_of m - length m.bytes) (replicate 7 filler);
        few = few_taken (7 * packets_of m - length m.bytes) (replicate 7 filler) (omega arith);
        joined_are = joined_is k m 1 (packets_of m) fs (omega arith) packets ∙ joined_padded m l;
      }),
    )

-- the first bytes of the packets, joined, are the message's
pub cut_payload : (k : Key) (m : MessageRecord) (frames : List FrameRecord) → IsLong m → AreCut k m frames → take (length m.bytes) (joined (drop 1 frames)) ≡ m.bytes
cut_payload k m [] l e = absurd (omega (arith, ap length e, length-map-range_with_len (cut_frame k m) 0 (packets_of m + 1)))
cut_payload k m (f ∷ fs) l e =
    ap (take (length m.bytes)) (joined_is k m 1 (packets_of m) fs (omega arith) (packets_are k m f fs e) ∙ joined_padded m l)
    ∙ take_at m.bytes _ (length m.bytes) refl

-- ---- as a broadcast

pub broadcast_key : (m : MessageRecord) → IsLong m → is_key (as_broadcast m) ≡ true
broadcast_key m l = let s : m.source < 254 = l.message.source in lt-ltb _ _ s

pub broadcast_carries : (m : MessageRecord) (frames : List FrameRecord) → IsLong m → AreCut (as_broadcast m) m frames → Carries (as_broadcast m) m frames
broadcast_carries m frames l e = cut_carries (as_broadcast m) m frames l (broadcast_key m l) refl e
