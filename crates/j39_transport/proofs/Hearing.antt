-- A broadcast that is polled when it asks to be sends its frames 50 ms apart, and with the last one its message is whole: law
-- `broadcasts`.
use Rattle.std.proofs.Common.{◌≡◌, ℕ, zero, suc, ◌+◌, ◌-◌, ◌*◌, ◌<◌, ◌≤◌, ◌==◌, nat_lt, Bool, true, false, ◌&&◌, ◌||◌, cond, List, [], ◌∷◌, ◌++◌, length, drop, take, map, get_or, replicate, Some, refl, sym, ap, ◌∙◌, subst, arith, append_assoc, eq-eqb, ne_eqb, lt-ltb, eqb-true}
use Rattle.std.proofs.lemmas.Bool.{and_parts, and_from, or_from, or_left, or_right, and_right, both_ways, false_from_ne_true, le-ltb, cond-true, cond-false}
use Rattle.std.proofs.lemmas.List.{append-nil, take-take, take_at}
use Rattle.std.proofs.lemmas.List.FromFn.{length-map-range_with_len, map-range_with_len_more}
use Rattle.std.specs.List.{range_with_len}
use Rattle.j39_frame.specs.Frame.{FrameRecord}
use Rattle.j39_transport.specs.Protocol.{filler}
use Rattle.j39_transport.specs.Answers.{WholeBy}
use Rattle.j39_transport.specs.Broadcasting.{Send, WaitUntil, Done, next_moment, answer_after, with_answer}
use Rattle.j39_transport.specs.Broadcasts.{poll_moment, polled, frames_apart, SendsAllLaw, IsAside, AreAmong, ended, sent, passed, IsHeardLaw}
use Rattle.j39_transport.specs.Cutting.{at_moment, packet_data, packet_of, cut_frame}
use Rattle.j39_transport.specs.Events.{Event, announces, sends, grants, ends, rivals, number, payload, size, packets, group, stamp, belongs, is_numbered}
use Rattle.j39_transport.specs.Events.Event.{Frame, Forget}
use Rattle.j39_transport.specs.OpenAtEvent.{opened, touched, grown, is_late, is_over}
use Rattle.j39_transport.specs.Frames.{is_clear_to_send, is_end, is_rival}
use Rattle.j39_transport.specs.Key.{Key, Broadcast, is_key}
use Rattle.j39_transport.specs.Message.{MessageRecord, IsLong, packets_of, as_broadcast}
use Rattle.j39_transport.specs.Session.{SessionRecord}
use Rattle.j39_transport.specs.Stands.{IsSession}
use Rattle.j39_transport.proofs.Completing.{whole_from}
use Rattle.j39_transport.proofs.CuttingLemmas.{cut_packet, broadcast_key}
use Rattle.j39_transport.proofs.FrameFacts.{sends-others}
use Rattle.j39_transport.proofs.FrameLemmas.{AnnouncesOf, announces as announces_it, packs}
use Rattle.j39_transport.proofs.Moving.{opened_stands, touched_stands, grown_stands}
use Rattle.j39_transport.proofs.PacketLemmas.{joined_more}
use Rattle.j39_transport.proofs.PollLemmas.{next_after}

-- ---- sending

abbrev frame_at : MessageRecord → ℕ → ℕ → FrameRecord
frame_at m first n = at_moment (first + 50000 * n) (cut_frame (as_broadcast m) m n)

-- the first frames, and one more
one_more : (m : MessageRecord) (first n : ℕ) → frames_apart m first n ++ frame_at m first n ∷ [] ≡ frames_apart m first (suc n)
one_more m first n = sym (map-range_with_len_more (frame_at m first) 0 n n (omega arith)) ∙ ap (frames_apart m first) (let e : n + 1 ≡ suc n = omega arith in e)

count_is : (m : MessageRecord) (first n : ℕ) → length (frames_apart m first n) ≡ n
count_is m first n = length-map-range_with_len (frame_at m first) 0 n

-- when it is polled next
due_is : (m : MessageRecord) (first n : ℕ) → next_moment (frames_apart m first (suc n)) ≡ first + 50000 * suc n
due_is m first n = ap next_moment (sym (one_more m first n)) ∙ (next_after (frames_apart m first n) (frame_at m first n) ∙ omega arith)

moment_is : (m : MessageRecord) (first n : ℕ) → poll_moment first (frames_apart m first n) ≡ first + 50000 * n
moment_is m first zero = omega arith
moment_is m first (suc n) = due_is m first n

not_early : (m : MessageRecord) (first n : ℕ) → nat_lt (poll_moment first (frames_apart m first n)) (next_moment (frames_apart m first n)) ≡ false
not_early m first zero = le-ltb first 0 (omega arith)
not_early m first (suc n) = le-ltb _ _ (omega arith)

not_all : (m : MessageRecord) (first n : ℕ) → n ≤ packets_of m → nat_lt (packets_of m) (length (frames_apart m first n)) ≡ false
not_all m first n h = le-ltb _ _ (let e = count_is m first n in omega arith)

sends_next : (m : MessageRecord) (first n : ℕ) → n ≤ packets_of m
    → answer_after m (frames_apart m first n) (poll_moment first (frames_apart m first n)) ≡ Send (cut_frame (as_broadcast m) m n)
sends_next m first n h =
    let fs : List FrameRecord = frames_apart m first n in
    let now : ℕ = poll_moment first fs in
    ap (λ (b : Bool). cond b Done (cond (nat_lt now (next_moment fs)) (WaitUntil (next_moment fs)) (Send (cut_frame (as_broadcast m) m (length fs))))) (not_all m first n h)
    ∙ (ap (λ (b : Bool). cond b (WaitUntil (next_moment fs)) (Send (cut_frame (as_broadcast m) m (length fs)))) (not_early m first n)
    ∙ ap (λ (k : ℕ). Send (cut_frame (as_broadcast m) m k)) (count_is m first n))

polled_is : (m : MessageRecord) (first n : ℕ) → n ≤ packets_of m + 1 → polled m first n ≡ frames_apart m first n
unfolding polled
polled_is m first zero h = refl
polled_is m first (suc n) h =
    let fs : List FrameRecord = frames_apart m first n in
    ap (λ (gs : List FrameRecord). with_answer gs (poll_moment first gs) (answer_after m gs (poll_moment first gs))) (polled_is m first n (omega arith))
    ∙ (ap (with_answer fs (poll_moment first fs)) (sends_next m first n (omega arith))
    ∙ (ap (λ (t : ℕ). fs ++ at_moment t (cut_frame (as_broadcast m) m n) ∷ []) (moment_is m first n)
    ∙ one_more m first n))

asks_for : (m : MessageRecord) (first n now : ℕ) → n < packets_of m → now < first + 50000 * suc n
    → answer_after m (frames_apart m first (suc n)) now ≡ WaitUntil (first + 50000 * suc n)
asks_for m first n now h l =
    let fs : List FrameRecord = frames_apart m first (suc n) in
    let d : next_moment fs ≡ first + 50000 * suc n = due_is m first n in
    let e : nat_lt now (next_moment fs) ≡ true = lt-ltb _ _ (omega arith) in
    ap (λ (b : Bool). cond b Done (cond (nat_lt now (next_moment fs)) (WaitUntil (next_moment fs)) (Send (cut_frame (as_broadcast m) m (length fs))))) (not_all m first (suc n) (omega arith))
    ∙ (ap (λ (b : Bool). cond b (WaitUntil (next_moment fs)) (Send (cut_frame (as_broadcast m) m (length fs)))) e
    ∙ ap (λ (t : ℕ). WaitUntil t) d)

asks_next : (m : MessageRecord) (first n now : ℕ) → 1 ≤ n → n ≤ packets_of m → now < first + 50000 * n
    → answer_after m (frames_apart m first n) now ≡ WaitUntil (first + 50000 * n)
asks_next m first zero now b h l = absurd (omega arith)
asks_next m first (suc n) now b h l = asks_for m first n now (omega arith) l

pub sends_all : SendsAllLaw
sends_all m first l =
    let all : polled m first (packets_of m + 1) ≡ frames_apart m first (packets_of m + 1) = polled_is m first (packets_of m + 1) (omega arith) in
    record {
      frames = all;
      asks = λ n now b h e. ap (λ (fs : List FrameRecord). answer_after m fs now) (polled_is m first n (omega arith)) ∙ asks_next m first n now b h e;
      done = λ now.
          let fs : List FrameRecord = frames_apart m first (packets_of m + 1) in
          let n : length fs ≡ packets_of m + 1 = count_is m first (packets_of m + 1) in
          ap (λ (gs : List FrameRecord). answer_after m gs now) all
          ∙ ap (λ (b : Bool). cond b Done (cond (nat_lt now (next_moment fs)) (WaitUntil (next_moment fs)) (Send (cut_frame (as_broadcast m) m (length fs))))) (lt-ltb _ _ (omega arith));
    }

-- ---- what isn't of a broadcast

no_grant : (s g : ℕ) (e : Event) → grants (Broadcast s) g e ≡ false
unfolding grants is_clear_to_send
no_grant s g (Frame f) = refl
no_grant s g (Forget t) = refl

no_rival : (s : ℕ) (e : Event) → rivals (Broadcast s) e ≡ false
unfolding rivals is_rival
no_rival s (Frame f) = refl
no_rival s (Forget t) = refl

record IsOther (k : Key) (e : Event) : Type 0 where
  no_announcement : announces k e ≡ false
  no_packet : sends k e ≡ false
  no_end : (g : ℕ) → ends k g e ≡ false

other_is : (s : ℕ) (e : Event) → IsAside s e → IsOther (Broadcast s) e
unfolding announces sends ends is_end
other_is s (Frame f) h = record { no_announcement = h.0; no_packet = h.1; no_end = λ g. refl }
other_is s (Forget t) h = record {
  no_announcement = refl;
  no_packet = refl;
  no_end = λ g. false_from_ne_true _ (λ u. h (sym (eqb-true _ _ (and_parts (s == t) (is_key (Broadcast s)) u).0)));
}

-- ---- a broadcast under way

record Underway (m : MessageRecord) (first count : ℕ) (E : List Event) : Type 0 where
  session : SessionRecord
  stands : IsSession E (as_broadcast m) session
  packets_are : session.packets ≡ packets_of m
  size_is : session.size ≡ length m.bytes
  group_is : session.group ≡ m.pgn
  count_is : session.count ≡ count
  bytes_are : session.bytes ≡ take (7 * count) (m.bytes ++ replicate 7 filler)
  last_is : session.last ≡ first + 50000 * count

begins : (m : MessageRecord) (first : ℕ) (E : List Event) → IsLong m → Underway m first 0 (E ++ Frame (frame_at m first 0) ∷ [])
unfolding announces cut_frame size packets group stamp
begins m first E l =
    let k : Key = as_broadcast m in
    let e : Event = Frame (frame_at m first 0) in
    let a : AnnouncesOf k m (frame_at m first 0) = announces_it k m (first + 50000 * 0) l (broadcast_key m l) in
    record {
      session = opened k e;
      stands = opened_stands E e k a.announced;
      packets_are = a.packets;
      size_is = a.size;
      group_is = a.pgn;
      count_is = refl;
      bytes_are = refl;
      last_is = refl;
    }

goes_by : (m : MessageRecord) (first count : ℕ) (E : List Event) (e : Event) → IsAside m.source e → Underway m first count E → Underway m first count (E ++ e ∷ [])
unfolding is_late
goes_by m first count E e i u =
    let k : Key = as_broadcast m in
    let x : SessionRecord = u.session in
    let o : IsOther k e = other_is m.source e i in
    let b : belongs k x.group e ≡ false =
    or_from (announces k e || sends k e) (grants k x.group e) (or_from (announces k e) (sends k e) o.no_announcement o.no_packet) (no_grant m.source x.group e) in
    let late : is_late k e x ≡ false = ap (λ (t : Bool). t && nat_lt (x.last + 750000) (stamp e)) b in
    record {
      session = touched k e x;
      stands = touched_stands E e k x u.stands o.no_announcement (or_from (ends k x.group e) (is_late k e x) (o.no_end x.group) late) (ap (λ (t : Bool). t && number e == suc x.count) o.no_packet) (λ r. absurd (both_ways _ (no_rival m.source e) r));
      packets_are = u.packets_are;
      size_is = u.size_is;
      group_is = u.group_is;
      count_is = u.count_is;
      bytes_are = u.bytes_are;
      last_is = cond-false _ _ _ b ∙ u.last_is;
    }

-- the next packet
record IsNext (m : MessageRecord) (first count : ℕ) (e : Event) (x : SessionRecord) : Type 0 where
  no_announcement : announces (as_broadcast m) e ≡ false
  belongs_is : belongs (as_broadcast m) x.group e ≡ true
  over_not : is_over (as_broadcast m) e x ≡ false
  numbered : is_numbered (as_broadcast m) (suc x.count) e ≡ true
  stamp_is : stamp e ≡ first + 50000 * (count + 1)
  payload_is : payload e ≡ packet_data m.bytes (count + 1)

next_is : (m : MessageRecord) (first count : ℕ) (x : SessionRecord) → IsLong m → x.count ≡ count → x.last ≡ first + 50000 * count
    → IsNext m first count (Frame (at_moment (first + 50000 * (count + 1)) (packet_of (as_broadcast m) m (count + 1)))) x
unfolding sends number payload stamp packet_of is_late
next_is m first count x l n t =
    let k : Key = as_broadcast m in
    let e : Event = Frame (at_moment (first + 50000 * (count + 1)) (packet_of k m (count + 1))) in
    let s : sends k e ≡ true = packs k m (first + 50000 * (count + 1)) (count + 1) (broadcast_key m l) in
    let o = sends-others k k k x.group e s in
    let b : belongs k x.group e ≡ true = or_left (announces k e || sends k e) (grants k x.group e) (or_right (announces k e) (sends k e) s) in
    let q : (count + 1 == suc x.count) ≡ true = eq-eqb _ _ (omega arith) in
    let in_time : nat_lt (x.last + 750000) (first + 50000 * (count + 1)) ≡ false = le-ltb _ _ (omega arith) in
    record {
      no_announcement = o.no_announcement;
      belongs_is = b;
      over_not = or_from (ends k x.group e) (is_late k e x) o.no_end (and_right (belongs k x.group e) _ in_time);
      numbered = and_from (sends k e) (count + 1 == suc x.count) s q;
      stamp_is = refl;
      payload_is = refl;
    }

frame_is : (m : MessageRecord) (first count : ℕ)
    → frame_at m first (count + 1) ≡ at_moment (first + 50000 * (count + 1)) (packet_of (as_broadcast m) m (count + 1))
frame_is m first count = ap (at_moment (first + 50000 * (count + 1))) (cut_packet (as_broadcast m) m (count + 1) (omega arith))

next_at : (m : MessageRecord) (first count : ℕ) (x : SessionRecord) → IsLong m → x.count ≡ count → x.last ≡ first + 50000 * count
    → IsNext m first count (Frame (frame_at m first (count + 1))) x
next_at m first count x l n t = subst (λ (f : FrameRecord). IsNext m first count (Frame f) x) (sym (frame_is m first count)) (next_is m first count x l n t)

bytes_on : (m : MessageRecord) (first count : ℕ) (E : List Event) (e : Event) (u : Underway m first count E) → count < packets_of m → payload e ≡ packet_data m.bytes (count + 1)
    → u.session.bytes ++ payload e ≡ take (7 * (count + 1)) (m.bytes ++ replicate 7 filler)
bytes_on m first count E e u f p = (λ i. u.bytes_are i ++ p i) ∙ joined_more m.bytes count (omega arith)

goes_on : (m : MessageRecord) (first count : ℕ) (E : List Event) → IsLong m → count + 1 < packets_of m → Underway m first count E
    → Underway m first (count + 1) (E ++ Frame (frame_at m first (count + 1)) ∷ [])
goes_on m first count E l f u =
    let k : Key = as_broadcast m in
    let e : Event = Frame (frame_at m first (count + 1)) in
    let x : SessionRecord = u.session in
    let n : x.count ≡ count = u.count_is in
    let p : x.packets ≡ packets_of m = u.packets_are in
    let h : IsNext m first count e x = next_at m first count x l n u.last_is in
    record {
      session = grown k e x;
      stands = grown_stands E e k x u.stands h.no_announcement h.over_not h.numbered (ne_eqb _ _ (λ z. absurd (omega arith))) (λ r. absurd (both_ways _ (no_rival m.source e) r));
      packets_are = p;
      size_is = u.size_is;
      group_is = u.group_is;
      count_is = omega arith;
      bytes_are = bytes_on m first count E e u (omega arith) h.payload_is;
      last_is = cond-true _ _ _ h.belongs_is ∙ h.stamp_is;
    }

ends_whole : (m : MessageRecord) (first count : ℕ) (E : List Event) → IsLong m → count + 1 ≡ packets_of m → Underway m first count E
    → WholeBy E (frame_at m first (count + 1)) m
ends_whole m first count E l f u =
    let k : Key = as_broadcast m in
    let e : Event = Frame (frame_at m first (count + 1)) in
    let x : SessionRecord = u.session in
    let n : x.count ≡ count = u.count_is in
    let p : x.packets ≡ packets_of m = u.packets_are in
    let h : IsNext m first count e x = next_at m first count x l n u.last_is in
    let b : x.bytes ++ payload e ≡ take (7 * (count + 1)) (m.bytes ++ replicate 7 filler) = bytes_on m first count E e u (omega arith) h.payload_is in
    let z : length m.bytes ≤ 7 * (count + 1) = omega arith in (
      k,
      refl,
      whole_from E e k (Some x) u.stands m.pgn m.bytes (record {
        session = x;
        was = refl;
        continues = record { is_next = h.numbered; not_over = h.over_not };
        is_last = omega arith;
        group_is = sym u.group_is;
        bytes_are = sym ((λ i. take (u.size_is i) (b i))
            ∙ (take-take (length m.bytes) (7 * (count + 1)) (m.bytes ++ replicate 7 filler) z ∙ take_at m.bytes (replicate 7 filler) (length m.bytes) refl));
      }),
    )

-- ---- all frames, and others between them

abbrev Stay : MessageRecord → ℕ → (from count : ℕ) → List FrameRecord → Type 0
Stay m first from count fs = fs ≡ map (frame_at m first) (range_with_len from count)

regrouped : (m : MessageRecord) (f : FrameRecord) (E G : List Event) (e : Event) → WholeBy ((E ++ e ∷ []) ++ G) f m → WholeBy (E ++ e ∷ G) f m
regrouped m f E G e h = subst (λ (D : List Event). WholeBy D f m) (append_assoc E (e ∷ []) G) h

head_is : (g : FrameRecord) (gs : List FrameRecord) (m : MessageRecord) (first from count : ℕ) → Stay m first from (suc count) (g ∷ gs) → g ≡ frame_at m first from
head_is g gs m first from count e = ap (λ (l : List FrameRecord). get_or l 0 g) e

tail_is : (g : FrameRecord) (gs : List FrameRecord) (m : MessageRecord) (first from count : ℕ) → Stay m first from (suc count) (g ∷ gs) → Stay m first (from + 1) count gs
tail_is g gs m first from count e = ap (λ (l : List FrameRecord). drop 1 l) e

count_of : (fs : List FrameRecord) (m : MessageRecord) (first from count : ℕ) → Stay m first from count fs → length fs ≡ count
count_of fs m first from count e = ap (λ (l : List FrameRecord). length l) e ∙ length-map-range_with_len (frame_at m first) from count

longer : (fs : List FrameRecord) (f : FrameRecord) → 0 < length (fs ++ f ∷ [])
longer [] f = omega arith
longer (g ∷ fs) f = omega arith

after : (m : MessageRecord) (first : ℕ) → IsLong m → {fs : List FrameRecord} {G : List Event} → AreAmong m.source fs G
    → (E : List Event) (count n : ℕ) (f : FrameRecord) → Underway m first count E → Stay m first (count + 1) (suc n) (fs ++ f ∷ []) → count + 1 + n ≡ packets_of m → WholeBy (E ++ G) f m
after m first l ended E count n f u e p =
    let z : 1 ≡ suc n = count_of (f ∷ []) m first (count + 1) (suc n) e in
    subst (λ (D : List Event). WholeBy D f m) (sym (append-nil E))
    (subst (λ (g : FrameRecord). WholeBy E g m) (sym (head_is f [] m first (count + 1) n e)) (ends_whole m first count E l (omega arith) u))
after m first l (passed a fs es i h) E count n f u e p = regrouped m f E es a (after m first l h (E ++ a ∷ []) count n f (goes_by m first count E a i u) e p)
after m first l (sent g fs es h) E count zero f u e p =
    absurd (let z = count_of (g ∷ (fs ++ f ∷ [])) m first (count + 1) 1 e in let y = longer fs f in omega arith)
after m first l (sent g fs es h) E count (suc n) f u e p =
    let g_is : g ≡ frame_at m first (count + 1) = head_is g (fs ++ f ∷ []) m first (count + 1) (suc n) e in
    regrouped m f E es (Frame g)
    (after m first l h (E ++ Frame g ∷ []) (count + 1) n f
    (subst (λ (x : FrameRecord). Underway m first (count + 1) (E ++ Frame x ∷ [])) (sym g_is) (goes_on m first count E l (omega arith) u))
    (tail_is g (fs ++ f ∷ []) m first (count + 1) (suc n) e) (omega arith))

from_start : (m : MessageRecord) (first : ℕ) → IsLong m → {fs : List FrameRecord} {G : List Event} → AreAmong m.source fs G
    → (E : List Event) (n : ℕ) (f : FrameRecord) → Stay m first 0 (suc (suc n)) (fs ++ f ∷ []) → 1 + n ≡ packets_of m → WholeBy (E ++ G) f m
from_start m first l ended E n f e p = absurd (let z = count_of (f ∷ []) m first 0 (suc (suc n)) e in omega arith)
from_start m first l (passed a fs es i h) E n f e p = regrouped m f E es a (from_start m first l h (E ++ a ∷ []) n f e p)
from_start m first l (sent g fs es h) E n f e p =
    let g_is : g ≡ frame_at m first 0 = head_is g (fs ++ f ∷ []) m first 0 (suc n) e in
    regrouped m f E es (Frame g)
    (after m first l h (E ++ Frame g ∷ []) 0 n f
    (subst (λ (x : FrameRecord). Underway m first 0 (E ++ Frame x ∷ [])) (sym g_is) (begins m first E l))
    (tail_is g (fs ++ f ∷ []) m first 0 (suc n) e) (omega arith))

pub is_heard : IsHeardLaw
is_heard m first l E G fs f e h =
    let b : 9 ≤ length m.bytes = l.least in
    let n : packets_of m + 1 ≡ suc (suc (packets_of m - 1)) = omega arith in
    from_start m first l h E (packets_of m - 1) f
    (subst (λ (k : ℕ). Stay m first 0 k (fs ++ f ∷ [])) n (sym e ∙ polled_is m first (packets_of m + 1) (omega arith))) (omega arith)
