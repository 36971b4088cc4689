-- The laws of broadcasts.
use Rattle.j39_node.proofs.Common.{[], ◌++◌, ◌+◌, ◌-◌, ◌<◌, ◌↔◌, ◌∙◌, ◌∷◌, ◌≡◌, ◌≤◌, ◌⊎◌, accepted, acknowledged, address_after, all_frames, ap, AreAnswered, arith, At, Bool, Broadcast, broadcast_end, broadcasts, Call, Controller, Done, due, Ending, eq-eqb, eqb-true, false, first_frames, frame_of, FrameRecord, has_packets, holds, inl, inr, Is, is_acknowledgment, is_busy, is_claim, is_held, is_left, is_lost, is_open, is_overdue, is_packet, IsTrue, length, List, long_by, Message, message_of, MessageRecord, moment, Move, nat_le, nat_lt, next_acknowledgment, next_frame, next_long, next_packet, next_transfer, None, Ok, open_broadcast, Option, packet_by, packets, packets_of, PacketSince, passed_in, pause, reached, ready, refl, Reply, Single, slice_get, Some, step, suc, sym, TakeBroadcastEnded, TakeFrame, told_broadcasts, true, Who, Withdrawn, yields, zero, ℕ, not_both, or_parts, or_cases, false_from_ne_true, nat_eq}
use Rattle.j39_node.specs.declared.turn.Turn.TheVariants.{Packet}
use Rattle.j39_node.proofs.QueueLemmas.{length_one_more, all_at}
use Rattle.j39_node.proofs.SoundLemmas.{address_is, packet_taken, IsTurn, none_next, turned, FrameCase, frame_case, packet_case, sound, claim_taken, claim_single, IsDue, due_taken, no_packet, pause_is, no_packet}
use Rattle.j39_node.proofs.SoundLemmas.FrameCase.{claims, acknowledges, replies, sends, packs, transfers}
use Rattle.j39_node.proofs.LaneLemmas.{LaneEnd, lane_end, Opened, Laned, laned, closed, stands_open, opened_by, ended_one}
use Rattle.j39_node.proofs.LaneLemmas.LaneEnd.{complete, broken}
use Rattle.j39_node.proofs.KindLemmas.{packs_it}

-- ---- what broadcast answers

-- there is no box, one is accepted and not told, or there is no token left
abbrev AtLimit : Who → List Call → Type 0
AtLimit w H =
    (w.transfers ≡ 0) ⊎ ((length (broadcasts w H) ≡ length (told_broadcasts H) + 1) ⊎ (length (broadcasts w H) ≡ 18446744073709551615))

pub limit : (w : Who) (H : List Call) → AreAnswered w H → is_busy w H ≡ true → AtLimit w H
limit w H right e = elim (or_cases (nat_eq w.transfers 0) _ e) [
  | inl n ↦ inl (eqb-true _ _ n)
  | inr o ↦ inr (elim (or_cases (is_open (open_broadcast w H)) _ o) [
    | inl a ↦ inl (let z = stands_open w (length (told_broadcasts H)) (broadcasts w H) (packets H) (open_broadcast w H) (laned w H right) a in omega (arith, z))
    | inr b ↦ inr (eqb-true _ _ b)
  ])
]

pub no_limit : (w : Who) (H : List Call) → AreAnswered w H → is_busy w H ≡ false → AtLimit w H → ⊥
no_limit w H right e l =
    let p = or_parts (nat_eq w.transfers 0) _ e in
    let n = or_parts (is_open (open_broadcast w H)) _ p.1 in
    elim l [
      | inl a ↦ not_both _ p.0 (eq-eqb _ _ a)
      | inr o ↦ elim o [
        | inl a ↦ (let z = closed w (length (told_broadcasts H)) (broadcasts w H) (packets H) (open_broadcast w H) (laned w H right) n.0 in absurd (omega (arith, z, a)))
        | inr b ↦ not_both _ n.1 (eq-eqb _ _ b)
      ]
    ]

-- ---- which frames are taken

pub record Packed (w : Who) (H : List Call) (now : ℕ) (f : FrameRecord) : Type 0 where
  pub token : ℕ
  pub message : MessageRecord
  pub current : open_broadcast w H ≡ Some (token, message)
  pub is : message_of f ≡ frame_of message (length (packets H))
  pub within : length (packets H) ≤ packets_of message
  pub held : holds w H now ≡ true
  pub none_due : next_acknowledgment w H now ≡ None
  pub none_waits : IsTrue (is_overdue w H now) ⊎ (nat_lt (reached H) (length (accepted w H)) ≡ false)
  pub over : pause H - step H now ≤ 100000

pub packed_by : (w : Who) (H : List Call) (now : ℕ) (f : FrameRecord) → AreAnswered w H → is_packet f ≡ true → FrameCase w H now f → Packed w H now f
packed_by w H now f right p = go
  where
    go : FrameCase w H now f → Packed w H now f
    go (packs m o k n g e) =
        let x = packet_case (open_broadcast w H) (length (packets H)) (pause H - step H now) m g in
        record {
          token = x.token;
          message = x.message;
          current = x.is;
          is = ap (λ (y : ℕ × Message). y.1) e ∙ x.frame;
          within = x.within;
          held = k;
          none_due = n.0;
          none_waits = waits (turned w H now (Some Packet) n.1);
          over = x.over;
        }
      where
        waits : IsTurn (yields w H) (ready w H now) (Some Packet) → IsTrue (is_overdue w H now) ⊎ (nat_lt (reached H) (length (accepted w H)) ≡ false)
        waits (inl o) = inl o
        waits (inr t) = inr t.1
    go case = absurd (not_both _ (packs_it w H now f right case) p)

pub packed : (w : Who) (H : List Call) (c : Controller) (now : ℕ) (f : FrameRecord) → Is w (At now (TakeFrame (Some f)) ∷ H) c → is_packet f ≡ true → Packed w H now f
packed w H c now f is p = packed_by w H now f is.answered.0 p (frame_case w H now f is.answered.1)

-- the address is held then
pub held_then : (w : Who) (H : List Call) (now : ℕ) (f : FrameRecord) → Packed w H now f → is_packet f ≡ true → is_held (address_after w (At now (TakeFrame (Some f)) ∷ H)) ≡ true
held_then w H now f x p = ap is_held (address_is w H now f false (false_from_ne_true _ (λ e. not_both _ (no_packet f (claim_single f e)) p))) ∙ x.held

-- one that is overdue goes before all but claims and acknowledgments
pub overdue_goes_by : (w : Who) (H : List Call) (now : ℕ) (f : FrameRecord) → AreAnswered w H → FrameCase w H now f → is_overdue w H now ≡ true
    → is_claim f ≡ false → is_acknowledgment f ≡ false → is_packet f ≡ true
overdue_goes_by w H now f right (claims o e) late k a = absurd (not_both _ k (claim_taken f now w _ e))
overdue_goes_by w H now f right (acknowledges m o h g e way) late k a =
    absurd (not_both _ a (due_taken w f now m e (all_at (IsDue w) (due w H) (length (acknowledged H)) m (sound w H right).desk.0 g)).1)
overdue_goes_by w H now f right (replies m o h n g e) late k a = absurd (not_both _ (turned w H now (Some Reply) n.1).1 late)
overdue_goes_by w H now f right (sends x o h n g e) late k a = absurd (not_both _ (turned w H now (Some Single) n.1).1 late)
overdue_goes_by w H now f right (packs m o h n g e) late k a = (packet_taken f now m (open_broadcast w H) (length (packets H)) (pause H - step H now) e g).2
overdue_goes_by w H now f right (transfers m o h n g e) late k a = absurd (not_both _ (turned w H now (Some Move) n.1).0.overdue late)

-- ---- their spacing

-- what is left of the pause, and what passed since a frame of packets
pauses : (later E : List Call) → 150000 ≤ pause E → 150000 ≤ pause (later ++ E) + passed_in later E
pauses [] E l = omega (arith, l)
pauses (call ∷ later) E e = let h = pauses later E in grind (arith, h, e)

pub spaced : (w : Who) (H later : List Call) (c : Controller) (now at : ℕ) (f g : FrameRecord)
    → Is w (At now (TakeFrame (Some g)) ∷ later ++ At at (TakeFrame (Some f)) ∷ H) c → IsTrue (is_packet f) → IsTrue (is_packet g)
    → 50000 ≤ passed_in (At now (TakeFrame (Some g)) ∷ later) (At at (TakeFrame (Some f)) ∷ H)
spaced w H later c now at f g is p q =
    let x = packed w (later ++ At at (TakeFrame (Some f)) ∷ H) c now g is q in
    let o = x.over in
    let l = pauses later (At at (TakeFrame (Some f)) ∷ H) begins in
    omega (arith, l, o)
  where
    begins : 150000 ≤ pause (At at (TakeFrame (Some f)) ∷ H)
    begins = let z = pause_is H at f true p in omega (arith, z)

-- ---- since when a pause lasts

later_by_one : (H : List Call) (call : Call) (e : ℕ) → PacketSince H e → PacketSince (call ∷ H) (e + step H (moment (call ∷ H)))
later_by_one H call e h = record {
  later = call ∷ h.later;
  earlier = h.earlier;
  at = h.at;
  packet = h.packet;
  is = ap (λ G. call ∷ G) h.is;
  of_packets = h.of_packets;
  passed = ap (λ (n : ℕ). n + step H (moment (call ∷ H))) h.passed
      ∙ ap (λ (G : List Call). passed_in h.later (At h.at (TakeFrame (Some h.packet)) ∷ h.earlier) + step G (moment (call ∷ G))) h.is;
}

-- where the next isn't due, the pause began with a frame of packets
abbrev Began : List Call → Type 0
Began H = 100000 < pause H → (e : ℕ) × PacketSince H e × (pause H + e ≤ 150000)

lets_pass : (H : List Call) (call : Call) → Began H → (100000 < pause (call ∷ H) → pause (call ∷ H) ≡ pause H - step H (moment (call ∷ H))) → Began (call ∷ H)
lets_pass H call h same l =
    let p = same l in
    let r = h (omega (arith, p, l)) in
    let b = r.2 in
    (r.0 + step H (moment (call ∷ H)), later_by_one H call r.0 r.1, omega (arith, p, l, b))

taken_by : (H : List Call) (now : ℕ) (f : FrameRecord) (b : Bool) → is_packet f ≡ b → Began H → Began (At now (TakeFrame (Some f)) ∷ H)
taken_by H now f true k h = λ l.
    let p = pause_is H now f true k in
    (0, record { later = []; earlier = H; at = now; packet = f; is = refl; of_packets = k; passed = refl }, omega (arith, p))
taken_by H now f false k h = lets_pass H (At now (TakeFrame (Some f))) h (λ l. pause_is H now f false k)

began : (H : List Call) → Began H
began [] = λ l. absurd (omega (arith, l))
began (At now (TakeFrame (Some f)) ∷ H) = taken_by H now f (is_packet f) refl (began H)
began (At now (Broadcast group bytes (Ok k)) ∷ H) = lets_pass H (At now (Broadcast group bytes (Ok k))) (began H) (λ l. omega (arith, l))
began (call ∷ H) = lets_pass H call (began H) (λ l. omega arith)

-- a frame that is left waits for the pause alone
no_frame : (o : Option (ℕ × MessageRecord)) (i left : ℕ) → is_left o i ≡ true → packet_by o i left ≡ None → 100000 < left
no_frame o i left e f = grind (arith, e, f)

-- where no frame is taken from an address that is held, none of packets is next
pub none_long : (w : Who) (H : List Call) (now : ℕ) → holds w H now ≡ true → (let none : Option (ℕ × Message) = None in none) ≡ next_frame w H now → next_long w H now ≡ None
none_long w H now held e = let n = none_next w H now held e in ap (λ o. long_by o (next_transfer w H now)) n.rest.packet ∙ n.transfer

-- ---- how they end

ended : (w : Who) (H : List Call) (c : Controller) (x : ℕ × Ending) → Is w (TakeBroadcastEnded (Some x) ∷ H) c
    → LaneEnd (open_broadcast w H) (length (packets H)) (is_lost (address_after w H)) x
ended w H c x is = lane_end (open_broadcast w H) (length (packets H)) (is_lost (address_after w H)) x is.answered.1

pub in_turn : (w : Who) (H : List Call) (c : Controller) (k : ℕ) (e : Ending) → Is w (TakeBroadcastEnded (Some (k, e)) ∷ H) c
    → (k ≡ length (told_broadcasts H)) × (k < length (broadcasts w H))
in_turn w H c k e is =
    let x = ended_one (ended w H c (k, e) is) in
    let o = opened_by w _ _ _ (open_broadcast w H) (k, x.0) (laned w H is.answered.0) x.1 in
    (o.token, (let a = o.count in omega (arith, a)))

length_frames : (m : MessageRecord) (n : ℕ) → length (first_frames m n) ≡ n
length_frames m zero = refl
length_frames m (suc n) = length_one_more (first_frames m n) (frame_of m n) ∙ ap suc (length_frames m n)

pub done_means : (w : Who) (H : List Call) (c : Controller) (k : ℕ) (e : Ending) → Is w (TakeBroadcastEnded (Some (k, e)) ∷ H) c
    → (e ≡ Done ↔ ((m : MessageRecord) × (slice_get (broadcasts w H) k ≡ Some m) × (packets H ≡ all_frames m)))
done_means w H c k e is = go (ended w H c (k, e) is)
  where
    opened : (m : MessageRecord) → open_broadcast w H ≡ Some (k, m) → Opened w (length (told_broadcasts H)) (broadcasts w H) (packets H) (k, m)
    opened m f = opened_by w _ _ _ (open_broadcast w H) (k, m) (laned w H is.answered.0) f

    go : LaneEnd (open_broadcast w H) (length (packets H)) (is_lost (address_after w H)) (k, e)
        → (e ≡ Done ↔ ((m : MessageRecord) × (slice_get (broadcasts w H) k ≡ Some m) × (packets H ≡ all_frames m)))
    go (complete m f l d) =
        let o = opened m f in
        let all : length (packets H) ≡ suc (packets_of m) = (let a = o.within in omega (arith, a, l)) in
        (λ z. (m, o.last, o.frames ∙ ap (first_frames m) all), λ z. d)
    go (broken m f l a d) =
        let o = opened m f in (
          λ z. absurd (let y : Withdrawn ≡ Done = sym d ∙ z in cc),
          λ z. absurd (
              let y = sym o.last ∙ z.1 in
              let same : m ≡ z.0 = cc in
              let n = ap length z.2 ∙ length_frames z.0 (suc (packets_of z.0)) in
              let b = ap packets_of same in
              omega (arith, n, b, l)
              ),
        )

pub withdrawn_means : (w : Who) (H : List Call) (c : Controller) (k : ℕ) (e : Ending) → Is w (TakeBroadcastEnded (Some (k, e)) ∷ H) c → e ≡ Withdrawn
    → IsTrue (is_lost (address_after w H))
withdrawn_means w H c k e f g = grind (arith, g)

pub all_told : (w : Who) (H : List Call) (c : Controller) → Is w (TakeBroadcastEnded None ∷ H) c
    → (length (told_broadcasts H) ≡ length (broadcasts w H)) ⊎ (IsTrue (has_packets w H) × (IsTrue (is_lost (address_after w H)) → ⊥))
all_told w H c is = go (open_broadcast w H) (laned w H is.answered.0) is.answered.1
  where
    by : (b l : Bool) (i n k : ℕ) → Rattle.std.proofs.Common.nat_lt n i ≡ b → (let none : Option (ℕ × Ending) = None in none) ≡ Rattle.j39_node.specs.Is.ending_of b l k
        → (nat_le i n ≡ true) × (l ≡ false)
    by b l i n k e f = (grind (arith, e, f), grind (arith, e, f))

    go : (o : Option (ℕ × MessageRecord)) → Laned w (length (told_broadcasts H)) (broadcasts w H) (packets H) o
        → (let none : Option (ℕ × Ending) = None in none) ≡ broadcast_end o (length (packets H)) (is_lost (address_after w H))
        → (length (told_broadcasts H) ≡ length (broadcasts w H)) ⊎ (IsTrue (is_left o (length (packets H))) × (IsTrue (is_lost (address_after w H)) → ⊥))
    go None h e = inl h
    go (Some x) h e = let z = by _ (is_lost (address_after w H)) (length (packets H)) (packets_of x.1) x.0 refl e in inr (z.0, not_both _ z.1)

-- where a frame of packets is left, but none is next, one was taken less than 50 ms before
pub packet_waits : (w : Who) (H : List Call) (now : ℕ) → IsTrue (has_packets w H) → next_packet w H now ≡ None
    → (e : ℕ) × PacketSince H e × (e + step H now < 50000)
packet_waits w H now some none =
    let l = no_frame (open_broadcast w H) (length (packets H)) (pause H - step H now) some none in
    let r = began H (omega (arith, l)) in
    let b = r.2 in
    (r.0, r.1, omega (arith, l, b))

pub waits : (w : Who) (H : List Call) (c : Controller) (now : ℕ) → Is w (At now (TakeFrame None) ∷ H) c → IsTrue (holds w H now)
    → IsTrue (has_packets w H) → (e : ℕ) × PacketSince H e × (e + step H now < 50000)
waits w H c now is held some = packet_waits w H now some (none_next w H now held is.answered.1).rest.packet
