-- What a member takes of broadcasts.
use Rattle.std.proofs.Common.{[], if◌then◌else◌, ◌&&◌, ◌++◌, ◌<◌, ◌^◌, ◌∙◌, ◌∷◌, ◌≡◌, ◌≤◌, ◌⊎◌, ap, arith, Bool, false, inl, inr, length, length-append, List, nat_le, None, Ok, Option, refl, Some, subst, suc, sym, true, ℕ}
use Rattle.std.proofs.lemmas.Bool.{and_parts, cases_Bool, leb-true}
use Rattle.std.proofs.lemmas.List.Elements.{All-cons, All-head, All-nil, All-tail}
use Rattle.std.specs.List.{All}
use Rattle.j39_frame.specs.Address.{IsAddress}
use Rattle.j39_frame.specs.Frame.{FrameRecord}
use Rattle.j39_transport.specs.Message.{IsLong, MessageRecord, packets_of}
use Rattle.j39_node.proofs.AnswerCases.{broadcast_accepts}
use Rattle.j39_node.proofs.LaneLaws.{packed_by}
use Rattle.j39_node.proofs.LaneLemmas.{laned, opened_by}
use Rattle.j39_node.proofs.SoundLemmas.{frame_case}
use Rattle.j39_node.specs.History.{broadcast_from, broadcasts, Call, can_broadcast, frame_of, frames, is_packet, is_sendable, Message, message_of, open_broadcast, packets, Who}
use Rattle.j39_node.specs.History.Call.{At, TakeBroadcastEnded}
use Rattle.j39_node.specs.History.Act.{Broadcast, TakeFrame}
use Rattle.j39_node.specs.Is.{AreAnswered}
use Rattle.j39_net.proofs.PartLemmas.{part_longer, part_push}
use Rattle.j39_net.specs.Net.{IsPart}

-- ---- lists

pub all_front : {T : Type 0} (P : T → Type 0) (xs ys : List T) → All P (xs ++ ys) → All P xs
all_front P [] ys h = All-nil P
all_front P (x ∷ xs) ys h = All-cons P x xs (All-head P x (xs ++ ys) h) (all_front P xs ys (All-tail P x (xs ++ ys) h))

pub all_last : {T : Type 0} (P : T → Type 0) (xs : List T) (y : T) → All P (xs ++ y ∷ []) → P y
all_last P [] y h = All-head P y [] h
all_last P (x ∷ xs) y h = all_last P xs y (All-tail P x (xs ++ y ∷ []) h)

pub push_length : {T : Type 0} (xs : List T) (y : T) → length (xs ++ y ∷ []) ≡ suc (length xs)
push_length xs y = let a = length-append xs (y ∷ []) in omega (arith, a)

-- ---- the course of what is taken

-- these frames announce these messages, one after the other, and behind each announcement stand packets of it, in order; the last, and
-- how many of its frames were taken
pub data Course (a : ℕ) : List MessageRecord → Option (MessageRecord × ℕ) → List FrameRecord → Type 0 where
  none : Course a [] None []
  beside : (A : List MessageRecord) (o : Option (MessageRecord × ℕ)) (fs : List FrameRecord) (f : FrameRecord) → is_packet f ≡ false → Course a A o fs → Course a A o (fs ++ f ∷ [])
  begins : (A : List MessageRecord) (o : Option (MessageRecord × ℕ)) (fs : List FrameRecord) (f : FrameRecord) (b : MessageRecord) → IsLong b → b.source ≡ a → message_of f ≡ frame_of b 0
      → Course a A o fs → Course a (A ++ b ∷ []) (Some (b, 1)) (fs ++ f ∷ [])
  goes_on : (A : List MessageRecord) (fs : List FrameRecord) (f : FrameRecord) (b : MessageRecord) (j : ℕ) → message_of f ≡ frame_of b (suc j) → suc j ≤ packets_of b
      → Course a A (Some (b, suc j)) fs → Course a A (Some (b, suc (suc j))) (fs ++ f ∷ [])

-- the open broadcast isn't announced yet, or is the last that was
abbrev pub IsOpenAt : List MessageRecord → List MessageRecord → Option (MessageRecord × ℕ) → List Message → MessageRecord → Type 0
IsOpenAt all A o taken b =
    ((bs : List MessageRecord) × (all ≡ bs ++ b ∷ []) × IsPart A bs × (taken ≡ []) × IsLong b)
    ⊎ ((j : ℕ) × (length taken ≡ suc j) × (o ≡ Some (b, suc j)))

pub record Coursed (w : Who) (H : List Call) : Type 0 where
  pub announced : List MessageRecord
  pub last : Option (MessageRecord × ℕ)
  pub course : Course w.address announced last (frames H)
  pub part : IsPart announced (broadcasts w H)
  pub current : (x : ℕ × MessageRecord) → open_broadcast w H ≡ Some x → IsOpenAt (broadcasts w H) announced last (packets H) x.1

pub long_by : (w : Who) (group : ℕ) (bytes : List ℕ) → IsAddress w.address → group < 2 ^ 18 → can_broadcast group bytes ≡ true → IsLong (broadcast_from w group bytes)
long_by w group bytes a g e =
    let p = and_parts (nat_le 9 (length bytes)) (nat_le (length bytes) 1785) (and_parts (is_sendable group) (nat_le 9 (length bytes) && nat_le (length bytes) 1785) e).1 in
    record { message = record { source = a; pgn = g; most = leb-true (length bytes) 1785 p.1 }; least = leb-true 9 (length bytes) p.0 }

-- a frame is taken
frame_beside : (w : Who) (H : List Call) (now : ℕ) (f : FrameRecord) → is_packet f ≡ false → Coursed w H → Coursed w (At now (TakeFrame (Some f)) ∷ H)
frame_beside w H now f e c = record {
  announced = c.announced;
  last = c.last;
  course = beside c.announced c.last (frames H) f e c.course;
  part = c.part;
  current = λ x i. subst (λ (t : Bool). IsOpenAt (broadcasts w H) c.announced c.last (if t then packets H ++ message_of f ∷ [] else packets H) x.1) (sym e) (c.current x i);
}

frame_packed : (w : Who) (H : List Call) (now k : ℕ) (f : FrameRecord) (b : MessageRecord) → is_packet f ≡ true → open_broadcast w H ≡ Some (k, b) → b.source ≡ w.address
    → message_of f ≡ frame_of b (length (packets H)) → length (packets H) ≤ packets_of b → Coursed w H → Coursed w (At now (TakeFrame (Some f)) ∷ H)
frame_packed w H now k f b e is own m l c = go (c.current (k, b) is)
  where
    taken : packets (At now (TakeFrame (Some f)) ∷ H) ≡ packets H ++ message_of f ∷ []
    taken = ap (λ (t : Bool). if t then packets H ++ message_of f ∷ [] else packets H) e

    same : (x : ℕ × MessageRecord) → open_broadcast w H ≡ Some x → x.1 ≡ b
    same x i = let z : Some x ≡ Some (k, b) = sym i ∙ is in let y : x ≡ (k, b) = cc in ap (λ (v : ℕ × MessageRecord). v.1) y

    go : IsOpenAt (broadcasts w H) c.announced c.last (packets H) b → Coursed w (At now (TakeFrame (Some f)) ∷ H)
    go (inl h) = record {
      announced = c.announced ++ b ∷ [];
      last = Some (b, 1);
      course = begins c.announced c.last (frames H) f b h.4 own (m ∙ ap (λ (ms : List Message). frame_of b (length ms)) h.3) c.course;
      part = subst (IsPart (c.announced ++ b ∷ [])) (sym h.1) (part_push c.announced h.0 b h.2);
      current = λ x i. inr (
        0,
        ap length taken ∙ (push_length (packets H) (message_of f) ∙ ap (λ (ms : List Message). suc (length ms)) h.3),
        ap (λ (v : MessageRecord). (let o : Option (MessageRecord × ℕ) = Some (v, 1) in o)) (sym (same x i)),
      );
    }
    go (inr h) = record {
      announced = c.announced;
      last = Some (b, suc (suc h.0));
      course = goes_on c.announced (frames H) f b h.0 (m ∙ ap (frame_of b) h.1) (let n = h.1 in omega (arith, l, n)) (subst (λ o. Course w.address c.announced o (frames H)) h.2 c.course);
      part = c.part;
      current = λ x i. inr (
        suc h.0,
        ap length taken ∙ (push_length (packets H) (message_of f) ∙ ap suc h.1),
        ap (λ (v : MessageRecord). (let o : Option (MessageRecord × ℕ) = Some (v, suc (suc h.0)) in o)) (sym (same x i)),
      );
    }

-- a broadcast is accepted
accepted_one : (w : Who) (H : List Call) (now group k : ℕ) (bytes : List ℕ) → IsLong (broadcast_from w group bytes) → Coursed w H
    → Coursed w (At now (Broadcast group bytes (Ok k)) ∷ H)
accepted_one w H now group k bytes long c =
    let b = broadcast_from w group bytes in
    record {
      announced = c.announced;
      last = c.last;
      course = c.course;
      part = part_longer c.announced (broadcasts w H) (b ∷ []) c.part;
      current = λ x i.
          let z : (k, b) ≡ x = cc in
          subst (λ (v : ℕ × MessageRecord). IsOpenAt (broadcasts w H ++ b ∷ []) c.announced c.last [] v.1) z (inl (broadcasts w H, refl, c.part, refl, long));
    }

passes : (w : Who) (H : List Call) (call : Call) → frames (call ∷ H) ≡ frames H → broadcasts w (call ∷ H) ≡ broadcasts w H → packets (call ∷ H) ≡ packets H
    → ((x : ℕ × MessageRecord) → open_broadcast w (call ∷ H) ≡ Some x → open_broadcast w H ≡ Some x) → Coursed w H → Coursed w (call ∷ H)
passes w H call fs bs ps os c = record {
  announced = c.announced;
  last = c.last;
  course = subst (Course w.address c.announced c.last) (sym fs) c.course;
  part = subst (IsPart c.announced) (sym bs) c.part;
  current = λ x i. subst (λ all. IsOpenAt all c.announced c.last (packets (call ∷ H)) x.1) (sym bs) (subst (λ ms. IsOpenAt (broadcasts w H) c.announced c.last ms x.1) (sym ps) (c.current x (os x i)));
}

taken_one : (w : Who) (H : List Call) (now : ℕ) (f : FrameRecord) → AreAnswered w (At now (TakeFrame (Some f)) ∷ H) → Coursed w H
    → (is_packet f ≡ true) ⊎ (is_packet f ≡ false) → Coursed w (At now (TakeFrame (Some f)) ∷ H)
taken_one w H now f right c (inl e) =
    let p = packed_by w H now f right.0 e (frame_case w H now f right.1) in
    let own = (opened_by w _ _ _ (open_broadcast w H) (p.token, p.message) (laned w H right.0) p.current).source in
    frame_packed w H now p.token f p.message e p.current own p.is p.within c
taken_one w H now f right c (inr e) = frame_beside w H now f e c

pub coursed : (w : Who) (H : List Call) → IsAddress w.address → All (λ (b : MessageRecord). b.pgn < 2 ^ 18) (broadcasts w H) → AreAnswered w H → Coursed w H
coursed w [] a fits right = record { announced = []; last = None; course = none; part = tt; current = λ x i. absurd (cc) }
coursed w (At now (TakeFrame (Some f)) ∷ H) a fits right = taken_one w H now f right (coursed w H a fits right.0) (cases_Bool (is_packet f))
coursed w (At now (Broadcast group bytes (Ok k)) ∷ H) a fits right =
    let b = broadcast_from w group bytes in
    accepted_one w H now group k bytes
    (long_by w group bytes a (all_last (λ (b : MessageRecord). b.pgn < 2 ^ 18) (broadcasts w H) b fits) (broadcast_accepts w H now group k bytes right.1).1)
    (coursed w H a (all_front (λ (b : MessageRecord). b.pgn < 2 ^ 18) (broadcasts w H) (b ∷ []) fits) right.0)
coursed w (TakeBroadcastEnded (Some x) ∷ H) a fits right =
    passes w H (TakeBroadcastEnded (Some x)) refl refl refl (λ y i. absurd (cc)) (coursed w H a fits right.0)
coursed w (call ∷ H) a fits right = passes w H call refl refl refl (λ x i. i) (coursed w H a fits right.0)
