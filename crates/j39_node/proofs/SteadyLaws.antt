-- A driver that takes one frame at least in each g: how long a frame of a broadcast and a message wait, whoever asks.
use Rattle.j39_node.proofs.Common.{[], accepted, add-mul, address_after, all_replies, and_from, and_parts, ap, AreAnswered, arith, At, Bool, Broadcast, broadcast_from, Call, cases_lt, claims_anew, Controller, Ending, eq-eqb, false, FrameRecord, gives_way, has_packets, holds, if◌then◌else◌, inl, inr, Is, is_acknowledgment, is_claim, is_held, is_left, is_lost, is_overdue, is_packet, is_reply, is_there, IsAnswered, IsPrompt, IsSteady, IsTrue, kept, later, leb-false, length, List, lt-ltb, marks, Message, MessageRecord, moment, Move, mul-add, nat_eq, nat_le, next_broadcast_ended, next_ended, next_other, None, NoneTold, not, not-true, not_both, Ok, open_broadcast, Option, or_parts, other, others, packets, packets_of, packets_taken, passed_in, pause, quiet, reached, ready, refl, Reply, since_take, Single, slice_get, Some, StaysFirst, step, subst, suc, suc-mul, sym, TakeFrame, takes_reply, tells_broadcast, told, true, turns, waited_in, Who, yields, zero, ℕ, ◌*◌, ◌++◌, ◌+◌, ◌-◌, ◌<◌, ◌||◌, ◌∙◌, ◌∷◌, ◌≡◌, ◌≤◌, ◌⊎◌}
use Rattle.j39_node.proofs.EndSteps.{times_more}
use Rattle.j39_node.proofs.WithdrawLemmas.{past_more}
use Rattle.j39_node.proofs.LaneLaws.{overdue_goes_by, held_then, packed_by}
use Rattle.j39_node.proofs.MessageLaws.{accepts_more, told_next, more_sent}
use Rattle.j39_node.proofs.PromptLaws.{answered_from, begins_timely, due_by, ended_or_lost, ends_so, Fate, IsOver, later_on, not_yet, timely_then, Pace, pause_most, Runs, Stands, stands, takes, Timely}
use Rattle.j39_node.proofs.PromptLaws.Fate.{over, gone, runs}
use Rattle.j39_node.proofs.SoundLemmas.{FrameCase, IsTurn, frame_case, held_older, none_next, none_other, packets_is, some_at, turned, reached_is, none_at, past_end}
use Rattle.j39_node.proofs.SoundLemmas.FrameCase.{claims, acknowledges, replies, sends, packs, transfers}
use Rattle.j39_node.proofs.AnswerCases.{broadcast_accepts}
use Rattle.j39_node.proofs.KindLemmas.{replies_it, packs_it, Kind, kind_by, kind_is, claims_it, acknowledges_it, steers_it, of_session_it}

-- ---- of three frames one is neither a claim nor an acknowledgment

-- a claim or an acknowledgment goes behind fewer than two in a row, where another is due
pub few_turns : (w : Who) (H : List Call) (now : ℕ) (f : FrameRecord) → FrameCase w H now f → is_there (next_other w H now) ≡ true
    → (gives_way w H now ≡ false) ⊎ ((is_claim f || is_acknowledgment f) ≡ false) → (is_claim f || is_acknowledgment f) ≡ true → turns H < 2
few_turns w H now f e g i j = grind (arith, g, i, j)

-- a claim or an acknowledgment is taken where it doesn't give way
pub steers : (w : Who) (H : List Call) (now : ℕ) (f : FrameRecord) → AreAnswered w H → FrameCase w H now f
    → (gives_way w H now ≡ false) ⊎ ((is_claim f || is_acknowledgment f) ≡ false)
steers w H now f right (claims o e) = inl (not-true (gives_way w H now) (and_parts _ (not (gives_way w H now)) o).1)
steers w H now f right (acknowledges m o h g e way) = inl way
steers w H now f right case = inr (steers_it w H now f right case)

-- what such frames cost in time
abbrev pub turn_time : ℕ → ℕ → ℕ
turn_time g zero = 0
turn_time g (suc zero) = g
turn_time g (suc (suc t)) = g + g

pub turn_most : (g t : ℕ) → turn_time g t ≤ g + g
turn_most g t = grind arith

pub turn_more : (g t : ℕ) → t < 2 → turn_time g (suc t) ≡ turn_time g t + g
turn_more g t e = grind (arith, e)

pub turns_then : (H : List Call) (now : ℕ) (f : FrameRecord) (b : Bool) → (is_claim f || is_acknowledgment f) ≡ b
    → turns (At now (TakeFrame (Some f)) ∷ H) ≡ (if b then suc (turns H) else 0)
turns_then H now f b e = ap (λ (b : Bool). if b then suc (turns H) else 0) e

pub held_holds : (w : Who) (H : List Call) (now : ℕ) → is_held (address_after w H) ≡ true → holds w H now ≡ true
held_holds w H now e = held_older (step H now) (address_after w H) e

-- an overdue frame is due, and a message that waits
overdue_there : (w : Who) (H : List Call) (now : ℕ) → holds w H now ≡ true → is_overdue w H now ≡ true → is_there (next_other w H now) ≡ true
overdue_there w H now e f = grind (arith, e, f)

pub there_by : (w : Who) (H : List Call) (now : ℕ) → holds w H now ≡ true → (other w H now ≡ None → ⊥) → is_there (next_other w H now) ≡ true
there_by w H now e f = grind (arith, e, f)

message_there : (w : Who) (H : List Call) (now : ℕ) → holds w H now ≡ true → reached H < length (accepted w H) → is_there (next_other w H now) ≡ true
message_there w H now h l = there_by w H now h (λ e. some_at (accepted w H) (reached H) (lt-ltb _ _ l) (none_other w H now e).0.message)

-- ---- how long a frame of a broadcast waits

module _ (w : Who) (B : List Call) (g k c0 : ℕ) (m : MessageRecord) where
  abbrev slack : List Call → ℕ
  slack later = turn_time g (turns (later ++ B)) + since_take later B

  abbrev Casts : List Call → Type 0
  Casts = Stands w B since_take slack g 150000 (3 * g) 0 k c0 m

  abbrev Goes : List Call → Type 0
  Goes = Runs w B since_take slack g 150000 (3 * g) 0 k c0 m

  abbrev IsDone : List Call → Type 0
  IsDone = IsOver w B since_take slack g 150000 (3 * g) 0 k c0 m

  idle : (call : Call) (later : List Call) → takes call ≡ false → slack (call ∷ later) ≡ slack later + step (later ++ B) (moment (call ∷ later ++ B))
  idle call later e = grind (arith, e)

  -- a frame of none is taken
  beside : (now : ℕ) (f : FrameRecord) (later : List Call) → AreAnswered w (later ++ B) → IsAnswered w (later ++ B) (At now (TakeFrame (Some f)))
      → since_take later B + step (later ++ B) now ≤ g → is_packet f ≡ false → is_held (address_after w (later ++ B)) ≡ true → Casts later → Goes later
      → IsDone (At now (TakeFrame (Some f)) ∷ later) ⊎ Goes (At now (TakeFrame (Some f)) ∷ later)
  beside now f later right a p i e h t = elim (zero_or left) [
    | inl z ↦ by (nat_le (length (packets (later ++ B))) (packets_of m)) refl z
    | inr l ↦ inr (same _ (not_yet 150000 (3 * g) _ _ _ _ (step (later ++ B) now) (left - 0) (slack (At now (TakeFrame (Some f)) ∷ later)) (omega arith) (omega (arith, l)) t))
  ]
    where
      left : ℕ
      left = pause (later ++ B) - step (later ++ B) now

      same : (l : ℕ) → Timely 150000 (3 * g) (packets_taken later) (passed_in later B + step (later ++ B) now) (left - 0) l
          → Timely 150000 (3 * g) (packets_taken (At now (TakeFrame (Some f)) ∷ later)) (passed_in later B + step (later ++ B) now) (pause (At now (TakeFrame (Some f)) ∷ later ++ B) - 0) l
      same l t = timely_then 150000 (3 * g) 0 l later B now f false i t

      zero_or : (n : ℕ) → (n ≡ 0) ⊎ (0 < n)
      zero_or zero = inl refl
      zero_or (suc n) = inr (omega arith)

      case : FrameCase w (later ++ B) now f
      case = frame_case w (later ++ B) now f a

      steer : is_overdue w (later ++ B) now ≡ true → (b : Bool) → (is_claim f || is_acknowledgment f) ≡ b → b ≡ true
      steer o true q = refl
      steer o false q = absurd (not_both _ i (overdue_goes_by w (later ++ B) now f right case o (or_parts (is_claim f) (is_acknowledgment f) q).0 (or_parts (is_claim f) (is_acknowledgment f) q).1))

      by : (b : Bool) → nat_le (length (packets (later ++ B))) (packets_of m) ≡ b → left ≡ 0 → IsDone (At now (TakeFrame (Some f)) ∷ later) ⊎ Goes (At now (TakeFrame (Some f)) ∷ later)
      by false y z = inl (let l = leb-false _ _ y in let n = ap length (packets_is (later ++ B) now f false i) in omega (arith, l, n))
      by true y z =
          let late_is = ap (λ (o : Option (ℕ × MessageRecord)). is_left o (length (packets (later ++ B)))) h.broadcast in
          let o : is_overdue w (later ++ B) now ≡ true = and_from _ (nat_eq left 0) (late_is ∙ y) (eq-eqb left 0 z) in
          let s : (is_claim f || is_acknowledgment f) ≡ true = steer o (is_claim f || is_acknowledgment f) refl in
          let l = few_turns w (later ++ B) now f case (overdue_there w (later ++ B) now (held_holds w (later ++ B) now e) o) (steers w (later ++ B) now f right case) s in
          let u = ap (turn_time g) (turns_then (later ++ B) now f true s) in
          let v = turn_more g (turns (later ++ B)) l in
          let d = t.late in
          inr (same _ (record { soon = λ q. absurd (omega (arith, q, z)); late = omega (arith, d, u, v, p) }))

  pace : Pace w B since_take slack g 150000 (3 * g) 0 k c0 m
  pace = record {
    idle = idle;
    quick = λ later s p. (let a = turn_most g (turns (later ++ B)) in omega (arith, a, p));
    beside = beside;
    last = refl;
    within = omega arith;
  }

  casts : (later : List Call) → AreAnswered w (later ++ B) → NoneTold tells_broadcast later → IsSteady g later B → Casts [] → Casts later
  casts = stands w B since_take slack g 150000 (3 * g) 0 k c0 m pace

  first : is_held (address_after w B) ≡ true → open_broadcast w B ≡ Some (k, m) → length (packets B) ≡ c0 → Casts []
  first e o n = record {
    broadcast = o;
    count = omega (arith, n);
    course = runs e (begins_timely 150000 (3 * g) (pause B - 0) (slack []) (let y = pause_most B in omega (arith, y)));
  }

  -- as long as none of its frames is taken, it isn't long ago
  soon_enough : (call : Call) (later : List Call) → Casts later → packets_taken later ≡ 0 → is_left (Some (k, m)) c0 ≡ true → is_lost (address_after w (later ++ B)) ≡ false
      → since_take later B + step (later ++ B) (moment (call ∷ later ++ B)) ≤ g → passed_in (call ∷ later) B ≤ 150000 + 3 * g
  unfolding due_by
  soon_enough call later e f i j l = grind (arith, f, i, j, l)

-- the driver came in time
pub since_most : (g : ℕ) (later B : List Call) → IsSteady g later B → since_take later B ≤ g
since_most g [] B p = omega arith
since_most g (At now (TakeFrame answer) ∷ later) B p = omega arith
since_most g (call ∷ later) B p = p.1.0

pub apart : (w : Who) (later earlier : List Call) (call : Call) (c : Controller) (g now : ℕ) (f : FrameRecord)
    → Is w (call ∷ later ++ At now (TakeFrame (Some f)) ∷ earlier) c → IsTrue (is_packet f) → IsTrue (has_packets w (At now (TakeFrame (Some f)) ∷ earlier))
    → NoneTold tells_broadcast later → packets_taken later ≡ 0 → is_lost (address_after w (later ++ At now (TakeFrame (Some f)) ∷ earlier)) ≡ false
    → IsSteady g (call ∷ later) (At now (TakeFrame (Some f)) ∷ earlier) → passed_in (call ∷ later) (At now (TakeFrame (Some f)) ∷ earlier) ≤ 150000 + 3 * g
apart w later earlier call c g now f is i some none quiet kept steady =
    let B = At now (TakeFrame (Some f)) ∷ earlier in
    let right = answered_from w later B is.answered.0 in
    let p = packed_by w earlier now f right.0 i (frame_case w earlier now f right.1) in
    let count = length (packets B) in
    soon_enough w B g p.token count p.message call later
    (casts w B g p.token count p.message later is.answered.0 none steady.0 (first w B g p.token count p.message (held_then w earlier now f p i) p.current refl))
    quiet (sym (ap (λ (o : Option (ℕ × MessageRecord)). is_left o count) p.current) ∙ some) kept steady.1.0

pub ends : (w : Who) (later earlier : List Call) (c : Controller) (g now group k : ℕ) (bytes : List ℕ)
    → Is w (later ++ At now (Broadcast group bytes (Ok k)) ∷ earlier) c → NoneTold tells_broadcast later
    → IsSteady g later (At now (Broadcast group bytes (Ok k)) ∷ earlier)
    → (packets_of (broadcast_from w group bytes) + 1) * (150000 + 3 * g) < passed_in later (At now (Broadcast group bytes (Ok k)) ∷ earlier)
    → (e : Ending) × (next_broadcast_ended w (later ++ At now (Broadcast group bytes (Ok k)) ∷ earlier) ≡ Some (k, e))
ends w later earlier c g now group k bytes is none steady l =
    let B = At now (Broadcast group bytes (Ok k)) ∷ earlier in
    let m = broadcast_from w group bytes in
    ends_so w B since_take (slack w B g k 0 m) g 150000 (3 * g) 0 k 0 m (pace w B g k 0 m) later refl
    (casts w B g k 0 m later is.answered none steady (first w B g k 0 m (broadcast_accepts w earlier now group k bytes (answered_from w later B is.answered).1).0 refl refl))
    l (since_most g later B steady)

-- ---- how many frames of broadcasts are taken in a time

few_or : (b : Bool) (p q s n : ℕ) → 50000 * n ≤ q + (p - 100000) → (b ≡ true → p - s ≤ 100000)
    → 50000 * (if b then suc n else n) ≤ q + s + ((if b then 150000 else p - s) - 100000)
few_or b p q s n e f = grind (arith, e, f)

few_so : (w : Who) (later B : List Call) → AreAnswered w (later ++ B) → 50000 * packets_taken later ≤ passed_in later B + (pause (later ++ B) - 100000)
few_so w [] B right = omega arith
few_so w (At now (TakeFrame (Some f)) ∷ later) B right =
    few_or (is_packet f) (pause (later ++ B)) (passed_in later B) (step (later ++ B) now) (packets_taken later) (few_so w later B right.0)
    (λ i. (packed_by w (later ++ B) now f right.0 i (frame_case w (later ++ B) now f right.1)).over)
few_so w (At now (Broadcast group bytes (Ok k)) ∷ later) B right = let h = few_so w later B right.0 in omega (arith, h)
few_so w (call ∷ later) B right = let h = few_so w later B right.0 in omega (arith, h)

pub few : (w : Who) (later earlier : List Call) (c : Controller) → Is w (later ++ earlier) c → 50000 * packets_taken later ≤ passed_in later earlier + 50000
few w later earlier c is = let h = few_so w later earlier is.answered in let p = pause_most (later ++ earlier) in omega (arith, h, p)

-- ---- how long a message waits

abbrev pub one : Bool → ℕ
one true = 1
one false = 0

pub one_most : (y : Bool) → one y ≤ 1
one_most y = grind arith

-- so many were taken that are neither claims nor acknowledgments, of them so many messages and frames of broadcasts
record Counted (g singles casts others passed t waited : ℕ) (y : Bool) : Type 0 where
  pub few : others ≤ 2 * (singles + casts) + one y
  pub late : passed ≤ others * (3 * g) + turn_time g t + waited

pub most_others : (g n others : ℕ) → others ≤ 2 * n + 1 → others * (3 * g) + 3 * g ≤ (n + 1) * (6 * g)
most_others g n others l =
    let e : 2 * n + 2 ≡ suc others + (2 * n + 1 - others) = omega (arith, l) in
    let a = ap (λ (x : ℕ). x * (3 * g)) e in
    let b = add-mul (suc others) (2 * n + 1 - others) (3 * g) in
    let d = suc-mul others (3 * g) in
    let u : 2 * n + 2 ≡ (n + 1) + (n + 1) = omega arith in
    let v = ap (λ (x : ℕ). x * (3 * g)) u in
    let z = add-mul (n + 1) (n + 1) (3 * g) in
    let t = mul-add (n + 1) (3 * g) (3 * g) in
    let k = ap (λ (x : ℕ). (n + 1) * x) (let e : 3 * g + 3 * g ≡ 6 * g = omega arith in e) in
    omega (arith, a, b, d, v, z, t, k)

module _ (w : Who) (B : List Call) (g k : ℕ) where
  record Waits (later : List Call) : Type 0 where
    singles : ℕ
    others : ℕ
    behind : reached B + singles ≤ reached (later ++ B)
    counted : Counted g singles (packets_taken later) others (passed_in later B) (turns (later ++ B)) (since_take later B) (yields w (later ++ B))

  record Among (later : List Call) : Type 0 where
    pub among : k < length (accepted w (later ++ B))
    pub course : Fate (address_after w (later ++ B)) (k < reached (later ++ B)) (Waits later)

  takes_next : (now : ℕ) (f : FrameRecord) (later : List Call) → AreAnswered w (later ++ B) → FrameCase w (later ++ B) now f
      → since_take later B + step (later ++ B) now ≤ g → reached (later ++ B) < length (accepted w (later ++ B))
      → is_held (address_after w (later ++ B)) ≡ true → Waits later → Waits (At now (TakeFrame (Some f)) ∷ later)
  takes_next now f later right case p l held x = go case
    where
      H : List Call
      H = later ++ B

      -- what is counted then, by what kind it is
      counted : (c : FrameCase w H now f) (n o : ℕ) → reached B + n ≤ reached (At now (TakeFrame (Some f)) ∷ H)
          → o ≤ 2 * (n + (if (kind_by c).packet then suc (packets_taken later) else packets_taken later))
          + one (if (kind_by c).claim || (kind_by c).acknowledgment then yields w H else (kind_by c).reply)
          → passed_in later B + step H now ≤ o * (3 * g) + turn_time g (if (kind_by c).claim || (kind_by c).acknowledgment then suc (turns H) else 0)
          → Waits (At now (TakeFrame (Some f)) ∷ later)
      counted c n o a few late = record {
        singles = n;
        others = o;
        behind = a;
        counted = record {
          few = subst (λ (k : Kind). o ≤ 2 * (n + (if k.packet then suc (packets_taken later) else packets_taken later))
              + one (if k.claim || k.acknowledgment then yields w H else k.reply)) (sym (kind_is w H now f right c)) few;
          late = (let y = ap (λ (k : Kind). turn_time g (if k.claim || k.acknowledgment then suc (turns H) else 0)) (kind_is w H now f right c) in omega (arith, late, y));
        };
      }

      -- no fewer messages are passed
      no_fewer : reached B + x.singles ≤ reached (At now (TakeFrame (Some f)) ∷ H)
      no_fewer = let m = more_sent H (At now (TakeFrame (Some f))) in let c = x.behind in omega (arith, m, c)

      -- a claim or an acknowledgment
      steered : (c : FrameCase w H now f) → ((kind_by c).claim || (kind_by c).acknowledgment) ≡ true → passed_in later B + step H now ≤ x.others * (3 * g) + turn_time g (suc (turns H))
      steered c e =
          let t = few_turns w H now f case (message_there w H now (held_holds w H now held) l) (steers w H now f right case) (steers_it w H now f right c ∙ e) in
          let u = x.counted.late in let v = turn_more g (turns H) t in omega (arith, u, v, p)

      -- another
      goes : passed_in later B + step H now ≤ suc x.others * (3 * g) + 0
      goes = let a = x.counted.late in let b = turn_most g (turns H) in let d = suc-mul x.others (3 * g) in omega (arith, a, b, d, p)

      go : FrameCase w H now f → Waits (At now (TakeFrame (Some f)) ∷ later)
      go (claims o e) = counted (claims o e) x.singles x.others no_fewer x.counted.few (steered (claims o e) refl)
      go (acknowledges m o q i e way) = counted (acknowledges m o q i e way) x.singles x.others no_fewer x.counted.few (steered (acknowledges m o q i e way) refl)
      go (replies m o q i y e) =
          counted (replies m o q i y e) x.singles (suc x.others) no_fewer (let u = x.counted.few in let v = ap one (silent (turned w H now (Some Reply) i.1)) in omega (arith, u, v)) goes
        where
          silent : IsTurn (yields w H) (ready w H now) (Some Reply) → yields w H ≡ false
          silent e = grind arith
      go (sends z o q i y e) =
          let c : FrameCase w H now f = sends z o q i y e in
          let u = reached_is H now f false false false (claims_it w H now f right c) (acknowledges_it w H now f right c) (of_session_it w H now f right c) in
          counted (sends z o q i y e) (suc x.singles) (suc x.others) (let v = past_more (marks H) (suc (reached H)) in let b = x.behind in omega (arith, u, v, b))
          (let u = x.counted.few in let v = one_most (yields w H) in omega (arith, u, v)) goes
      go (packs m o q i y e) =
          counted (packs m o q i y e) x.singles (suc x.others) no_fewer (let u = x.counted.few in let v = one_most (yields w H) in omega (arith, u, v)) goes
      go (transfers m o q i y e) = absurd (not_both _ (turned w H now (Some Move) i.1).0.message (lt-ltb _ _ l))

  one_later : (call : Call) (later : List Call) → AreAnswered w (later ++ B) → IsAnswered w (later ++ B) call
      → (since_take later B + step (later ++ B) (moment (call ∷ later ++ B)) ≤ g) × (claims_anew call ≡ false) → Among later → Among (call ∷ later)
  one_later (At now (TakeFrame (Some f))) later right a p h = record {
    among = h.among;
    course = later_on w (later ++ B) (At now (TakeFrame (Some f))) refl (λ l. (let e = more_sent (later ++ B) (At now (TakeFrame (Some f))) in omega (arith, e, l)))
        (λ e z x. elim (cases_lt k (reached (later ++ B))) [
          | inl l ↦ inl (let y = more_sent (later ++ B) (At now (TakeFrame (Some f))) in omega (arith, l, y))
          | inr l ↦ inr (takes_next now f later right (frame_case w (later ++ B) now f a) p.0 (let y = h.among in omega (arith, l, y)) e x)
        ]) h.course;
  }
  one_later (At now (TakeFrame None)) later right a p h = record {
    among = h.among;
    course = later_on w (later ++ B) (At now (TakeFrame None)) refl (λ l. l)
        (λ e z x. inl (let l = past_end (accepted w (later ++ B)) (reached (later ++ B)) (none_next w (later ++ B) now (held_holds w (later ++ B) now e) a).rest.message in
        let b = h.among in omega (arith, l, b))) h.course;
  }
  one_later call later right a p h = record {
    among = (let m = accepts_more w (later ++ B) call in let b = h.among in omega (arith, m, b));
    course = later_on w (later ++ B) call p.1 (λ l. omega (arith, l, more))
        (λ e z x. inr (record {
          singles = x.singles;
          others = x.others;
          behind = (let b = x.behind in omega (arith, b, more));
          counted = record { few = x.counted.few; late = (let b = x.counted.late in omega (arith, b)) };
        })) h.course;
  }
    where
      more : reached (later ++ B) ≤ reached (call ∷ later ++ B)
      more = more_sent (later ++ B) call

  among : (later : List Call) → AreAnswered w (later ++ B) → IsSteady g later B → Among [] → Among later
  among [] a p h = h
  among (call ∷ later) a p h = one_later call later a.0 a.1 p.1 (among later a.0 p.0 h)

  goes_so : (later : List Call) → Among later → (k - reached B + packets_taken later + 1) * (6 * g) < passed_in later B → since_take later B ≤ g
      → (k < reached (later ++ B)) ⊎ (is_lost (address_after w (later ++ B)) ≡ true)
  goes_so later h l p = ended_or_lost h.course (λ x. elim (cases_lt k (reached (later ++ B))) [ inl z ↦ z | inr y ↦ late x y ])
    where
      late : Waits later → reached (later ++ B) ≤ k → k < reached (later ++ B)
      late x y =
          let c = x.behind in
          let f = x.counted.few in let o = one_most (yields w (later ++ B)) in
          let a = x.counted.late in let b = turn_most g (turns (later ++ B)) in
          let d = most_others g (k - reached B + packets_taken later) x.others (omega (arith, f, o, y, c)) in
          absurd (omega (arith, a, b, d, l, p))

module _ (w : Who) (later earlier : List Call) (c : Controller) (g k : ℕ) (is : Is w (later ++ earlier) c) (held : IsTrue (is_held (address_after w earlier)))
    (some : k < length (accepted w earlier)) (steady : IsSteady g later earlier)
    (l : (k - reached earlier + packets_taken later + 1) * (6 * g) < passed_in later earlier) where
  here : Among w earlier g k later
  here = among w earlier g k later is.answered steady (record {
    among = some;
    course = runs held (record { singles = 0; others = 0; behind = omega arith; counted = record { few = omega arith; late = omega arith } });
  })

  pub message_goes : (k < reached (later ++ earlier)) ⊎ IsTrue (is_lost (address_after w (later ++ earlier)))
  message_goes = goes_so w earlier g k later here l (since_most g later earlier steady)

  pub message_told : length (told (later ++ earlier)) ≤ k → (e : Ending) × (next_ended w (later ++ earlier) ≡ Some (length (told (later ++ earlier)), e))
  message_told t = told_next w (later ++ earlier) k is.answered here.among t message_goes

-- ---- how long a reply waits

-- one that waits is due
reply_there : (w : Who) (H : List Call) (now : ℕ) (m : Message) → holds w H now ≡ true → slice_get (all_replies w H) 0 ≡ Some m → is_there (next_other w H now) ≡ true
reply_there w H now m h first = there_by w H now h (λ e. (let z : Some m ≡ None = sym first ∙ (none_other w H now e).0.reply in absurd (cc)))

-- of what is due beside an overdue frame nothing goes before it but behind another
behind : (w : Who) (H : List Call) (now : ℕ) (m : Message) → slice_get (all_replies w H) 0 ≡ Some m → ((ready w H now).reply ≡ false) ⊎ (yields w H ≡ true) → yields w H ≡ true
behind w H now m first (inl e) = absurd (let z : Some m ≡ None = sym first ∙ none_at (all_replies w H) 0 e in cc)
behind w H now m first (inr e) = e

module _ (w : Who) (B : List Call) (g : ℕ) (m : Message) where
  -- so many frames that are neither claims nor acknowledgments went before it
  record Before (later : List Call) : Type 0 where
    pub others : ℕ
    pub few : others + one (yields w (later ++ B)) ≤ packets_taken later + 1
    pub late : passed_in later B ≤ others * (3 * g) + turn_time g (turns (later ++ B)) + since_take later B

  before : (now : ℕ) (f : FrameRecord) (later : List Call) → AreAnswered w (later ++ B) → FrameCase w (later ++ B) now f
      → since_take later B + step (later ++ B) now ≤ g → slice_get (all_replies w (later ++ B)) 0 ≡ Some m
      → is_reply (all_replies w (later ++ B)) f ≡ false → is_held (address_after w (later ++ B)) ≡ true → Before later
      → Before (At now (TakeFrame (Some f)) ∷ later)
  before now f later right case p first untaken held b = go case
    where
      H : List Call
      H = later ++ B

      packs_then : (c : Bool) → is_packet f ≡ c → packets_taken (At now (TakeFrame (Some f)) ∷ later) ≡ (if c then suc (packets_taken later) else packets_taken later)
      packs_then c e = ap (λ (d : Bool). if d then suc (packets_taken later) else packets_taken later) e

      yields_then : (c : Bool) → (is_claim f || is_acknowledgment f) ≡ c → yields w (At now (TakeFrame (Some f)) ∷ H) ≡ (if c then yields w H else false)
      yields_then c e = λ j. if e j then yields w H else untaken j

      -- a claim or an acknowledgment
      steer : (c : FrameCase w H now f) → ((kind_by c).claim || (kind_by c).acknowledgment) ≡ true → (kind_by c).packet ≡ false → Before (At now (TakeFrame (Some f)) ∷ later)
      steer c e k =
          let z = steers_it w H now f right c ∙ e in
          let t = few_turns w H now f case (reply_there w H now m (held_holds w H now held) first) (steers w H now f right case) z in
          record {
            others = b.others;
            few = (let a = b.few in let y = ap one (yields_then true z) in let d = packs_then false (packs_it w H now f right c ∙ k) in omega (arith, a, y, d));
            late = (let a = b.late in let y = ap (turn_time g) (turns_then H now f true z) in let d = turn_more g (turns H) t in omega (arith, a, y, d, p));
          }

      -- another, by how many frames of broadcasts were taken then
      goes_by : (c : FrameCase w H now f) → ((kind_by c).claim || (kind_by c).acknowledgment) ≡ false
          → b.others ≤ (if (kind_by c).packet then suc (packets_taken later) else packets_taken later) → Before (At now (TakeFrame (Some f)) ∷ later)
      goes_by c e l =
          let z = steers_it w H now f right c ∙ e in
          record {
            others = suc b.others;
            few = (let y = ap one (yields_then false z) in let i = packs_then _ (packs_it w H now f right c) in omega (arith, y, i, l));
            late = (let a = b.late in let y = ap (turn_time g) (turns_then H now f false z) in let d = turn_most g (turns H) in let k = suc-mul b.others (3 * g) in omega (arith, a, y, d, k, p));
          }

      few_then : yields w H ≡ true → b.others ≤ packets_taken later
      few_then y = let a = b.few in let c = ap one y in omega (arith, a, c)

      go : FrameCase w H now f → Before (At now (TakeFrame (Some f)) ∷ later)
      go (claims o e) = steer (claims o e) refl refl
      go (acknowledges x o q i e way) = steer (acknowledges x o q i e way) refl refl
      go (replies x o q i y e) = absurd (not_both _ untaken (replies_it w H now f right (replies x o q i y e)))
      go (sends x o q i y e) = goes_by (sends x o q i y e) refl (few_then (behind w H now m first (turned w H now (Some Single) i.1).2))
      go (packs x o q i y e) = goes_by (packs x o q i y e) refl (let a = b.few in omega (arith, a))
      go (transfers x o q i y e) = goes_by (transfers x o q i y e) refl (few_then (behind w H now m first (turned w H now (Some Move) i.1).2))

  abbrev Replying : List Call → Type 0
  Replying later = Fate (address_after w (later ++ B)) ⊥ (Before later)

  reply_later : (call : Call) (later : List Call) → AreAnswered w (later ++ B) → IsAnswered w (later ++ B) call
      → (since_take later B + step (later ++ B) (moment (call ∷ later ++ B)) ≤ g) × (claims_anew call ≡ false) → slice_get (all_replies w (later ++ B)) 0 ≡ Some m
      → takes_reply w (later ++ B) call ≡ false → Replying later → Replying (call ∷ later)
  reply_later (At now (TakeFrame (Some f))) later right a p first untaken h =
      later_on w (later ++ B) (At now (TakeFrame (Some f))) refl (λ x. x)
      (λ e z b. inr (before now f later right (frame_case w (later ++ B) now f a) p.0 first untaken e b)) h
  reply_later (At now (TakeFrame None)) later right a p first untaken h =
      later_on w (later ++ B) (At now (TakeFrame None)) refl (λ x. x)
      (λ e z b. absurd (let z : Some m ≡ None = sym first ∙ (none_next w (later ++ B) now (held_holds w (later ++ B) now e) a).rest.reply in cc)) h
  reply_later call later right a p first untaken h =
      later_on w (later ++ B) call p.1 (λ x. x) (λ e z b. inr (record { others = b.others; few = b.few; late = (let l = b.late in omega (arith, l)) })) h

  first_now : (later : List Call) → StaysFirst w m later B → slice_get (all_replies w (later ++ B)) 0 ≡ Some m
  first_now [] s = s
  first_now (call ∷ later) s = s.2

  replying : (later : List Call) → AreAnswered w (later ++ B) → IsSteady g later B → StaysFirst w m later B → Replying [] → Replying later
  replying [] a p s h = h
  replying (call ∷ later) a p s h = reply_later call later a.0 a.1 p.1 (first_now later s.0) s.1 (replying later a.0 p.0 s.0 h)

pub reply_goes : (w : Who) (later earlier : List Call) (c : Controller) (g : ℕ) (m : Message) → Is w (later ++ earlier) c → IsTrue (is_held (address_after w earlier))
    → StaysFirst w m later earlier → IsSteady g later earlier → is_lost (address_after w (later ++ earlier)) ≡ false → passed_in later earlier ≤ (packets_taken later + 2) * (3 * g)
reply_goes w later earlier c g m is held first steady there =
    go (replying w earlier g m later is.answered steady first (runs held (record { others = 0; few = (let y = one_most (yields w earlier) in omega (arith, y)); late = omega arith })))
  where
    go : Replying w earlier g m later → passed_in later earlier ≤ (packets_taken later + 2) * (3 * g)
    go (over x) = absurd x
    go (gone e) = absurd (not_both _ there e)
    go (runs e b) =
        let a = b.few in
        let d = times_more (b.others + 1) (packets_taken later + 2) (3 * g) (omega (arith, a)) in
        let k = suc-mul b.others (3 * g) in
        let u : (b.others + 1) * (3 * g) ≡ suc b.others * (3 * g) = ap (λ (n : ℕ). n * (3 * g)) (omega arith) in
        let l = b.late in
        let t = turn_most g (turns (later ++ earlier)) in
        let s = since_most g later earlier steady in
        omega (arith, d, k, u, l, t, s)

-- ---- who takes all that is due takes one frame at least

since_less : (later B : List Call) → since_take later B ≤ waited_in later B
since_less [] B = omega arith
since_less (call ∷ later) B = let h = since_less later B in grind (arith, h)

pub prompt_steady : (g : ℕ) (later earlier : List Call) → IsPrompt g later earlier → IsSteady g later earlier
prompt_steady g [] B p = tt
prompt_steady g (call ∷ later) B p = (prompt_steady g later B p.0, ((let a = since_less later B in let b = p.1.0 in omega (arith, a, b)), p.1.1))
