-- A driver's pace: what was accepted goes on, is over, or its address is lost. Broadcasts first.
use Rattle.j39_node.proofs.Common.{[], Address, address_after, Again, after, answer_to_broadcast, ap, AreAnswered, arith, At, Bool, Broadcast, broadcast_end, broadcast_from, Call, claimed, claims_anew, cond_both, Controller, Done, Ending, ending_of, false, frame_of, FrameRecord, gap, goes, Hear, if◌then◌else◌, inl, inr, Is, is_claim, is_held, is_lost, is_packet, IsAnswered, IsPaced, IsPrompt, later, leb-false, leb-true, length, List, lost, ltb-false, Message, message_of, MessageRecord, moment, more, nat_le, nat_lt, next_broadcast_ended, None, NoneTold, not_both, Ok, older, open_broadcast, Option, packet_by, packets, packets_of, packets_taken, passed, passed_in, pause, refl, Some, step, subst, suc, suc-mul, sym, TakeBroadcastEnded, TakeFrame, tells_broadcast, true, waited_in, Who, Withdrawn, ℕ, ◌&&◌, ◌*◌, ◌++◌, ◌+◌, ◌-◌, ◌<◌, ◌∙◌, ◌∷◌, ◌≡◌, ◌≤◌, ◌⊎◌}
use Rattle.j39_node.proofs.QueueLemmas.{length_one_more}
use Rattle.j39_node.proofs.SoundLemmas.{stays_lost, none_next, held_older, address_cases}
use Rattle.j39_node.proofs.AnswerCases.{broadcast_accepts}

-- ---- an address that was held is held or lost, and one that was lost is lost

held_claimed : (a : Address) → is_held a ≡ true → is_held (claimed a) ≡ true
held_claimed a e = grind (arith, e)

pub keeps : (w : Who) (H : List Call) (call : Call) → claims_anew call ≡ false → is_held (address_after w H) ≡ true
    → (is_lost (address_after w (call ∷ H)) ≡ true) ⊎ (is_held (address_after w (call ∷ H)) ≡ true)
keeps w H call n e =
    let a = older (step H (moment (call ∷ H))) (address_after w H) in
    let h = held_older (step H (moment (call ∷ H))) (address_after w H) e in
    address_cases w H call (λ a. (is_lost a ≡ true) ⊎ (is_held a ≡ true)) (inr h) (inl refl) (inr (held_claimed a h)) (λ z. absurd (not_both _ n z))

-- by a frame that is heard it is held, unless it is lost
pub held_unless : (w : Who) (H : List Call) (call : Call) → claims_anew call ≡ false → is_held (address_after w H) ≡ true → is_lost (address_after w (call ∷ H)) ≡ false
    → is_held (address_after w (call ∷ H)) ≡ true
held_unless w H call n e l = elim (keeps w H call n e) [ inl z ↦ absurd (not_both _ l z) | inr z ↦ z ]

-- and no other call loses it
abbrev pub hears_one : Call → Bool
hears_one (At now (Hear f)) = true
hears_one call = false

pub keeps_held : (w : Who) (H : List Call) (call : Call) → claims_anew call ≡ false → hears_one call ≡ false → is_held (address_after w H) ≡ true
    → is_held (address_after w (call ∷ H)) ≡ true
keeps_held w H (At now (Hear f)) n x e = absurd (let z : true ≡ false = x in cc)
keeps_held w H (At now (TakeFrame (Some f))) n x e =
    let h = held_older (step H now) (address_after w H) e in cond_both (is_claim f) _ _ (λ (a : Address). is_held a ≡ true) (λ z. held_claimed (older (step H now) (address_after w H)) h) (λ z. h)
keeps_held w H (At now Again) n x e = absurd (let z : true ≡ false = n in cc)
keeps_held w H (At now act) n x e = held_older (step H now) (address_after w H) e
keeps_held w H call n x e = e

-- it is over, its address is lost, or it goes on from an address that is held
pub data Fate (a : Address) (Over Runs : Type 0) : Type 0 where
  over : Over → Fate a Over Runs
  gone : is_lost a ≡ true → Fate a Over Runs
  runs : is_held a ≡ true → Runs → Fate a Over Runs

-- a call later
pub later_on : {Over Runs Ends Goes : Type 0} (w : Who) (H : List Call) (call : Call) → claims_anew call ≡ false → (Over → Ends)
    → (is_held (address_after w H) ≡ true → is_held (address_after w (call ∷ H)) ≡ true → Runs → Ends ⊎ Goes)
    → Fate (address_after w H) Over Runs → Fate (address_after w (call ∷ H)) Ends Goes
later_on w H call n more goes (over x) = over (more x)
later_on w H call n more goes (gone e) = gone (stays_lost w H call e)
later_on {Over} {Runs} {Ends} {Goes} w H call n more goes (runs e r) = by (keeps w H call n e)
  where
    held : is_held (address_after w (call ∷ H)) ≡ true → Ends ⊎ Goes → Fate (address_after w (call ∷ H)) Ends Goes
    held z (inl x) = over x
    held z (inr x) = runs z x

    by : (is_lost (address_after w (call ∷ H)) ≡ true) ⊎ (is_held (address_after w (call ∷ H)) ≡ true) → Fate (address_after w (call ∷ H)) Ends Goes
    by (inl z) = gone z
    by (inr z) = held z (goes e z r)

-- what is over, or whose address is lost, unless it goes on
pub ended_or_lost : {a : Address} {Over Runs : Type 0} → Fate a Over Runs → (Runs → Over) → Over ⊎ (is_lost a ≡ true)
ended_or_lost (over x) h = inl x
ended_or_lost (gone e) h = inr e
ended_or_lost (runs e r) h = inl (h r)

-- a frame is taken, or none
abbrev pub takes : Call → Bool
takes (At now (TakeFrame answer)) = true
takes call = false

pub answered_from : (w : Who) (later B : List Call) → AreAnswered w (later ++ B) → AreAnswered w B
answered_from w [] B a = a
answered_from w (call ∷ later) B a = answered_from w later B a.0

-- ---- when the next frame of a broadcast is taken at the latest

-- after c of its frames the time of the next is over so long after the beginning at most
unfoldable pub due_by : ℕ → ℕ → ℕ → ℕ
due_by most each c = most + c * (most + each)

due_more : (most each c : ℕ) → due_by most each (suc c) ≡ due_by most each c + (most + each)
unfolding due_by
due_more most each c = let e = suc-mul c (most + each) in omega (arith, e)

due_last : (most each c n : ℕ) → c ≤ n → due_by most each c + each ≤ (n + 1) * (most + each)
unfolding due_by
due_last most each c n e = grind (arith, e)

-- so long after the beginning, with so much of its time left, and so late at most
pub record Timely (most each count passed left slack : ℕ) : Type 0 where
  pub soon : 0 < left → passed + left ≤ due_by most each count
  pub late : passed ≤ due_by most each count + slack

pub begins_timely : (most each left slack : ℕ) → left ≤ most → Timely most each 0 0 left slack
unfolding due_by
begins_timely most each left slack l = record { soon = λ z. omega (arith, l); late = omega arith }

passes : (most each count passed left slack s rest : ℕ) → rest ≡ left - s → Timely most each count passed left slack → Timely most each count (passed + s) rest (slack + s)
passes most each count passed left slack s rest e h = record {
  soon = λ z. (let a = h.soon (omega (arith, e, z)) in omega (arith, a, e, z));
  late = (let a = h.late in omega (arith, a));
}

pub not_yet : (most each count passed left slack s rest after : ℕ) → rest ≡ left - s → 0 < rest → Timely most each count passed left slack
    → Timely most each count (passed + s) rest after
not_yet most each count passed left slack s rest after e l h =
    let a = h.soon (omega (arith, e, l)) in record { soon = λ z. omega (arith, a, e, l); late = omega (arith, a, e, l) }

packs_one : (most each count passed left slack s rest after : ℕ) → rest ≡ most → slack + s ≤ each → Timely most each count passed left slack
    → Timely most each (suc count) (passed + s) rest after
packs_one most each count passed left slack s rest after z p h =
    let a = h.late in let e = due_more most each count in record { soon = λ y. omega (arith, a, e, p, z); late = omega (arith, a, e, p) }

-- behind a frame that is one of a broadcast, or isn't
pub timely_then : (most each spare l : ℕ) (later B : List Call) (now : ℕ) (f : FrameRecord) (b : Bool) → is_packet f ≡ b
    → Timely most each (if b then suc (packets_taken later) else packets_taken later) (passed_in later B + step (later ++ B) now)
    ((if b then 150000 else pause (later ++ B) - step (later ++ B) now) - spare) l
    → Timely most each (packets_taken (At now (TakeFrame (Some f)) ∷ later)) (passed_in later B + step (later ++ B) now) (pause (At now (TakeFrame (Some f)) ∷ later ++ B) - spare) l
timely_then most each spare l later B now f b i t =
    subst (λ (c : Bool). Timely most each (if c then suc (packets_taken later) else packets_taken later) (passed_in later B + step (later ++ B) now)
    ((if c then 150000 else pause (later ++ B) - step (later ++ B) now) - spare) l) (sym i) t

-- ---- the course of a broadcast, of which c0 frames were taken before

pub no_packet : (k : ℕ) (m : MessageRecord) (i left : ℕ) → packet_by (Some (k, m)) i left ≡ None → (packets_of m < i) ⊎ (0 < left - 100000)
no_packet k m i left e = go (nat_le left 100000) (nat_le i (packets_of m)) refl refl e
  where
    go : (a b : Bool) → nat_le left 100000 ≡ a → nat_le i (packets_of m) ≡ b → (if a && b then Some (frame_of m i) else None) ≡ None
        → (packets_of m < i) ⊎ (0 < left - 100000)
    go true true x z y = absurd (cc)
    go true false x z y = inl (leb-false _ _ z)
    go false b x z y = inr (let l = leb-false left 100000 x in omega (arith, l))

-- then its end would be told
ends_by : (k : ℕ) (m : MessageRecord) (i : ℕ) (b lost : Bool) → nat_lt (packets_of m) i ≡ b → (packets_of m < i) ⊎ (lost ≡ true) → (e : Ending) × (ending_of b lost k ≡ Some (k, e))
ends_by k m i true lost z h = (Done, refl)
ends_by k m i false true z h = (Withdrawn, refl)
ends_by k m i false false z (inl l) = absurd (let x = ltb-false _ _ z in omega (arith, x, l))
ends_by k m i false false z (inr l) = absurd (let y : false ≡ true = l in cc)

-- its frames are late by the slack of the driver's pace; of the gap behind each so much counts as spare
module _ (w : Who) (B : List Call) (since : List Call → List Call → ℕ) (slack : List Call → ℕ) (g most each spare k c0 : ℕ) (m : MessageRecord) where
  abbrev pub IsOver : List Call → Type 0
  IsOver later = packets_of m < length (packets (later ++ B))

  abbrev pub Runs : List Call → Type 0
  Runs later = Timely most each (packets_taken later) (passed_in later B) (pause (later ++ B) - spare) (slack later)

  pub record Stands (later : List Call) : Type 0 where
    pub broadcast : open_broadcast w (later ++ B) ≡ Some (k, m)
    pub count : length (packets (later ++ B)) ≡ c0 + packets_taken later
    pub course : Fate (address_after w (later ++ B)) (IsOver later) (Runs later)

  pub record Pace : Type 0 where
    pub idle : (call : Call) (later : List Call) → takes call ≡ false → slack (call ∷ later) ≡ slack later + step (later ++ B) (moment (call ∷ later ++ B))
    pub quick : (later : List Call) (s : ℕ) → since later B + s ≤ g → slack later + s ≤ each
    pub beside : (now : ℕ) (f : FrameRecord) (later : List Call) → AreAnswered w (later ++ B) → IsAnswered w (later ++ B) (At now (TakeFrame (Some f)))
        → since later B + step (later ++ B) now ≤ g → is_packet f ≡ false → is_held (address_after w (later ++ B)) ≡ true → Stands later → Runs later
        → IsOver (At now (TakeFrame (Some f)) ∷ later) ⊎ Runs (At now (TakeFrame (Some f)) ∷ later)
    pub last : 150000 - spare ≡ most
    pub within : spare ≤ 100000

  takes_one : Pace → (now : ℕ) (f : FrameRecord) (later : List Call) → AreAnswered w (later ++ B) → IsAnswered w (later ++ B) (At now (TakeFrame (Some f)))
      → since later B + step (later ++ B) now ≤ g → Stands later → Stands (At now (TakeFrame (Some f)) ∷ later)
  takes_one x now f later right a p h = record {
    broadcast = h.broadcast;
    count = counts (is_packet f);
    course = later_on w (later ++ B) (At now (TakeFrame (Some f))) refl
        (λ l. cond_both (is_packet f) (packets (later ++ B) ++ message_of f ∷ []) (packets (later ++ B)) (λ (L : List Message). packets_of m < length L) (λ z. omega (arith, l, one_more)) (λ z. l))
        (λ e z t. takes (is_packet f) refl e t) h.course;
  }
    where
      one_more : length (packets (later ++ B) ++ message_of f ∷ []) ≡ suc (length (packets (later ++ B)))
      one_more = length_one_more (packets (later ++ B)) (message_of f)

      counts : (b : Bool) → length (if b then packets (later ++ B) ++ message_of f ∷ [] else packets (later ++ B)) ≡ c0 + (if b then suc (packets_taken later) else packets_taken later)
      counts true = let c = h.count in omega (arith, c, one_more)
      counts false = h.count

      takes : (b : Bool) → is_packet f ≡ b → is_held (address_after w (later ++ B)) ≡ true → Runs later
          → IsOver (At now (TakeFrame (Some f)) ∷ later) ⊎ Runs (At now (TakeFrame (Some f)) ∷ later)
      takes true i e t = inr (timely_then most each spare _ later B now f true i (packs_one most each _ _ _ _ (step (later ++ B) now) _ _ x.last (x.quick later (step (later ++ B) now) p) t))
      takes false i e t = x.beside now f later right a p i e h t

  -- no other is accepted
  none_begins : (later : List Call) (now group j : ℕ) (bytes : List ℕ) → open_broadcast w (later ++ B) ≡ Some (k, m) → Ok j ≡ answer_to_broadcast w (later ++ B) now group bytes → ⊥
  none_begins later now group j bytes e f = grind (arith, e, f)

  one_more : Pace → (call : Call) (later : List Call) → AreAnswered w (later ++ B) → IsAnswered w (later ++ B) call → tells_broadcast call ≡ false
      → (since later B + step (later ++ B) (moment (call ∷ later ++ B)) ≤ g) × (claims_anew call ≡ false) → Stands later → Stands (call ∷ later)
  one_more x (At now (TakeFrame (Some f))) later right a n p h = takes_one x now f later right a p.0 h
  one_more x (At now (TakeFrame None)) later right a n p h = record {
    broadcast = h.broadcast;
    count = h.count;
    course = later_on w (later ++ B) (At now (TakeFrame None)) refl (λ l. l)
        (λ e z t. elim (no_packet k m (length (packets (later ++ B))) (pause (later ++ B) - step (later ++ B) now)
        (ap (λ (o : Option (ℕ × MessageRecord)). packet_by o (length (packets (later ++ B))) (pause (later ++ B) - step (later ++ B) now)) (sym h.broadcast)
        ∙ (none_next w (later ++ B) now (held_older (step (later ++ B) now) (address_after w (later ++ B)) e) a).rest.packet)) [
          | inl y ↦ inl y
          | inr y ↦ inr (not_yet most each (packets_taken later) (passed_in later B) (pause (later ++ B) - spare) (slack later) (step (later ++ B) now)
              (pause (later ++ B) - step (later ++ B) now - spare) (slack (At now (TakeFrame None) ∷ later)) (omega arith) (let q = x.within in omega (arith, y, q)) t)
        ]) h.course;
  }
  one_more x (At now (Broadcast group bytes (Ok j))) later right a n p h = absurd (none_begins later now group j bytes h.broadcast a)
  one_more x (TakeBroadcastEnded (Some y)) later right a n p h = absurd (let z : true ≡ false = n in cc)
  one_more x call later right a n p h = record {
    broadcast = h.broadcast;
    count = h.count;
    course = later_on w (later ++ B) call p.1 (λ l. l)
        (λ e z t. inr (subst (λ (n : ℕ). Timely most each (packets_taken later) (passed_in (call ∷ later) B) (pause (call ∷ later ++ B) - spare) n) (sym (x.idle call later refl))
        (passes most each _ _ _ _ (step (later ++ B) (moment (call ∷ later ++ B))) _ (omega arith) t))) h.course;
  }

  pub stands : Pace → (later : List Call) → AreAnswered w (later ++ B) → NoneTold tells_broadcast later → IsPaced since g later B → Stands [] → Stands later
  stands x [] a n p h = h
  stands x (call ∷ later) a n p h = one_more x call later a.0 a.1 n.0 p.1 (stands x later a.0 n.1 p.0 h)

  pub ends_so : Pace → (later : List Call) → c0 ≡ 0 → Stands later → (packets_of m + 1) * (most + each) < passed_in later B → since later B ≤ g
      → (e : Ending) × (next_broadcast_ended w (later ++ B) ≡ Some (k, e))
  ends_so x later z h l p =
      let y = ends_by k m (length (packets (later ++ B))) (nat_lt (packets_of m) (length (packets (later ++ B)))) (is_lost (address_after w (later ++ B))) refl
      (ended_or_lost h.course (λ t. by (nat_le (packets_taken later) (packets_of m)) refl t)) in
      (y.0, ap (λ (o : Option (ℕ × MessageRecord)). broadcast_end o (length (packets (later ++ B))) (is_lost (address_after w (later ++ B)))) h.broadcast ∙ y.1)
    where
      by : (b : Bool) → nat_le (packets_taken later) (packets_of m) ≡ b → Runs later → IsOver later
      by true y t =
          let d = due_last most each (packets_taken later) (packets_of m) (leb-true _ _ y) in
          let q = x.quick later 0 (omega (arith, p)) in
          let a = t.late in absurd (omega (arith, a, d, l, q))
      by false y t = (let b = leb-false _ _ y in let a = h.count in omega (arith, a, b, z))

-- never is more left than this
pub pause_most : (H : List Call) → pause H ≤ 150000
pause_most [] = omega arith
pause_most (call ∷ H) = let h = pause_most H in grind (arith, h)

-- ---- to a driver that takes all

-- the last call came in time
pub waited_last : (g : ℕ) (later B : List Call) → IsPrompt g later B → waited_in later B ≤ g
waited_last g [] B p = omega arith
waited_last g (At now (TakeFrame None) ∷ later) B p = omega arith
waited_last g (call ∷ later) B p = p.1.0

pub waited_more : (call : Call) (later B : List Call) → takes call ≡ false → waited_in (call ∷ later) B ≡ waited_in later B + step (later ++ B) (moment (call ∷ later ++ B))
waited_more call later B e = grind (arith, e)

module _ (w : Who) (B : List Call) (g k : ℕ) (m : MessageRecord) where
  prompt : Pace w B waited_in (λ later. waited_in later B) g gap g 100000 k 0 m
  prompt = record {
    idle = λ call later e. waited_more call later B e;
    quick = λ later s p. p;
    beside = λ now f later right a p i e h t. inr (timely_then gap g 100000 _ later B now f false i (passes gap g _ _ _ _ (step (later ++ B) now) _ (omega arith) t));
    last = refl;
    within = omega arith;
  }

pub broadcast_ends : (w : Who) (later earlier : List Call) (c : Controller) (g now group k : ℕ) (bytes : List ℕ)
    → Is w (later ++ At now (Broadcast group bytes (Ok k)) ∷ earlier) c → NoneTold tells_broadcast later
    → IsPrompt g later (At now (Broadcast group bytes (Ok k)) ∷ earlier)
    → (packets_of (broadcast_from w group bytes) + 1) * (gap + g) < passed_in later (At now (Broadcast group bytes (Ok k)) ∷ earlier)
    → (e : Ending) × (next_broadcast_ended w (later ++ At now (Broadcast group bytes (Ok k)) ∷ earlier) ≡ Some (k, e))
broadcast_ends w later earlier c g now group k bytes is none paced l =
    let B = At now (Broadcast group bytes (Ok k)) ∷ earlier in
    let m = broadcast_from w group bytes in
    let x = prompt w B g k m in
    ends_so w B waited_in (λ later. waited_in later B) g gap g 100000 k 0 m x later refl
    (stands w B waited_in (λ later. waited_in later B) g gap g 100000 k 0 m x later is.answered none paced
    (record {
      broadcast = refl;
      count = refl;
      course = runs (broadcast_accepts w earlier now group k bytes (answered_from w later B is.answered).1).0 (begins_timely gap g (pause B - 100000) 0 (let y = pause_most B in omega (arith, y)));
    }))
    l (waited_last g later B paced)
