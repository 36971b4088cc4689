-- How long a transfer takes whose frames are sent in time.
use Rattle.j39_transfers.specs.Events.{after, AreApart, Begins, Event, Hears, Leaves, Loses, Moves, Sends, step, Tells}
use Rattle.j39_transfers.specs.declared.kinds.Refused.{Refused}
use Rattle.j39_transfers.proofs.LawLemmas.{answered, begun_split, each_apart, gone_others, Keeps, not_open, of_append, of_map, others_none, same_others, to_begun}
use Rattle.j39_transfers.proofs.TurnLemmas.{first_due}
use Rattle.j39_transfers.proofs.Common.{Bool, FrameRecord, IfSome, List, None, Ok, Option, Order, Result, Some, Transfer, TransfersRecord, [], and_parts, answer, ap, append-nil, arith, awake, begun, breaks, cases_lt, cond_both, eq-eqb, eqb-true, false, find, gives_up, has_some, hears_in, if◌then◌else◌, inl, inr, is_due, is_first, is_left, is_over, is_spent, leaves_in, length, listed, listens, lt-ltb, map, min, nat_eq, nat_lt, of, option_map, others, refl, sends_in, subst, suc, sym, tells, to, true, turn, ℕ, ◌&&◌, ◌*◌, ◌++◌, ◌+◌, ◌-◌, ◌<◌, ◌==◌, ◌||◌, ◌∙◌, ◌∷◌, ◌≡◌, ◌≢◌, ◌≤◌, ◌⊎◌}
use Rattle.std.proofs.Math.Nat.{mul-le-mul_right, one-mul, suc-mul}
use Rattle.std.specs.Prelude.{max}
use Rattle.j39_transport.specs.Message.{packets_of}
use Rattle.j39_transport.specs.Protocol.{timer_t3, timer_t4, timeout}
use Rattle.j39_transport.specs.SenderModel.{IsState}
use Rattle.j39_transport.specs.SenderNext.{granted_by}
use Rattle.j39_transport.specs.Sending.{aborted, acknowledged, cleared, Done, Failed, hears, Idle, is_running, is_waiting, may_name, new_sender, send_step, SenderRecord, Sending, SendResult, sends_packet, SendState, silent, Tick, ticks_in, Waiting, waits}
use Rattle.j39_transport.specs.Signals.{Abort, Acknowledgment, BroadcastAnnounce, ClearToSend, Packet, RequestToSend, said_between, Signal}
use Rattle.j39_transfers.specs.Course.{ArePrompt, begins, Course, due_by, due_from, hears as heard, IsInTime, IsPrompt, leaves, longest, loses, round, sends}
use Rattle.j39_transfers.specs.Transfers.{begun_if, can_move, ending_by, granted_after, is_ended, spent_after}
use Rattle.j39_transfers.specs.declared.kinds.Ending.{Ending}
use Rattle.j39_transfers.specs.declared.kinds.Ending.TheVariants as how
use Rattle.j39_transfers.proofs.StepLemmas.{keeps_broken, keeps_heard, keeps_left, keeps_sent, not_ended}

-- ---- what a sender makes of what it hears, and up to which packet it is cleared

pub data Hearing (s : SenderRecord) (now : ℕ) : SenderRecord → Option ℕ → Type 0 where
  same : Hearing s now s None
  over : (st : SendState) → is_ended st ≡ true → Hearing s now (record s { state = st }) None
  holds : is_waiting s.state ≡ true → Hearing s now (waits timer_t4 now s) (Some 0)
  clears_to : (p q : ℕ) → is_waiting s.state ≡ true → 1 ≤ p → p ≤ q → q ≤ packets_of s.message → p ≤ s.highest + 1
      → Hearing s now (record s { state = Sending p q }) (Some q)

hearing_clear : (s : SenderRecord) (now count next pgn : ℕ) → Hearing s now (hears (Some (ClearToSend count next pgn)) now s) (granted_by s (Some (ClearToSend count next pgn)))
unfolding hears cleared
hearing_clear s now count next pgn = go (is_waiting s.state) (pgn == s.message.pgn) (nat_eq count 0) (may_name s next) refl refl refl
  where
    go : (w e z m : Bool) → is_waiting s.state ≡ w → nat_eq count 0 ≡ z → may_name s next ≡ m
        → Hearing s now (if e then (if w then (if z then waits timer_t4 now s else if m then record s { state = Sending next (min (next + count - 1) (packets_of s.message)) } else s) else s) else s)
        (if w && e then (if z then Some 0 else if m then Some (min (next + count - 1) (packets_of s.message)) else None) else None)
    go false false z m i j k = same
    go false true z m i j k = same
    go true false z m i j k = same
    go true true true m i j k = holds i
    go true true false true i j k = clears_to next (min (next + count - 1) (packets_of s.message)) i (grind (arith, j, k)) (grind (arith, j, k)) (grind (arith, j, k)) (grind (arith, j, k))
    go true true false false i j k = same

pub hearing : (s : SenderRecord) (now : ℕ) (o : Option Signal) → Hearing s now (hears o now s) (granted_by s o)
unfolding hears acknowledged aborted
hearing s now None = same
hearing s now (Some (BroadcastAnnounce size packets pgn)) = same
hearing s now (Some (RequestToSend size packets most pgn)) = same
hearing s now (Some (ClearToSend count next pgn)) = hearing_clear s now count next pgn
hearing s now (Some (Acknowledgment size packets pgn)) = go (pgn == s.message.pgn) (is_waiting s.state && size == length s.message.bytes && packets == packets_of s.message && s.highest == packets_of s.message)
  where
    go : (e t : Bool) → Hearing s now (if e then (if t then record s { state = Done } else s) else s) None
    go true true = over Done refl
    go true false = same
    go false t = same
hearing s now (Some (Abort reason pgn)) = go (pgn == s.message.pgn) (is_running s.state)
  where
    go : (e t : Bool) → Hearing s now (if e then (if t then record s { state = Failed reason } else s) else s) None
    go true true = over (Failed reason) refl
    go true false = same
    go false t = same
hearing s now (Some (Packet number part)) = same

-- ---- products

round_less : (c d k : ℕ) → d + 1 ≤ c → d * k + k ≤ c * k
round_less c d k l =
    let e = suc-mul d k in
    let z : suc d ≤ c = omega (arith, l) in
    let m = mul-le-mul_right k z in
    omega (arith, e, m)

packets_less : (p q n g : ℕ) → 1 ≤ p → p ≤ q → q ≤ n → (q + 1 - p) * g ≤ n * g
packets_less p q n g a b c = let z : q + 1 - p ≤ n = omega (arith, a, b, c) in mul-le-mul_right g z

one_more : (p q g : ℕ) → p < q → (q + 1 - p) * g ≡ (q + 1 - (p + 1)) * g + g
one_more p q g l = let z : q + 1 - p ≡ suc (q + 1 - (p + 1)) = omega (arith, l) in ap (λ m. m * g) z ∙ suc-mul (q + 1 - (p + 1)) g

last_one : (p g : ℕ) → (p + 1 - p) * g ≡ g
last_one p g = let z : p + 1 - p ≡ 1 = omega arith in ap (λ m. m * g) z ∙ one-mul g

-- behind a wait, where a round less is left
waited : (now since limit g n c d b more : ℕ) → now ≤ since + limit + g → since + limit + g + c * round g n ≤ b → d + 1 ≤ c → more ≤ n * g + timer_t3
    → now + more + g + d * round g n ≤ b
waited now since limit g n c d b more t h l m =
    let r = round_less c d (round g n) l in
    let e = suc-mul n g in
    let k : round g n ≡ timer_t3 + (n * g + g) = ap (λ j. timer_t3 + j * g) (let z : n + 1 ≡ suc n = omega arith in z) ∙ ap (λ j. timer_t3 + j) e in
    omega (arith, t, h, r, k, m)

-- ---- how long it takes yet, with so much for further rounds

abbrev left : ℕ → ℕ → ℕ → ℕ
left n granted spent = (n - granted) + (65 - spent)

abbrev ends_in : ℕ → ℕ → SendState → ℕ → ℕ → ℕ
ends_in g more Idle since last = last + g + timer_t3 + g + more
ends_in g more (Waiting limit) since last = since + limit + g + more
ends_in g more (Sending next granted) since last = last + (granted + 1 - next) * g + timer_t3 + g + more
ends_in g more Done since last = 0
ends_in g more (Failed reason) since last = 0

abbrev IsFresh : SendState → ℕ → Type 0
IsFresh Idle spent = spent ≡ 0
IsFresh (Waiting limit) spent = Unit {0}
IsFresh (Sending next granted) spent = Unit {0}
IsFresh Done spent = Unit {0}
IsFresh (Failed reason) spent = Unit {0}

record InCourse (g start : ℕ) (x : Transfer) : Type 0 where
  state : IsState (packets_of x.sender.message) x.sender.state
  granted : x.granted ≤ packets_of x.sender.message
  spent : x.spent ≤ 65
  fresh : IsFresh x.sender.state x.spent
  ends : is_over x ≡ false → x.spent ≤ 64 → ends_in g (left (packets_of x.sender.message) x.granted x.spent * round g (packets_of x.sender.message)) x.sender.state x.sender.since x.last
      ≤ start + longest g (packets_of x.sender.message)
  gives : is_over x ≡ false → 65 ≤ x.spent → x.last + g ≤ start + longest g (packets_of x.sender.message)

begins_course : (g start own : ℕ) (o : Order) (name : Option ℕ) → InCourse g start (begun own o name start)
unfolding new_sender
begins_course g start own o name =
    let n = packets_of (record { source = own; pgn = o.group; bytes = o.bytes }) in
    let z : left n 0 0 ≡ n + 65 = omega arith in
    let e = ap (λ c. c * round g n) z in
    record {
      state = tt;
      granted = omega arith;
      spent = omega arith;
      fresh = refl;
      ends = λ i l. omega (arith, e);
      gives = λ i l. absurd (omega (arith, l));
    }

-- ---- it is over

ended_over : (st : SendState) (b : Option Ending) → is_ended st ≡ true → has_some (ending_by st b) ≡ false → ⊥
ended_over st b e i = grind (arith, e, i)

ended_state : (n : ℕ) (st : SendState) → is_ended st ≡ true → IsState n st
ended_state n st e = grind (arith, e)

ended_fresh : (st : SendState) (spent : ℕ) → is_ended st ≡ true → IsFresh st spent
ended_fresh st spent e = grind (arith, e)

broken_over : (st : SendState) (e : Ending) → has_some (ending_by st (Some e)) ≡ false → ⊥
broken_over st e i = grind (arith, i)

waiting_is : (st : SendState) → is_waiting st ≡ true → (limit : ℕ) × (st ≡ Waiting limit)
waiting_is Idle e = absurd (cc)
waiting_is (Waiting limit) e = (limit, refl)
waiting_is (Sending p q) e = absurd (cc)
waiting_is Done e = absurd (cc)
waiting_is (Failed reason) e = absurd (cc)

ended_course : (g start : ℕ) (x : Transfer) (st : SendState) (now : ℕ) → is_ended st ≡ true → InCourse g start x
    → InCourse g start (record x { sender = record x.sender { state = st }; last = now })
ended_course g start x st now e h = record {
  state = ended_state (packets_of x.sender.message) st e;
  granted = h.granted;
  spent = h.spent;
  fresh = ended_fresh st x.spent e;
  ends = λ i l. absurd (ended_over st x.broken e i);
  gives = λ i l. absurd (ended_over st x.broken e i);
}

-- ---- it hears a frame

-- how a clear to send counts: it grants more, or one more is spent
counted : (q granted spent n : ℕ) → q ≤ n → granted ≤ n → spent ≤ 64
    → (spent_after (Some q) granted spent ≤ 65) × (left n (max granted q) (spent_after (Some q) granted spent) + 1 ≤ left n granted spent)
counted q granted spent n a b c = go (cases_lt granted q)
  where
    go : (granted < q) ⊎ (q ≤ granted) → (spent_after (Some q) granted spent ≤ 65) × (left n (max granted q) (spent_after (Some q) granted spent) + 1 ≤ left n granted spent)
    go (inl l) = let e : spent_after (Some q) granted spent ≡ spent = ap (λ (b : Bool). if b then spent else spent + 1) (lt-ltb granted q l) in (omega (arith, e, c), omega (arith, e, c, l, a, b))
    go (inr l) =
        let e : spent_after (Some q) granted spent ≡ spent + 1 = ap (λ (b : Bool). if b then spent else spent + 1) (let f : nat_lt granted q ≡ false = grind (arith, l) in f) in
        (omega (arith, e, c), omega (arith, e, c, l, a, b))

module _ (g start : ℕ) (x : Transfer) (now : ℕ) (h : InCourse g start x) (o : is_over x ≡ false) (s : is_spent x ≡ false) (t : now ≤ due_by x + g) where
  abbrev made : SenderRecord → Option ℕ → Transfer
  made r q = record x {
    sender = r;
    granted = granted_after q x.granted;
    spent = spent_after q x.granted x.spent;
    last = if has_some q || is_ended r.state then now else x.last;
  }

  abbrev n : ℕ
  n = packets_of x.sender.message

  not_spent : x.spent ≤ 64
  not_spent = grind (arith, s)

  -- it waited, so long
  in_wait : (limit : ℕ) → x.sender.state ≡ Waiting limit → now ≤ x.sender.since + limit + g
  in_wait limit e =
      let d : due_by x ≡ x.sender.since + limit =
      ap (λ (b : Bool). if b && is_running x.sender.state then x.last else due_from x.sender.state x.sender.since x.last) s ∙ ap (λ (st : SendState). due_from st x.sender.since x.last) e in
      omega (arith, t, d)

  ends_wait : (limit : ℕ) → x.sender.state ≡ Waiting limit → x.sender.since + limit + g + left n x.granted x.spent * round g n ≤ start + longest g n
  ends_wait limit e = subst (λ (st : SendState). ends_in g (left n x.granted x.spent * round g n) st x.sender.since x.last ≤ start + longest g n) e (h.ends o not_spent)

  heard_made : (r : SenderRecord) (q : Option ℕ) → Hearing x.sender now r q → InCourse g start (made r q)
  heard_made r q same =
      let e = not_ended x.sender.state x.broken o in
      subst (InCourse g start) (λ i. (let y : Transfer = record x { last = if sym e i then now else x.last } in y)) h
  heard_made r q (over st e) =
      subst (InCourse g start) (λ i. (let y : Transfer = record x { sender = record x.sender { state = st }; last = if sym e i then now else x.last } in y)) (ended_course g start x st now e h)
  heard_made r q (holds w) =
      let limit = waiting_is x.sender.state w in
      let c = counted 0 x.granted x.spent n (omega arith) h.granted not_spent in
      let k = h.granted in
      let f = waited now x.sender.since limit.0 g n (left n x.granted x.spent) (left n (max x.granted 0) (spent_after (Some 0) x.granted x.spent)) (start + longest g n) in
      record {
        state = omega arith;
        granted = omega (arith, k);
        spent = c.0;
        fresh = tt;
        ends = λ i l. f timer_t4 (in_wait limit.0 limit.1) (ends_wait limit.0 limit.1) c.1 (omega arith);
        gives = λ i l. (let m = f 0 (in_wait limit.0 limit.1) (ends_wait limit.0 limit.1) c.1 (omega arith) in omega (arith, m));
      }
  heard_made r q (clears_to p e w a b d highest) =
      let limit = waiting_is x.sender.state w in
      let c = counted e x.granted x.spent n d h.granted not_spent in
      let k = h.granted in
      let z = packets_less p e n g a b d in
      let f = waited now x.sender.since limit.0 g n (left n x.granted x.spent) (left n (max x.granted e) (spent_after (Some e) x.granted x.spent)) (start + longest g n) in
      record {
        state = (a, b, d);
        granted = omega (arith, k, d);
        spent = c.0;
        fresh = tt;
        ends = λ i l. (let m = f ((e + 1 - p) * g + timer_t3) (in_wait limit.0 limit.1) (ends_wait limit.0 limit.1) c.1 (omega (arith, z)) in omega (arith, m));
        gives = λ i l. (let m = f 0 (in_wait limit.0 limit.1) (ends_wait limit.0 limit.1) c.1 (omega arith) in omega (arith, m));
      }

hears_course : (g start : ℕ) (x : Transfer) (f : FrameRecord) (now : ℕ) → InCourse g start x → IsInTime g now x → InCourse g start (hears_in f now x)
unfolding send_step
hears_course g start x f now h t = go (is_over x) refl (is_spent x) refl
  where
    go : (a : Bool) → is_over x ≡ a → (b : Bool) → is_spent x ≡ b → InCourse g start (if a || b then x else listens f now x)
    go true e b i = h
    go false e true i = h
    go false e false i =
        let a = said_between x.sender.destination x.sender.message.source f in
        heard_made g start x now h e i (t e) (hears a now x.sender) (granted_by x.sender a) (hearing x.sender now a)

-- ---- it sends a frame

due_open : (now : ℕ) (x : Transfer) → is_due now x ≡ true → is_over x ≡ false
unfolding send_step ticks_in sends_packet
due_open now x e = grind (arith, e)

gave_up : (s : SenderRecord) → is_running s.state ≡ true → aborted 5 s ≡ record s { state = Failed 5 }
unfolding aborted
gave_up s e = ap (λ (b : Bool). if b then (let r : SenderRecord = record s { state = Failed 5 } in r) else s) e

due_says : (now : ℕ) (x : Transfer) → is_due now x ≡ true → gives_up x ≡ false → has_some (ticks_in x.sender.state now x.sender).says ≡ true
unfolding send_step
due_says now x d e = go (has_some x.broken) (gives_up x) e d
  where
    go : (a b : Bool) → b ≡ false
        → has_some (let r : Option Signal = if a then None else if b then Some (Abort 5 x.sender.message.pgn) else (ticks_in x.sender.state now x.sender).says in r) ≡ true
        → has_some (ticks_in x.sender.state now x.sender).says ≡ true
    go true b e d = absurd (cc)
    go false true e d = absurd (cc)
    go false false e d = d

late : (limit now : ℕ) (s : SenderRecord) → has_some (ticks_in (Waiting limit) now s).says ≡ true → (ticks_in (Waiting limit) now s).after ≡ record s { state = Failed timeout }
unfolding ticks_in
late limit now s e = go (nat_lt (s.since + limit) now) e
  where
    go : (b : Bool) → has_some (let r : SendResult = if b then record { after = record s { state = Failed timeout }; says = Some (Abort timeout s.message.pgn) } else silent s in r).says ≡ true
        → (let r : SendResult = if b then record { after = record s { state = Failed timeout }; says = Some (Abort timeout s.message.pgn) } else silent s in r).after
        ≡ record s { state = Failed timeout }
    go true e = refl
    go false e = absurd (cc)

module _ (g start : ℕ) (x : Transfer) (now : ℕ) (h : InCourse g start x) (t : IsInTime g now x) (d : is_due now x ≡ true) (u : gives_up x ≡ false) where
  abbrev m : ℕ
  m = packets_of x.sender.message

  abbrev more : ℕ
  more = left m x.granted x.spent * round g m

  running_fresh : is_running x.sender.state ≡ true → x.spent ≤ 64
  running_fresh r = grind (arith, u, r)

  soon : now ≤ due_from x.sender.state x.sender.since x.last + g
  soon = subst (λ (b : Bool). now ≤ (if b then x.last else due_from x.sender.state x.sender.since x.last) + g) u (t (due_open now x d))

  bound : (st : SendState) → x.sender.state ≡ st → x.spent ≤ 64 → ends_in g more st x.sender.since x.last ≤ start + longest g m
  bound st e l = subst (λ (st : SendState). ends_in g more st x.sender.since x.last ≤ start + longest g m) e (h.ends (due_open now x d) l)

  sends_packet_course : (p q : ℕ) → x.sender.state ≡ Sending p q → InCourse g start (record x { sender = (sends_packet p q now x.sender).after; last = now })
  unfolding sends_packet
  sends_packet_course p q e =
      let l = running_fresh (ap is_running e) in
      let s = subst (IsState m) e h.state in
      let k = bound (Sending p q) e l in
      let i = subst (λ (st : SendState). now ≤ due_from st x.sender.since x.last + g) e soon in
      go (p == q) refl l s k i
    where
      go : (b : Bool) → (p == q) ≡ b → x.spent ≤ 64 → (1 ≤ p) × (p ≤ q) × (q ≤ m) → x.last + (q + 1 - p) * g + timer_t3 + g + more ≤ start + longest g m → now ≤ x.last + g
          → InCourse g start (record x {
            sender = record {
              message = x.sender.message;
              destination = x.sender.destination;
              state = if b then Waiting timer_t3 else Sending (p + 1) q;
              since = if b then now else x.sender.since;
              highest = max x.sender.highest p;
            };
            last = now;
          })
      go true e l s k i =
          let z = eqb-true p q e in
          let w = ap (λ (j : ℕ). (j + 1 - p) * g) (sym z) ∙ last_one p g in
          record {
            state = omega arith;
            granted = h.granted;
            spent = h.spent;
            fresh = tt;
            ends = λ a b. omega (arith, k, i, w);
            gives = λ a b. absurd (omega (arith, l, b));
          }
      go false e l s k i =
          let s0 = s.0 in
          let s1 = s.1 in
          let s2 = s.2 in
          let z : p < q = grind (arith, e, s1) in
          let w = one_more p q g z in
          record {
            state = (omega arith, omega (arith, z), s2);
            granted = h.granted;
            spent = h.spent;
            fresh = tt;
            ends = λ a b. omega (arith, k, i, w);
            gives = λ a b. absurd (omega (arith, l, b));
          }

  ticked_course : (st : SendState) → x.sender.state ≡ st → has_some (ticks_in st now x.sender).says ≡ true → InCourse g start (record x { sender = (ticks_in st now x.sender).after; last = now })
  unfolding ticks_in
  ticked_course Idle e says =
      let f : x.spent ≡ 0 = subst (λ (st : SendState). IsFresh st x.spent) e h.fresh in
      let k = bound Idle e (omega (arith, f)) in
      let i = subst (λ (st : SendState). now ≤ due_from st x.sender.since x.last + g) e soon in
      record {
        state = omega arith;
        granted = h.granted;
        spent = h.spent;
        fresh = tt;
        ends = λ a b. omega (arith, k, i);
        gives = λ a b. absurd (omega (arith, f, b));
      }
  ticked_course (Waiting limit) e says =
      subst (InCourse g start) (λ i. (let y : Transfer = record x { sender = sym (late limit now x.sender says) i; last = now } in y)) (ended_course g start x (Failed timeout) now refl h)
  ticked_course (Sending p q) e says = sends_packet_course p q e
  ticked_course Done e says = absurd (cc)
  ticked_course (Failed reason) e says = absurd (cc)

sends_course : (g start : ℕ) (x : Transfer) (now : ℕ) → InCourse g start x → IsInTime g now x → is_due now x ≡ true → InCourse g start (sends_in now x)
unfolding send_step
sends_course g start x now h t d = go (gives_up x) refl
  where
    go : (b : Bool) → gives_up x ≡ b → InCourse g start (record x { sender = if b then aborted 5 x.sender else (send_step x.sender Tick now).after; last = now })
    go true e =
        let r = gave_up x.sender (and_parts (is_spent x) (is_running x.sender.state) e).1 in
        subst (InCourse g start) (λ i. (let y : Transfer = record x { sender = sym r i; last = now } in y)) (ended_course g start x (Failed 5) now refl h)
    go false e = ticked_course g start x now h t d e x.sender.state refl (due_says now x d e)

-- ---- it is broken off

breaks_course : (g start : ℕ) (x : Transfer) (how : Ending) (now : ℕ) → InCourse g start x → InCourse g start (breaks how now x)
breaks_course g start x how now h = cond_both (is_over x) x (record x { broken = Some how; last = now }) (InCourse g start) (λ e. h) (λ e. record {
  state = h.state;
  granted = h.granted;
  spent = h.spent;
  fresh = h.fresh;
  ends = λ i l. absurd (broken_over x.sender.state how i);
  gives = λ i l. absurd (broken_over x.sender.state how i);
})

leaves_course : (g start : ℕ) (x : Transfer) (gone : Option ℕ) (holder : ℕ → Option ℕ) (now : ℕ) → InCourse g start x → InCourse g start (leaves_in gone holder now x)
leaves_course g start x gone holder now h =
    cond_both (is_left gone holder x) (breaks how.Gone now x) (record x { name = holder (to x) }) (InCourse g start) (λ e. breaks_course g start x how.Gone now h) (λ e. record {
      state = h.state;
      granted = h.granted;
      spent = h.spent;
      fresh = h.fresh;
      ends = h.ends;
      gives = h.gives;
    })

in_course : (g start : ℕ) (x : Transfer) → Course g start x → InCourse g start x
in_course g start x (begins own o name) = begins_course g start own o name
in_course g start x (heard y f now c t) = hears_course g start y f now (in_course g start y c) t
in_course g start x (sends y now c t d) = sends_course g start y now (in_course g start y c) t d
in_course g start x (leaves y gone holder now c) = leaves_course g start y gone holder now (in_course g start y c)
in_course g start x (loses y now c) = breaks_course g start y how.Withdrawn now (in_course g start y c)

spent_last : (st : SendState) (since last : ℕ) → (if true && is_running st then last else due_from st since last) ≡ last
spent_last st since last = grind arith

due_ends : (g more : ℕ) (st : SendState) (since last : ℕ) → is_ended st ≡ false → due_from st since last + g ≤ ends_in g more st since last
due_ends g more st since last e = grind (arith, e)

pub ends_soon : (g start : ℕ) (x : Transfer) → Course g start x → is_over x ≡ false → due_by x + g ≤ start + longest g (packets_of x.sender.message)
ends_soon g start x c o = go (is_spent x) refl
  where
    go : (b : Bool) → is_spent x ≡ b → due_by x + g ≤ start + longest g (packets_of x.sender.message)
    go true e =
        let l : 65 ≤ x.spent = grind (arith, e) in
        let d : due_by x ≡ x.last = ap (λ (b : Bool). if b && is_running x.sender.state then x.last else due_from x.sender.state x.sender.since x.last) e ∙ spent_last x.sender.state x.sender.since x.last in
        let k = (in_course g start x c).gives o l in
        omega (arith, d, k)
    go false e =
        let l : x.spent ≤ 64 = grind (arith, e) in
        let d : due_by x ≡ due_from x.sender.state x.sender.since x.last =
        ap (λ (b : Bool). if b && is_running x.sender.state then x.last else due_from x.sender.state x.sender.since x.last) e in
        let k = (in_course g start x c).ends o l in
        let q = due_ends g (left (packets_of x.sender.message) x.granted x.spent * round g (packets_of x.sender.message)) x.sender.state x.sender.since x.last (not_ended x.sender.state x.broken o) in
        omega (arith, d, k, q)

-- ---- over all that transfers went through

found_is : (p : Transfer → Bool) (xs : List Transfer) (y : Transfer) → AreApart xs → find p xs ≡ Some y → of (to y) xs ≡ Some y
found_is p [] y h e = absurd (cc)
found_is p (x ∷ xs) y h e = go (p x) refl e (found_is p xs y h.1)
  where
    go : (b : Bool) → p x ≡ b → (if b then Some x else find p xs) ≡ Some y → (find p xs ≡ Some y → of (to y) xs ≡ Some y) → of (to y) (x ∷ xs) ≡ Some y
    go true i e k =
        let z : x ≡ y = cc in
        ap (λ (b : Bool). if b then Some x else of (to y) xs) (eq-eqb (to y) (to x) (ap to (sym z))) ∙ e
    go false i e k =
        let m = k e in
        let n = h.0 in
        grind (arith, m, n)

some_stays : (a : ℕ) (xs ys : List Transfer) (x : Transfer) → of a xs ≡ Some x → of a (xs ++ ys) ≡ Some x
some_stays a [] ys x e = absurd (cc)
some_stays a (z ∷ xs) ys x e = let h = some_stays a xs ys x in grind (arith, h, e)

-- the transfer to an address is on this course
abbrev OnCourse : ℕ → ℕ → ℕ → TransfersRecord → Type 0
OnCourse g start a s = (x : Transfer) × (of a s.running ≡ Some x) × Course g start x

module _ (g start a : ℕ) where
  course_mapped : (f : Transfer → Transfer) → Keeps f → (s : TransfersRecord) (x : Transfer) → of a s.running ≡ Some x → Course g start (f x) → OnCourse g start a (record s { running = map f s.running })
  course_mapped f keeps s x e c = (f x, of_map f keeps a s.running ∙ ap (option_map f) e, c)

  course_sent : (now : ℕ) (s : TransfersRecord) (x : Transfer) → AreApart s.running → of a s.running ≡ Some x → Course g start x → IsInTime g now x → OnCourse g start a (step (Sends now) s)
  course_sent now s x h e c t = go (turn now s.running) refl
    where
      p : Transfer → Bool
      p = is_first now s.running

      mine : (y : Transfer) → turn now s.running ≡ Some y → to y ≡ a → y ≡ x
      mine y i z = some_is (sym (found_is (is_first now s.running) s.running y h i) ∙ (ap (λ (n : ℕ). of n s.running) z ∙ e))
        where
          some_is : Some y ≡ Some x → y ≡ x
          some_is q = cc

      go : (o : Option Transfer) → turn now s.running ≡ o → OnCourse g start a (record s { running = others (is_first now s.running) s.running ++ listed (option_map (sends_in now) o) })
      go None i = (x, ap (of a) (append-nil (others (is_first now s.running) s.running) ∙ others_none (is_first now s.running) s.running i) ∙ e, c)
      go (Some y) i = at (nat_eq (to y) a) refl
        where
          at : (b : Bool) → nat_eq (to y) a ≡ b → OnCourse g start a (record s { running = others (is_first now s.running) s.running ++ listed (option_map (sends_in now) (Some y)) })
          at true z =
              let q = eqb-true (to y) a z in
              let w = mine y i q in (
                sends_in now y,
                of_append a (others (is_first now s.running) s.running) (sends_in now y ∷ []) (ap (λ (n : ℕ). of n (others (is_first now s.running) s.running)) (sym q) ∙ gone_others (is_first now s.running) s.running y h i)
                    ∙ ap (λ (b : Bool). if b then Some (sends_in now y) else None) (eq-eqb a (to (sends_in now y)) (sym ((keeps_sent now y).0 ∙ q))),
                subst (λ (v : Transfer). Course g start (sends_in now v)) (sym w) (sends x now c t (ap (is_due now) (sym w) ∙ first_due now s.running y i)),
              )
          at false z =
              let n : to y ≢ a = λ q. (let r = sym z ∙ eq-eqb (to y) a q in absurd (cc)) in
              (x, some_stays a (others (is_first now s.running) s.running) (sends_in now y ∷ []) x (same_others (is_first now s.running) a s.running y i n ∙ e), c)

  course_step : (event : Event) (s : TransfersRecord) → AreApart s.running → IsPrompt g a event s → OnCourse g start a s → OnCourse g start a (step event s)
  course_step (Begins o name now) s h t k =
      begun_split (OnCourse g start a) o name now s k (λ e r. (k.0, some_stays a s.running (begun s.own o name now ∷ []) k.0 k.1, k.2))
  course_step (Hears f now) s h t k =
      course_mapped (hears_in f now) (keeps_heard f now) s k.0 k.1 (heard k.0 f now k.2 (subst (λ (o : Option Transfer). IfSome o (IsInTime g now)) k.1 t))
  course_step (Sends now) s h t k = course_sent now s k.0 h k.1 k.2 (subst (λ (o : Option Transfer). IfSome o (IsInTime g now)) k.1 t)
  course_step Tells s h t k = go (find is_over s.running) refl t
    where
      go : (o : Option Transfer) → find is_over s.running ≡ o → option_map to o ≢ Some a → OnCourse g start a (tells s)
      go None i n = (k.0, ap (of a) (others_none is_over s.running i) ∙ k.1, k.2)
      go (Some y) i n = (k.0, same_others is_over a s.running y i (λ z. n (ap Some z)) ∙ k.1, k.2)
  course_step (Leaves gone holder now) s h t k = course_mapped (leaves_in gone holder now) (keeps_left gone holder now) s k.0 k.1 (leaves k.0 gone holder now k.2)
  course_step (Loses now) s h t k = course_mapped (breaks how.Withdrawn now) (keeps_broken how.Withdrawn now) s k.0 k.1 (loses k.0 now k.2)
  course_step (Moves own) s h t k = cond_both (can_move own s) (record s { own = own }) s (OnCourse g start a) (λ e. k) (λ e. k)

  course_all : (own boxes : ℕ) (later E : List Event) → ArePrompt own boxes g a later E → OnCourse g start a (after own boxes E) → OnCourse g start a (after own boxes (later ++ E))
  course_all own boxes [] E t k = k
  course_all own boxes (event ∷ later) E t k = course_step event (after own boxes (later ++ E)) (each_apart own boxes (later ++ E)) t.0 (course_all own boxes later E t.1 k)

pub on_course : (own boxes g start : ℕ) (o : Order) (name : Option ℕ) (u : Unit {0}) (later E : List Event) → answer o (awake start (after own boxes E)) ≡ Ok u
    → ArePrompt own boxes g o.to later (Begins o name start ∷ E)
    → (x : Transfer) × (of o.to (after own boxes (later ++ Begins o name start ∷ E)).running ≡ Some x) × Course g start x
on_course own boxes g start o name u later E e t =
    let s = after own boxes E in
    let x = begun s.own o name start in
    let n = not_open o.to s.running (answered o (awake start s) u e).0 in
    course_all g start o.to own boxes later (Begins o name start ∷ E) t (
      x,
      ap (λ (r : Result Unit Refused). of o.to (begun_if r x (awake start s)).running) e
          ∙ (of_append o.to s.running (x ∷ []) n
          ∙ ap (λ (b : Bool). if b then Some x else None) (eq-eqb o.to (to x) (sym (to_begun s.own o name start)))),
      begins s.own o name,
    )
