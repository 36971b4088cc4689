-- How long a transfer waits, step by step of its sender.
use Rattle.j39_node.proofs.Common.{Abort, Bool, Failed, Idle, None, Option, SendResult, SendState, SenderRecord, Sending, Signal, Some, Waiting, age, ap, arith, cond_both, false, granted_after, if◌then◌else◌, inl, inr, is_idle, is_running, is_waiting, ltb-false, nat_lt, not, other, refl, says, sends_packet, spent_after, subst, suc, suc-mul, sym, ticks_in, timeout, timer_t3, timer_t4, true, waits, ℕ, ◌&&◌, ◌*◌, ◌+◌, ◌<◌, ◌==◌, ◌||◌, ◌∙◌, ◌≡◌, ◌≤◌, ◌⊎◌, mul-le-mul_right, not_both}
use Rattle.j39_node.proofs.MoveSteps.{HeardCase}
use Rattle.j39_node.proofs.MoveSteps.HeardCase.{same, done, fails, holds, clears}

abbrev pub IsEnded : SenderRecord → Type 0
IsEnded s = (is_idle s.state || is_running s.state) ≡ false

pub times_more : (n k x : ℕ) → n ≤ k → n * x ≤ k * x
times_more n k x l = mul-le-mul_right x l

-- ---- how old it is at most

-- by its state: where it has taken so many clears at least, is so old, waited so long to be taken before, and so long since a take found
-- nothing of it
abbrev pub InTime : ℕ → ℕ → ℕ → ℕ → ℕ → SendState → Type 0
InTime n age base waited since Idle = age ≤ base + waited
InTime n age base waited since (Waiting limit) = (since + limit ≤ suc n * timer_t3 + base) × (age ≤ since + limit + waited)
InTime n age base waited since (Sending next last) = age ≤ n * timer_t3 + base + waited
InTime n age base waited since other = Unit {0}

-- a frame of it is due
abbrev pub IsDue : ℕ → ℕ → ℕ → SendState → Type 0
IsDue spent age since (Waiting limit) = (since + limit < age) ⊎ (nat_lt 64 spent ≡ true)
IsDue spent age since other = Unit {0}

-- so many clears, and with the one that it waits for, unless it gives up
abbrev pub rank : ℕ → Bool → Bool → ℕ
rank n waits spent = if waits && not spent then suc n else n

abbrev pub rank_of : ℕ → ℕ → SenderRecord → ℕ
rank_of granted spent s = rank (granted + spent) (is_waiting s.state) (nat_lt 64 spent)

rank_least : (n : ℕ) (a b : Bool) → (n ≤ rank n a b) × (rank n a b ≤ suc n)
rank_least n a b = (grind arith, grind arith)

pub record Late (granted spent age base waited streak : ℕ) (s : SenderRecord) : Type 0 where
  pub phase : nat_lt 64 spent ≡ false → InTime (granted + spent) age base waited s.since s.state
  pub gives_up : nat_lt 64 spent ≡ true → age ≤ (granted + spent) * timer_t3 + base + waited
  pub due : 0 < streak → IsDue spent age s.since s.state

phase_passes : (n age base waited since t : ℕ) (u : SendState) → InTime n age base waited since u → InTime n (age + t) base (waited + t) since u
phase_passes n age base waited since t Idle h = omega (arith, h)
phase_passes n age base waited since t (Waiting limit) h = (h.0, (let a = h.1 in omega (arith, a)))
phase_passes n age base waited since t (Sending next last) h = omega (arith, h)
phase_passes n age base waited since t other h = tt

due_passes : (spent age since t : ℕ) (u : SendState) → IsDue spent age since u → IsDue spent (age + t) since u
due_passes spent age since t (Waiting limit) (inl a) = inl (omega (arith, a))
due_passes spent age since t (Waiting limit) (inr a) = inr a
due_passes spent age since t other h = tt

pub passes : (granted spent age base waited streak t : ℕ) (s : SenderRecord) → Late granted spent age base waited streak s
    → Late granted spent (age + t) base (waited + t) streak s
passes granted spent age base waited streak t s h = record {
  phase = λ z. phase_passes (granted + spent) age base waited s.since t s.state (h.phase z);
  gives_up = λ z. (let a = h.gives_up z in omega (arith, a));
  due = λ z. due_passes spent age s.since t s.state (h.due z);
}

-- never older than this, and never of a higher rank
pub most : (granted spent age base waited streak k : ℕ) (s : SenderRecord) → Late granted spent age base waited streak s
    → (is_idle s.state || is_running s.state) ≡ true → granted ≤ k → spent ≤ 65 → (age ≤ (k + 65) * timer_t3 + base + waited) × (rank_of granted spent s ≤ k + 65)
most granted spent age base waited streak k s e f g i = (grind (arith, f, g, i), grind (arith, f, g, i))

-- ---- what is heard

-- a clear more
pub counts : (granted spent last : ℕ) → suc (granted + spent) ≤ granted_after (Some last) granted + spent_after (Some last) granted spent
counts granted spent last = grind arith

-- what became of it: its rank is higher where what it waited is counted with its clears
pub data Listened (granted spent age base waited streak more : ℕ) (s r : SenderRecord) (granted_then spent_then : ℕ) : Type 0 where
  over : IsEnded r → Listened granted spent age base waited streak more s r granted_then spent_then
  kept : rank_of granted spent s ≤ rank_of granted_then spent_then r → Late granted_then spent_then (age + more) base (waited + more) streak r
      → Listened granted spent age base waited streak more s r granted_then spent_then
  held : suc (rank_of granted spent s) ≤ rank_of granted_then spent_then r → Late granted_then spent_then (age + more) (base + (waited + more)) 0 0 r
      → Listened granted spent age base waited streak more s r granted_then spent_then

cleared_by : (granted spent age base waited streak t last limit : ℕ) (s : SenderRecord) → s.state ≡ Waiting limit → nat_lt 64 spent ≡ false
    → Late granted spent age base waited streak s
    → age + t ≤ (granted_after (Some last) granted + spent_after (Some last) granted spent) * timer_t3 + base + (waited + t)
cleared_by granted spent age base waited streak t last limit s e f g = grind (arith, e, f)

pub heard_late : (granted spent age base waited streak t : ℕ) (s : SenderRecord) (a : Option Signal) (r : SenderRecord) (o : Option ℕ) → HeardCase s a (age + t) o r → nat_lt 64 spent ≡ false
    → Late granted spent age base waited streak s → Listened granted spent age base waited streak t s r (granted_after o granted) (spent_after o granted spent)
heard_late granted spent age base waited streak t s a r o same few h = kept (omega arith) (passes granted spent age base waited streak t s h)
heard_late granted spent age base waited streak t s a r o (done w x) few h = over refl
heard_late granted spent age base waited streak t s a r o (fails reason w i) few h = over refl
heard_late granted spent age base waited streak t s a r o (holds limit i) few h = go (nat_lt 64 s2) refl
  where
    g2 : ℕ
    g2 = granted_after (Some 0) granted

    s2 : ℕ
    s2 = spent_after (Some 0) granted spent

    c : age + t ≤ (g2 + s2) * timer_t3 + base + (waited + t)
    c = cleared_by granted spent age base waited streak t 0 limit s i few h

    more : rank_of granted spent s ≤ g2 + s2
    more = let x = (rank_least (granted + spent) (is_waiting s.state) (nat_lt 64 spent)).1 in let y = counts granted spent 0 in omega (arith, x, y)

    go : (v : Bool) → nat_lt 64 s2 ≡ v → Listened granted spent age base waited streak t s (waits timer_t4 (age + t) s) g2 s2
    go true e = kept (let y = (rank_least (g2 + s2) true (nat_lt 64 s2)).0 in omega (arith, more, y))
        (record { phase = λ z. absurd (not_both _ z e); gives_up = λ z. c; due = λ z. inr e })
    go false e = held (let y = ap (λ (b : Bool). rank (g2 + s2) true b) e in omega (arith, more, y))
        (record { phase = λ z. (let m = suc-mul (g2 + s2) timer_t3 in (omega (arith, c, m), omega arith)); gives_up = λ z. omega (arith, c); due = λ z. absurd (omega (arith, z)) })
heard_late granted spent age base waited streak t s a r o (clears limit next last i n) few h =
    let c = cleared_by granted spent age base waited streak t last limit s i few h in
    kept (let x = (rank_least (granted + spent) (is_waiting s.state) (nat_lt 64 spent)).1 in let y = counts granted spent last in
    let z = (rank_least (granted_after (Some last) granted + spent_after (Some last) granted spent) false (nat_lt 64 (spent_after (Some last) granted spent))).0 in omega (arith, x, y, z))
    (record { phase = λ z. c; gives_up = λ z. c; due = λ z. tt })

-- ---- what is taken

pub ticked_late : (granted spent age base waited streak t : ℕ) (s : SenderRecord) → Late granted spent age base waited streak s
    → Listened granted spent age base waited 0 t s (ticks_in s.state (age + t) s).after granted spent
unfolding ticks_in sends_packet
ticked_late granted spent age base waited streak t s h = go s.state refl
  where
    spent_so : nat_lt 64 spent ≡ true → age + t ≤ (granted + spent) * timer_t3 + base + (waited + t)
    spent_so z = let a = h.gives_up z in omega (arith, a)

    -- it waits from now on
    waits_now : (r : SenderRecord) → is_waiting s.state ≡ false → r.state ≡ Waiting timer_t3 → r.since ≡ age + t
        → (nat_lt 64 spent ≡ false → age ≤ (granted + spent) * timer_t3 + base + waited) → Listened granted spent age base waited 0 t s r granted spent
    waits_now r w e f q = by (nat_lt 64 spent) refl
      where
        old : rank_of granted spent s ≡ granted + spent
        old = ap (λ (b : Bool). rank (granted + spent) b (nat_lt 64 spent)) w

        by : (b : Bool) → nat_lt 64 spent ≡ b → Listened granted spent age base waited 0 t s r granted spent
        by true z = kept (let y = (rank_least (granted + spent) (is_waiting r.state) (nat_lt 64 spent)).0 in omega (arith, old, y))
            (record { phase = λ v. absurd (not_both _ v z); gives_up = spent_so; due = λ v. absurd (omega (arith, v)) })
        by false z = held (let y : rank_of granted spent r ≡ suc (granted + spent) = (λ i. rank (granted + spent) (is_waiting (e i)) (z i)) in omega (arith, old, y))
            (record {
              phase = λ v. (let a = q z in let m = suc-mul (granted + spent) timer_t3 in
                  subst (InTime (granted + spent) (age + t) (base + (waited + t)) 0 r.since) (sym e) (omega (arith, a, m, f), omega (arith, f)));
              gives_up = λ v. absurd (not_both _ z v);
              due = λ v. absurd (omega (arith, v));
            })

    go : (u : SendState) → s.state ≡ u → Listened granted spent age base waited 0 t s (ticks_in u (age + t) s).after granted spent
    go Idle e = waits_now (ticks_in Idle (age + t) s).after (ap is_waiting e) refl refl
        (λ z. (let q : age ≤ base + waited = subst (InTime (granted + spent) age base waited s.since) e (h.phase z) in omega (arith, q)))
    go (Waiting limit) e = cond_both (nat_lt (s.since + limit) (age + t)) _ _
        (λ (x : SendResult). Listened granted spent age base waited 0 t s x.after granted spent) (λ z. over refl)
        (λ z. (let p = passes granted spent age base waited streak t s h in kept (omega arith) (record { phase = p.phase; gives_up = p.gives_up; due = λ v. absurd (omega (arith, v)) })))
    go (Sending next last) e = by (next == last) refl
      where
        was : nat_lt 64 spent ≡ false → age ≤ (granted + spent) * timer_t3 + base + waited
        was z = subst (InTime (granted + spent) age base waited s.since) e (h.phase z)

        by : (b : Bool) → (next == last) ≡ b → Listened granted spent age base waited 0 t s (ticks_in (Sending next last) (age + t) s).after granted spent
        by true z = waits_now (ticks_in (Sending next last) (age + t) s).after (ap is_waiting e) (ap (λ (b : Bool). if b then Waiting timer_t3 else Sending (next + 1) last) z)
            (ap (λ (b : Bool). if b then age + t else s.since) z) was
        by false z =
            let on : (ticks_in (Sending next last) (age + t) s).after.state ≡ Sending (next + 1) last = ap (λ (b : Bool). if b then Waiting timer_t3 else Sending (next + 1) last) z in
            kept (let x = ap (λ (u : SendState). rank (granted + spent) (is_waiting u) (nat_lt 64 spent)) e in
            let y = ap (λ (u : SendState). rank (granted + spent) (is_waiting u) (nat_lt 64 spent)) on in omega (arith, x, y))
            (record {
              phase = λ v. subst (InTime (granted + spent) (age + t) base (waited + t) (ticks_in (Sending next last) (age + t) s).after.since) (sym on) (let a = was v in omega (arith, a));
              gives_up = spent_so;
              due = λ v. absurd (omega (arith, v));
            })
    go other e = over (ap (λ (u : SendState). is_idle u || is_running u) e)

timed : (s : SenderRecord) (limit now : ℕ) (b : Bool) → nat_lt (s.since + limit) now ≡ b
    → (if b then (let r : SendResult = record { after = record s { state = Failed timeout }; says = Some (Abort timeout s.message.pgn) } in r)
    else (let r : SendResult = record { after = s; says = None } in r)).says ≡ None → now ≤ s.since + limit
timed s limit now true e z = absurd (cc)
timed s limit now false e z = ltb-false _ _ e

-- nothing of it is due: it waits, and not too long, or it is over
pub none_late : (granted spent age base waited streak t : ℕ) (s : SenderRecord) → Late granted spent age base waited streak s
    → (ticks_in s.state (age + t) s).says ≡ None → (nat_lt 64 spent && is_running s.state) ≡ false
    → IsEnded s ⊎ (Late granted spent (age + t) base 0 0 s × (streak ≡ 0))
unfolding ticks_in sends_packet
none_late granted spent age base waited streak t s h says up = go s.state refl says
  where
    not_spent : (b c : Bool) → c ≡ true → (b && c) ≡ false → b ≡ false
    not_spent b c i k = grind (arith, i, k)

    never : (limit : ℕ) (n : ℕ) → n ≡ streak → s.state ≡ Waiting limit → nat_lt 64 spent ≡ false → age + t ≤ s.since + limit → n ≡ 0
    never limit n e f g i = grind (arith, e, f, g, i)

    go : (u : SendState) → s.state ≡ u → (ticks_in u (age + t) s).says ≡ None → IsEnded s ⊎ (Late granted spent (age + t) base 0 0 s × (streak ≡ 0))
    go Idle e z = absurd (cc)
    go (Waiting limit) e z =
        let few = not_spent (nat_lt 64 spent) (is_running s.state) (ap is_running e) up in
        let q : (s.since + limit ≤ suc (granted + spent) * timer_t3 + base) × (age ≤ s.since + limit + waited) = subst (InTime (granted + spent) age base waited s.since) e (h.phase few) in
        let l = timed s limit (age + t) (nat_lt (s.since + limit) (age + t)) refl z in
        inr (
          record {
            phase = λ v. subst (InTime (granted + spent) (age + t) base 0 s.since) (sym e) (q.0, omega (arith, l));
            gives_up = λ y. absurd (not_both _ few y);
            due = λ y. absurd (omega (arith, y));
          },
          never limit streak refl e few l,
        )
    go (Sending next last) e z = absurd (cc)
    go other e z = inl (ap (λ (u : SendState). is_idle u || is_running u) e)

-- a frame of it is due, and another goes
pub due_late : (granted spent age base waited streak t streak_then : ℕ) (s : SenderRecord) → Late granted spent age base waited streak s
    → ((ticks_in s.state (age + t) s).says ≡ None → ⊥) ⊎ (nat_lt 64 spent ≡ true) → Late granted spent (age + t) base (waited + t) streak_then s
unfolding ticks_in
due_late granted spent age base waited streak t streak_then s h d =
    let p = passes granted spent age base waited streak t s h in record { phase = p.phase; gives_up = p.gives_up; due = λ z. go s.state refl d }
  where
    out : (limit : ℕ) → ((ticks_in (Waiting limit) (age + t) s).says ≡ None → ⊥) → s.since + limit < age + t
    out limit e = grind (arith, e)

    go : (u : SendState) → s.state ≡ u → ((ticks_in s.state (age + t) s).says ≡ None → ⊥) ⊎ (nat_lt 64 spent ≡ true) → IsDue spent (age + t) s.since s.state
    go (Waiting limit) e (inl n) = subst (IsDue spent (age + t) s.since) (sym e)
        (inl (out limit (λ z. n (ap (λ (u : SendState). (ticks_in u (age + t) s).says) e ∙ z))))
    go (Waiting limit) e (inr a) = subst (IsDue spent (age + t) s.since) (sym e) (inr a)
    go other e n = subst (IsDue spent (age + t) s.since) (sym e) tt
