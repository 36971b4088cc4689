-- When a tick does something.
use Rattle.j39_node.proofs.Common.{[], address_after, and-false, ap, arith, ask_end, AskEnding, asks_again, At, Bool, Call, comes, comes_in, Controller, ended, false, get_or, granted_at, grants, heard_at, hearing_tick, holder, if◌then◌else◌, inl, Is, is_coming, is_late, is_lost, is_session_open, List, Listening, listening, ltb-false, moment, nat_eq, nat_lt, next_ask_ended, next_tick, None, not, open_ask, OpenBroadcast, Option, option_map, or_parts, out_at, Question, reached, reception, recv_step, refl, request_tick, seeks, Session, session, session_tick, Some, sooner, stay, subst, sym, TakeAskEnded, takes_tick, Tick, time_heard, TimedOut, true, wait, Who, ℕ, ◌&&◌, ◌+◌, ◌-◌, ◌<◌, ◌||◌, ◌∙◌, ◌∷◌, ◌≡◌, ◌≤◌, false_from_ne_true}
use Rattle.std.specs.List.{All, filter}
use Rattle.std.proofs.lemmas.List.Elements.{All-head, All-tail, filter_passes}
use Rattle.j39_node.proofs.FrameLemmas.{lt_false}
use Rattle.j39_node.specs.declared.kinds.AskEnding.TheVariants.{Withdrawn}
use Rattle.j39_node.specs.Asking.{is_taken, is_waiting}
use Rattle.j39_node.proofs.AskLaws.{over_told}
use Rattle.j39_node.proofs.HearingLaws.{tick_keeps}
use Rattle.j39_node.proofs.ReceptionLaws.{tick_is, tick_waits}
use Rattle.j39_node.proofs.ReceptionLemmas.{apart}
use Rattle.j39_sessions.specs.Events.{ticked_of}
use Rattle.j39_sessions.specs.Sessions.{session_ticked}
use Rattle.j39_sessions.proofs.SourceLemmas.{of_group, open_of}
use Rattle.j39_node.proofs.SoundLemmas.{lost_older}
use Rattle.j39_node.proofs.LawLemmas.{before_stamp}

-- a moment before the sooner of two is before each
before_each : (now : ℕ) (one other : Option ℕ) → ((t : ℕ) → sooner one other ≡ Some t → now < t)
    → ((t : ℕ) → one ≡ Some t → now < t) × ((t : ℕ) → other ≡ Some t → now < t)
before_each now one other e = (grind (arith, e), grind (arith, e))

-- ---- by a tick no answer begins

time_fits : (H : List Call) → time_heard H ≤ 9999999999999999
time_fits [] = omega arith
time_fits (call ∷ H) = let h = time_fits H in grind (arith, h)

-- a session of the group goes on, or ends
session_left : (own now : ℕ) (x : Session) (group : ℕ) → of_group group (session_ticked own now x) ≡ true → of_group group (Some x) ≡ true
unfolding recv_step takes_tick asks_again grants granted_at
session_left own now x group e = grind (arith, e)

none_opens : (w : Who) (H : List Call) (now a group : ℕ) → is_session_open a group (reception w H).sessions ≡ false → is_session_open a group (reception w (At now Tick ∷ H)).sessions ≡ false
none_opens w H now a group e =
    open_of a group (reception w (At now Tick ∷ H)).sessions (apart w (At now Tick ∷ H))
    ∙ (ap (of_group group) (tick_is w H now a) ∙ go (session w H a) (sym (open_of a group (reception w H).sessions (apart w H)) ∙ e))
  where
    go : (o : Option Session) → of_group group o ≡ false → of_group group (ticked_of w.address (time_heard (At now Tick ∷ H)) o) ≡ false
    go None e = refl
    go (Some x) e = false_from_ne_true _ (λ k. (let z : false ≡ true = sym e ∙ session_left w.address (time_heard (At now Tick ∷ H)) x group k in absurd (cc)))

-- what comes later came before
late_later : (t s : ℕ) (x : OpenBroadcast) → t ≤ s → is_late s x ≡ false → is_late t x ≡ false
late_later t s x l e = lt_false _ _ (let a = ltb-false _ _ e in omega (arith, a, l))

none_more : (t s : ℕ) (q : Question) (p : OpenBroadcast → Bool) (xs : List OpenBroadcast) → t ≤ s → comes_in t q xs ≡ false → comes_in s q (filter p xs) ≡ false
none_more t s q p [] l e = refl
none_more t s q p (x ∷ xs) e f = let h = none_more t s q p xs in grind (arith, h, e, f)

same_coming : (t s : ℕ) (q : Question) (xs : List OpenBroadcast) → t ≤ s → All (λ x. is_late s x ≡ false) xs → comes_in s q xs ≡ comes_in t q xs
same_coming t s q [] l h = refl
same_coming t s q (x ∷ xs) l h =
    let i = All-head (λ y. is_late s y ≡ false) x xs h in
    let k = same_coming t s q xs l (All-tail (λ y. is_late s y ≡ false) x xs h) in
    λ z. (not ((i ∙ sym (late_later t s x l i)) z) && seeks q (Some (x.source, x.group))) || k z

none_begins : (o : Option Question) (t s : ℕ) (p : OpenBroadcast → Bool) (A B : List Session) (xs : List OpenBroadcast) → t ≤ s
    → ((a group : ℕ) → is_session_open a group A ≡ false → is_session_open a group B ≡ false) → is_coming t o A xs ≡ false → is_coming s o B (filter p xs) ≡ false
none_begins None t s p A B xs l i e = refl
none_begins (Some q) t s p A B xs l i e =
    let h = or_parts (is_session_open q.to q.group A) (comes_in t q xs) e in (λ z. i q.to q.group h.0 z || none_more t s q p xs l h.1 z)

none_comes : (w : Who) (H : List Call) (now : ℕ) → comes w H (time_heard H) ≡ false → comes w (At now Tick ∷ H) (time_heard (At now Tick ∷ H)) ≡ false
none_comes w H now e =
    let l = time_fits H in
    none_begins (open_ask H) (time_heard H) (time_heard (At now Tick ∷ H)) (λ x. not (Rattle.j39_node.specs.Hearing.is_over None (holder w H) (time_heard (At now Tick ∷ H)) x)) (reception w H).sessions
    (reception w (At now Tick ∷ H)).sessions (listening w H).current (omega (arith, l)) (none_opens w H now) e

-- ---- at a tick from its moment on a request is told as timed out

pub request_ends : (w : Who) (H : List Call) (c : Controller) (now t : ℕ) (answer : Option (ℕ × AskEnding)) → request_tick w H ≡ Some t → t ≤ now
    → Is w (TakeAskEnded answer ∷ At now Tick ∷ H) c → (q : Question) × (open_ask H ≡ Some q) × (answer ≡ Some (q.token, TimedOut))
request_ends w H c now t answer e l is = go (open_ask H) (ended w H) (comes w H (time_heard H)) refl refl refl e
  where
    Goal : Type 0
    Goal = (q : Question) × (open_ask H ≡ Some q) × (answer ≡ Some (q.token, TimedOut))

    over : (q : Question) → open_ask H ≡ Some q → ended w H ≡ None → comes w H (time_heard H) ≡ false → is_taken q H ≡ true → moment H + wait H ≡ t → Goal
    over q o n d k m =
        (q, o, is.answered.1 ∙ over_told w (At now Tick ∷ H) q (ended w H) (inl n) o k (omega (arith, m, l)) (none_comes w H now d))

    go : (o : Option Question) (h : Option AskEnding) (d : Bool) → open_ask H ≡ o → ended w H ≡ h → comes w H (time_heard H) ≡ d
        → out_at (is_waiting o (reached H) h d) (moment H) (wait H) ≡ Some t → Goal
    go None h d i j k z = absurd (cc)
    go (Some q) (Some x) d i j k z = absurd (cc)
    go (Some q) None d i j k z = by (is_taken q H) d (nat_lt (moment H + wait H) 10000000000000000) refl k z
      where
        by : (a b c : Bool) → is_taken q H ≡ a → comes w H (time_heard H) ≡ b → (if a && not b then (if c then Some (moment H + wait H) else None) else None) ≡ Some t → Goal
        by true false true u v y = over q i j v u (let m : moment H + wait H ≡ t = cc in m)
        by a b c u v y = absurd (cc)

-- ---- before it none is

not_yet : (last left now : ℕ) → now < last + left → nat_eq (left - (now - last)) 0 ≡ nat_eq left 0
not_yet last left now l = grind arith

-- what stays at a tick is in time
all_timely : (holds : ℕ → Option ℕ) (now : ℕ) (xs : List OpenBroadcast) → stay None holds now xs ≡ xs → All (λ x. is_late now x ≡ false) xs
all_timely holds now xs e = subst (All (λ x. is_late now x ≡ false)) e (λ i d l. in_it (get_or (stay None holds now xs) i d) (filter_passes (λ x. not (Rattle.j39_node.specs.Hearing.is_over None holds now x)) xs i d l))
  where
    in_it : (x : OpenBroadcast) → not (Rattle.j39_node.specs.Hearing.is_over None holds now x) ≡ true → is_late now x ≡ false
    in_it x e = grind (arith, e)

comes_on : (o : Option Question) (t s : ℕ) (A : List Session) (xs : List OpenBroadcast) → t ≤ s → All (λ x. is_late s x ≡ false) xs → is_coming s o A xs ≡ is_coming t o A xs
comes_on None t s A xs l h = refl
comes_on (Some q) t s A xs l h = ap (λ (b : Bool). is_session_open q.to q.group A || b) (same_coming t s q xs l h)

pub none_ends : (w : Who) (H : List Call) (now : ℕ) → heard_at H ≤ now → now < 10000000000000000 → ((t : ℕ) → next_tick w H ≡ Some t → now < t)
    → next_ask_ended w (At now Tick ∷ H) ≡ next_ask_ended w H
none_ends w H now l m q =
    let b = before_each now (session_tick w H) (sooner (hearing_tick w H) (request_tick w H)) q in
    let d = before_each now (hearing_tick w H) (request_tick w H) b.1 in
    let f = time_fits H in
    let t = time_heard (At now Tick ∷ H) in
    let k = tick_keeps w H now l m d.0 in
    let h = all_timely (holder w H) t (listening w H).current (ap (λ (x : Listening). x.current) k) in
    (λ i. ask_end (open_ask H) (reached H) (ended w H) (wait H - (now - moment H))
    (is_coming t (open_ask H) (tick_waits w H now l m b.0 i).sessions (k i).current) (lost_older (now - moment H) (address_after w H) i))
    ∙ (ap (λ (c : Bool). ask_end (open_ask H) (reached H) (ended w H) (wait H - (now - moment H)) c lost)
    (comes_on (open_ask H) (time_heard H) t (reception w H).sessions (listening w H).current (omega (arith, f)) h)
    ∙ go (open_ask H) (ended w H) (comes w H (time_heard H)) d.1)
  where
    lost : Bool
    lost = is_lost (address_after w H)

    silent : Bool → Bool → Bool → Option AskEnding
    silent a b d = if a && (b && not d) then Some TimedOut else if lost then Some Withdrawn else None

    same : (a d : Bool) → ((t : ℕ) → out_at (a && not d) (moment H) (wait H) ≡ Some t → now < t) → silent a (nat_eq (wait H - (now - moment H)) 0) d ≡ silent a (nat_eq (wait H) 0) d
    same false d k = refl
    same true true k = ap (λ (b : Bool). if b then Some TimedOut else if lost then Some Withdrawn else None) (and-false (nat_eq (wait H - (now - moment H)) 0) ∙ sym (and-false (nat_eq (wait H) 0)))
    same true false k = ap (λ (b : Bool). silent true b false) (not_yet (moment H) (wait H) now (before_stamp now (moment H + wait H) m k))

    go : (o : Option Question) (h : Option AskEnding) (d : Bool) → ((t : ℕ) → out_at (is_waiting o (reached H) h d) (moment H) (wait H) ≡ Some t → now < t)
        → ask_end o (reached H) h (wait H - (now - moment H)) d lost ≡ ask_end o (reached H) h (wait H) d lost
    go None h d k = refl
    go (Some p) (Some x) d k = refl
    go (Some p) None d k = ap (option_map (λ (x : AskEnding). (let y : ℕ × AskEnding = (p.token, x) in y))) (same (is_taken p H) d k)
