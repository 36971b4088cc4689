-- The laws of requests.
use Rattle.j39_node.proofs.Common.{[], accepted, Acknowledged, address_after, and_parts, answer_to_ask, Answered, ap, AreAnswered, arith, Ask, ask_end, AskedSince, AskEnding, asks, At, Bool, Call, can_ask, cases_Bool, comes, Controller, end_at, ended, eqb-true, false, first, FrameRecord, has_token, Hear, HeardFirst, holds, IfSome, if◌then◌else◌, inl, inr, Is, is_acknowledgment, is_answer, is_asking, is_claim, is_full, is_lost, is_message, is_request, is_session, IsAnswered, IsTrue, kept, later, le-ltb, length, List, lost, lt-ltb, made, marks, message_from, moment, nat_eq, nat_lt, None, NoneEnds, not, not-true, not_both, Ok, open_ask, Option, or_parts, passed_in, past, Question, question, RanOut, reached, reaches, refl, Refused, request_for, Result, same_Some, says, says_to, seeks, silent, silent_end, slice_get, slice_set, Some, step, subst, suc, sym, TakeAskEnded, TakeFrame, time_heard, TimedOut, told, told_asks, true, wait, Who, Withdraw, ℕ, ◌&&◌, ◌++◌, ◌+◌, ◌-◌, ◌<◌, ◌||◌, ◌∙◌, ◌∷◌, ◌≡◌, ◌⊎◌}
use Rattle.j39_node.specs.declared.kinds.AskEnding.TheVariants.{Withdrawn}
use Rattle.j39_node.specs.Asking.{is_reply, is_taken, said_by}
use Rattle.j39_node.proofs.WithdrawLemmas.{get_front, unpassed}
use Rattle.j39_node.proofs.AnswerCases.{ask_accepts}
use Rattle.j39_node.proofs.AnswerCases as cases
use Rattle.j39_node.proofs.QueueLemmas.{get_append, length_one_more, get_last, mapped_some}
use Rattle.j39_node.proofs.SoundLemmas.{sound, grows_on, passes_request, request_stays, stays_lost}
use Rattle.j39_node.proofs.LawLemmas.{full_from, full_parts}

-- ---- which is open

abbrev Listed : ℕ → List Question → Option Question → Type 0
Listed n qs None = length qs ≡ n
Listed n qs (Some q) = (slice_get qs n ≡ Some q) × (length qs ≡ suc n)

none_open : (b : Bool) (o : Option Question) → (b || is_asking o) ≡ false → o ≡ None
none_open b o e = grind (arith, e)

pub opens : (w : Who) (H : List Call) (now group to k : ℕ) → Ok k ≡ answer_to_ask w H now group to → (can_ask w group to ≡ true) × (open_ask H ≡ None) × (k ≡ length (accepted w H))
opens w H now group to k e = let x = ask_accepts w H now group to k e in (x.1, none_open (is_full w H) (open_ask H) x.2, x.3)

listed : (w : Who) (H : List Call) → AreAnswered w H → Listed (length (told_asks H)) (asks H) (open_ask H)
listed w [] e = refl
listed w (call ∷ H) e = go call e.1 (listed w H e.0)
  where
    new : (o : Option Question) (q : Question) → o ≡ None → Listed (length (told_asks H)) (asks H) o → Listed (length (told_asks H)) (asks H ++ q ∷ []) (Some q)
    new None q z h =
        (subst (λ (n : ℕ). slice_get (asks H ++ q ∷ []) n ≡ Some q) h (get_last (asks H) q), length_one_more (asks H) q ∙ ap suc h)
    new (Some p) q z h = absurd (cc)

    over : (o : Option Question) (n left : ℕ) (b : Option AskEnding) (c l : Bool) (x : ℕ × AskEnding) → Some x ≡ ask_end o n b left c l
        → Listed (length (told_asks H)) (asks H) o → length (asks H) ≡ length (told_asks H ++ x ∷ [])
    over None n left b c l x z h = absurd (cc)
    over (Some q) n left b c l x z h = h.1 ∙ sym (length_one_more (told_asks H) x)

    go : (call : Call) → IsAnswered w H call → Listed (length (told_asks H)) (asks H) (open_ask H)
        → Listed (length (told_asks (call ∷ H))) (asks (call ∷ H)) (open_ask (call ∷ H))
    go (At now (Ask group to (Ok k))) right h = new (open_ask H) (question k group to) (opens w H now group to k right).1 h
    go (TakeAskEnded (Some x)) right h = over (open_ask H) (reached H) (wait H) (ended w H) (comes w H (time_heard H)) (is_lost (address_after w H)) x right h
    go call right h = h

-- ---- what it sends

pub request_sent : (w : Who) (H : List Call) → AreAnswered w H → (i : ℕ) (q : Question) → slice_get (asks H) i ≡ Some q
    → slice_get (accepted w H) q.token ≡ Some (q.token, message_from w (request_for q.group q.to))
request_sent w [] e i q g = absurd (cc)
request_sent w (call ∷ H) e i q g = go call e.1 (request_sent w H e.0) i q g
  where
    Sent : List Call → Type 0
    Sent G = (i : ℕ) (q : Question) → slice_get (asks G) i ≡ Some q → slice_get (accepted w G) q.token ≡ Some (q.token, message_from w (request_for q.group q.to))

    new : (now group to k : ℕ) → k ≡ length (accepted w H) → Sent H → Sent (At now (Ask group to (Ok k)) ∷ H)
    new now group to k t h = λ i q g. elim (get_append (asks H) (question k group to) i q g) [
      | inl old ↦ get_front (accepted w H) _ q.token _ (h i q old)
      | inr last ↦ subst (λ (p : Question). slice_get (accepted w H ++ (k, message_from w (request_for group to)) ∷ []) p.token ≡ Some (p.token, message_from w (request_for p.group p.to)))
          last.1
          (subst (λ (n : ℕ). slice_get (accepted w H ++ (k, message_from w (request_for group to)) ∷ []) n ≡ Some (k, message_from w (request_for group to))) (sym t)
          (get_last (accepted w H) (k, message_from w (request_for group to))))
    ]

    go : (call : Call) → IsAnswered w H call → Sent H → Sent (call ∷ H)
    go (At now (Ask group to (Ok k))) right h = new now group to k (opens w H now group to k right).2 h
    go call right h = λ i q g. grows_on w H call q.token _ right refl (h i q g)

-- ---- since when it waits

later_asked : (H : List Call) (call : Call) (q : Question) (e : ℕ) → AskedSince H q e → AskedSince (call ∷ H) q (e + step H (moment (call ∷ H)))
later_asked H call q e h = record {
  later = call ∷ h.later;
  earlier = h.earlier;
  at = h.at;
  frame = h.frame;
  is = ap (λ G. call ∷ G) h.is;
  current = h.current;
  request = h.request;
  passed = ap (λ (n : ℕ). n + step H (moment (call ∷ H))) h.passed
      ∙ ap (λ (G : List Call). passed_in h.later (At h.at (TakeFrame (Some h.frame)) ∷ h.earlier) + step G (moment (call ∷ G))) h.is;
}

abbrev Waits : List Call → Question → Type 0
Waits H q = (e : ℕ) × AskedSince H q e × (wait H ≡ 1250000 - e)

waits_on : (H : List Call) (call : Call) (q : Question) → wait (call ∷ H) ≡ wait H - step H (moment (call ∷ H)) → Waits H q → Waits (call ∷ H) q
waits_on H call q p h = let l = h.2 in (h.0 + step H (moment (call ∷ H)), later_asked H call q h.0 h.1, omega (arith, p, l))

-- the frame of a message takes the request that is next
taken_then : (w : Who) (H : List Call) (now : ℕ) (f : FrameRecord) (q : Question) (b : Bool) → AreAnswered w H → open_ask H ≡ Some q
    → (is_claim f || (is_acknowledgment f || is_session f)) ≡ b → is_taken q (At now (TakeFrame (Some f)) ∷ H) ≡ (if b then is_taken q H else nat_lt q.token (suc (reached H)))
taken_then w H now f q true a o e = ap (λ (x : Bool). nat_lt q.token (if x then reached H else past (marks H) (suc (reached H)))) e
taken_then w H now f q false a o e = ap (λ (x : Bool). nat_lt q.token (if x then reached H else past (marks H) (suc (reached H)))) e ∙ passes_request w H a q o

-- a frame that isn't its request takes nothing of it
not_taken_by : (w : Who) (H : List Call) (now : ℕ) (f : FrameRecord) (q : Question) → AreAnswered w H → open_ask H ≡ Some q → is_request H f ≡ false
    → is_taken q (At now (TakeFrame (Some f)) ∷ H) ≡ true → is_taken q H ≡ true
not_taken_by w H now f q a o r t = go (is_claim f || (is_acknowledgment f || is_session f)) refl r t
  where
    less : (k n : ℕ) → nat_eq k n ≡ false → nat_lt k (suc n) ≡ true → nat_lt k n ≡ true
    less k n e g = grind arith

    go : (b : Bool) → (is_claim f || (is_acknowledgment f || is_session f)) ≡ b → is_request H f ≡ false → is_taken q (At now (TakeFrame (Some f)) ∷ H) ≡ true → is_taken q H ≡ true
    go true e r t = sym (taken_then w H now f q true a o e) ∙ t
    go false e r t =
        less q.token (reached H) (sym (ap (λ (x : Bool). not x && has_token (open_ask H) (reached H)) e ∙ ap (λ (x : Option Question). has_token x (reached H)) o) ∙ r)
        (sym (taken_then w H now f q false a o e) ∙ t)

pub waits : (w : Who) (H : List Call) → AreAnswered w H → (q : Question) → open_ask H ≡ Some q → is_taken q H ≡ true → Waits H q
waits w [] e q o t = absurd (cc)
waits w (call ∷ H) e q o t = go call e.1 (λ i k. waits w H e.0 q i k) o t
  where
    fresh : (now group to k : ℕ) → k ≡ length (accepted w H) → question k group to ≡ q → is_taken q H ≡ true → Waits (At now (Ask group to (Ok k)) ∷ H) q
    fresh now group to k z p g = absurd (not_both _ (le-ltb q.token (reached H)
        (let a = (sound w H e.0).passed in let b = ap (λ (y : Question). y.token) p in omega (arith, a, b, z))) g)

    takes : (now : ℕ) (f : FrameRecord) (b : Bool) → (open_ask H ≡ Some q → is_taken q H ≡ true → Waits H q) → is_request H f ≡ b → open_ask H ≡ Some q → is_taken q (At now (TakeFrame (Some f)) ∷ H) ≡ true
        → Waits (At now (TakeFrame (Some f)) ∷ H) q
    takes now f true prior r o t =
        (0, record { later = []; earlier = H; at = now; frame = f; is = refl; current = o; request = r; passed = refl }, ap (λ (b : Bool). if b then 1250000 else wait H - step H now) r)
    takes now f false prior r o t =
        waits_on H (At now (TakeFrame (Some f))) q (ap (λ (b : Bool). if b then 1250000 else wait H - step H now) r) (prior o (not_taken_by w H now f q e.0 o r t))

    go : (call : Call) → IsAnswered w H call → (open_ask H ≡ Some q → is_taken q H ≡ true → Waits H q) → open_ask (call ∷ H) ≡ Some q → is_taken q (call ∷ H) ≡ true → Waits (call ∷ H) q
    go (At now (Ask group to (Ok k))) right prior o t =
        fresh now group to k (opens w H now group to k right).2 (let z : question k group to ≡ q = cc in z) t
    go (TakeAskEnded (Some x)) right prior o t = absurd (cc)
    go (At now (TakeFrame (Some f))) right prior o t = takes now f (is_request H f) prior refl o t
    go (Withdraw k true) right prior o t =
        waits_on H (Withdraw k true) q (omega arith) (prior o
        (sym (unpassed (slice_set (marks H) k true) (reached H) q.token (request_stays w (Withdraw k true ∷ H) (e.0, right) q o)) ∙ t))
    go call right prior o t = waits_on H call q (omega arith) (prior o t)

-- ---- how it ends

abbrev is_word : AskEnding → Bool
is_word Answered = true
is_word (Acknowledged a) = true
is_word TimedOut = false
is_word Withdrawn = false

says_word : (w : Who) (q : Question) (f : FrameRecord) (m : Option (ℕ × ℕ)) (e : AskEnding) → says_to w q f m ≡ Some e → is_word e ≡ true
says_word w q f m e g = subst (λ (o : Option AskEnding). IfSome o (λ e. is_word e ≡ true)) g (go (seeks q m) (reaches w f) (is_answer q f) (is_reply w q f))
  where
    go : (d a b c : Bool) → IfSome (if d then Some Answered else if a then (if b then Some Answered else if c then said_by (slice_get f.bytes 0) else None) else None) (λ e. is_word e ≡ true)
    go d a b c = grind arith

-- how it ended, and what was before
pub data Outcome (w : Who) (H : List Call) (q : Question) (e : AskEnding) : Type 0 where
  by_word : is_word e ≡ true → HeardFirst w H q e → Outcome w H q e
  by_time : e ≡ TimedOut → RanOut w H q → Outcome w H q e
  by_loss : e ≡ Withdrawn → is_lost (address_after w H) ≡ true → Outcome w H q e

later_outcome : (w : Who) (H : List Call) (call : Call) (q : Question) (e : AskEnding) → Outcome w H q e → Outcome w (call ∷ H) q e
later_outcome w H call q e (by_word k h) = by_word k (record {
  later = call ∷ h.later;
  at = h.at;
  frame = h.frame;
  earlier = h.earlier;
  is = ap (λ G. call ∷ G) h.is;
  current = h.current;
  none = h.none;
  since = h.since;
  asked = h.asked;
  in_time = h.in_time;
  says = h.says;
})
later_outcome w H call q e (by_time z h) = by_time z (record {
  later = call ∷ h.later;
  earlier = h.earlier;
  is = ap (λ G. call ∷ G) h.is;
  since = h.since;
  asked = h.asked;
  out = h.out;
  none = h.none;
})
later_outcome w H call q e (by_loss z h) = by_loss z (stays_lost w H call h)

-- without a word
silently : (w : Who) (H : List Call) (q : Question) (e : AskEnding) (taken : Bool) (left : ℕ) (coming lost : Bool) → silent_end taken left coming lost ≡ Some e
    → (taken ≡ true → left ≡ 0 → coming ≡ false → e ≡ TimedOut → Outcome w H q e) → (lost ≡ true → e ≡ Withdrawn → Outcome w H q e) → Outcome w H q e
silently w H q e taken left coming lost z time loss = go taken (nat_eq left 0) coming lost refl refl refl refl z
  where
    go : (a b d c : Bool) → taken ≡ a → nat_eq left 0 ≡ b → coming ≡ d → lost ≡ c → (if a && (b && not d) then Some TimedOut else if c then Some Withdrawn else None) ≡ Some e
        → Outcome w H q e
    go true true false c p r v s z = time p (eqb-true left 0 r) v (sym (same_Some TimedOut e z))
    go true true true true p r v s z = loss s (sym (same_Some Withdrawn e z))
    go true false d true p r v s z = loss s (sym (same_Some Withdrawn e z))
    go false b d true p r v s z = loss s (sym (same_Some Withdrawn e z))
    go a b d false p r v s z = absurd (cc)

not_over : (taken : Bool) (left : ℕ) (coming lost : Bool) → silent_end taken left coming lost ≡ None
    → (lost ≡ false) × (taken ≡ true → (0 < left) ⊎ (coming ≡ true))
not_over taken left coming lost e = (grind (arith, e), grind (arith, e))

-- a frame ends it
ends_by : (w : Who) (H : List Call) (when : ℕ) (f : FrameRecord) (q : Question) (e : AskEnding) → AreAnswered w H → open_ask H ≡ Some q → ended w H ≡ None
    → end_at w (Some q) (reached H) (wait H - step H when) (comes w H (time_heard (At when (Hear f) ∷ H))) (is_lost (address_after w (At when (Hear f) ∷ H))) f (made w H when f) ≡ Some e
    → Outcome w (At when (Hear f) ∷ H) q e
ends_by w H when f q e right o n z =
    go (silent_end (is_taken q H) (wait H - step H when) (comes w H (time_heard (At when (Hear f) ∷ H))) (is_lost (address_after w (At when (Hear f) ∷ H)))) (is_taken q H) refl refl z
  where
    in_time : (n : ℕ) → wait H ≡ 1250000 - n → (0 < wait H - step H when) ⊎ (comes w H (time_heard (At when (Hear f) ∷ H)) ≡ true)
        → (n + step H when < 1250000) ⊎ IsTrue (comes w H (time_heard (At when (Hear f) ∷ H)))
    in_time n b (inl l) = inl (omega (arith, b, l))
    in_time n b (inr c) = inr c

    timely : is_taken q H ≡ true → (0 < wait H - step H when) ⊎ (comes w H (time_heard (At when (Hear f) ∷ H)) ≡ true) → says_to w q f (made w H when f) ≡ Some e → Outcome w (At when (Hear f) ∷ H) q e
    timely t l s =
        let a = waits w H right q o t in
        by_word (says_word w q f (made w H when f) e s) (record {
          later = [];
          at = when;
          frame = f;
          earlier = H;
          is = refl;
          current = o;
          none = n;
          since = a.0;
          asked = a.1;
          in_time = in_time a.0 a.2 l;
          says = s;
        })

    out : is_taken q H ≡ true → wait H - step H when ≡ 0 → comes w H (time_heard (At when (Hear f) ∷ H)) ≡ false → e ≡ TimedOut → Outcome w (At when (Hear f) ∷ H) q e
    out t l d y =
        let a = waits w H right q o t in
        let b = a.2 in
        by_time y (record {
          later = [];
          earlier = At when (Hear f) ∷ H;
          is = refl;
          since = a.0 + step H when;
          asked = later_asked H (At when (Hear f)) q a.0 a.1;
          out = omega (arith, b, l);
          none = inr d;
        })

    go : (s : Option AskEnding) (b : Bool) → silent_end (is_taken q H) (wait H - step H when) (comes w H (time_heard (At when (Hear f) ∷ H))) (is_lost (address_after w (At when (Hear f) ∷ H))) ≡ s
        → is_taken q H ≡ b
        → first s (if b then says_to w q f (made w H when f) else None) ≡ Some e → Outcome w (At when (Hear f) ∷ H) q e
    go (Some x) b p r z = silently w (At when (Hear f) ∷ H) q e _ _ _ _ (p ∙ z) out (λ l y. by_loss y l)
    go None true p r z = timely r ((not_over (is_taken q H) _ _ _ p).1 r) z
    go None false p r z = absurd (cc)

outcome : (w : Who) (H : List Call) → AreAnswered w H → (q : Question) (e : AskEnding) → open_ask H ≡ Some q → ended w H ≡ Some e → Outcome w H q e
outcome w [] right q e o z = absurd (cc)
outcome w (call ∷ H) right q e o z = go call (λ i k. outcome w H right.0 q e i k) o z
  where
    hears : (when : ℕ) (f : FrameRecord) (b : Option AskEnding) → (open_ask H ≡ Some q → ended w H ≡ Some e → Outcome w H q e) → open_ask H ≡ Some q → ended w H ≡ b
        → first b (end_at w (open_ask H) (reached H) (wait H - step H when) (comes w H (time_heard (At when (Hear f) ∷ H))) (is_lost (address_after w (At when (Hear f) ∷ H))) f (made w H when f)) ≡ Some e → Outcome w (At when (Hear f) ∷ H) q e
    hears when f (Some x) prior o p z = later_outcome w H (At when (Hear f)) q e (prior o (p ∙ z))
    hears when f None prior o p z = ends_by w H when f q e right.0 o p
        (sym (ap (λ (x : Option Question). end_at w x (reached H) (wait H - step H when) (comes w H (time_heard (At when (Hear f) ∷ H))) (is_lost (address_after w (At when (Hear f) ∷ H))) f (made w H when f)) o) ∙ z)

    go : (call : Call) → (open_ask H ≡ Some q → ended w H ≡ Some e → Outcome w H q e) → open_ask (call ∷ H) ≡ Some q → ended w (call ∷ H) ≡ Some e
        → Outcome w (call ∷ H) q e
    go (At now (Ask group to (Ok k))) prior o z = absurd (cc)
    go (TakeAskEnded (Some x)) prior o z = absurd (cc)
    go (At when (Hear f)) prior o z = hears when f (ended w H) prior o refl z
    go call prior o z = later_outcome w H call q e (prior o z)

-- it ran out now
ran_out : (w : Who) (H : List Call) (q : Question) → AreAnswered w H → open_ask H ≡ Some q → is_taken q H ≡ true → wait H ≡ 0 → comes w H (time_heard H) ≡ false
    → RanOut w H q
ran_out w H q right o t l d =
    let a = waits w H right q o t in
    let b = a.2 in
    record { later = []; earlier = H; is = refl; since = a.0; asked = a.1; out = omega (arith, b, l); none = inl d }

-- the end that is told
record Told (w : Who) (H : List Call) (k : ℕ) (e : AskEnding) : Type 0 where
  pub question : Question
  pub current : open_ask H ≡ Some question
  pub token : question.token ≡ k
  pub out : Outcome w H question e

told_is : (w : Who) (H : List Call) (c : Controller) (k : ℕ) (e : AskEnding) → Is w (TakeAskEnded (Some (k, e)) ∷ H) c → Told w H k e
told_is w H c k e is = go (open_ask H) (ended w H) refl refl is.answered.1
  where
    out : (q : Question) (h : Option AskEnding) → open_ask H ≡ Some q → ended w H ≡ h → first h (silent_end (is_taken q H) (wait H) (comes w H (time_heard H)) (is_lost (address_after w H))) ≡ Some e
        → Outcome w H q e
    out q (Some x) o p z = outcome w H is.answered.0 q e o (p ∙ z)
    out q None o p z = silently w H q e _ _ _ _ z (λ t l d y. by_time y (ran_out w H q is.answered.0 o t l d)) (λ l y. by_loss y l)

    go : (o : Option Question) (h : Option AskEnding) → open_ask H ≡ o → ended w H ≡ h → Some (k, e) ≡ ask_end o (reached H) h (wait H) (comes w H (time_heard H)) (is_lost (address_after w H)) → Told w H k e
    go None h o p z = absurd (cc)
    go (Some q) h o p z =
        let b = mapped_some (λ (y : AskEnding). (q.token, y)) (first h (silent_end (is_taken q H) (wait H) (comes w H (time_heard H)) (is_lost (address_after w H)))) (k, e) (sym z) in
        record { question = q; current = o; token = ap (λ (v : ℕ × AskEnding). v.0) b.2; out = out q h o p (b.1 ∙ ap (λ (v : ℕ × AskEnding). Some v.1) b.2) }

-- ---- what ask answers

abbrev pub AtLimit : Who → List Call → Type 0
AtLimit w H =
    (length (asks H) ≡ length (told_asks H) + 1)
    ⊎ ((length (accepted w H) ≡ length (told H) + 16) ⊎ (length (accepted w H) ≡ 18446744073709551615))

pub limit : (w : Who) (H : List Call) → AreAnswered w H → (is_full w H || is_asking (open_ask H)) ≡ true → AtLimit w H
limit w H right e = go (is_full w H) (open_ask H) refl (listed w H right) e
  where
    go : (b : Bool) (o : Option Question) → is_full w H ≡ b → Listed (length (told_asks H)) (asks H) o → (b || is_asking o) ≡ true → AtLimit w H
    go true o p h z = inr (full_parts (length (accepted w H)) (length (told H)) p)
    go false None p h z = absurd (cc)
    go false (Some q) p h z = inl (let a = h.1 in omega (arith, a))

pub from_limit : (w : Who) (H : List Call) → AreAnswered w H → (is_full w H || is_asking (open_ask H)) ≡ false → AtLimit w H → ⊥
from_limit w H right e (inl z) = go (open_ask H) (none_open (is_full w H) (open_ask H) e) (listed w H right)
  where
    go : (o : Option Question) → o ≡ None → Listed (length (told_asks H)) (asks H) o → ⊥
    go o e f = grind (arith, e)
from_limit w H right e (inr z) = not_both _ (or_parts (is_full w H) _ e).0 (full_from (length (accepted w H)) (length (told H)) z)

pub is_accepted : (w : Who) (H : List Call) (c : Controller) (now group to : ℕ) (answer : Result ℕ Refused) → Is w (At now (Ask group to answer) ∷ H) c
    → IsTrue (holds w H now) → IsTrue (can_ask w group to) → length (asks H) ≡ length (told_asks H) → length (accepted w H) < length (told H) + 16
    → length (accepted w H) < 18446744073709551615 → answer ≡ Ok (length (accepted w H))
is_accepted w H c now group to answer is held can none room some =
    cases.is_accepted (holds w H now) (can_ask w group to) (is_full w H || is_asking (open_ask H)) (length (accepted w H)) answer is.answered.1 held can (λ f. no (limit w H is.answered.0 f))
  where
    no : AtLimit w H → ⊥
    no e = grind arith

-- ---- its frame

pub taken_once : (w : Who) (H : List Call) (c : Controller) (now : ℕ) (f : FrameRecord) (q : Question) → Is w H c → open_ask H ≡ Some q → IsTrue (is_request H f)
    → (is_taken q H ≡ false) × IsTrue (is_taken q (At now (TakeFrame (Some f)) ∷ H)) × (reached H ≡ q.token)
taken_once w H c now f q is o r =
    let b = and_parts (is_message f) (has_token (open_ask H) (reached H)) r in
    let z = eqb-true q.token (reached H) (sym (ap (λ (x : Option Question). has_token x (reached H)) o) ∙ b.1) in (
      le-ltb q.token (reached H) (omega (arith, z)),
      taken_then w H now f q false is.answered o (not-true (is_claim f || (is_acknowledgment f || is_session f)) b.0)
          ∙ lt-ltb q.token (suc (reached H)) (omega (arith, z)),
      sym z,
    )

-- ---- what is told

pub in_turn : (w : Who) (H : List Call) (c : Controller) (k : ℕ) (e : AskEnding) → Is w (TakeAskEnded (Some (k, e)) ∷ H) c
    → (q : Question) × (open_ask H ≡ Some q) × (slice_get (asks H) (length (told_asks H)) ≡ Some q) × (q.token ≡ k)
in_turn w H c k e is =
    let t = told_is w H c k e is in
    (t.question, t.current, go (open_ask H) t.current (listed w H is.answered.0), t.token)
  where
    go : (o : Option Question) → o ≡ Some (told_is w H c k e is).question → Listed (length (told_asks H)) (asks H) o
        → slice_get (asks H) (length (told_asks H)) ≡ Some (told_is w H c k e is).question
    go o f g = grind (arith, f)

-- ends of each kind
pub out_of : (w : Who) (H : List Call) (c : Controller) (k : ℕ) (e : AskEnding) (q : Question) → Is w (TakeAskEnded (Some (k, e)) ∷ H) c → open_ask H ≡ Some q → Outcome w H q e
out_of w H c k e q is o =
    let t = told_is w H c k e is in subst (λ (p : Question). Outcome w H p e) (same_Some t.question q (sym t.current ∙ o)) t.out

pub word_of : (w : Who) (H : List Call) (q : Question) (e : AskEnding) → is_word e ≡ true → Outcome w H q e → HeardFirst w H q e
word_of w H q e k (by_word l h) = h
word_of w H q e k (by_time z h) = absurd (not_both _ (ap is_word z) k)
word_of w H q e k (by_loss z h) = absurd (not_both _ (ap is_word z) k)

pub timed_out_means : (w : Who) (H : List Call) (c : Controller) (k : ℕ) (q : Question) → Is w (TakeAskEnded (Some (k, TimedOut)) ∷ H) c → open_ask H ≡ Some q
    → RanOut w H q
timed_out_means w H c k q is o = go (out_of w H c k TimedOut q is o)
  where
    go : Outcome w H q TimedOut → RanOut w H q
    go (by_time z h) = h
    go (by_word l h) = absurd (cc)
    go (by_loss z h) = absurd (cc)

pub withdrawn_means : (w : Who) (H : List Call) (c : Controller) (k : ℕ) → Is w (TakeAskEnded (Some (k, Withdrawn)) ∷ H) c → IsTrue (is_lost (address_after w H))
withdrawn_means w H c k is = let t = told_is w H c k Withdrawn is in go t.question t.out
  where
    go : (q : Question) → Outcome w H q Withdrawn → IsTrue (is_lost (address_after w H))
    go q e = grind arith

-- ---- what was heard first stands

stays : (w : Who) (later H : List Call) (q : Question) (e : AskEnding) → NoneEnds later → open_ask H ≡ Some q → ended w H ≡ Some e
    → (open_ask (later ++ H) ≡ Some q) × (ended w (later ++ H) ≡ Some e)
stays w [] H q e n o z = (o, z)
stays w (call ∷ later) H q e n o z = let h = stays w later H q e n.1 o z in (grind (arith, h, o, z), grind (arith, h, o, z))

not_silent : (left : ℕ) (coming : Bool) → (0 < left) ⊎ IsTrue coming → silent_end true left coming false ≡ None
not_silent left coming e = grind (arith, e)

pub first_stands : (w : Who) (H later : List Call) (c : Controller) (when : ℕ) (f : FrameRecord) (q : Question) (e : AskEnding) (answer : Option (ℕ × AskEnding))
    → Is w (TakeAskEnded answer ∷ later ++ At when (Hear f) ∷ H) c → NoneEnds later → open_ask H ≡ Some q → IsTrue (is_taken q H) → ended w H ≡ None
    → (step H when < wait H) ⊎ IsTrue (comes w H (time_heard (At when (Hear f) ∷ H))) → is_lost (address_after w (At when (Hear f) ∷ H)) ≡ false
    → says_to w q f (made w H when f) ≡ Some e → answer ≡ Some (q.token, e)
first_stands w H later c when f q e answer is n o t none l kept says =
    let G = later ++ At when (Hear f) ∷ H in
    let d = comes w H (time_heard (At when (Hear f) ∷ H)) in
    let now : ended w (At when (Hear f) ∷ H) ≡ Some e =
    (λ i. first (none i) (end_at w (o i) (reached H) (wait H - step H when) d (kept i) f (made w H when f)))
    ∙ (ap (λ (b : Bool). first (silent_end b (wait H - step H when) d false) (if b then says_to w q f (made w H when f) else None)) t
    ∙ (ap (λ (x : Option AskEnding). first x (says_to w q f (made w H when f))) (not_silent (wait H - step H when) d (left l)) ∙ says)) in
    let s = stays w later (At when (Hear f) ∷ H) q e n o now in
    is.answered.1
    ∙ (ap (λ (x : Option Question). ask_end x (reached G) (ended w G) (wait G) (comes w G (time_heard G)) (is_lost (address_after w G))) s.0
    ∙ ap (λ (x : Option AskEnding). ask_end (Some q) (reached G) x (wait G) (comes w G (time_heard G)) (is_lost (address_after w G))) s.1)
  where
    left : (step H when < wait H) ⊎ IsTrue (comes w H (time_heard (At when (Hear f) ∷ H))) → (0 < wait H - step H when) ⊎ IsTrue (comes w H (time_heard (At when (Hear f) ∷ H)))
    left (inl g) = inl (omega (arith, g))
    left (inr g) = inr g

-- ---- out of time

pub over_told : (w : Who) (H : List Call) (q : Question) (h : Option AskEnding) → (h ≡ None) ⊎ (h ≡ Some TimedOut) → open_ask H ≡ Some q → is_taken q H ≡ true
    → wait H ≡ 0 → comes w H (time_heard H) ≡ false → ask_end (open_ask H) (reached H) h (wait H) (comes w H (time_heard H)) (is_lost (address_after w H)) ≡ Some (q.token, TimedOut)
over_told w H q h e f g i j = grind (arith, e, f, g, i, j)

pub times_out : (w : Who) (H : List Call) (c : Controller) (q : Question) (answer : Option (ℕ × AskEnding)) → Is w (TakeAskEnded answer ∷ H) c → open_ask H ≡ Some q
    → IsTrue (is_taken q H) → wait H ≡ 0 → comes w H (time_heard H) ≡ false → is_lost (address_after w H) ≡ false → ((e : AskEnding) → HeardFirst w H q e → ⊥)
    → answer ≡ Some (q.token, TimedOut)
times_out w H c q answer is o t l d kept silent = is.answered.1 ∙ over_told w H q (ended w H) (go (ended w H) refl) o t l d
  where
    by : (e : AskEnding) → Outcome w H q e → e ≡ TimedOut
    by e (by_word k h) = absurd (silent e h)
    by e (by_time z h) = z
    by e (by_loss z h) = absurd (let y : true ≡ false = sym h ∙ kept in cc)

    go : (h : Option AskEnding) → ended w H ≡ h → (h ≡ None) ⊎ (h ≡ Some TimedOut)
    go None p = inl refl
    go (Some e) p = inr (ap Some (by e (outcome w H is.answered.0 q e o p)))

-- ---- where none is told

abbrev Pending : Who → List Call → Question → Type 0
Pending w H q = (is_taken q H ≡ false) ⊎ (((e : ℕ) × AskedSince H q e × (e < 1250000)) ⊎ IsTrue (comes w H (time_heard H)))

pub all_told : (w : Who) (H : List Call) (c : Controller) → Is w (TakeAskEnded None ∷ H) c
    → (length (told_asks H) ≡ length (asks H))
    ⊎ ((q : Question) × (open_ask H ≡ Some q) × Pending w H q × (IsTrue (is_lost (address_after w H)) → ⊥))
all_told w H c is = go (open_ask H) refl (listed w H is.answered.0) is.answered.1
  where
    Goal : Type 0
    Goal =
        (length (told_asks H) ≡ length (asks H))
        ⊎ ((q : Question) × (open_ask H ≡ Some q) × Pending w H q × (IsTrue (is_lost (address_after w H)) → ⊥))

    waiting : (q : Question) → open_ask H ≡ Some q → (is_taken q H ≡ true → (0 < wait H) ⊎ (comes w H (time_heard H) ≡ true)) → Pending w H q
    waiting q o l = elim (cases_Bool (is_taken q H)) [ inl t ↦ since t (l t) | inr t ↦ inl t ]
      where
        since : (t : is_taken q H ≡ true) → (0 < wait H) ⊎ (comes w H (time_heard H) ≡ true) → Pending w H q
        since t (inl d) = let a = waits w H is.answered.0 q o t in let b = a.2 in inr (inl (a.0, a.1, omega (arith, b, d)))
        since t (inr d) = inr (inr d)

    silent : (q : Question) (h : Option AskEnding) → (let none : Option (ℕ × AskEnding) = None in none) ≡ ask_end (Some q) (reached H) h (wait H) (comes w H (time_heard H)) (is_lost (address_after w H))
        → silent_end (is_taken q H) (wait H) (comes w H (time_heard H)) (is_lost (address_after w H)) ≡ None
    silent q h e = grind (arith, e)

    go : (o : Option Question) → open_ask H ≡ o → Listed (length (told_asks H)) (asks H) o
        → (let none : Option (ℕ × AskEnding) = None in none) ≡ ask_end o (reached H) (ended w H) (wait H) (comes w H (time_heard H)) (is_lost (address_after w H)) → Goal
    go None o h z = inl (sym h)
    go (Some q) o h z =
        let n = not_over (is_taken q H) (wait H) (comes w H (time_heard H)) (is_lost (address_after w H)) (silent q (ended w H) z) in inr (q, o, waiting q o n.1, not_both _ n.0)
