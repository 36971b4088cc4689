-- That every transfer ends.
use Rattle.j39_node.proofs.Common.{Abort, Address, AreAnswered, At, Bool, Call, Controller, FrameRecord, Hear, Is, IsAnswered, IsPaced, IsPrompt, IsTrue, List, MessageRecord, None, NoneTold, Ok, Option, Running, SendState, SenderRecord, Signal, Some, TakeFrame, TakeTransferEnded, Transfer, TransferEnding, Who, [], aborted, address_after, age, all_replies, all_transfers, and_parts, ap, arith, breaks, broadcast_from, cases_eq, claims_anew, clock_at, cond_both, counts_for, destination_of, due, eq-eqb, false, first, gives_up, granted_after, granted_by, has_some, heard_in_one, holder, holds, if◌then◌else◌, inl, inr, is_acknowledgment, is_claim, is_held, is_idle, is_lost, is_move, is_open_to, is_over, is_reply, is_running, is_session, is_spent, is_transfer, later, leaves_in, length, listens, moment, nat_eq, nat_lt, next_transfer_ended, not, not_both, of_whom, open_to, option_map, or_parts, order, packets_of, passed_in, refl, said_between, sent_in_one, signal_by, spent_after, step, subst, suc, sym, tells_transfer, ticks_in, timer_t3, to_whom, transfers_at, true, waited_in, ℕ, ◌&&◌, ◌*◌, ◌++◌, ◌+◌, ◌<◌, ◌||◌, ◌∙◌, ◌∷◌, ◌≡◌, ◌≢◌, ◌≤◌, ◌⊎◌, same_Some, none-some, mul-add, cases_Bool}
use Rattle.std.specs.List.{find}
use Rattle.j39_transport.specs.Sending.{new_sender, send_step, Tick}
use Rattle.j39_transport.specs.Sending as sending
use Rattle.j39_transfers.specs.Transfers.{begun, end_by, ending, ending_by, is_due, is_left, Order}
use Rattle.j39_transfers.specs.declared.kinds.Ending.TheVariants as how
use Rattle.j39_transfers.proofs.StepLemmas.{IsSame, keeps_left}
use Rattle.j39_node.proofs.EndSteps.{IsEnded, Late, Listened, due_late, heard_late, most, none_late, passes, rank_of, ticked_late, times_more}
use Rattle.j39_node.proofs.MoveSteps.{HeardCase, heard_case}
use Rattle.j39_node.proofs.MoveSteps.HeardCase.{same, done, fails, holds as holding, clears as is_cleared}
use Rattle.j39_node.proofs.EndSteps.Listened.{over as ends_so, kept, held as holds_on}
use Rattle.j39_node.proofs.OpenLemmas.{heard_open, heard_open_same, heard_token, none_open_due, open_begun, open_beside, open_claimed, open_heard, open_sent, open_sent_other, open_stays, open_told}
use Rattle.j39_node.proofs.ChangeLemmas.{Sent, sent_case}
use Rattle.j39_node.proofs.PortLemmas.{left_same, sent_same}
use Rattle.j39_node.proofs.PromptLaws.{answered_from, held_unless, keeps_held, takes, waited_last, waited_more}
use Rattle.j39_node.proofs.SoundLemmas.{FrameCase, frame_case, held_older, none_next, plain_session}
use Rattle.j39_node.proofs.SteadySteps.{Account, account_holds, account_passes, account_rests}
use Rattle.j39_node.proofs.AnswerCases.{transfer_accepts}

-- ---- what is over stays over

abbrev pub Over : Running → Type 0
Over t = is_over t ≡ true

ended_over : (u : SendState) (b : Option TransferEnding) → (is_idle u || is_running u) ≡ false → has_some (ending_by u b) ≡ true
ended_over u b e = grind (arith, e)

pub over_ended : (t : Running) → IsEnded t.sender → Over t
over_ended t e = ended_over t.sender.state t.broken e

broken_over : (u : SendState) (b : Option TransferEnding) → has_some b ≡ true → has_some (ending_by u b) ≡ true
broken_over u b e = grind (arith, e)

over_cases : (u : SendState) (b : Option TransferEnding) → has_some (ending_by u b) ≡ true → (has_some b ≡ true) ⊎ ((is_idle u || is_running u) ≡ false)
over_cases u b e = grind (arith, e)

over_breaks : (e : TransferEnding) (now : ℕ) (t : Running) → Over (breaks e now t)
over_breaks e now t = cond_both (is_over t) t (record t { broken = Some e; last = now }) Over (λ z. z) (λ z. broken_over t.sender.state (Some e) refl)

over_left : (holder : ℕ → Option ℕ) (now : ℕ) (t : Running) → Over t → Over (leaves_in None holder now t)
over_left holder now t h = cond_both (is_left None holder t) (breaks how.Gone now t) (record t { name = holder (to_whom t) }) Over (λ z. over_breaks how.Gone now t) (λ z. h)

pub over_heard : (lost : Bool) (holder : ℕ → Option ℕ) (f : FrameRecord) (now : ℕ) (t : Running) → Over t → Over (heard_open lost holder f now t)
over_heard true holder f now t h = over_breaks how.Withdrawn now t
over_heard false holder f now t h = stays (leaves_in None holder now t) (over_left holder now t h)
  where
    stays : (x : Running) → Over x → Over (heard_in_one f now x)
    stays x z = subst Over (sym (ap (λ (b : Bool). if b || is_spent x then x else listens f now x) z)) z

ended_ticked : (s : SenderRecord) (now : ℕ) → IsEnded s → IsEnded (ticks_in s.state now s).after
unfolding ticks_in
ended_ticked s now e = go s.state refl
  where
    go : (u : SendState) → s.state ≡ u → IsEnded (ticks_in u now s).after
    go sending.Done i = e
    go (sending.Failed reason) i = e
    go u i = absurd (not_both _ e (ap (λ (v : SendState). is_idle v || is_running v) i))

pub ended_aborted : (s : SenderRecord) (reason : ℕ) → is_running s.state ≡ true → IsEnded (aborted reason s)
unfolding aborted
ended_aborted s reason e = cond_both (is_running s.state) _ _ IsEnded (λ z. refl) (λ z. absurd (not_both _ z e))

pub over_sent : (now : ℕ) (t : Running) → Over t → Over (sent_in_one now t)
unfolding send_step
over_sent now t h = elim (over_cases t.sender.state t.broken h) [
  | inl e ↦ broken_over (sent_in_one now t).sender.state t.broken e
  | inr e ↦ over_ended (sent_in_one now t) (cond_both (gives_up t) (aborted 5 t.sender) (send_step t.sender Tick now).after IsEnded
      (λ z. ended_aborted t.sender 5 (and_parts (is_spent t) (is_running t.sender.state) z).1) (λ z. ended_ticked t.sender now e))
]

-- then an end would be told
pub some_told : (a : ℕ) (xs : List Running) (t : Running) → of_whom a xs ≡ Some t → Over t → end_by (find is_over xs) ≡ None → ⊥
some_told a [] t e h = absurd (cc)
some_told a (x ∷ xs) t e h = go (is_over x) refl (some_told a xs t) e
  where
    ends : (o : Option TransferEnding) (n : ℕ) → has_some o ≡ true → (let r : Option (ℕ × TransferEnding) = option_map (λ e. (n, e)) o in r) ≡ None → ⊥
    ends o n i z = grind (arith, i, z)

    same : (b : Bool) (o : Option Running) → is_over x ≡ false → (if b then Some x else o) ≡ Some t → o ≡ Some t
    same true o i k = absurd (let z : x ≡ t = cc in not_both _ i (ap is_over z ∙ h))
    same false o i k = k

    go : (b : Bool) → is_over x ≡ b → (of_whom a xs ≡ Some t → Over t → end_by (find is_over xs) ≡ None → ⊥) → of_whom a (x ∷ xs) ≡ Some t
        → end_by (if b then Some x else find is_over xs) ≡ None → ⊥
    go true i k e z = ends (ending x) x.token i z
    go false i k e z = k (same (nat_eq a (to_whom x)) (of_whom a xs) i e) h z

-- ---- a driver's pace

-- a frame of the transfer to this address is due
abbrev pub DueTo : Who → ℕ → List Call → ℕ → Type 0
DueTo w to H now = (holds w H now ≡ true) × ((x : Running) × (open_to w to H ≡ Some x) × (is_due (clock_at w H now) x ≡ true))

-- what a history pays for the clears that were taken, that with which it waits too: it waited so long to be taken before, so long since
-- a take found nothing of it, and so long one of its frames is due
pub record Pace (w : Who) (B : List Call) (g most to : ℕ) (since : List Call → List Call → ℕ) (Paid : List Call → ℕ → ℕ → ℕ → ℕ → Type 0) (limit : List Call → ℕ) : Type 0 where
  pub passes : (call : Call) (later : List Call) (n m base waited streak : ℕ) → takes call ≡ false → n ≤ m → Paid later n base waited streak
      → Paid (call ∷ later) m base (waited + step (later ++ B) (moment (call ∷ later ++ B))) streak
  pub holds : (when : ℕ) (f : FrameRecord) (later : List Call) (n m base waited streak : ℕ) → suc n ≤ m → since later B + step (later ++ B) when ≤ g
      → Paid later n base waited streak → Paid (At when (Hear f) ∷ later) m (base + (waited + step (later ++ B) when)) 0 0
  pub rests : (now : ℕ) (later : List Call) (n base waited : ℕ) → Paid later n base waited 0 → Paid (At now (TakeFrame None) ∷ later) n base 0 0
  -- another's frame is taken while nothing of it is due, or something is
  pub beside : (now : ℕ) (f : FrameRecord) (later : List Call) (n base waited : ℕ) → AreAnswered w (later ++ B) → FrameCase w (later ++ B) now f
      → Paid later n base waited 0 → Paid (At now (TakeFrame (Some f)) ∷ later) n base 0 0
  pub before : (now : ℕ) (f : FrameRecord) (later : List Call) (n base waited streak : ℕ) → AreAnswered w (later ++ B) → FrameCase w (later ++ B) now f
      → DueTo w to (later ++ B) now → since later B + step (later ++ B) now ≤ g → Paid later n base waited streak
      → (k : ℕ) × Paid (At now (TakeFrame (Some f)) ∷ later) n base (waited + step (later ++ B) now) k
  -- its own is, by which it goes on, or waits
  pub goes : (now : ℕ) (f : FrameRecord) (later : List Call) (n m base waited streak : ℕ) → (is_claim f || is_acknowledgment f) ≡ false → counts_for w (later ++ B) f ≡ true
      → since later B + step (later ++ B) now ≤ g → n ≤ m → Paid later n base waited streak → Paid (At now (TakeFrame (Some f)) ∷ later) m base (waited + step (later ++ B) now) 0
  pub waits : (now : ℕ) (f : FrameRecord) (later : List Call) (n m base waited streak : ℕ) → (is_claim f || is_acknowledgment f) ≡ false → counts_for w (later ++ B) f ≡ true
      → since later B + step (later ++ B) now ≤ g → suc n ≤ m → Paid later n base waited streak → Paid (At now (TakeFrame (Some f)) ∷ later) m (base + (waited + step (later ++ B) now)) 0 0
  -- so it is no older than the limit
  pub older : (later : List Call) (n base waited streak age s : ℕ) → n ≤ most → age ≤ most * timer_t3 + base + waited → since later B + s ≤ g → Paid later n base waited streak
      → age + s ≤ limit later

pub counts_is : (w : Who) (H : List Call) (f : FrameRecord) (a b d : Bool) → (is_claim f || is_acknowledgment f) ≡ a → is_reply (all_replies w H) f ≡ b
    → is_open_to w H (destination_of f.id) ≡ d → counts_for w H f ≡ (not a && not (b && not d))
counts_is w H f a b d x y z = λ i. not (x i) && not (y i && not (z i))

-- what a signal says of its sender, where it isn't broken off
here : (t : Running) (now : ℕ) → t.broken ≡ None → signal_by now t ≡ (if gives_up t then Some (Abort 5 t.sender.message.pgn) else (send_step t.sender Tick now).says)
here t now n = ap (λ (b : Option TransferEnding). if has_some b then (let o : Option Signal = None in o) else if gives_up t then Some (Abort 5 t.sender.message.pgn) else (send_step t.sender Tick now).says) n

no_signal : (t : Running) (now : ℕ) → t.broken ≡ None → signal_by now t ≡ None → (gives_up t ≡ false) × ((ticks_in t.sender.state now t.sender).says ≡ None)
unfolding send_step
no_signal t now e f = (grind (arith, e, f), grind (arith, e, f))

a_signal : (t : Running) (now : ℕ) (x : Signal) → t.broken ≡ None → signal_by now t ≡ Some x
    → ((ticks_in t.sender.state now t.sender).says ≡ None → ⊥) ⊎ (nat_lt 64 t.spent ≡ true)
unfolding send_step
a_signal t now x n e = cond_both (gives_up t) _ _ (λ (o : Option Signal). o ≡ Some x → ((ticks_in t.sender.state now t.sender).says ≡ None → ⊥) ⊎ (nat_lt 64 t.spent ≡ true))
    (λ i y. inr (and_parts (is_spent t) (is_running t.sender.state) i).0) (λ i y. inl (λ z. none-some x (sym z ∙ y))) (sym (here t now n) ∙ e)

-- ---- what it is granted at most

abbrev Budget : ℕ → ℕ → ℕ → Type 0
Budget n granted spent = (granted ≤ n) × (spent ≤ 65)

budget_heard : (s : SenderRecord) (a : Option Signal) (now granted spent : ℕ) (r : SenderRecord) (o : Option ℕ) → HeardCase s a now o r → nat_lt 64 spent ≡ false
    → Budget (packets_of s.message) granted spent → Budget (packets_of s.message) (granted_after o granted) (spent_after o granted spent)
budget_heard s a now granted spent r o same e b = b
budget_heard s a now granted spent r o (done w x) e b = b
budget_heard s a now granted spent r o (fails reason w i) e b = b
budget_heard s a now granted spent r o (holding limit i) e b = let g = b.0 in (grind (arith, g), grind (arith, e))
budget_heard s a now granted spent r o (is_cleared limit next last i n) e b = let g = b.0 in let m = n.most in (grind (arith, g, m), grind (arith, e))

-- ---- time

age_on : (w : Who) (H : List Call) (call : Call) → age w (call ∷ H) ≡ age w H + step H (moment (call ∷ H))
age_on w H (At now act) = refl
age_on w H call = omega arith

-- the clock doesn't stand still
clock_goes : (w : Who) (H : List Call) (now : ℕ) → age w H + step H now < 9000000000000000 → clock_at w H now ≡ age w H + step H now
clock_goes w H now l = omega (arith, l)

-- ---- the course of a transfer

-- it is over, or goes on from an address that is held
abbrev pub Course : Address → Type 0 → Type 0 → Type 0
Course a Over Runs = Over ⊎ ((is_held a ≡ true) × Runs)

-- a call later
on_course : {Over Runs Ends Goes : Type 0} (w : Who) (H : List Call) (call : Call) → (is_held (address_after w H) ≡ true → is_held (address_after w (call ∷ H)) ≡ true) → (Over → Ends)
    → (is_held (address_after w H) ≡ true → Runs → Ends ⊎ Goes) → Course (address_after w H) Over Runs → Course (address_after w (call ∷ H)) Ends Goes
on_course w H call held more goes (inl x) = inl (more x)
on_course {Over} {Runs} {Ends} {Goes} w H call held more goes (inr r) = by (goes r.0 r.1)
  where
    by : Ends ⊎ Goes → Course (address_after w (call ∷ H)) Ends Goes
    by (inl x) = inl x
    by (inr x) = inr (held r.0, x)

module _ (w : Who) (B : List Call) (g k to : ℕ) (m : MessageRecord) (since : List Call → List Call → ℕ) (Paid : List Call → ℕ → ℕ → ℕ → ℕ → Type 0) (limit : List Call → ℕ)
    (pace : Pace w B g (packets_of m + 65) to since Paid limit) where
  pub record Runs (later : List Call) (t : Running) : Type 0 where
    here : t.broken ≡ None
    base : ℕ
    waited : ℕ
    streak : ℕ
    budget : Budget (packets_of m) t.granted t.spent
    late : Late t.granted t.spent (age w (later ++ B)) (age w B + base) waited streak t.sender
    paid : Paid later (rank_of t.granted t.spent t.sender) base waited streak

  -- by these counts
  runs_by : (later : List Call) (t : Running) (base waited streak : ℕ) → t.broken ≡ None → Budget (packets_of m) t.granted t.spent
      → Late t.granted t.spent (age w (later ++ B)) (age w B + base) waited streak t.sender
      → Paid later (rank_of t.granted t.spent t.sender) base waited streak → Runs later t
  runs_by later t base waited streak here budget late paid = record { here = here; base = base; waited = waited; streak = streak; budget = budget; late = late; paid = paid }

  pub record Stands (later : List Call) : Type 0 where
    pub running : Running
    pub is : open_to w to (later ++ B) ≡ Some running
    pub token : running.token ≡ k
    pub message : running.sender.message ≡ m
    pub destination : to_whom running ≡ to
    pub aged : age w (later ++ B) ≡ age w B + passed_in later B
    pub course : Course (address_after w (later ++ B)) (Over running) (Runs later running)

  pub begins : is_held (address_after w B) ≡ true → (o : Order) (name : Option ℕ) (now : ℕ) → open_to w to B ≡ Some (begun w.address o name now) → o.token ≡ k → o.to ≡ to
      → record { source = w.address; pgn = o.group; bytes = o.bytes } ≡ m → Paid [] 0 0 0 0 → Stands []
  unfolding new_sender
  begins e o name now is token there message p = record {
    running = begun w.address o name now;
    is = is;
    token = token;
    message = message;
    destination = there;
    aged = omega arith;
    course = inr (
      e,
      runs_by [] (begun w.address o name now) 0 0 0 refl (omega arith, omega arith)
          (record { phase = λ z. omega arith; gives_up = λ z. omega arith; due = λ z. tt }) p,
    );
  }

  -- it goes on, or is over
  alive : (t : Running) → Over t ⊎ ((is_idle t.sender.state || is_running t.sender.state) ≡ true)
  alive t = elim (cases_Bool (is_idle t.sender.state || is_running t.sender.state)) [ inl e ↦ inr e | inr e ↦ inl (over_ended t e) ]

  old_at_most : (later : List Call) (h : Stands later) (s : ℕ) → Runs later h.running → (is_idle h.running.sender.state || is_running h.running.sender.state) ≡ true
      → since later B + s ≤ g → passed_in later B + s ≤ limit later
  old_at_most later h s r e p =
      let y = most h.running.granted h.running.spent (age w (later ++ B)) (age w B + r.base) r.waited r.streak (packets_of m) h.running.sender r.late e r.budget.0 r.budget.1 in
      let a = h.aged in let z = y.0 in
      pace.older later (rank_of h.running.granted h.running.spent h.running.sender) r.base r.waited r.streak (passed_in later B) s y.1 (omega (arith, a, z)) p r.paid

  -- time passes for it
  rests_on : (call : Call) (later : List Call) (t : Running) → takes call ≡ false → Runs later t → Runs (call ∷ later) t
  rests_on call later t n r = runs_by (call ∷ later) t r.base (r.waited + step (later ++ B) (moment (call ∷ later ++ B))) r.streak r.here r.budget
      (subst (λ (x : ℕ). Late t.granted t.spent x (age w B + r.base) (r.waited + step (later ++ B) (moment (call ∷ later ++ B))) r.streak t.sender) (sym (age_on w (later ++ B) call))
      (passes t.granted t.spent (age w (later ++ B)) (age w B + r.base) r.waited r.streak (step (later ++ B) (moment (call ∷ later ++ B))) t.sender r.late))
      (pace.passes call later _ _ r.base r.waited r.streak n (omega arith) r.paid)

  -- its destination's holder is known
  left_so : (later : List Call) (holder : ℕ → Option ℕ) (now : ℕ) (t : Running) → Over t ⊎ Runs later t → Over (leaves_in None holder now t) ⊎ Runs later (leaves_in None holder now t)
  left_so later holder now t (inl z) = inl (over_left holder now t z)
  left_so later holder now t (inr r) =
      cond_both (is_left None holder t) (breaks how.Gone now t) (record t { name = holder (to_whom t) }) (λ (x : Running). Over x ⊎ Runs later x) (λ z. inl (over_breaks how.Gone now t))
      (λ z. inr (runs_by later (record t { name = holder (to_whom t) }) r.base r.waited r.streak r.here r.budget r.late r.paid))

  later_base : (granted spent old base waited more streak : ℕ) (s : SenderRecord) → Late granted spent old (age w B + base + (waited + more)) 0 streak s
      → Late granted spent old (age w B + (base + (waited + more))) 0 streak s
  later_base granted spent old base waited more streak s h = subst (λ (x : ℕ). Late granted spent old x 0 streak s) (omega arith) h

  -- a frame is heard
  listens_so : (later : List Call) (when : ℕ) (f : FrameRecord) (t : Running) → t.sender.message ≡ m → age w (later ++ B) + step (later ++ B) when < 9000000000000000
      → since later B + step (later ++ B) when ≤ g → Runs later t
      → Over (heard_in_one f (clock_at w (later ++ B) when) t) ⊎ Runs (At when (Hear f) ∷ later) (heard_in_one f (clock_at w (later ++ B) when) t)
  unfolding send_step
  listens_so later when f t message short p r = subst (λ (now : ℕ). Over (heard_in_one f now t) ⊎ Runs (At when (Hear f) ∷ later) (heard_in_one f now t))
      (sym (clock_goes w (later ++ B) when short))
      (cond_both (is_over t || is_spent t) t (listens f now t) (λ (t : Running). Over t ⊎ Runs (At when (Hear f) ∷ later) t)
      (λ i. inr (rests_on (At when (Hear f)) later t refl r))
      (λ i. listened (or_parts (is_over t) (is_spent t) i).1
      (heard_late t.granted t.spent (age w (later ++ B)) (age w B + r.base) r.waited r.streak (step (later ++ B) when) t.sender
      heard (listens f now t).sender (granted_by t.sender heard) case (or_parts (is_over t) (is_spent t) i).1 r.late)))
    where
      now : ℕ
      now = age w (later ++ B) + step (later ++ B) when

      heard : Option Signal
      heard = said_between t.sender.destination t.sender.message.source f

      case : HeardCase t.sender heard now (granted_by t.sender heard) (listens f now t).sender
      case = heard_case t.sender heard now

      within : nat_lt 64 t.spent ≡ false → Budget (packets_of m) (listens f now t).granted (listens f now t).spent
      within few = subst (λ (x : MessageRecord). Budget (packets_of x) (listens f now t).granted (listens f now t).spent) message
          (budget_heard t.sender heard now t.granted t.spent (listens f now t).sender (granted_by t.sender heard) case few
          (subst (λ (x : MessageRecord). Budget (packets_of x) t.granted t.spent) (sym message) r.budget))

      listened : nat_lt 64 t.spent ≡ false → Listened t.granted t.spent (age w (later ++ B)) (age w B + r.base) r.waited r.streak (step (later ++ B) when) t.sender (listens f now t).sender
          (listens f now t).granted (listens f now t).spent → Over (listens f now t) ⊎ Runs (At when (Hear f) ∷ later) (listens f now t)
      listened few (ends_so x) = inl (over_ended (listens f now t) x)
      listened few (kept i x) = inr (runs_by (At when (Hear f) ∷ later) (listens f now t) r.base (r.waited + step (later ++ B) when) r.streak r.here (within few) x
          (pace.passes (At when (Hear f)) later _ _ r.base r.waited r.streak refl i r.paid))
      listened few (holds_on i x) = inr (runs_by (At when (Hear f) ∷ later) (listens f now t) (r.base + (r.waited + step (later ++ B) when)) 0 0 r.here (within few)
          (later_base _ _ _ _ _ _ _ _ x) (pace.holds when f later _ _ r.base r.waited r.streak i p r.paid))

  -- a take finds nothing of it, or something
  found_so : (call : Call) (later : List Call) (now : ℕ) (h : Stands later) → age w (later ++ B) + step (later ++ B) now < 9000000000000000
      → since later B + step (later ++ B) now ≤ g
      → is_held (address_after w (later ++ B)) ≡ true → age w (call ∷ later ++ B) ≡ age w (later ++ B) + step (later ++ B) now → (r : Runs later h.running)
      → (Paid later (rank_of h.running.granted h.running.spent h.running.sender) r.base r.waited 0
      → Paid (call ∷ later) (rank_of h.running.granted h.running.spent h.running.sender) r.base 0 0)
      → (DueTo w to (later ++ B) now → (i : ℕ) × Paid (call ∷ later) (rank_of h.running.granted h.running.spent h.running.sender) r.base (r.waited + step (later ++ B) now) i)
      → Over h.running ⊎ Runs (call ∷ later) h.running
  found_so call later now h short p e a r rests due = elim (alive h.running) [
    | inl z ↦ inl z
    | inr z ↦ by z (signal_by time h.running) refl
  ]
    where
      time : ℕ
      time = age w (later ++ B) + step (later ++ B) now

      idle : (gives_up h.running ≡ false) × ((ticks_in h.running.sender.state time h.running.sender).says ≡ None) → Over h.running ⊎ Runs (call ∷ later) h.running
      idle q = elim (none_late h.running.granted h.running.spent (age w (later ++ B)) (age w B + r.base) r.waited r.streak (step (later ++ B) now) h.running.sender r.late q.1 q.0) [
        | inl y ↦ inl (over_ended h.running y)
        | inr y ↦ inr (runs_by (call ∷ later) h.running r.base 0 0 r.here r.budget
            (subst (λ (x : ℕ). Late h.running.granted h.running.spent x (age w B + r.base) 0 0 h.running.sender) (sym a) y.0)
            (rests (subst (Paid later (rank_of h.running.granted h.running.spent h.running.sender) r.base r.waited) y.1 r.paid)))
      ]

      waits : (x : (i : ℕ) × Paid (call ∷ later) (rank_of h.running.granted h.running.spent h.running.sender) r.base (r.waited + step (later ++ B) now) i)
          → ((ticks_in h.running.sender.state time h.running.sender).says ≡ None → ⊥) ⊎ (nat_lt 64 h.running.spent ≡ true) → Over h.running ⊎ Runs (call ∷ later) h.running
      waits x q = inr (runs_by (call ∷ later) h.running r.base (r.waited + step (later ++ B) now) x.0 r.here r.budget
          (subst (λ (y : ℕ). Late h.running.granted h.running.spent y (age w B + r.base) (r.waited + step (later ++ B) now) x.0 h.running.sender) (sym a)
          (due_late h.running.granted h.running.spent (age w (later ++ B)) (age w B + r.base) r.waited r.streak (step (later ++ B) now) x.0 h.running.sender r.late q)) x.1)

      by : (is_idle h.running.sender.state || is_running h.running.sender.state) ≡ true → (o : Option Signal) → signal_by time h.running ≡ o → Over h.running ⊎ Runs (call ∷ later) h.running
      by z None i = idle (no_signal h.running time r.here i)
      by z (Some x) i = waits (due (
        held_older (step (later ++ B) now) (address_after w (later ++ B)) e,
        (h.running, h.is, ap (λ (n : ℕ). is_due n h.running) (clock_goes w (later ++ B) now short) ∙ ap has_some i),
      )) (a_signal h.running time x r.here i)

  -- its own frame is taken
  own_so : (later : List Call) (now : ℕ) (f : FrameRecord) (t : Running) → (is_claim f || is_acknowledgment f) ≡ false → counts_for w (later ++ B) f ≡ true
      → age w (later ++ B) + step (later ++ B) now < 9000000000000000 → since later B + step (later ++ B) now ≤ g → Runs later t
      → Over (sent_in_one (clock_at w (later ++ B) now) t) ⊎ Runs (At now (TakeFrame (Some f)) ∷ later) (sent_in_one (clock_at w (later ++ B) now) t)
  unfolding send_step
  own_so later now f t plain counts short p r = subst (λ (x : ℕ). Over (sent_in_one x t) ⊎ Runs (At now (TakeFrame (Some f)) ∷ later) (sent_in_one x t))
      (sym (clock_goes w (later ++ B) now short))
      (cond_both (gives_up t) (aborted 5 t.sender) (send_step t.sender Tick time).after
      (λ (s : SenderRecord). Over (record t { sender = s; last = time }) ⊎ Runs (At now (TakeFrame (Some f)) ∷ later) (record t { sender = s; last = time }))
      (λ i. inl (ended_over (aborted 5 t.sender).state t.broken (ended_aborted t.sender 5 (and_parts (is_spent t) (is_running t.sender.state) i).1)))
      (λ i. taken _ (ticked_late t.granted t.spent (age w (later ++ B)) (age w B + r.base) r.waited r.streak (step (later ++ B) now) t.sender r.late)))
    where
      time : ℕ
      time = age w (later ++ B) + step (later ++ B) now

      taken : (s : SenderRecord) → Listened t.granted t.spent (age w (later ++ B)) (age w B + r.base) r.waited 0 (step (later ++ B) now) t.sender s t.granted t.spent
          → Over (record t { sender = s; last = time }) ⊎ Runs (At now (TakeFrame (Some f)) ∷ later) (record t { sender = s; last = time })
      taken s (ends_so x) = inl (ended_over s.state t.broken x)
      taken s (kept i x) = inr (runs_by (At now (TakeFrame (Some f)) ∷ later) (record t { sender = s; last = time }) r.base (r.waited + step (later ++ B) now) 0 r.here r.budget x
          (pace.goes now f later _ _ r.base r.waited r.streak plain counts p i r.paid))
      taken s (holds_on i x) = inr (runs_by (At now (TakeFrame (Some f)) ∷ later) (record t { sender = s; last = time }) (r.base + (r.waited + step (later ++ B) now)) 0 0 r.here r.budget
          (later_base _ _ _ _ _ _ _ _ x) (pace.waits now f later _ _ r.base r.waited r.streak plain counts p i r.paid))

  -- the same transfer, a call later
  goes_on : (call : Call) (later : List Call) (h : Stands later) (t : Running) → open_to w to (call ∷ later ++ B) ≡ Some t → t.token ≡ h.running.token
      → IsSame h.running.sender t.sender → Course (address_after w (call ∷ later ++ B)) (Over t) (Runs (call ∷ later) t) → Stands (call ∷ later)
  goes_on call later h t is token alike course = record {
    running = t;
    is = is;
    token = token ∙ h.token;
    message = alike.1 ∙ h.message;
    destination = alike.0 ∙ h.destination;
    aged = (let a = age_on w (later ++ B) call in let b = h.aged in omega (arith, a, b));
    course = course;
  }

  heard_so : (now : ℕ) (f : FrameRecord) (later : List Call) → age w (later ++ B) + step (later ++ B) now < 9000000000000000 → since later B + step (later ++ B) now ≤ g
      → (h : Stands later) → (b : Bool) → is_lost (address_after w (At now (Hear f) ∷ later ++ B)) ≡ b
      → Course (address_after w (At now (Hear f) ∷ later ++ B)) (Over (heard_open b (holder w (At now (Hear f) ∷ later ++ B)) f (clock_at w (later ++ B) now) h.running))
      (Runs (At now (Hear f) ∷ later) (heard_open b (holder w (At now (Hear f) ∷ later ++ B)) f (clock_at w (later ++ B) now) h.running))
  heard_so now f later short p h true e = inl (over_breaks how.Withdrawn (clock_at w (later ++ B) now) h.running)
  heard_so now f later short p h false e = on_course w (later ++ B) (At now (Hear f)) (λ z. held_unless w (later ++ B) (At now (Hear f)) refl z e)
      (over_heard false holds f time h.running)
      (λ z r. go (left_so later holds time h.running (inr r))) h.course
    where
      time : ℕ
      time = clock_at w (later ++ B) now

      holds : ℕ → Option ℕ
      holds = holder w (At now (Hear f) ∷ later ++ B)

      x : Running
      x = leaves_in None holds time h.running

      go : Over x ⊎ Runs later x → Over (heard_in_one f time x) ⊎ Runs (At now (Hear f) ∷ later) (heard_in_one f time x)
      go (inl z) = inl (subst Over (sym (ap (λ (b : Bool). if b || is_spent x then x else listens f time x) z)) z)
      go (inr r) = listens_so later now f x ((left_same holds time h.running).1 ∙ h.message) short p r

  takes_claim : (now : ℕ) (f : FrameRecord) (later : List Call) → AreAnswered w (later ++ B) → FrameCase w (later ++ B) now f
      → since later B + step (later ++ B) now ≤ g → age w (later ++ B) + step (later ++ B) now < 9000000000000000 → (h : Stands later)
      → Course (address_after w (At now (TakeFrame (Some f)) ∷ later ++ B)) (Over h.running) (Runs (At now (TakeFrame (Some f)) ∷ later) h.running)
  takes_claim now f later right case p short h = on_course w (later ++ B) (At now (TakeFrame (Some f))) (keeps_held w (later ++ B) (At now (TakeFrame (Some f))) refl refl) (λ y. y)
      (λ e r. found_so (At now (TakeFrame (Some f))) later now h short p e refl r
      (pace.beside now f later _ r.base r.waited right case)
      (λ d. pace.before now f later _ r.base r.waited r.streak right case d p r.paid)) h.course

  takes_one : (now : ℕ) (f : FrameRecord) (later : List Call) → AreAnswered w (later ++ B) → FrameCase w (later ++ B) now f
      → since later B + step (later ++ B) now ≤ g → age w (later ++ B) + step (later ++ B) now < 9000000000000000 → Stands later → (b c : Bool)
      → is_move w (later ++ B) f ≡ b → is_claim f ≡ c → Stands (At now (TakeFrame (Some f)) ∷ later)
  takes_one now f later right case p short h b true i c =
      goes_on (At now (TakeFrame (Some f))) later h (leaves_in None holds time h.running)
      (open_claimed w to now f (later ++ B) c ∙ ap (option_map (leaves_in None holds time)) h.is) (keeps_left None holds time h.running).1 (left_same holds time h.running)
      (left_course (takes_claim now f later right case p short h))
    where
      time : ℕ
      time = clock_at w (later ++ B) now

      holds : ℕ → Option ℕ
      holds = holder w (At now (TakeFrame (Some f)) ∷ later ++ B)

      x : Running
      x = leaves_in None holds time h.running

      either : is_held (address_after w (At now (TakeFrame (Some f)) ∷ later ++ B)) ≡ true → Over x ⊎ Runs (At now (TakeFrame (Some f)) ∷ later) x
          → Course (address_after w (At now (TakeFrame (Some f)) ∷ later ++ B)) (Over x) (Runs (At now (TakeFrame (Some f)) ∷ later) x)
      either z (inl y) = inl y
      either z (inr y) = inr (z, y)

      left_course : Course (address_after w (At now (TakeFrame (Some f)) ∷ later ++ B)) (Over h.running) (Runs (At now (TakeFrame (Some f)) ∷ later) h.running)
          → Course (address_after w (At now (TakeFrame (Some f)) ∷ later ++ B)) (Over x) (Runs (At now (TakeFrame (Some f)) ∷ later) x)
      left_course (inl z) = inl (over_left holds time h.running z)
      left_course (inr r) = either r.0 (left_so (At now (TakeFrame (Some f)) ∷ later) holds time h.running (inr r.1))
  takes_one now f later right case p short h false false i c =
      goes_on (At now (TakeFrame (Some f))) later h h.running (open_beside w to now f (later ++ B) c i ∙ h.is) refl (refl, refl) (takes_claim now f later right case p short h)
  takes_one now f later right case p short h true false i c = elim (cases_eq (to_whom y.running) to) [
    | inl e ↦ own e
    | inr n ↦ goes_on (At now (TakeFrame (Some f))) later h h.running (open_sent_other w to now f (later ++ B) y.running c i y.turn_is n ∙ h.is) refl (refl, refl)
        (takes_claim now f later right case p short h)
  ]
    where
      y : Sent w (later ++ B) now f
      y = sent_case w (later ++ B) now f right case i

      time : ℕ
      time = clock_at w (later ++ B) now

      t : is_transfer f ≡ true
      t = (and_parts (is_transfer f) _ i).0

      plain : (is_claim f || is_acknowledgment f) ≡ false
      plain = plain_session f (and_parts (is_session f) _ t).0

      no_reply_it : (a b : Bool) → (a && not b) ≡ true → (a && b) ≡ false
      no_reply_it a b z = grind (arith, z)

      counts : counts_for w (later ++ B) f ≡ true
      counts = counts_is w (later ++ B) f false false _ plain (no_reply_it (is_transfer f) _ i) refl

      own : to_whom y.running ≡ to → Stands (At now (TakeFrame (Some f)) ∷ later)
      own e =
          let o = open_sent w now f (later ++ B) y.running c i y.turn_is in
          let same : y.running ≡ h.running = same_Some y.running h.running (sym o.0 ∙ (ap (λ (n : ℕ). open_to w n (later ++ B)) e ∙ h.is)) in
          goes_on (At now (TakeFrame (Some f))) later h (sent_in_one time h.running)
          (ap (λ (n : ℕ). open_to w n (At now (TakeFrame (Some f)) ∷ later ++ B)) (sym e) ∙ (o.1 ∙ ap (λ (x : Running). (let q : Option Running = Some (sent_in_one time x) in q)) same))
          refl (sent_same time h.running)
          (on_course w (later ++ B) (At now (TakeFrame (Some f))) (keeps_held w (later ++ B) (At now (TakeFrame (Some f))) refl refl) (over_sent time h.running)
          (λ z r. own_so later now f h.running plain counts short p r) h.course)

  -- the end of another is told
  tells_one : (x : ℕ × TransferEnding) (later : List Call) → Some x ≡ next_transfer_ended w (later ++ B) → nat_eq x.0 k ≡ false → (h : Stands later)
      → open_to w to (TakeTransferEnded (Some x) ∷ later ++ B) ≡ Some h.running
  tells_one x later a n h =
      let z = open_told w (later ++ B) x a in
      z.others to (λ e.
      let same = same_Some z.running h.running (sym z.is ∙ (ap (λ (n : ℕ). open_to w n (later ++ B)) e ∙ h.is)) in
      not_both _ n (eq-eqb x.0 k (sym z.token ∙ (ap (λ (t : Running). t.token) same ∙ h.token)))) ∙ h.is

  one_more : (call : Call) (later : List Call) → AreAnswered w (later ++ B) → IsAnswered w (later ++ B) call → tells_transfer k call ≡ false
      → (since later B + step (later ++ B) (moment (call ∷ later ++ B)) ≤ g) × (claims_anew call ≡ false) → age w (call ∷ later ++ B) < 9000000000000000 → Stands later → Stands (call ∷ later)
  one_more (At when (Hear f)) later right a n p short h =
      let lost = is_lost (address_after w (At when (Hear f) ∷ later ++ B)) in
      let holds = holder w (At when (Hear f) ∷ later ++ B) in
      let time = clock_at w (later ++ B) when in
      goes_on (At when (Hear f)) later h (heard_open lost holds f time h.running) (open_heard w to when f (later ++ B) ∙ ap (option_map (heard_open lost holds f time)) h.is)
      (heard_token lost holds f time h.running) (heard_open_same lost holds f time h.running) (heard_so when f later short p.0 h lost refl)
  one_more (At now (TakeFrame (Some f))) later right a n p short h =
      takes_one now f later right (frame_case w (later ++ B) now f a) p.0 short h (is_move w (later ++ B) f) (is_claim f) refl refl
  one_more (At now (TakeFrame None)) later right a n p short h =
      goes_on (At now (TakeFrame None)) later h h.running h.is refl (refl, refl)
      (on_course w (later ++ B) (At now (TakeFrame None)) (keeps_held w (later ++ B) (At now (TakeFrame None)) refl refl) (λ y. y)
      (λ e r. found_so (At now (TakeFrame None)) later now h short p.0 e refl r (pace.rests now later _ r.base r.waited)
      (λ d. absurd (not_both _ (none_open_due w to (later ++ B) now d.1.0 (none_next w (later ++ B) now (held_older (step (later ++ B) now) (address_after w (later ++ B)) e) a).transfer d.1.1) d.1.2)))
      h.course)
  one_more (At now (Transfer priority group at bytes answer)) later right a n p short h =
      goes_on (At now (Transfer priority group at bytes answer)) later h h.running (open_stays w to now priority group at bytes answer (later ++ B) h.running h.is) refl (refl, refl)
      (on_course w (later ++ B) (At now (Transfer priority group at bytes answer)) (keeps_held w (later ++ B) (At now (Transfer priority group at bytes answer)) refl refl) (λ y. y)
      (λ e r. inr (rests_on (At now (Transfer priority group at bytes answer)) later h.running refl r)) h.course)
  one_more (TakeTransferEnded (Some x)) later right a n p short h =
      goes_on (TakeTransferEnded (Some x)) later h h.running (tells_one x later a n h) refl (refl, refl)
      (on_course w (later ++ B) (TakeTransferEnded (Some x)) (keeps_held w (later ++ B) (TakeTransferEnded (Some x)) refl refl) (λ y. y)
      (λ e r. inr (rests_on (TakeTransferEnded (Some x)) later h.running refl r)) h.course)
  one_more call later right a n p short h =
      goes_on call later h h.running h.is refl (refl, refl)
      (on_course w (later ++ B) call (keeps_held w (later ++ B) call p.1 refl) (λ y. y) (λ e r. inr (rests_on call later h.running refl r)) h.course)

  stands : (later : List Call) → AreAnswered w (later ++ B) → NoneTold (tells_transfer k) later → IsPaced since g later B → age w (later ++ B) < 9000000000000000 → Stands [] → Stands later
  stands [] a n p short h = h
  stands (call ∷ later) a n p short h =
      let s : age w (later ++ B) < 9000000000000000 = (let l = age_on w (later ++ B) call in omega (arith, l, short)) in
      one_more call later a.0 a.1 n.0 p.1 short (stands later a.0 n.1 p.0 s h)

  pub ends_then : (later : List Call) → AreAnswered w (later ++ B) → NoneTold (tells_transfer k) later → IsPaced since g later B → age w (later ++ B) < 9000000000000000 → Stands []
      → limit later < passed_in later B → since later B ≤ g
      → (x : Running) × (open_to w to (later ++ B) ≡ Some x) × (x.token ≡ k) × IsTrue (is_over x) × (next_transfer_ended w (later ++ B) ≢ None)
  ends_then later a n paced short first l p = told (stands later a n paced short first)
    where
      over : (h : Stands later) → Course (address_after w (later ++ B)) (Over h.running) (Runs later h.running) → Over h.running
      over h (inl z) = z
      over h (inr r) = elim (alive h.running) [
        | inl z ↦ z
        | inr z ↦ absurd (let y = old_at_most later h 0 r.1 z (omega (arith, p)) in omega (arith, y, l))
      ]

      told : Stands later → (x : Running) × (open_to w to (later ++ B) ≡ Some x) × (x.token ≡ k) × IsTrue (is_over x) × (next_transfer_ended w (later ++ B) ≢ None)
      told h = let o = over h h.course in (h.running, h.is, h.token, o, some_told to (transfers_at w (later ++ B)).running h.running h.is o)

-- ---- it begins

pub first_of : (w : Who) (earlier : List Call) (g now priority group to k : ℕ) (bytes : List ℕ) (since : List Call → List Call → ℕ) (Paid : List Call → ℕ → ℕ → ℕ → ℕ → Type 0) (limit : List Call → ℕ)
    (pace : Pace w (At now (Transfer priority group to bytes (Ok k)) ∷ earlier) g (packets_of (broadcast_from w group bytes) + 65) to since Paid limit)
    → AreAnswered w (At now (Transfer priority group to bytes (Ok k)) ∷ earlier) → Paid [] 0 0 0 0
    → Stands w (At now (Transfer priority group to bytes (Ok k)) ∷ earlier) g k to (broadcast_from w group bytes) since Paid limit pace []
first_of w earlier g now priority group to k bytes since Paid limit pace right paid =
    let B = At now (Transfer priority group to bytes (Ok k)) ∷ earlier in
    let fit = transfer_accepts w earlier now priority group to k bytes right.1 in
    begins w B g k to (broadcast_from w group bytes) since Paid limit pace fit.0 (order (length (all_transfers w earlier)) priority group to bytes) (holder w earlier to) (clock_at w earlier now)
    (open_begun w now priority group to k bytes earlier right.0 right.1).1 (sym fit.3) refl refl paid

-- ---- to a driver that takes all

module _ (w : Who) (B : List Call) (g most to : ℕ) where
  abbrev Paid : List Call → ℕ → ℕ → ℕ → ℕ → Type 0
  Paid later n base waited streak = (streak ≡ 0) × Account g n 0 base waited (waited_in later B) 0 0 0 0 false

  on : (call : Call) (later : List Call) (n m base waited streak : ℕ) → takes call ≡ false → n ≤ m → Paid later n base waited streak
      → Paid (call ∷ later) m base (waited + step (later ++ B) (moment (call ∷ later ++ B))) streak
  on call later n m base waited streak e l h = (
    h.0,
    subst (λ (x : ℕ). Account g m 0 base (waited + step (later ++ B) (moment (call ∷ later ++ B))) x 0 0 0 0 false) (sym (waited_more call later B e))
        (account_passes g n m 0 base waited (waited_in later B) 0 0 0 0 (step (later ++ B) (moment (call ∷ later ++ B))) false l h.1),
  )

  prompt : Pace w B g most to waited_in Paid (λ later. most * (timer_t3 + g) + g)
  prompt = record {
    passes = on;
    holds = λ when f later n m base waited streak l p h. (refl, account_holds g n m 0 base waited (waited_in later B) 0 0 0 0 (step (later ++ B) when) false l p h.1);
    rests = λ now later n base waited h. (refl, account_rests g n 0 base waited (waited_in later B) 0 0 0 0 0 0 0 false false refl (omega arith) h.1);
    beside = λ now f later n base waited right case h.
        (refl, account_rests g n 0 base waited (waited_in later B) 0 0 0 0 (waited_in later B + step (later ++ B) now) 0 0 false false refl (omega arith) h.1);
    before = λ now f later n base waited streak right case due p h.
        (0, (refl, account_passes g n n 0 base waited (waited_in later B) 0 0 0 0 (step (later ++ B) now) false (omega arith) h.1));
    goes = λ now f later n m base waited streak plain counts p l h. (refl, account_passes g n m 0 base waited (waited_in later B) 0 0 0 0 (step (later ++ B) now) false l h.1);
    waits = λ now f later n m base waited streak plain counts p l h. (refl, account_holds g n m 0 base waited (waited_in later B) 0 0 0 0 (step (later ++ B) now) false l p h.1);
    older = λ later n base waited streak age s l a p h. (let x = h.1.all_most in let b = times_more n most g l in let d = mul-add most timer_t3 g in omega (arith, a, x, b, d, p));
  }

pub transfer_ends : (w : Who) (later earlier : List Call) (c : Controller) (g now priority group to k : ℕ) (bytes : List ℕ)
    → Is w (later ++ At now (Transfer priority group to bytes (Ok k)) ∷ earlier) c → NoneTold (tells_transfer k) later
    → IsPrompt g later (At now (Transfer priority group to bytes (Ok k)) ∷ earlier)
    → age w (later ++ At now (Transfer priority group to bytes (Ok k)) ∷ earlier) < 9000000000000000
    → (packets_of (broadcast_from w group bytes) + 65) * (timer_t3 + g) + g < passed_in later (At now (Transfer priority group to bytes (Ok k)) ∷ earlier)
    → (x : Running) × (open_to w to (later ++ At now (Transfer priority group to bytes (Ok k)) ∷ earlier) ≡ Some x) × (x.token ≡ k)
    × IsTrue (is_over x) × (next_transfer_ended w (later ++ At now (Transfer priority group to bytes (Ok k)) ∷ earlier) ≢ None)
transfer_ends w later earlier c g now priority group to k bytes is none paced short l =
    let B = At now (Transfer priority group to bytes (Ok k)) ∷ earlier in
    let m = broadcast_from w group bytes in
    let x = prompt w B g (packets_of m + 65) to in
    ends_then w B g k to m waited_in (Paid w B g (packets_of m + 65) to) (λ later. (packets_of m + 65) * (timer_t3 + g) + g) x later is.answered none paced short
    (first_of w earlier g now priority group to k bytes waited_in (Paid w B g (packets_of m + 65) to) (λ later. (packets_of m + 65) * (timer_t3 + g) + g) x (answered_from w later B is.answered)
    (refl, record { base_most = omega arith; all_most = omega arith; paid_most = omega arith; streak_most = omega arith; few = omega arith }))
    l (waited_last g later B paced)
