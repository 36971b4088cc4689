-- The laws of transfers.
use Rattle.j39_node.proofs.Common.{[], ◌&&◌, ◌*◌, ◌++◌, ◌+◌, ◌<◌, ◌||◌, ◌∙◌, ◌∷◌, ◌≡◌, ◌≢◌, ◌≤◌, ◌⊎◌, Abort, abort_move, aborted, Aborts, acked, Acknowledges, Acknowledgment, address_after, all_transfers, answer, ap, AreAnswered, arith, At, Bool, both, breaks, Call, can_transfer, claim_of, clears, clears_by, clears_in, clock_at, cond_both, Controller, eqb-true, false, FrameRecord, gives_up, Gone, granted_after, granted_by, Happened, has_some, Hear, heard_in_one, holder, holds, if◌then◌else◌, inl, inr, Is, is_lost, is_move, is_move_to, is_over, is_replaced, is_resting, is_running, is_spent, is_waiting, IsMove, IsTrue, later, leaves_in, length, List, listens, long_by, ltb-false, ltb-true, Message, message_of, MessageRecord, moves, nat_eq, nat_lt, new_sender, next_packet, next_transfer, next_transfer_ended, None, none-some, NoneTold, not, not_both, of_whom, Ok, open_to, option_map, Option, or_cases, or_parts, order, other, packets_of, refl, Refused, Replaces, resting_at, Result, Running, said_between, same_Some, says, send_step, SenderRecord, sent_in_one, SendState, Signal, signal_by, slice_get, slice_get_within, Some, spent_after, step, subst, sym, TakeFrame, takes_clear, TakeTransferEnded, tells_transfer, ticks_in, to_whom, told, told_transfers, Transfer, TransferEnding, transfers_at, TransfersRecord, true, waiting, Who, ℕ, leb-true, is_held, older, Err, Full, Idle}
use Rattle.j39_transport.specs.Sending.{Heard, Tick}
use Rattle.j39_transfers.specs.Transfers.{ending_by, is_left, turn}
use Rattle.j39_transfers.specs.declared.kinds.Ending.TheVariants as how
use Rattle.j39_node.proofs.SoundLemmas.{frame_case}
use Rattle.j39_node.proofs.LaneLaws.{none_long}
use Rattle.j39_node.proofs.PortLemmas.{heard_same, own_is, stands, ported_found}
use Rattle.j39_node.proofs.MoveSteps.{Moved, SignalCase, signal_case, running_some, HeardCase, heard_case}
use Rattle.j39_node.proofs.MoveSteps.SignalCase.{requests, packs, times_out}
use Rattle.j39_node.proofs.MoveLemmas.{listed, moved_open, none_first}
use Rattle.j39_node.proofs.MoveSteps.HeardCase.{holds as holding, clears as is_cleared}
use Rattle.j39_node.proofs.ChangeLemmas.{Change, change, Sent, sent_case}
use Rattle.j39_node.proofs.ChangeLemmas.Change.{hears, claims, sends, starts, ends, stays}
use Rattle.j39_node.proofs.OpenLemmas.{begun_to, heard_open}

-- ---- which frames are taken

pub sent_one : (w : Who) (H : List Call) (c : Controller) (now : ℕ) (f : FrameRecord) → Is w (At now (TakeFrame (Some f)) ∷ H) c → is_move w H f ≡ true → Sent w H now f
sent_one w H c now f is p = sent_case w H now f is.answered.0 (frame_case w H now f is.answered.1) p

pub given_up : (x : Running) (now : ℕ) (a : Signal) → gives_up x ≡ true → signal_by now x ≡ Some a → a ≡ Abort 5 x.sender.message.pgn
given_up x now a e f = grind (arith, e, f)

pub ticking : (x : Running) (now : ℕ) (a : Signal) → gives_up x ≡ false → signal_by now x ≡ Some a → (send_step x.sender Tick now).says ≡ Some a
ticking x now a e f = grind (arith, e, f)

moves_so : (x : Running) (now : ℕ) (xs : List Message) (a : Signal) → Moved x.sender xs → signal_by now x ≡ Some a
    → IsMove (to_whom x) x.sender.message xs (says x.sender a)
moves_so x now xs a h e = go (gives_up x) refl
  where
    by : SignalCase x.sender xs a → IsMove (to_whom x) x.sender.message xs (says x.sender a)
    by (requests n z) = inl (n, ap (says x.sender) z)
    by (packs i n l k z) = inr (n, inl (i, l, k, ap (says x.sender) z))
    by (times_out n z) = inr (n, inr (inl (ap (says x.sender) z)))

    go : (b : Bool) → gives_up x ≡ b → IsMove (to_whom x) x.sender.message xs (says x.sender a)
    go true g = inr (running_some _ _ xs x.sender.state h.state (both (is_spent x) (is_running x.sender.state) g).1, inr (inr (ap (says x.sender) (given_up x now a g e))))
    go false g = by (signal_case x.sender now xs a h (ticking x now a g e))

-- the one to its destination
pub sent_to : (w : Who) (H : List Call) (now a : ℕ) (f : FrameRecord) (s : Sent w H now f) → (let o : Option ℕ = Rattle.j39_frame.specs.Identifier.destination_of f.id in o) ≡ Some a → to_whom s.running ≡ a
sent_to w H now a f s e = same_Some _ _ (ap (λ (m : Message). m.destination) (sym s.frame) ∙ e)

pub only : (w : Who) (H : List Call) (c : Controller) (now : ℕ) (f : FrameRecord) → Is w (At now (TakeFrame (Some f)) ∷ H) c → IsTrue (is_move w H f)
    → (a : ℕ) × (x : Running) × (turn (clock_at w H now) (transfers_at w H).running ≡ Some x) × (open_to w a H ≡ Some x)
    × (slice_get (all_transfers w H) x.token ≡ Some (a, x.sender.message)) × NoneTold (tells_transfer x.token) H
    × ((let o : Option ℕ = Rattle.j39_frame.specs.Identifier.destination_of f.id in o) ≡ Some a) × IsMove a x.sender.message (moves w a H) (message_of f)
only w H c now f is p =
    let s = sent_one w H c now f is p in
    let a = to_whom s.running in
    let l = listed w a H s.running is.answered.0 s.is in (
      a,
      s.running,
      s.turn_is,
      s.is,
      l.at,
      l.untold,
      ap (λ (m : Message). m.destination) s.frame,
      subst (IsMove a s.running.sender.message (moves w a H)) (sym s.frame)
          (moves_so s.running (clock_at w H now) (moves w a H) s.signal (moved_open w a H s.running is.answered.0 s.is) s.said),
    )

pub waits : (w : Who) (H : List Call) (c : Controller) (now : ℕ) → Is w (At now (TakeFrame None) ∷ H) c → IsTrue (holds w H now) → next_transfer w H now ≡ None
waits w H c now is held = no_long (next_packet w H now) (next_transfer w H now) (none_long w H now held is.answered.1)
  where
    no_long : (a b : Option Message) → long_by a b ≡ None → b ≡ None
    no_long a b e = grind (arith, e)

-- ---- how many clears to send it takes

pub record Budgeted (x : Running) (n : ℕ) : Type 0 where
  pub count : n ≤ x.granted + x.spent
  pub granted : x.granted ≤ packets_of x.sender.message
  pub spent : x.spent ≤ 65
  pub heard : x.spent ≤ n

abbrev pub BudgetedIf : Option Running → ℕ → Type 0
BudgetedIf None n = Unit {0}
BudgetedIf (Some x) n = Budgeted x n

abbrev Within : ℕ → Option ℕ → Type 0
Within n None = Unit {0}
Within n (Some last) = last ≤ n

granted_within : (s : SenderRecord) (a : Option Signal) → Within (packets_of s.message) (granted_by s a)
granted_within s a = go _ _ (heard_case s a 0)
  where
    go : (o : Option ℕ) (r : SenderRecord) → HeardCase s a 0 o r → Within (packets_of s.message) o
    go o r (holding limit i) = omega arith
    go o r (is_cleared limit next last i n) = n.most
    go o r other = tt

budget_listens : (x : Running) (n k : ℕ) (o : Option ℕ) → Within k o → n ≤ x.granted + x.spent → x.granted ≤ k → x.spent ≤ 64 → x.spent ≤ n
    → ((if has_some o then n + 1 else n) ≤ granted_after o x.granted + spent_after o x.granted x.spent)
    × (granted_after o x.granted ≤ k) × (spent_after o x.granted x.spent ≤ 65) × (spent_after o x.granted x.spent ≤ (if has_some o then n + 1 else n))
budget_listens x n k o e f g i j = (grind (arith, f, g, i, j), grind (arith, f, g, i, j), grind (arith, f, g, i, j), grind (arith, f, g, i, j))

-- the same counts and message
budget_same : (old new : Running) (n : ℕ) → new.granted ≡ old.granted → new.spent ≡ old.spent → new.sender.message ≡ old.sender.message → Budgeted old n → Budgeted new n
budget_same old new n g s m h = record {
  count = (let a = h.count in omega (arith, a, g, s));
  granted = (let a = h.granted in let b = ap packets_of m in omega (arith, a, b, g));
  spent = (let a = h.spent in omega (arith, a, s));
  heard = (let a = h.heard in omega (arith, a, s));
}

budget_broken : (e : TransferEnding) (now : ℕ) (x : Running) (n : ℕ) → Budgeted x n → Budgeted (breaks e now x) n
budget_broken e now x n h = cond_both (is_over x) x (record x { broken = Some e; last = now }) (λ (y : Running). Budgeted y n) (λ i. h) (λ i. budget_same x _ n refl refl refl h)

budget_left : (who : ℕ → Option ℕ) (now : ℕ) (x : Running) (n : ℕ) → Budgeted x n → Budgeted (leaves_in None who now x) n
budget_left who now x n h = cond_both (is_left None who x) (breaks how.Gone now x) (record x { name = who (to_whom x) }) (λ (y : Running). Budgeted y n)
    (λ i. budget_broken how.Gone now x n h) (λ i. budget_same x _ n refl refl refl h)

budget_named : (who : ℕ → Option ℕ) (f : FrameRecord) (now : ℕ) (x : Running) (n : ℕ) → Budgeted x n
    → Budgeted (heard_in_one f now x) (if not (is_over x || is_spent x) && has_some (clears_in f x) then n + 1 else n)
budget_named who f now x n h = go (is_over x || is_spent x) refl
  where
    keeps : packets_of (send_step x.sender (Heard f) now).after.message ≡ packets_of x.sender.message
    keeps = ap packets_of (Rattle.j39_transfers.proofs.StepLemmas.same_heard_step x.sender f now).1

    go : (b : Bool) → (is_over x || is_spent x) ≡ b → Budgeted (if b then x else listens f now x) (if not b && has_some (clears_in f x) then n + 1 else n)
    go true e = h
    go false e =
        let y = budget_listens x n (packets_of x.sender.message) (clears_in f x) (granted_within x.sender (said_between x.sender.destination x.sender.message.source f)) h.count h.granted
        (ltb-false 64 x.spent (or_parts (is_over x) (is_spent x) e).1) h.heard in
        record { count = y.0; granted = subst (λ (k : ℕ). granted_after (clears_in f x) x.granted ≤ k) (sym keeps) y.1; spent = y.2; heard = y.3 }

-- what is broken off is over
pub over_broken : (e : TransferEnding) (now : ℕ) (x : Running) → is_over (breaks e now x) ≡ true
over_broken e now x = go (is_over x) refl
  where
    by : (u : SendState) → has_some (ending_by u (Some e)) ≡ true
    by u = grind arith

    go : (b : Bool) → is_over x ≡ b → is_over (if b then x else record x { broken = Some e; last = now }) ≡ true
    go true i = i
    go false i = by x.sender.state

budget_heard : (lost : Bool) (who : ℕ → Option ℕ) (f : FrameRecord) (now : ℕ) (x : Running) (n : ℕ) → Budgeted x n
    → Budgeted (heard_open lost who f now x) (if takes_clear lost who f x then n + 1 else n)
budget_heard true who f now x n h = budget_broken how.Withdrawn now x n h
budget_heard false who f now x n h = go (is_left None who x) refl
  where
    go : (b : Bool) → is_left None who x ≡ b → Budgeted (heard_in_one f now (if b then breaks how.Gone now x else record x { name = who (to_whom x) }))
        (if not (b || (is_over x || is_spent x)) && has_some (clears_in f x) then n + 1 else n)
    go true e =
        let y = breaks how.Gone now x in
        let o : is_over y ≡ true = over_broken how.Gone now x in
        subst (λ (z : Running). Budgeted z n) (sym (ap (λ (b : Bool). if b || is_spent y then y else listens f now y) o)) (budget_broken how.Gone now x n h)
    go false e = budget_named who f now (record x { name = who (to_whom x) }) n (budget_same x _ n refl refl refl h)

budget_more : (w : Who) (a : ℕ) (H : List Call) (call : Call) (o q : Option Running) → Change w a H call o q → open_to w a H ≡ o → BudgetedIf o (clears w a H) → BudgetedIf q (clears w a (call ∷ H))
budget_more w a H call o q (hears now f x) g h =
    subst (λ (y : Option Running). BudgetedIf (option_map (heard_open lost who f (clock_at w H now)) x) (clears_by lost who f y (clears w a H))) (sym g) (by x h)
  where
    lost : Bool
    lost = is_lost (address_after w (At now (Hear f) ∷ H))

    who : ℕ → Option ℕ
    who = holder w (At now (Hear f) ∷ H)

    by : (o : Option Running) → BudgetedIf o (clears w a H) → BudgetedIf (option_map (heard_open lost who f (clock_at w H now)) o) (clears_by lost who f o (clears w a H))
    by None h = h
    by (Some y) h = budget_heard lost who f (clock_at w H now) y (clears w a H) h
budget_more w a H call o q (claims now f None c m) g h = h
budget_more w a H call o q (claims now f (Some y) c m) g h = budget_left (holder w (At now (TakeFrame (Some f)) ∷ H)) (clock_at w H now) y (clears w a H) h
budget_more w a H call o q (sends now f s z m) g h = budget_same s.running (sent_in_one (clock_at w H now) s.running) (clears w a H) refl refl (Rattle.j39_node.proofs.PortLemmas.sent_same (clock_at w H now) s.running).1 h
budget_more w a H call o q (starts now priority group to k bytes e z) g h =
    subst (Budgeted (begun_to w H now priority group to bytes)) (sym (ap (λ (b : Bool). if b then 0 else clears w a H) (Rattle.j39_node.proofs.Common.eq-eqb to a z)))
    (record { count = omega arith; granted = omega arith; spent = omega arith; heard = omega arith })
budget_more w a H call o q (ends e t z) g h = tt
budget_more w a H call o q (stays c x b m n i t u) g h = subst (BudgetedIf x) (sym n) h

pub budgeted : (w : Who) (a : ℕ) (H : List Call) → AreAnswered w H → BudgetedIf (open_to w a H) (clears w a H)
budgeted w a [] e = subst (λ (o : Option Running). BudgetedIf o 0) (sym (none_first w a e)) tt
budgeted w a (call ∷ H) e = budget_more w a H call (open_to w a H) (open_to w a (call ∷ H)) (change w a call H e) refl (budgeted w a H e.0)

pub budgeted_open : (w : Who) (a : ℕ) (H : List Call) (x : Running) → AreAnswered w H → open_to w a H ≡ Some x → Budgeted x (clears w a H)
budgeted_open w a H x right e = subst (λ (o : Option Running). BudgetedIf o (clears w a H)) e (budgeted w a H right)

-- it gives up only where more than 64 clears to send granted nothing higher
not_five : (x : Running) (xs : List Message) (a : Signal) → SignalCase x.sender xs a → says x.sender a ≡ abort_move (to_whom x) x.sender.message 5 → ⊥
not_five x xs a e f = grind (arith, f)

pub patient : (w : Who) (H : List Call) (c : Controller) (now a : ℕ) (f : FrameRecord) (x : Running) → Is w (At now (TakeFrame (Some f)) ∷ H) c → IsTrue (is_move w H f)
    → open_to w a H ≡ Some x → message_of f ≡ abort_move a x.sender.message 5 → (65 ≤ x.spent) × (65 ≤ clears w a H)
patient w H c now a f x is p e five = go (gives_up x) refl
  where
    s : Sent w H now f
    s = sent_one w H c now f is p

    at_a : to_whom s.running ≡ a
    at_a = same_Some _ _ (ap (λ (m : Message). m.destination) (sym s.frame ∙ five))

    one : s.running ≡ x
    one = same_Some s.running x (sym s.is ∙ (ap (λ (n : ℕ). open_to w n H) at_a ∙ e))

    said_it : signal_by (clock_at w H now) x ≡ Some s.signal
    said_it = ap (λ (u : Running). signal_by (clock_at w H now) u) (sym one) ∙ s.said

    go : (b : Bool) → gives_up x ≡ b → (65 ≤ x.spent) × (65 ≤ clears w a H)
    go true g =
        let l = ltb-true 64 x.spent (both (is_spent x) (is_running x.sender.state) g).0 in
        let b = (budgeted_open w a H x is.answered.0 e).heard in
        (omega (arith, l), omega (arith, l, b))
    go false g = absurd (not_five x (moves w a H) s.signal
        (signal_case x.sender (clock_at w H now) (moves w a H) s.signal (moved_open w a H x is.answered.0 e) (ticking x (clock_at w H now) s.signal g said_it))
        (ap (λ (u : Running). says u.sender s.signal) (sym one) ∙ (sym s.frame ∙ (five ∙ ap (λ (n : ℕ). abort_move n x.sender.message 5) (sym at_a ∙ ap to_whom one)))))
