-- How many transfers are open, and what is told of them.
use Rattle.j39_node.proofs.Common.{[], ◌&&◌, ◌*◌, ◌++◌, ◌+◌, ◌<◌, ◌||◌, ◌↔◌, ◌∙◌, ◌∷◌, ◌≡◌, ◌≢◌, ◌≤◌, ◌⊎◌, Acknowledgment, acked, address_after, all_transfers, and_parts, answer, ap, AreAnswered, arith, At, Bool, both, breaks, Call, can_broadcast, can_transfer, clock_at, cond_both, Controller, eq-eqb, eqb-true, Err, false, FrameRecord, Full, gives_up, Gone, has_some, Hear, heard_events, heard_in_one, holder, holds, if◌then◌else◌, inl, inr, Is, is_claim, is_idle, is_lost, is_move, is_over, is_refused_now, is_replaced, is_resting, is_running, is_spent, is_tried, is_waiting, IsTrue, leaves_in, leb-true, length, length-append, length-map, List, listens, lt-ltb, le-ltb, ltb-true, ltb-false, map, MessageRecord, nat_eq, nat_lt, nat_le, next_transfer_ended, None, none-some, NoneTold, not, not_both, of_whom, Ok, open_to, option_map, Option, or_cases, or_parts, order, packets_of, refl, Refused, resting_at, Result, Running, said_between, same_Some, send_step, SenderRecord, sent_in_one, SendState, Signal, signal_by, Some, subst, sym, TakeFrame, taken_events, TakeTransferEnded, tells_transfer, ticks_in, to_whom, told_transfers, Transfer, transfer_events, TransferEnding, transfers_at, TransfersRecord, tried_events, true, Who, ℕ, lt-leb}
use Rattle.j39_transport.specs.Sending.{Heard, Tick}
use Rattle.j39_transport.specs.Sending as sending
use Rattle.j39_transfers.specs.Events.{after, Begins, Event, Moves}
use Rattle.j39_transfers.specs.Transfers.{awake, begun, begun_if, can_begin, can_move, end_by, ending, ending_by, is_ended, is_first, is_left, is_open, listed, Order, others}
use Rattle.j39_transfers.specs.declared.kinds.Ending.TheVariants as how
use Rattle.j39_transfers.specs.declared.kinds.Refused.TheVariants as refusal
use Rattle.j39_transfers.specs.declared.kinds.Refused.{Refused as Refusal}
use Rattle.j39_transfers.proofs.LawLemmas.{all_fit, begun_split, found_passes, others_count}
use Rattle.j39_node.proofs.AnswerCases.{answer_by, transfer_accepts}
use Rattle.j39_node.proofs.AnswerCases as cases
use Rattle.j39_node.proofs.MoveSteps.{HeardCase, heard_case}
use Rattle.j39_node.proofs.MoveSteps.HeardCase.{same, done, fails, holds as holding, clears as is_cleared}
use Rattle.j39_node.proofs.MoveLemmas.{heard_open_token, heard_sender, listed as is_listed, other_token}
use Rattle.j39_node.proofs.PortLemmas.{own_is, started}
use Rattle.j39_node.proofs.QueueLemmas.{length_one_more}
use Rattle.j39_node.proofs.TransferEnds.{between, due_open, lost_over, named_open, named_so, OverIf, open_at, over_heard}
use Rattle.j39_node.proofs.ChangeLemmas.{Change, change}
use Rattle.j39_node.proofs.ChangeLemmas.Change.{hears, claims, sends, starts, ends, stays}
use Rattle.j39_node.proofs.OpenLemmas.{heard_open, open_heard, open_told}
use Rattle.j39_transfers.proofs.StepLemmas.{keeps_left}
use Rattle.std.proofs.lemmas.List.Elements.{All-cons, All-head, All-nil}
use Rattle.std.specs.List.{All, find}
use Rattle.std.specs.Result.{is_ok}

answered_before : (w : Who) (later E : List Call) → AreAnswered w (later ++ E) → AreAnswered w E
answered_before w [] E e = e
answered_before w (call ∷ later) E e = answered_before w later E e.0

-- ---- how many are open

module _ (w : Who) (H : List Call) where
  abbrev Running_now : List Running
  Running_now = (transfers_at w H).running

  count_heard : (b : Bool) (now : ℕ) (who : ℕ → Option ℕ) (f : FrameRecord) → length (after 0 w.transfers (heard_events b now who f (transfer_events w H))).running ≡ length Running_now
  count_heard true now who f = length-map Running_now (breaks how.Withdrawn now)
  count_heard false now who f = length-map (map (leaves_in None who now) Running_now) (heard_in_one f now) ∙ length-map Running_now (leaves_in None who now)

  count_taken : (b m : Bool) (now : ℕ) (who : ℕ → Option ℕ) → length (after 0 w.transfers (taken_events b m now who (transfer_events w H))).running ≡ length Running_now
  count_taken true m now who = length-map Running_now (leaves_in None who now)
  count_taken false true now who =
      let p = is_first now Running_now in
      let a = length-append (others p Running_now) (listed (option_map (sent_in_one now) (find p Running_now))) in
      let c = others_count p Running_now in
      let l = one (find p Running_now) in
      omega (arith, a, c, l)
    where
      one : (o : Option Running) → length (listed (option_map (sent_in_one now) o)) ≡ (if has_some o then 1 else 0)
      one None = refl
      one (Some y) = refl
  count_taken false false now who = refl

  begun_count : (r : Result Unit Refusal) (x : Running) (s : TransfersRecord) → length (begun_if r x s).running ≡ length s.running + (if is_ok r then 1 else 0)
  begun_count (Ok u) x s = length_one_more s.running x ∙ omega arith
  begun_count (Err e) x s = omega arith

  count_tried : (now priority group to : ℕ) (bytes : List ℕ) (r : Result ℕ Refused) → r ≡ answer_by (holds w H now) (can_transfer w priority group to bytes) (is_refused_now w H now priority group to bytes) (length (all_transfers w H))
      → length (transfers_at w (At now (Transfer priority group to bytes r) ∷ H)).running ≡ length Running_now + (if is_ok r then 1 else 0)
  count_tried now priority group to bytes r e = go (is_tried r last) refl
    where
      last : Bool
      last = nat_eq (length (all_transfers w H)) 18446744073709551615

      o : Order
      o = order (length (all_transfers w H)) priority group to bytes

      q : Result Unit Refusal
      q = answer o (awake (clock_at w H now) (transfers_at w H))

      untried : (a b c k : Bool) (n : ℕ) (r : Result ℕ Refused) → r ≡ answer_by a b (c || not k) n → is_tried r c ≡ false → is_ok r ≡ false
      untried a b c k n r e t = grind (arith, e, t)

      tried : (a b c k : Bool) (n : ℕ) (r : Result ℕ Refused) → r ≡ answer_by a b (c || not k) n → is_tried r c ≡ true → is_ok r ≡ k
      tried a b c k n r e t = grind (arith, e, t)

      go : (b : Bool) → is_tried r last ≡ b → length (after 0 w.transfers (tried_events b (Begins o (holder w H to) (clock_at w H now)) (transfer_events w H))).running ≡ length Running_now + (if is_ok r then 1 else 0)
      go false t = let z = untried (holds w H now) (can_transfer w priority group to bytes) last (is_ok q) (length (all_transfers w H)) r e t in sym (ap (λ (b : Bool). length Running_now + (if b then 1 else 0)) z ∙ omega arith)
      go true t = begun_count q (begun (transfers_at w H).own o (holder w H to) (clock_at w H now)) (awake (clock_at w H now) (transfers_at w H))
          ∙ ap (λ (b : Bool). length Running_now + (if b then 1 else 0)) (sym (tried (holds w H now) (can_transfer w priority group to bytes) last (is_ok q) (length (all_transfers w H)) r e t))

pub counted : (w : Who) (H : List Call) → AreAnswered w H → length (all_transfers w H) ≡ length (told_transfers H) + length (transfers_at w H).running
counted w [] e = let z = ap length (started w e).0 in omega (arith, z)
counted w (At now (Hear f) ∷ H) e =
    let h = counted w H e.0 in
    let c = count_heard w H (is_lost (address_after w (At now (Hear f) ∷ H))) (clock_at w H now) (holder w (At now (Hear f) ∷ H)) f in omega (arith, h, c)
counted w (At now (TakeFrame (Some f)) ∷ H) e =
    let h = counted w H e.0 in
    let c = count_taken w H (is_claim f) (is_move w H f) (clock_at w H now) (holder w (At now (TakeFrame (Some f)) ∷ H)) in omega (arith, h, c)
counted w (At now (Transfer priority group to bytes (Ok k)) ∷ H) e =
    let h = counted w H e.0 in
    let c = count_tried w H now priority group to bytes (Ok k) e.1 in
    let n = length_one_more (all_transfers w H) (to, Rattle.j39_node.proofs.Common.broadcast_from w group bytes) in omega (arith, h, c, n)
counted w (At now (Transfer priority group to bytes (Err x)) ∷ H) e =
    let h = counted w H e.0 in
    let c = count_tried w H now priority group to bytes (Err x) e.1 in omega (arith, h, c)
counted w (TakeTransferEnded (Some x) ∷ H) e =
    let h = counted w H e.0 in
    let t = open_told w H x e.1 in
    let c = others_count is_over (transfers_at w H).running in
    let f = ap (λ (o : Option Running). (let n : ℕ = if has_some o then 1 else 0 in n)) t.first in
    let n = length_one_more (told_transfers H) x in omega (arith, h, c, f, n)
counted w (call ∷ H) e = counted w H e.0

pub fits : (w : Who) (H : List Call) → length (transfers_at w H).running ≤ w.transfers
fits w H = (all_fit 0 w.transfers (transfer_events w H)).0

-- ---- where none is told

none_over : (xs : List Running) → find is_over xs ≡ None → All (λ x. is_over x ≡ false) xs
none_over [] e = All-nil (λ (x : Running). is_over x ≡ false)
none_over (x ∷ xs) e = go (is_over x) refl (none_over xs) e
  where
    go : (b : Bool) → is_over x ≡ b → (find is_over xs ≡ None → All (λ x. is_over x ≡ false) xs) → (if b then Some x else find is_over xs) ≡ None → All (λ x. is_over x ≡ false) (x ∷ xs)
    go true i k e = absurd (cc)
    go false i k e = All-cons (λ (x : Running). is_over x ≡ false) x xs i (k e)

-- the first that is over has an end
pub some_end : (x : Running) → is_over x ≡ true → (e : TransferEnding) × (ending x ≡ Some e)
some_end x h = go (ending x) refl h
  where
    go : (o : Option TransferEnding) → ending x ≡ o → has_some o ≡ true → (e : TransferEnding) × (ending x ≡ Some e)
    go None i h = absurd (cc)
    go (Some e) i h = (e, i)

none_first : (xs : List Running) → (let none : Option (ℕ × TransferEnding) = None in none) ≡ end_by (find is_over xs) → find is_over xs ≡ None
none_first xs e = go (find is_over xs) refl e
  where
    go : (o : Option Running) → find is_over xs ≡ o → (let none : Option (ℕ × TransferEnding) = None in none) ≡ end_by o → find is_over xs ≡ None
    go None i e = i
    go (Some x) i e =
        let z = some_end x (found_passes is_over xs x i) in
        absurd (none-some (x.token, z.0) (e ∙ ap (option_map (λ (y : TransferEnding). (x.token, y))) z.1))

all_over : (w : Who) (H : List Call) (xs : List Running) → (transfers_at w H).running ≡ xs → AreAnswered w H → is_lost (address_after w H) ≡ true → All (λ x. is_over x ≡ false) xs → xs ≡ []
all_over w H [] e right l h = refl
all_over w H (x ∷ xs) e right l h =
    let at : open_to w (to_whom x) H ≡ Some x = ap (of_whom (to_whom x)) e ∙ ap (λ (b : Bool). if b then Some x else of_whom (to_whom x) xs) (eq-eqb (to_whom x) (to_whom x) refl) in
    absurd (not_both _ (All-head (λ (x : Running). is_over x ≡ false) x xs h) (subst OverIf at (lost_over w (to_whom x) H right l)))

pub all_told : (w : Who) (H : List Call) (c : Controller) → Is w (TakeTransferEnded None ∷ H) c
    → All (λ x. is_over x ≡ false) (transfers_at w H).running × (IsTrue (is_lost (address_after w H)) → length (told_transfers H) ≡ length (all_transfers w H))
all_told w H c is =
    let a = none_over (transfers_at w H).running (none_first (transfers_at w H).running is.answered.1) in
    (a, λ l. (let n = counted w H is.answered.0 in let z = ap length (all_over w H (transfers_at w H).running refl is.answered.0 l a) in omega (arith, n, z)))

-- ---- what stays so of the transfer to an address till its end is told

-- it is the one of this token
pub record Stays (w : Who) (a : ℕ) (Q : Running → Type 0) (token : ℕ) (o : Option Running) : Type 0 where
  pub running : Running
  pub is : o ≡ Some running
  pub token_is : running.token ≡ token
  pub so : Q running

pub record Keeps (w : Who) (a : ℕ) (Q : Running → Type 0) : Type 0 where
  pub hears : (lost : Bool) (who : ℕ → Option ℕ) (f : FrameRecord) (now : ℕ) (x : Running) → Q x → Q (heard_open lost who f now x)
  pub claims : (who : ℕ → Option ℕ) (now : ℕ) (x : Running) → Q x → Q (leaves_in None who now x)
  pub sends : (now : ℕ) (x : Running) (s : Signal) → signal_by now x ≡ Some s → Q x → Q (sent_in_one now x)

module _ (w : Who) (a : ℕ) (Q : Running → Type 0) (token : ℕ) (k : Keeps w a Q) where
  stays_more : (H : List Call) (call : Call) (o q : Option Running) → Change w a H call o q → tells_transfer token call ≡ false → Stays w a Q token o → Stays w a Q token q
  stays_more H call o q (hears now f None) n h = absurd (let z = h.is in cc)
  stays_more H call o q (hears now f (Some x)) n h =
      let z = same_Some x h.running h.is in
      let lost = is_lost (address_after w (At now (Hear f) ∷ H)) in
      let who = holder w (At now (Hear f) ∷ H) in
      record {
        running = heard_open lost who f (clock_at w H now) x;
        is = refl;
        token_is = heard_open_token lost who f (clock_at w H now) x ∙ (ap (λ (y : Running). y.token) z ∙ h.token_is);
        so = k.hears lost who f (clock_at w H now) x (subst Q (sym z) h.so);
      }
  stays_more H call o q (claims now f None c m) n h = absurd (let z = h.is in cc)
  stays_more H call o q (claims now f (Some x) c m) n h =
      let z = same_Some x h.running h.is in
      let who = holder w (At now (TakeFrame (Some f)) ∷ H) in
      record {
        running = leaves_in None who (clock_at w H now) x;
        is = refl;
        token_is = (keeps_left None who (clock_at w H now) x).1 ∙ (ap (λ (y : Running). y.token) z ∙ h.token_is);
        so = k.claims who (clock_at w H now) x (subst Q (sym z) h.so);
      }
  stays_more H call o q (sends now f s i m) n h =
      let z = same_Some s.running h.running h.is in
      record {
        running = sent_in_one (clock_at w H now) s.running;
        is = refl;
        token_is = ap (λ (y : Running). y.token) z ∙ h.token_is;
        so = k.sends (clock_at w H now) s.running s.signal s.said (subst Q (sym z) h.so);
      }
  stays_more H call o q (starts now priority group to j bytes e z) n h = absurd (let z = h.is in cc)
  stays_more H call o q (ends e t z) n h =
      let y = same_Some t.running h.running h.is in
      absurd (not_both _ n (eq-eqb e.0 token (sym t.token ∙ (ap (λ (y : Running). y.token) y ∙ h.token_is))))
  stays_more H call o q (stays c x b m n2 i t u) n h = h

  pub stays_on : (later E : List Call) → AreAnswered w (later ++ E) → NoneTold (tells_transfer token) later → Stays w a Q token (open_to w a E) → Stays w a Q token (open_to w a (later ++ E))
  stays_on [] E r n h = h
  stays_on (call ∷ later) E r n h = stays_more (later ++ E) call (open_to w a (later ++ E)) (open_to w a (call ∷ later ++ E)) (change w a call (later ++ E) r) n.0 (stays_on later E r.0 n.1 h)

-- what is over as that stays so
abbrev EndsAs : TransferEnding → Running → Type 0
EndsAs e x = ending x ≡ Some e

over_as : (e : TransferEnding) (x : Running) → ending x ≡ Some e → is_over x ≡ true
over_as e x h = ap has_some h

named_as : (u : SendState) (b : Option TransferEnding) (e : TransferEnding) → ending_by u b ≡ Some e → ending_by u b ≡ Some e
named_as u b e h = h

ends_broken : (e d : TransferEnding) (now : ℕ) (x : Running) → ending x ≡ Some e → ending (breaks d now x) ≡ Some e
ends_broken e d now x h = ap (λ (b : Bool). ending (if b then x else record x { broken = Some d; last = now })) (over_as e x h) ∙ h

ends_left : (e : TransferEnding) (who : ℕ → Option ℕ) (now : ℕ) (x : Running) → ending x ≡ Some e → ending (leaves_in None who now x) ≡ Some e
ends_left e who now x h = cond_both (is_left None who x) (breaks how.Gone now x) (record x { name = who (to_whom x) }) (λ (y : Running). ending y ≡ Some e) (λ i. ends_broken e how.Gone now x h) (λ i. h)

keeps_end : (w : Who) (a : ℕ) (e : TransferEnding) → Keeps w a (EndsAs e)
keeps_end w a e = record {
  hears = heard;
  claims = λ who now x h. ends_left e who now x h;
  sends = λ now x s i h. absurd (not_both _ (due_open x now s i).1 (over_as e x h));
}
  where
    heard : (lost : Bool) (who : ℕ → Option ℕ) (f : FrameRecord) (now : ℕ) (x : Running) → ending x ≡ Some e → ending (heard_open lost who f now x) ≡ Some e
    heard true who f now x h = ends_broken e how.Withdrawn now x h
    heard false who f now x h = let k = ends_left e who now x h in ap ending (over_heard f now (leaves_in None who now x) (over_as e (leaves_in None who now x) k)) ∙ k

-- then one is told, and its own as that
pub told_then : (w : Who) (a : ℕ) (H later : List Call) (c : Controller) (k : ℕ) (e : TransferEnding) (answer : Option (ℕ × TransferEnding)) (E : List Call)
    → Is w (TakeTransferEnded answer ∷ later ++ E) c → NoneTold (tells_transfer k) later → Stays w a (EndsAs e) k (open_to w a E)
    → (j : ℕ) × (d : TransferEnding) × (answer ≡ Some (j, d)) × (j ≡ k → d ≡ e)
told_then w a H later c k e answer E is n first = go answer is.answered.1
  where
    G : List Call
    G = later ++ E

    s : Stays w a (EndsAs e) k (open_to w a G)
    s = stays_on w a (EndsAs e) k (keeps_end w a e) later E is.answered.0 n first

    its : (xs : List Running) (x : Running) → of_whom a xs ≡ Some x → find is_over xs ≡ None → is_over x ≡ false
    its [] x o f = absurd (cc)
    its (y ∷ xs) x o f = let h = its xs x in grind (arith, h, o, f)

    go : (o : Option (ℕ × TransferEnding)) → o ≡ next_transfer_ended w G → (j : ℕ) × (d : TransferEnding) × (o ≡ Some (j, d)) × (j ≡ k → d ≡ e)
    go None i = absurd (not_both _ (its (transfers_at w G).running s.running s.is (none_first (transfers_at w G).running i)) (over_as e s.running s.so))
    go (Some x) i =
        let t = open_told w G x i in
        let l = is_listed w (to_whom t.running) G t.running is.answered.0 t.is in
        let m = is_listed w a G s.running is.answered.0 s.is in (
          x.0,
          x.1,
          refl,
          λ z.
              let to = other_token w (to_whom t.running) a G t.running s.running l m (t.token ∙ (z ∙ sym s.token_is)) in
              let same = same_Some t.running s.running (sym t.is ∙ (ap (λ (n : ℕ). open_to w n G) to ∙ s.is)) in
              same_Some x.1 e (sym t.ends ∙ (ap ending same ∙ s.so)),
        )

-- ---- an acknowledgment makes it done

acks : (s : SenderRecord) (now : ℕ) (f : FrameRecord) → is_waiting s.state ≡ true → s.highest ≡ packets_of s.message
    → said_between s.destination s.message.source f ≡ Some (Acknowledgment (length s.message.bytes) (packets_of s.message) s.message.pgn) → (send_step s (Heard f) now).after.state ≡ sending.Done
unfolding send_step sending.hears acked
acks s now f e g i = grind (arith, e, g, i)

waits_open : (x : Running) → is_waiting x.sender.state ≡ true → x.broken ≡ None → is_over x ≡ false
waits_open x e b = grind (arith, e, b)

-- it heeds the frame, if who holds its destination stays
pub heeds : (w : Who) (a : ℕ) (H : List Call) (when : ℕ) (f : FrameRecord) (x : Running) → AreAnswered w H → open_to w a H ≡ Some x → is_lost (address_after w (At when (Hear f) ∷ H)) ≡ false
    → is_replaced (holder w H a) (holder w (At when (Hear f) ∷ H) a) ≡ false → is_over x ≡ false → is_spent x ≡ false
    → open_to w a (At when (Hear f) ∷ H) ≡ Some (listens f (clock_at w H when) (record x { name = holder w (At when (Hear f) ∷ H) (to_whom x) }))
heeds w a H when f x right e own held alive room =
    open_heard w a when f H ∙ (ap (option_map (heard_open (is_lost (address_after w (At when (Hear f) ∷ H))) who f (clock_at w H when))) e
    ∙ (ap (λ (b : Bool). (let o : Option Running = Some (heard_open b who f (clock_at w H when) x) in o)) own
    ∙ (ap (λ (b : Bool). (let o : Option Running = Some (heard_in_one f (clock_at w H when) (if b then breaks how.Gone (clock_at w H when) x else y)) in o)) stays_it
    ∙ (λ i. (let o : Option Running = Some (if alive i || room i then y else listens f (clock_at w H when) y) in o)))))
  where
    who : ℕ → Option ℕ
    who = holder w (At when (Hear f) ∷ H)

    y : Running
    y = record x { name = who (to_whom x) }

    stays_it : is_left None who x ≡ false
    stays_it = (λ i. is_replaced (named_so x (holder w H a) (is_lost (address_after w H)) (named_open w a H x right e) alive i) (who (open_at w a H x e i))) ∙ held

pub is_done : (w : Who) (H later : List Call) (c : Controller) (when a : ℕ) (f : FrameRecord) (x : Running) (answer : Option (ℕ × TransferEnding))
    → Is w (TakeTransferEnded answer ∷ later ++ At when (Hear f) ∷ H) c → NoneTold (tells_transfer x.token) later → open_to w a H ≡ Some x
    → IsTrue (is_waiting x.sender.state) → x.sender.highest ≡ packets_of x.sender.message → x.broken ≡ None → is_spent x ≡ false
    → is_lost (address_after w (At when (Hear f) ∷ H)) ≡ false → is_replaced (holder w H a) (holder w (At when (Hear f) ∷ H) a) ≡ false
    → said_between a w.address f ≡ Some (Acknowledgment (length x.sender.message.bytes) (packets_of x.sender.message) x.sender.message.pgn)
    → (k : ℕ) × (e : TransferEnding) × (answer ≡ Some (k, e)) × (k ≡ x.token → e ≡ how.Done)
is_done w H later c when a f x answer is n e waiting highest here room own held says =
    let right = answered_before w later (At when (Hear f) ∷ H) is.answered.0 in
    let b = between w a H x right.0 e in
    let t = open_at w a H x e in
    let z = acks x.sender (clock_at w H when) f waiting highest ((λ i. said_between (t i) (b.source i) f) ∙ says) in
    told_then w a H later c x.token how.Done answer (At when (Hear f) ∷ H) is n (record {
      running = listens f (clock_at w H when) (record x { name = holder w (At when (Hear f) ∷ H) (to_whom x) });
      is = heeds w a H when f x right.0 e own held (waits_open x waiting here) room;
      token_is = refl;
      so = ap (λ (u : SendState). ending_by u x.broken) z;
    })

pub is_gone : (w : Who) (H later : List Call) (c : Controller) (when a : ℕ) (f : FrameRecord) (x : Running) (answer : Option (ℕ × TransferEnding))
    → Is w (TakeTransferEnded answer ∷ later ++ At when (Hear f) ∷ H) c → NoneTold (tells_transfer x.token) later → open_to w a H ≡ Some x → is_over x ≡ false
    → is_lost (address_after w (At when (Hear f) ∷ H)) ≡ false → is_replaced (holder w H a) (holder w (At when (Hear f) ∷ H) a) ≡ true
    → (k : ℕ) × (e : TransferEnding) × (answer ≡ Some (k, e)) × (k ≡ x.token → e ≡ Gone)
is_gone w H later c when a f x answer is n e alive own left =
    let right = answered_before w later (At when (Hear f) ∷ H) is.answered.0 in
    let y = record x { broken = Some how.Gone; last = clock_at w H when } in
    let gone : ending y ≡ Some how.Gone = broken_as x.sender.state x.broken alive in
    told_then w a H later c x.token Gone answer (At when (Hear f) ∷ H) is n (record {
      running = y;
      is = open_heard w a when f H ∙ (ap (option_map (heard_open (is_lost (address_after w (At when (Hear f) ∷ H))) who f (clock_at w H when))) e
          ∙ (ap (λ (b : Bool). (let o : Option Running = Some (heard_open b who f (clock_at w H when) x) in o)) own
          ∙ (ap (λ (b : Bool). (let o : Option Running = Some (heard_in_one f (clock_at w H when) (if b then breaks how.Gone (clock_at w H when) x else record x { name = who (to_whom x) })) in o)) (goes right.0)
          ∙ (ap (λ (b : Bool). (let o : Option Running = Some (heard_in_one f (clock_at w H when) (if b then x else y)) in o)) alive
          ∙ ap Some (over_heard f (clock_at w H when) y (over_as how.Gone y gone))))));
      token_is = refl;
      so = gone;
    })
  where
    who : ℕ → Option ℕ
    who = holder w (At when (Hear f) ∷ H)

    goes : AreAnswered w H → is_left None who x ≡ true
    goes right = (λ i. is_replaced (named_so x (holder w H a) (is_lost (address_after w H)) (named_open w a H x right e) alive i) (who (open_at w a H x e i))) ∙ left

    broken_as : (u : SendState) (b : Option TransferEnding) → has_some (ending_by u b) ≡ false → ending_by u (Some how.Gone) ≡ Some how.Gone
    broken_as u b h = grind (arith, h)

-- ---- what transfer answers

begin_so : (w : Who) (H : List Call) (priority group to : ℕ) (bytes : List ℕ) → AreAnswered w H → can_transfer w priority group to bytes ≡ true → can_begin (transfers_at w H).own (order (length (all_transfers w H)) priority group to bytes) ≡ true
begin_so w H priority group to bytes right e =
    ap (λ (n : ℕ). can_begin n (order (length (all_transfers w H)) priority group to bytes)) (own_is w H right) ∙ parts (nat_lt priority 8) (Rattle.j39_node.proofs.Common.is_sendable group) (nat_le 9 (length bytes) && nat_le (length bytes) 1785) (nat_lt to 254) (not (nat_eq to w.address)) e
  where
    parts : (p s l t o : Bool) → (p && ((s && l) && (t && o))) ≡ true → (t && (o && l)) ≡ true
    parts p s l t o e = grind (arith, e)

answer_not : (b o r n m : Bool) → b ≡ true → is_ok (let q : Result Unit Refusal = if not b then Err refusal.BadValue else if o then Err refusal.Busy else if r then Err refusal.Resting else if n && m then Ok tt else Err refusal.Full in q) ≡ (not o && (not r && (n && m)))
answer_not b o r n m e = grind (arith, e)

boxes_are : (own boxes : ℕ) (E : List Event) → (after own boxes E).boxes ≡ boxes
boxes_are own boxes [] = refl
boxes_are own boxes (Begins o name now ∷ E) =
    let h = boxes_are own boxes E in begun_split (λ (s : TransfersRecord). s.boxes ≡ boxes) o name now (after own boxes E) h (λ e r. h)
boxes_are own boxes (Moves a ∷ E) =
    let h = boxes_are own boxes E in cond_both (can_move a (after own boxes E)) (record (after own boxes E) { own = a }) (after own boxes E) (λ (s : TransfersRecord). s.boxes ≡ boxes) (λ e. h) (λ e. h)
boxes_are own boxes (event ∷ E) = boxes_are own boxes E

module _ (w : Who) (H : List Call) (now priority group to : ℕ) (bytes : List ℕ) (right : AreAnswered w H) where
  abbrev pub Limit : Type 0
  Limit =
      (length (all_transfers w H) ≡ 18446744073709551615)
      ⊎ (IsTrue (is_open to (transfers_at w H).running) ⊎ (IsTrue (is_resting w H now group to)
      ⊎ ((w.transfers ≤ length (transfers_at w H).running)
      ⊎ (2 * w.transfers ≤ length (resting_at w H now) + length (transfers_at w H).running))))

  refused_is : can_transfer w priority group to bytes ≡ true → is_refused_now w H now priority group to bytes
      ≡ (nat_eq (length (all_transfers w H)) 18446744073709551615 || not (not (is_open to (transfers_at w H).running) && (not (is_resting w H now group to)
      && (nat_lt (length (transfers_at w H).running) w.transfers && nat_lt (length (resting_at w H now) + length (transfers_at w H).running) (2 * w.transfers)))))
  refused_is e =
      ap (λ (b : Bool). nat_eq (length (all_transfers w H)) 18446744073709551615 || not b)
      (answer_not (can_begin (transfers_at w H).own (order (length (all_transfers w H)) priority group to bytes)) (is_open to (transfers_at w H).running) (is_resting w H now group to)
      (nat_lt (length (transfers_at w H).running) (transfers_at w H).boxes) (nat_lt (length (resting_at w H now) + length (transfers_at w H).running) (2 * (transfers_at w H).boxes)) (begin_so w H priority group to bytes right e)
      ∙ ap (λ (n : ℕ). not (is_open to (transfers_at w H).running) && (not (is_resting w H now group to) && (nat_lt (length (transfers_at w H).running) n && nat_lt (length (resting_at w H now) + length (transfers_at w H).running) (2 * n))))
      (boxes_are 0 w.transfers (transfer_events w H)))

  pub limits : can_transfer w priority group to bytes ≡ true → is_refused_now w H now priority group to bytes ≡ true → Limit
  limits c e = go _ _ _ _ _ refl refl refl refl refl (sym (refused_is c) ∙ e)
    where
      go : (l o r n m : Bool) → nat_eq (length (all_transfers w H)) 18446744073709551615 ≡ l → is_open to (transfers_at w H).running ≡ o → is_resting w H now group to ≡ r
          → nat_lt (length (transfers_at w H).running) w.transfers ≡ n → nat_lt (length (resting_at w H now) + length (transfers_at w H).running) (2 * w.transfers) ≡ m
          → (l || not (not o && (not r && (n && m)))) ≡ true → Limit
      go true o r n m a b c d f e = inl (eqb-true _ _ a)
      go false true r n m a b c d f e = inr (inl b)
      go false false true n m a b c d f e = inr (inr (inl c))
      go false false false false m a b c d f e = inr (inr (inr (inl (ltb-false _ _ d))))
      go false false false true false a b c d f e = inr (inr (inr (inr (ltb-false _ _ f))))
      go false false false true true a b c d f e = absurd (cc)

  pub free : can_transfer w priority group to bytes ≡ true → is_refused_now w H now priority group to bytes ≡ false → Limit → ⊥
  free c e p = go _ _ _ _ _ refl refl refl refl refl (sym (refused_is c) ∙ e) p
    where
      go : (l o r n m : Bool) → nat_eq (length (all_transfers w H)) 18446744073709551615 ≡ l → is_open to (transfers_at w H).running ≡ o → is_resting w H now group to ≡ r
          → nat_lt (length (transfers_at w H).running) w.transfers ≡ n → nat_lt (length (resting_at w H now) + length (transfers_at w H).running) (2 * w.transfers) ≡ m
          → (l || not (not o && (not r && (n && m)))) ≡ false → Limit → ⊥
      go false false false true true a b c d f e (inl x) = not_both _ a (eq-eqb _ _ x)
      go false false false true true a b c d f e (inr (inl x)) = not_both _ b x
      go false false false true true a b c d f e (inr (inr (inl x))) = not_both _ c x
      go false false false true true a b c d f e (inr (inr (inr (inl x)))) = let l = ltb-true _ _ d in omega (arith, l, x)
      go false false false true true a b c d f e (inr (inr (inr (inr x)))) = let l = ltb-true _ _ f in omega (arith, l, x)
      go l o r n m a b c d f e p = absurd (cc)

pub refused_full : {P : Type 0} (a b f : Bool) (x : ℕ) (answer : Result ℕ Refused) → answer ≡ answer_by a b f x → (b ≡ true → f ≡ true → P) → (b ≡ true → f ≡ false → P → ⊥)
    → (answer ≡ Err Full ↔ (IsTrue a × IsTrue b × P))
refused_full a b f x answer e g i = grind (arith, e, g, i)

pub is_accepted : (w : Who) (H : List Call) (c : Controller) (now priority group to : ℕ) (bytes : List ℕ) (answer : Result ℕ Refused)
    → Is w (At now (Transfer priority group to bytes answer) ∷ H) c → IsTrue (holds w H now) → IsTrue (can_transfer w priority group to bytes)
    → length (all_transfers w H) < 18446744073709551615 → is_open to (transfers_at w H).running ≡ false
    → is_resting w H now group to ≡ false → length (transfers_at w H).running < w.transfers
    → length (resting_at w H now) + length (transfers_at w H).running < 2 * w.transfers → answer ≡ Ok (length (all_transfers w H))
is_accepted w H c now priority group to bytes answer is held can tokens alive rested boxes places =
    cases.is_accepted (holds w H now) (can_transfer w priority group to bytes) (is_refused_now w H now priority group to bytes) (length (all_transfers w H)) answer is.answered.1 held can
    (λ f. no (limits w H now priority group to bytes is.answered.0 can f))
  where
    no : Limit w H now priority group to bytes is.answered.0 → ⊥
    no (inl x) = omega (arith, x, tokens)
    no (inr (inl x)) = not_both _ alive x
    no (inr (inr (inl x))) = not_both _ rested x
    no (inr (inr (inr (inl x)))) = omega (arith, x, boxes)
    no (inr (inr (inr (inr x)))) = omega (arith, x, places)

-- ---- its sender takes the steps of the standard's

stays_ended : (s : SenderRecord) (f : FrameRecord) (now : ℕ) → is_ended s.state ≡ true → (send_step s (Heard f) now).after ≡ s
unfolding send_step
stays_ended s f now e = go _ _ (heard_case s (said_between s.destination s.message.source f) now)
  where
    go : (o : Option ℕ) (r : SenderRecord) → HeardCase s (said_between s.destination s.message.source f) now o r → r ≡ s
    go o r same = refl
    go o r (done w x) = absurd (waits_not s.state e w)
      where
        waits_not : (u : SendState) → is_ended u ≡ true → is_waiting u ≡ true → ⊥
        waits_not u e w = grind (arith, e, w)
    go o r (fails reason w i) = absurd (runs_not s.state e w)
      where
        runs_not : (u : SendState) → is_ended u ≡ true → is_running u ≡ true → ⊥
        runs_not u e w = grind (arith, e, w)
    go o r (holding limit i) = absurd (let z = sym e ∙ ap is_ended i in cc)
    go o r (is_cleared limit next last i n) = absurd (let z = sym e ∙ ap is_ended i in cc)

over_unbroken : (u : SendState) (b : Option TransferEnding) → b ≡ None → has_some (ending_by u b) ≡ true → is_ended u ≡ true
over_unbroken u b e h = grind (arith, e, h)

pub heeds_sender : (w : Who) (a : ℕ) (H : List Call) (when : ℕ) (f : FrameRecord) (x : Running) → AreAnswered w H → open_to w a H ≡ Some x → is_lost (address_after w (At when (Hear f) ∷ H)) ≡ false
    → is_replaced (holder w H a) (holder w (At when (Hear f) ∷ H) a) ≡ false → x.broken ≡ None → is_spent x ≡ false
    → (y : Running) × (open_to w a (At when (Hear f) ∷ H) ≡ Some y) × (y.sender ≡ (send_step x.sender (Heard f) (clock_at w H when)).after)
heeds_sender w a H when f x right e own held here room = go (is_over x) refl
  where
    who : ℕ → Option ℕ
    who = holder w (At when (Hear f) ∷ H)

    lost : Bool
    lost = is_lost (address_after w (At when (Hear f) ∷ H))

    go : (b : Bool) → is_over x ≡ b → (y : Running) × (open_to w a (At when (Hear f) ∷ H) ≡ Some y) × (y.sender ≡ (send_step x.sender (Heard f) (clock_at w H when)).after)
    go false o = (listens f (clock_at w H when) (record x { name = who (to_whom x) }), heeds w a H when f x right e own held o room, refl)
    go true o = (
      heard_open lost who f (clock_at w H when) x,
      open_heard w a when f H ∙ ap (option_map (heard_open lost who f (clock_at w H when))) e,
      heard_sender (λ (s : SenderRecord). s ≡ (send_step x.sender (Heard f) (clock_at w H when)).after) lost who f (clock_at w H when) x
          (sym (stays_ended x.sender f (clock_at w H when) (over_unbroken x.sender.state x.broken here o))) refl,
    )
