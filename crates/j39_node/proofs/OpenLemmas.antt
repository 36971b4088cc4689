-- What each call makes of the transfer to an address.
use Rattle.j39_node.proofs.Common.{[], if◌then◌else◌, ◌++◌, ◌∙◌, ◌∷◌, ◌≡◌, ◌≢◌, address_after, all_transfers, answer, answer_to_transfer, ap, AreAnswered, arith, At, Bool, breaks, Call, carried_by, clock_at, Err, false, FrameRecord, Hear, heard_events, heard_in_one, holder, is_claim, is_lost, is_move, is_over, is_tried, leaves_in, length, List, nat_eq, next_transfer, next_transfer_ended, None, not, of_whom, Ok, open_to, Option, option_map, or_parts, order, refl, Refused, Result, Running, sent_in_one, Some, sym, TakeFrame, taken_events, TakeTransferEnded, to_whom, Transfer, TransferEnding, transfer_events, transfers_at, TransfersRecord, tried_events, true, Who, ℕ}
use Rattle.std.specs.List.{find}
use Rattle.std.specs.Result.{is_ok}
use Rattle.j39_node.proofs.AnswerCases.{transfer_accepts}
use Rattle.j39_node.proofs.PortLemmas.{apart, broken_same, heard_same, left_same, own_is}
use Rattle.j39_transport.specs.Sending.{new_sender}
use Rattle.j39_transfers.proofs.LawLemmas.{answered, begun_another, gone_others, its_heard, its_left, begun_split, its_sent, not_open, of_append, of_map, sent_another, to_begun, told_another}
use Rattle.j39_transfers.proofs.StepLemmas.{IsSame, keeps_broken, keeps_heard, keeps_left}
use Rattle.j39_transfers.proofs.TurnLemmas.{first_due}
use Rattle.j39_transfers.proofs.DueLemmas.{none_due}
use Rattle.j39_transfers.specs.declared.kinds.Ending.TheVariants as how
use Rattle.j39_transfers.specs.declared.kinds.Refused.{Refused as Refusal}
use Rattle.j39_transfers.specs.Events.{after, AreApart, Begins}
use Rattle.j39_transfers.specs.Transfers.{awake, begun, begun_if, end_by, ending, frame_by, frame_of, is_due, leaves, Order, turn}

-- ---- a frame is heard

abbrev pub heard_open : Bool → (ℕ → Option ℕ) → FrameRecord → ℕ → Running → Running
heard_open true holder f now x = breaks how.Withdrawn now x
heard_open false holder f now x = heard_in_one f now (leaves_in None holder now x)

map_twice : (f g : Running → Running) (o : Option Running) → option_map f (option_map g o) ≡ option_map (λ x. f (g x)) o
map_twice f g None = refl
map_twice f g (Some x) = refl

pub open_heard : (w : Who) (a now : ℕ) (f : FrameRecord) (H : List Call) → open_to w a (At now (Hear f) ∷ H)
    ≡ option_map (heard_open (is_lost (address_after w (At now (Hear f) ∷ H))) (holder w (At now (Hear f) ∷ H)) f (clock_at w H now)) (open_to w a H)
open_heard w a now f H = go (is_lost (address_after w (At now (Hear f) ∷ H)))
  where
    time : ℕ
    time = clock_at w H now

    holds : ℕ → Option ℕ
    holds = holder w (At now (Hear f) ∷ H)

    xs : List Running
    xs = (transfers_at w H).running

    go : (b : Bool) → of_whom a (after 0 w.transfers (heard_events b time holds f (transfer_events w H))).running ≡ option_map (heard_open b holds f time) (of_whom a xs)
    go true = of_map (breaks how.Withdrawn time) (keeps_broken how.Withdrawn time) a xs
    go false =
        its_heard (leaves None holds time (transfers_at w H)) time a f
        ∙ (ap (option_map (heard_in_one f time)) (its_left (transfers_at w H) time a None holds) ∙ map_twice (heard_in_one f time) (leaves_in None holds time) (of_whom a xs))

-- it stays the same one
pub heard_token : (lost : Bool) (holder : ℕ → Option ℕ) (f : FrameRecord) (now : ℕ) (x : Running) → (heard_open lost holder f now x).token ≡ x.token
heard_token true holder f now x = (keeps_broken how.Withdrawn now x).1
heard_token false holder f now x = (keeps_heard f now (leaves_in None holder now x)).1 ∙ (keeps_left None holder now x).1

pub heard_open_same : (lost : Bool) (holder : ℕ → Option ℕ) (f : FrameRecord) (now : ℕ) (x : Running) → IsSame x.sender (heard_open lost holder f now x).sender
heard_open_same true holder f now x = broken_same how.Withdrawn now x
heard_open_same false holder f now x =
    let a = left_same holder now x in
    let b = heard_same f now (leaves_in None holder now x) in
    (b.0 ∙ a.0, b.1 ∙ a.1)

-- ---- a frame is taken

-- a claim of its own
pub open_claimed : (w : Who) (a now : ℕ) (f : FrameRecord) (H : List Call) → is_claim f ≡ true
    → open_to w a (At now (TakeFrame (Some f)) ∷ H) ≡ option_map (leaves_in None (holder w (At now (TakeFrame (Some f)) ∷ H)) (clock_at w H now)) (open_to w a H)
open_claimed w a now f H e =
    ap (λ (b : Bool). of_whom a (after 0 w.transfers (taken_events b (is_move w H f) (clock_at w H now) (holder w (At now (TakeFrame (Some f)) ∷ H)) (transfer_events w H))).running) e
    ∙ its_left (transfers_at w H) (clock_at w H now) a None (holder w (At now (TakeFrame (Some f)) ∷ H))

-- neither a claim nor one of a transfer
pub open_beside : (w : Who) (a now : ℕ) (f : FrameRecord) (H : List Call) → is_claim f ≡ false → is_move w H f ≡ false
    → open_to w a (At now (TakeFrame (Some f)) ∷ H) ≡ open_to w a H
open_beside w a now f H e m =
    λ i. of_whom a (after 0 w.transfers (taken_events (e i) (m i) (clock_at w H now) (holder w (At now (TakeFrame (Some f)) ∷ H)) (transfer_events w H))).running

-- what is found is that to its address
found_is : (p : Running → Bool) (xs : List Running) (y : Running) → AreApart xs → find p xs ≡ Some y → of_whom (to_whom y) xs ≡ Some y
found_is p [] y h e = absurd (cc)
found_is p (x ∷ xs) y h e = go (p x) refl (found_is p xs y h.1) e
  where
    go : (b : Bool) → p x ≡ b → (find p xs ≡ Some y → of_whom (to_whom y) xs ≡ Some y) → (if b then Some x else find p xs) ≡ Some y → of_whom (to_whom y) (x ∷ xs) ≡ Some y
    go true i k e = grind (arith, e)
    go false i k e =
        let m = k e in
        let n = h.0 in
        grind (arith, m, n)

pub turn_open : (w : Who) (H : List Call) (now : ℕ) (y : Running) → turn (clock_at w H now) (transfers_at w H).running ≡ Some y → open_to w (to_whom y) H ≡ Some y
turn_open w H now y t = found_is _ (transfers_at w H).running y (apart w H) t

-- where no transfer sends one, that to an address doesn't either
pub none_open_due : (w : Who) (a : ℕ) (H : List Call) (now : ℕ) (x : Running) → next_transfer w H now ≡ None → open_to w a H ≡ Some x → is_due (clock_at w H now) x ≡ false
none_open_due w a H now x e o = go (turn (clock_at w H now) (transfers_at w H).running) refl e
  where
    says : (y : Running) → is_due (clock_at w H now) y ≡ true → option_map carried_by (frame_of (clock_at w H now) y) ≡ None → is_due (clock_at w H now) x ≡ false
    says y i z = grind (arith, i, z)

    go : (t : Option Running) → turn (clock_at w H now) (transfers_at w H).running ≡ t → option_map carried_by (frame_by (clock_at w H now) t) ≡ None
        → is_due (clock_at w H now) x ≡ false
    go None i z = none_due (clock_at w H now) a (transfers_at w H).running x i o
    go (Some y) i z = says y (first_due (clock_at w H now) (transfers_at w H).running y i) z

-- one of a transfer
pub open_sent : (w : Who) (now : ℕ) (f : FrameRecord) (H : List Call) (y : Running) → is_claim f ≡ false → is_move w H f ≡ true
    → turn (clock_at w H now) (transfers_at w H).running ≡ Some y
    → (open_to w (to_whom y) H ≡ Some y) × (open_to w (to_whom y) (At now (TakeFrame (Some f)) ∷ H) ≡ Some (sent_in_one (clock_at w H now) y))
open_sent w now f H y e m t = (
  turn_open w H now y t,
  (λ i. of_whom (to_whom y) (after 0 w.transfers (taken_events (e i) (m i) (clock_at w H now) (holder w (At now (TakeFrame (Some f)) ∷ H)) (transfer_events w H))).running)
      ∙ its_sent 0 w.transfers (clock_at w H now) (transfer_events w H) y t,
)

pub open_sent_other : (w : Who) (a now : ℕ) (f : FrameRecord) (H : List Call) (y : Running) → is_claim f ≡ false → is_move w H f ≡ true
    → turn (clock_at w H now) (transfers_at w H).running ≡ Some y → to_whom y ≢ a → open_to w a (At now (TakeFrame (Some f)) ∷ H) ≡ open_to w a H
open_sent_other w a now f H y e m t n =
    (λ i. of_whom a (after 0 w.transfers (taken_events (e i) (m i) (clock_at w H now) (holder w (At now (TakeFrame (Some f)) ∷ H)) (transfer_events w H))).running)
    ∙ sent_another (transfers_at w H) (clock_at w H now) a y t n

-- ---- a transfer is accepted, or refused

-- how one begins
abbrev pub begun_to : Who → List Call → ℕ → ℕ → ℕ → ℕ → List ℕ → Running
begun_to w H now priority group to bytes = begun w.address (order (length (all_transfers w H)) priority group to bytes) (holder w H to) (clock_at w H now)

ok_of : (r : Result (Unit {0}) Refusal) → is_ok r ≡ true → r ≡ Ok tt
ok_of (Ok u) e = refl
ok_of (Err x) e = absurd (cc)

not_not : (b : Bool) → not b ≡ false → b ≡ true
not_not true e = refl
not_not false e = absurd (cc)

pub open_begun : (w : Who) (now priority group to k : ℕ) (bytes : List ℕ) (H : List Call) → AreAnswered w H → Ok k ≡ answer_to_transfer w H now priority group to bytes
    → (open_to w to H ≡ None) × (open_to w to (At now (Transfer priority group to bytes (Ok k)) ∷ H) ≡ Some (begun_to w H now priority group to bytes))
unfolding new_sender
open_begun w now priority group to k bytes H right e = (none, begins_so)
  where
    o : Order
    o = order (length (all_transfers w H)) priority group to bytes

    s : TransfersRecord
    s = awake (clock_at w H now) (transfers_at w H)

    ok : answer o s ≡ Ok tt
    ok = ok_of (answer o s) (not_not (is_ok (answer o s)) (or_parts (nat_eq (length (all_transfers w H)) 18446744073709551615) (not (is_ok (answer o s))) (transfer_accepts w H now priority group to k bytes e).2).1)

    none : of_whom to (transfers_at w H).running ≡ None
    none = not_open to (transfers_at w H).running (answered o s tt ok).0

    x : Running
    x = begun (transfers_at w H).own o (holder w H to) (clock_at w H now)

    last : of_whom to ((transfers_at w H).running ++ x ∷ []) ≡ Some x
    last = of_append to (transfers_at w H).running (x ∷ []) none ∙ (let t = to_begun (transfers_at w H).own o (holder w H to) (clock_at w H now) in grind (arith, t))

    begins_so : of_whom to (begun_if (answer o s) x s).running ≡ Some (begun_to w H now priority group to bytes)
    begins_so =
        ap (λ (r : Result (Unit {0}) Refusal). of_whom to (begun_if r x s).running) ok
        ∙ (last ∙ ap (λ (n : ℕ). (let q : Option Running = Some (begun n o (holder w H to) (clock_at w H now)) in q)) (own_is w H right))

pub open_begun_other : (w : Who) (a now priority group to : ℕ) (bytes : List ℕ) (answer : Result ℕ Refused) (H : List Call) → to ≢ a
    → open_to w a (At now (Transfer priority group to bytes answer) ∷ H) ≡ open_to w a H
open_begun_other w a now priority group to bytes answer H n = go (is_tried answer (nat_eq (length (all_transfers w H)) 18446744073709551615))
  where
    o : Order
    o = order (length (all_transfers w H)) priority group to bytes

    go : (b : Bool) → of_whom a (after 0 w.transfers (tried_events b (Begins o (holder w H to) (clock_at w H now)) (transfer_events w H))).running ≡ open_to w a H
    go true = begun_another (transfers_at w H) (clock_at w H now) a o (holder w H to) n
    go false = refl

-- one that is open stays
pub open_stays : (w : Who) (a now priority group to : ℕ) (bytes : List ℕ) (answer : Result ℕ Refused) (H : List Call) (x : Running) → open_to w a H ≡ Some x
    → open_to w a (At now (Transfer priority group to bytes answer) ∷ H) ≡ Some x
open_stays w a now priority group to bytes answer H x e = go (is_tried answer (nat_eq (length (all_transfers w H)) 18446744073709551615))
  where
    o : Order
    o = order (length (all_transfers w H)) priority group to bytes

    front : (xs : List Running) (y : Running) → of_whom a xs ≡ Some x → of_whom a (xs ++ y ∷ []) ≡ Some x
    front [] y i = absurd (cc)
    front (z ∷ xs) y i = let h = front xs y in grind (arith, h, i)

    go : (b : Bool) → of_whom a (after 0 w.transfers (tried_events b (Begins o (holder w H to) (clock_at w H now)) (transfer_events w H))).running ≡ Some x
    go true = begun_split (λ (s : TransfersRecord). of_whom a s.running ≡ Some x) o (holder w H to) (clock_at w H now) (transfers_at w H) e
        (λ i r. front (transfers_at w H).running (begun (transfers_at w H).own o (holder w H to) (clock_at w H now)) e)
    go false = e

-- ---- the end of one is told

-- it is the first that is over
pub record Told (w : Who) (H : List Call) (x : ℕ × TransferEnding) : Type 0 where
  pub running : Running
  pub first : find is_over (transfers_at w H).running ≡ Some running
  pub is : open_to w (to_whom running) H ≡ Some running
  pub ends : ending running ≡ Some x.1
  pub token : running.token ≡ x.0
  pub gone : open_to w (to_whom running) (TakeTransferEnded (Some x) ∷ H) ≡ None
  pub others : (a : ℕ) → to_whom running ≢ a → open_to w a (TakeTransferEnded (Some x) ∷ H) ≡ open_to w a H

ends_by : (y : Running) (o : Option TransferEnding) (x : ℕ × TransferEnding) → Some x ≡ option_map (λ e. (y.token, e)) o → (o ≡ Some x.1) × (y.token ≡ x.0)
ends_by y None x e = absurd (cc)
ends_by y (Some z) x e = let k : x ≡ (y.token, z) = cc in (ap (λ (p : ℕ × TransferEnding). Some p.1) (sym k), ap (λ (p : ℕ × TransferEnding). p.0) (sym k))

pub open_told : (w : Who) (H : List Call) (x : ℕ × TransferEnding) → Some x ≡ next_transfer_ended w H → Told w H x
open_told w H x e = go (find is_over (transfers_at w H).running) refl e
  where
    go : (o : Option Running) → find is_over (transfers_at w H).running ≡ o → Some x ≡ end_by o → Told w H x
    go None i e = absurd (cc)
    go (Some y) i e =
        let z = ends_by y (ending y) x e in
        record {
          running = y;
          first = i;
          is = found_is is_over (transfers_at w H).running y (apart w H) i;
          ends = z.0;
          token = z.1;
          gone = gone_others is_over (transfers_at w H).running y (apart w H) i;
          others = λ a n. told_another (transfers_at w H) a y i n;
        }
