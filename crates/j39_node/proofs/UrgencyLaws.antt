-- Which transfer goes first: its priority number is the one that was handed in with its message, and none that sends a frame has a smaller.
use Rattle.j39_node.proofs.Common.{[], ◌++◌, ◌||◌, ◌∙◌, ◌∷◌, ◌≡◌, ◌≤◌, all_transfers, ap, AreAnswered, arith, At, Bool, breaks, broadcast_from, Call, clock_at, cond_both, Controller, false, FrameRecord, Hear, holder, Is, is_lost, address_after, is_move, is_over, is_spent, IsTrue, leaves_in, length, List, listens, None, Ok, open_to, Option, option_map, refl, Running, same_Some, slice_get, Some, subst, sym, TakeFrame, to_whom, Transfer, transfers_at, TransferEnding, true, Who, ℕ}
use Rattle.j39_frame.specs.Identifier.{destination_of}
use Rattle.j39_node.specs.Transfers.{priorities}
use Rattle.j39_node.proofs.ChangeLemmas.{Change, change}
use Rattle.j39_node.proofs.ChangeLemmas.Change.{hears, claims, sends, starts, ends, stays}
use Rattle.j39_node.proofs.MoveLemmas.{heard_open_token, none_first}
use Rattle.j39_node.proofs.OpenLemmas.{heard_open}
use Rattle.j39_node.proofs.QueueLemmas.{get_last, length_one_more}
use Rattle.j39_node.proofs.TransferLaws.{sent_one, sent_to}
use Rattle.j39_node.proofs.WithdrawLemmas.{get_front}
use Rattle.j39_transfers.proofs.StepLemmas.{keeps_left}
use Rattle.j39_transfers.proofs.TurnLemmas.{most_urgent}
use Rattle.j39_transfers.specs.Transfers.{is_due, is_left}
use Rattle.j39_transfers.specs.declared.kinds.Ending.TheVariants as how

-- ---- what happens to a transfer leaves its number

broken_priority : (e : TransferEnding) (now : ℕ) (x : Running) → (breaks e now x).priority ≡ x.priority
broken_priority e now x = cond_both (is_over x) x (record x { broken = Some e; last = now }) (λ (y : Running). y.priority ≡ x.priority) (λ i. refl) (λ i. refl)

left_priority : (who : ℕ → Option ℕ) (now : ℕ) (x : Running) → (leaves_in None who now x).priority ≡ x.priority
left_priority who now x =
    cond_both (is_left None who x) (breaks how.Gone now x) (record x { name = who (to_whom x) }) (λ (y : Running). y.priority ≡ x.priority)
    (λ i. broken_priority how.Gone now x) (λ i. refl)

heard_priority : (lost : Bool) (who : ℕ → Option ℕ) (f : FrameRecord) (now : ℕ) (x : Running) → (heard_open lost who f now x).priority ≡ x.priority
heard_priority true who f now x = broken_priority how.Withdrawn now x
heard_priority false who f now x =
    let y = leaves_in None who now x in
    cond_both (is_over y || is_spent y) y (listens f now y) (λ (z : Running). z.priority ≡ x.priority) (λ i. left_priority who now x) (λ i. left_priority who now x)

-- ---- it is the one that was handed in

abbrev IsNumbered : List Call → Running → Type 0
IsNumbered H x = slice_get (priorities H) x.token ≡ Some x.priority

abbrev NumberedIf : List Call → Option Running → Type 0
NumberedIf H None = Unit {0}
NumberedIf H (Some x) = IsNumbered H x

numbers_stay : (call : Call) (H : List Call) (k n : ℕ) → slice_get (priorities H) k ≡ Some n → slice_get (priorities (call ∷ H)) k ≡ Some n
numbers_stay (At now (Transfer priority group to bytes (Ok j))) H k n e = get_front (priorities H) (priority ∷ []) k n e
numbers_stay call H k n e = e

numbered_so : (call : Call) (H : List Call) (old new : Running) → IsNumbered H old → new.token ≡ old.token → new.priority ≡ old.priority → IsNumbered (call ∷ H) new
numbered_so call H old new h t p = ap (slice_get (priorities (call ∷ H))) t ∙ (numbers_stay call H old.token old.priority h ∙ (λ i. Some (sym p i)))

numbered_map : (call : Call) (H : List Call) (g : Running → Running) (o : Option Running) → ((x : Running) → ((g x).token ≡ x.token) × ((g x).priority ≡ x.priority))
    → NumberedIf H o → NumberedIf (call ∷ H) (option_map g o)
numbered_map call H g None k h = h
numbered_map call H g (Some x) k h = numbered_so call H x (g x) h (k x).0 (k x).1

as_many : (w : Who) (H : List Call) → length (priorities H) ≡ length (all_transfers w H)
as_many w [] = refl
as_many w (At now (Transfer priority group to bytes (Ok k)) ∷ H) =
    let a = length_one_more (priorities H) priority in
    let b = length_one_more (all_transfers w H) (to, broadcast_from w group bytes) in
    let h = as_many w H in omega (arith, a, b, h)
as_many w (call ∷ H) = as_many w H

numbered_more : (w : Who) (a : ℕ) (H : List Call) (call : Call) (o q : Option Running) → Change w a H call o q → NumberedIf H o → NumberedIf (call ∷ H) q
numbered_more w a H call o q (hears now f x) h =
    let lost = is_lost (address_after w (At now (Hear f) ∷ H)) in
    let who = holder w (At now (Hear f) ∷ H) in
    numbered_map (At now (Hear f)) H (heard_open lost who f (clock_at w H now)) x
    (λ y. (heard_open_token lost who f (clock_at w H now) y, heard_priority lost who f (clock_at w H now) y)) h
numbered_more w a H call o q (claims now f x c m) h =
    let who = holder w (At now (TakeFrame (Some f)) ∷ H) in
    numbered_map (At now (TakeFrame (Some f))) H (leaves_in None who (clock_at w H now)) x
    (λ y. ((keeps_left None who (clock_at w H now) y).1, left_priority who (clock_at w H now) y)) h
numbered_more w a H call o q (sends now f s z m) h = h
numbered_more w a H call o q (starts now priority group to k bytes e z) h =
    ap (slice_get (priorities H ++ priority ∷ [])) (sym (as_many w H)) ∙ get_last (priorities H) priority
numbered_more w a H call o q (ends e t z) h = tt
numbered_more w a H call None q (stays c x b m n i t u) h = h
numbered_more w a H call (Some y) q (stays c x b m n i t u) h = numbered_so c H y y h refl refl

numbered : (w : Who) (a : ℕ) (H : List Call) → AreAnswered w H → NumberedIf H (open_to w a H)
numbered w a [] e = subst (NumberedIf []) (sym (none_first w a e)) tt
numbered w a (call ∷ H) e = numbered_more w a H call (open_to w a H) (open_to w a (call ∷ H)) (change w a call H e) (numbered w a H e.0)

pub numbered_open : (w : Who) (H : List Call) (c : Controller) (a : ℕ) (x : Running) → Is w H c → open_to w a H ≡ Some x
    → slice_get (priorities H) x.token ≡ Some x.priority
numbered_open w H c a x is e = subst (NumberedIf H) e (numbered w a H is.answered)

-- ---- none that sends a frame has a smaller

pub goes_first : (w : Who) (H : List Call) (c : Controller) (now a b : ℕ) (f : FrameRecord) (x y : Running)
    → Is w (At now (TakeFrame (Some f)) ∷ H) c → IsTrue (is_move w H f) → destination_of f.id ≡ Some a → open_to w a H ≡ Some x
    → open_to w b H ≡ Some y → IsTrue (is_due (clock_at w H now) y) → x.priority ≤ y.priority
goes_first w H c now a b f x y is p d e o due =
    let s = sent_one w H c now f is p in
    let z = sent_to w H now a f s d in
    let k = same_Some s.running x (sym s.is ∙ (ap (λ (n : ℕ). open_to w n H) z ∙ e)) in
    subst (λ (r : Running). r.priority ≤ y.priority) k (most_urgent (clock_at w H now) b (transfers_at w H).running s.running y s.turn_is o due)
