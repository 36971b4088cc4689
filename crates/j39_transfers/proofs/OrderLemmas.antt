-- In which order packets go, and how transfers end.
use Rattle.std.specs.Prelude.{max}
use Rattle.j39_transport.specs.Cutting.{packet_data}
use Rattle.j39_transport.specs.Message.{packets_of}
use Rattle.j39_transport.specs.Sending.{aborted, acknowledged, cleared, Done, Failed, hears, Idle, is_running, new_sender, request_of, send_step, SenderRecord, Sending, SendResult, sends_packet, SendState, silent, Tick, ticks_in, Waiting}
use Rattle.j39_transport.specs.Signals.{Abort, Acknowledgment, Packet, said_between, Signal}
use Rattle.j39_transfers.specs.Events.{after, Begins, Event, Hears, Leaves, Loses, Moves, Sends, Tells}
use Rattle.j39_transfers.specs.Transfers.{can_move, is_ended, signal_by}
use Rattle.j39_transfers.proofs.CourseLemmas.{clears_to, Hearing, hearing, holds, over, same}
use Rattle.j39_transfers.proofs.LawLemmas.{begun_split}
use Rattle.j39_transport.specs.Protocol.{timeout, timer_t3}
use Rattle.j39_transport.specs.SenderNext.{granted_by}
use Rattle.j39_transfers.specs.declared.kinds.Ending.{Ending}
use Rattle.j39_transfers.specs.declared.kinds.Ending.TheVariants as how
use Rattle.j39_transfers.proofs.Common.{Bool, FrameRecord, List, None, Option, Order, Some, Transfer, TransfersRecord, [], append-nil, arith, begun, breaks, cond_both, ending, false, find, gives_up, hears_in, if◌then◌else◌, is_due, is_first, is_left, is_over, is_spent, leaves_in, length, listed, listens, map, nat_eq, nat_lt, of, option_map, others, refl, sends_in, subst, sym, to, true, turn, ℕ, ◌++◌, ◌+◌, ◌==◌, ◌||◌, ◌∷◌, ◌≡◌, ◌≢◌, ◌≤◌}

-- ---- what goes

pub request_goes : (now : ℕ) (x : Transfer) → x.broken ≡ None → x.sender.state ≡ Idle → signal_by now x ≡ Some (request_of x.sender.message)
unfolding send_step ticks_in
request_goes now x b e = grind (arith, b, e)

pub packet_goes : (now k last : ℕ) (x : Transfer) → x.broken ≡ None → x.spent ≤ 64 → x.sender.state ≡ Sending k last → signal_by now x ≡ Some (Packet k (packet_data x.sender.message.bytes k))
unfolding send_step ticks_in sends_packet
packet_goes now k last x b s e = grind (arith, b, s, e)

pub packet_counts : (now k last : ℕ) (x : Transfer) → x.spent ≤ 64 → x.sender.state ≡ Sending k last → (sends_in now x).sender.highest ≡ max x.sender.highest k
unfolding send_step ticks_in sends_packet
packet_counts now k last x s e = grind (arith, s, e)

-- ---- how it ends

done_by : (f : FrameRecord) (now : ℕ) (x : Transfer) → is_over x ≡ false → ending (hears_in f now x) ≡ Some how.Done
    → (said_between x.sender.destination x.sender.message.source f ≡ Some (Acknowledgment (length x.sender.message.bytes) (packets_of x.sender.message) x.sender.message.pgn))
    × (x.sender.highest ≡ packets_of x.sender.message)
unfolding send_step hears cleared acknowledged aborted
done_by f now x o e = (grind (arith, o, e), grind (arith, o, e))

pub done_heard : (f : FrameRecord) (now : ℕ) (x : Transfer) → is_over x ≡ false → ending (hears_in f now x) ≡ Some how.Done
    → said_between x.sender.destination x.sender.message.source f ≡ Some (Acknowledgment (length x.sender.message.bytes) (packets_of x.sender.message) x.sender.message.pgn)
done_heard f now x o e = (done_by f now x o e).0

pub done_last : (f : FrameRecord) (now : ℕ) (x : Transfer) → is_over x ≡ false → ending (hears_in f now x) ≡ Some how.Done → x.sender.highest ≡ packets_of x.sender.message
done_last f now x o e = (done_by f now x o e).1

pub failed_by : (f : FrameRecord) (now reason : ℕ) (x : Transfer) → is_over x ≡ false → ending (hears_in f now x) ≡ Some (how.Failed reason)
    → said_between x.sender.destination x.sender.message.source f ≡ Some (Abort reason x.sender.message.pgn)
unfolding send_step hears cleared acknowledged aborted
failed_by f now reason x o e = grind (arith, o, e)

pub sent_failed : (now reason : ℕ) (x : Transfer) → is_due now x ≡ true → ending (sends_in now x) ≡ Some (how.Failed reason) → signal_by now x ≡ Some (Abort reason x.sender.message.pgn)
unfolding send_step ticks_in sends_packet aborted
sent_failed now reason x d e = grind (arith, d, e)

pub sent_undone : (now : ℕ) (x : Transfer) → is_due now x ≡ true → ending (sends_in now x) ≢ Some how.Done
unfolding send_step ticks_in sends_packet aborted
sent_undone now x d = λ e. grind (arith, d, e)

-- ---- over all

-- each of them has it
abbrev Each : (Transfer → Type 0) → List Transfer → Type 0
Each P [] = Unit {0}
Each P (x ∷ xs) = P x × Each P xs

module _ (P : Transfer → Type 0) where
  each_of : (a : ℕ) (xs : List Transfer) (x : Transfer) → Each P xs → of a xs ≡ Some x → P x
  each_of a [] x h e = absurd (cc)
  each_of a (z ∷ xs) x h e = go (nat_eq a (to z)) e (each_of a xs x h.1)
    where
      go : (b : Bool) → (if b then Some z else of a xs) ≡ Some x → (of a xs ≡ Some x → P x) → P x
      go true e k = let i : z ≡ x = cc in subst P i h.0
      go false e k = k e

  each_map : (f : Transfer → Transfer) → ((x : Transfer) → P x → P (f x)) → (xs : List Transfer) → Each P xs → Each P (map f xs)
  each_map f k [] h = tt
  each_map f k (x ∷ xs) h = (k x h.0, each_map f k xs h.1)

  each_others : (p : Transfer → Bool) (xs : List Transfer) → Each P xs → Each P (others p xs)
  each_others p [] h = tt
  each_others p (x ∷ xs) h = cond_both (p x) xs (x ∷ others p xs) (Each P) (λ e. h.1) (λ e. (h.0, each_others p xs h.1))

  each_found : (p : Transfer → Bool) (xs : List Transfer) (y : Transfer) → Each P xs → find p xs ≡ Some y → P y
  each_found p [] y h e = absurd (cc)
  each_found p (x ∷ xs) y h e = go (p x) e (each_found p xs y h.1)
    where
      go : (b : Bool) → (if b then Some x else find p xs) ≡ Some y → (find p xs ≡ Some y → P y) → P y
      go true e k = let i : x ≡ y = cc in subst P i h.0
      go false e k = k e

  each_append : (xs : List Transfer) (y : Transfer) → Each P xs → P y → Each P (xs ++ y ∷ [])
  each_append [] y h i = (i, tt)
  each_append (x ∷ xs) y h i = (h.0, each_append xs y h.1 i)

-- a packet's number is at most one above the highest that was sent
abbrev IsNext : SendState → ℕ → Type 0
IsNext Idle highest = Unit {0}
IsNext (Waiting limit) highest = Unit {0}
IsNext (Sending k last) highest = k ≤ highest + 1
IsNext Done highest = Unit {0}
IsNext (Failed reason) highest = Unit {0}

abbrev InOrder : Transfer → Type 0
InOrder x = IsNext x.sender.state x.sender.highest

ended_next : (st : SendState) (highest : ℕ) → is_ended st ≡ true → IsNext st highest
ended_next st highest e = grind (arith, e)

next_hears : (s : SenderRecord) (now : ℕ) (o : Option Signal) → IsNext s.state s.highest → IsNext (hears o now s).state (hears o now s).highest
next_hears s now o h = go (hears o now s) (granted_by s o) (hearing s now o)
  where
    go : (r : SenderRecord) (q : Option ℕ) → Hearing s now r q → IsNext r.state r.highest
    go r q same = h
    go r q (over st e) = ended_next st s.highest e
    go r q (holds w) = tt
    go r q (clears_to p e w a b c d) = d

next_ticks : (st : SendState) (now : ℕ) (s : SenderRecord) → s.state ≡ st → IsNext st s.highest → IsNext (ticks_in st now s).after.state (ticks_in st now s).after.highest
unfolding ticks_in sends_packet
next_ticks Idle now s e h = tt
next_ticks (Waiting limit) now s e h =
    cond_both (nat_lt (s.since + limit) now) (record { after = record s { state = Failed timeout }; says = Some (Abort timeout s.message.pgn) }) (silent s) (λ (r : SendResult). IsNext r.after.state r.after.highest)
    (λ i. tt) (λ i. subst (λ (st : SendState). IsNext st s.highest) (sym e) tt)
next_ticks (Sending k last) now s e h =
    cond_both (k == last) (Waiting timer_t3) (Sending (k + 1) last) (λ (st : SendState). IsNext st (max s.highest k)) (λ i. tt) (λ i. omega arith)
next_ticks Done now s e h = subst (λ (st : SendState). IsNext st s.highest) (sym e) tt
next_ticks (Failed reason) now s e h = subst (λ (st : SendState). IsNext st s.highest) (sym e) tt

next_aborts : (reason : ℕ) (s : SenderRecord) → IsNext s.state s.highest → IsNext (aborted reason s).state (aborted reason s).highest
unfolding aborted
next_aborts reason s h = cond_both (is_running s.state) (record s { state = Failed reason }) s (λ (r : SenderRecord). IsNext r.state r.highest) (λ e. tt) (λ e. h)

next_heard : (f : FrameRecord) (now : ℕ) (x : Transfer) → InOrder x → InOrder (hears_in f now x)
unfolding send_step
next_heard f now x h = cond_both (is_over x || is_spent x) x (listens f now x) InOrder (λ e. h) (λ e. next_hears x.sender now (said_between x.sender.destination x.sender.message.source f) h)

next_sent : (now : ℕ) (x : Transfer) → InOrder x → InOrder (sends_in now x)
unfolding send_step
next_sent now x h = cond_both (gives_up x) (aborted 5 x.sender) (send_step x.sender Tick now).after (λ (s : SenderRecord). IsNext s.state s.highest)
    (λ e. next_aborts 5 x.sender h) (λ e. next_ticks x.sender.state now x.sender refl h)

next_broken : (e : Ending) (now : ℕ) (x : Transfer) → InOrder x → InOrder (breaks e now x)
next_broken e now x h = cond_both (is_over x) x (record x { broken = Some e; last = now }) InOrder (λ i. h) (λ i. h)

next_left : (gone : Option ℕ) (holder : ℕ → Option ℕ) (now : ℕ) (x : Transfer) → InOrder x → InOrder (leaves_in gone holder now x)
next_left gone holder now x h = cond_both (is_left gone holder x) (breaks how.Gone now x) (record x { name = holder (to x) }) InOrder (λ i. next_broken how.Gone now x h) (λ i. h)

next_begun : (own : ℕ) (o : Order) (name : Option ℕ) (now : ℕ) → InOrder (begun own o name now)
unfolding new_sender
next_begun own o name now = tt

each_next : (own boxes : ℕ) (E : List Event) → Each InOrder (after own boxes E).running
each_next own boxes [] = tt
each_next own boxes (Begins o name now ∷ E) =
    let s = after own boxes E in
    begun_split (λ (x : TransfersRecord). Each InOrder x.running) o name now s (each_next own boxes E) (λ e r. each_append InOrder s.running (begun s.own o name now) (each_next own boxes E) (next_begun s.own o name now))
each_next own boxes (Hears f now ∷ E) = each_map InOrder (hears_in f now) (next_heard f now) (after own boxes E).running (each_next own boxes E)
each_next own boxes (Sends now ∷ E) = go (turn now (after own boxes E).running) refl (each_next own boxes E)
  where
    go : (o : Option Transfer) → turn now (after own boxes E).running ≡ o → Each InOrder (after own boxes E).running
        → Each InOrder (others (is_first now (after own boxes E).running) (after own boxes E).running ++ listed (option_map (sends_in now) o))
    go None e h = subst (Each InOrder) (sym (append-nil (others (is_first now (after own boxes E).running) (after own boxes E).running)))
        (each_others InOrder (is_first now (after own boxes E).running) (after own boxes E).running h)
    go (Some y) e h = each_append InOrder (others (is_first now (after own boxes E).running) (after own boxes E).running) (sends_in now y)
        (each_others InOrder (is_first now (after own boxes E).running) (after own boxes E).running h) (next_sent now y (each_found InOrder (is_first now (after own boxes E).running) (after own boxes E).running y h e))
each_next own boxes (Tells ∷ E) = each_others InOrder is_over (after own boxes E).running (each_next own boxes E)
each_next own boxes (Leaves gone holder now ∷ E) = each_map InOrder (leaves_in gone holder now) (next_left gone holder now) (after own boxes E).running (each_next own boxes E)
each_next own boxes (Loses now ∷ E) = each_map InOrder (breaks how.Withdrawn now) (next_broken how.Withdrawn now) (after own boxes E).running (each_next own boxes E)
each_next own boxes (Moves a ∷ E) = cond_both (can_move a (after own boxes E)) (record (after own boxes E) { own = a }) (after own boxes E) (λ (s : TransfersRecord). Each InOrder s.running)
    (λ e. each_next own boxes E) (λ e. each_next own boxes E)

pub packet_next : (own boxes a k last : ℕ) (E : List Event) (x : Transfer) → of a (after own boxes E).running ≡ Some x → x.sender.state ≡ Sending k last → k ≤ x.sender.highest + 1
packet_next own boxes a k last E x e i = subst (λ (st : SendState). IsNext st x.sender.highest) i (each_of InOrder a (after own boxes E).running x (each_next own boxes E) e)
