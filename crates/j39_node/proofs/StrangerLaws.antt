-- A frame of a stranger changes nothing of what is sent to others, received from others, or told to have ended.
use Rattle.j39_node.proofs.Common.{accepted, acknowledged, Address, address_after, all_replies, and-false, ap, AreAnswered, arith, asked_group, At, Bool, Call, calls_for_claim, Claim, claim_address, claim_from, claim_of, clock_at, control_of, Controller, delayed, destination_of, due, false, FrameRecord, has_packets, Hear, held_then, holder, holds, if◌then◌else◌, inr, Is, is_another, is_apart, is_claim, is_held, is_lost, is_replaced, is_smaller, is_spent, is_there, length, List, listens, listens_to, Lost, Message, nat_eq, nat_le, nat_lt, ne_eqb, next_frame, next_packet, None, not, of_other, older, Option, option_map, or-false, owes_claim, patience, pause, reached, Ready, refl, replies_of, Running, said_between, send_step, slice_get, Some, source_of, step, TakeFrame, true, turn_frame, turn_of, turns, Who, yields, ℕ, ◌&&◌, ◌-◌, ◌||◌, ◌∙◌, ◌∷◌, ◌≡◌, ◌≢◌, ◌⊎◌, [], breaks, carried_by, cases_eq, cond_both, eq-eqb, granted_after, granted_by, has_some, heard_events, heard_in_one, inl, is_over, leaves_in, map, none-some, not_both, next_transfer, next_transfer_ended, of_whom, open_to, said, SenderRecord, Signal, spent_after, sym, Tick, to_whom, transfer_events, transfers_at, TransfersRecord, sooner}
use Rattle.j39_transport.specs.Signals.{said_by}
use Rattle.j39_transport.specs.Frames as frames
use Rattle.j39_node.proofs.ReceptionLemmas.{unclaimed_known}
use Rattle.j39_node.proofs.PortLemmas.{apart}
use Rattle.j39_node.proofs.MoveLemmas.{left_sender}
use Rattle.j39_node.proofs.OpenLemmas.{heard_open, open_heard}
use Rattle.j39_node.proofs.SoundLemmas.{lost_older}
use Rattle.j39_node.proofs.TransferEnds.{between, Named, named_open, open_at}
use Rattle.j39_transfers.specs.Events.{after, AreApart}
use Rattle.j39_transfers.specs.Transfers.{end_by, frame_by, goes, heard_in, is_ended, is_left, turn, urgency, urgency_in}
use Rattle.j39_transfers.specs.declared.kinds.Ending.TheVariants as how
use Rattle.j39_transfers.proofs.StepLemmas.{not_ended}
use Rattle.std.specs.List.{find}
use Rattle.j39_node.proofs.ReceptionLaws.{to_others}

-- ---- a transfer

-- a frame of another, or to another, says nothing to _ its sender
not_between : (d own : ℕ) (f : FrameRecord) → (source_of f.id ≢ d) ⊎ (destination_of f.id ≢ Some own) → said_between d own f ≡ None
unfolding said_between said_by frames.source_of frames.destination_of frames.group_of
not_between d own f e = grind (arith, e)

same_held : (o : Option ℕ) → is_replaced o o ≡ false
same_held o = grind arith

nothing_heard : (f : FrameRecord) (now : ℕ) (x : Running) → said_between x.sender.destination x.sender.message.source f ≡ None → is_over x ≡ false → listens f now x ≡ x
unfolding send_step listens_to
nothing_heard f now x e o =
    let s : heard_in f now x ≡ x.sender = ap (λ (q : Option Signal). listens_to q now x.sender) e in
    let g : granted_by x.sender (said_between x.sender.destination x.sender.message.source f) ≡ None = ap (granted_by x.sender) e in
    let n : (has_some (granted_by x.sender (said_between x.sender.destination x.sender.message.source f)) || is_ended (heard_in f now x).state) ≡ false =
    (λ i. has_some (g i) || is_ended (s i).state) ∙ not_ended x.sender.state x.broken o in
    λ i. (let y : Running = record x {
      sender = s i;
      granted = granted_after (g i) x.granted;
      spent = spent_after (g i) x.granted x.spent;
      last = if n i then now else x.last;
    } in y)

unheard_one : (f : FrameRecord) (now : ℕ) (x : Running) → said_between x.sender.destination x.sender.message.source f ≡ None → heard_in_one f now x ≡ x
unheard_one f now x u = go (is_over x) refl
  where
    go : (b : Bool) → is_over x ≡ b → (if b || is_spent x then x else listens f now x) ≡ x
    go true e = refl
    go false e = cond_both (is_spent x) x (listens f now x) (λ (y : Running). y ≡ x) (λ i. refl) (λ i. nothing_heard f now x u e)

-- the frame is another's, or to another
abbrev pub IsOther : Who → ℕ → FrameRecord → Type 0
IsOther w a f = (source_of f.id ≢ a) ⊎ (destination_of f.id ≢ Some w.address)

module _ (w : Who) (H : List Call) (when : ℕ) (f : FrameRecord) (right : AreAnswered w H) (mine : is_smaller w (claim_of f) ≡ false) where
  abbrev Lost_then : Bool
  Lost_then = is_lost (address_after w (At when (Hear f) ∷ H))

  abbrev Who_then : ℕ → Option ℕ
  Who_then = holder w (At when (Hear f) ∷ H)

  abbrev Then : Running → Running
  Then = heard_open Lost_then Who_then f (clock_at w H when)

  still_lost : Lost_then ≡ is_lost (address_after w H)
  still_lost = ap (λ (b : Bool). is_lost (if b then Lost else older (step H when) (address_after w H))) mine ∙ lost_older (step H when) (address_after w H)

  -- but for who is known to hold its destination
  renamed : (a : ℕ) (x : Running) → open_to w a H ≡ Some x → IsOther w a f → is_replaced (holder w H a) (Who_then a) ≡ false → Then x ≡ record x { name = (Then x).name }
  renamed a x e other kept = go Lost_then refl
    where
      t : ℕ
      t = clock_at w H when

      n : Named x (holder w H a) (is_lost (address_after w H))
      n = named_open w a H x right e

      left : (b : Bool) → is_left None Who_then x ≡ b → is_lost (address_after w H) ≡ false
          → (if b then breaks how.Gone t x else record x { name = Who_then (to_whom x) }) ≡ record x { name = (if b then breaks how.Gone t x else record x { name = Who_then (to_whom x) }).name }
      left false i l = refl
      left true i l = over (elim (n.name l) [
        | inl z ↦ absurd (not_both _ kept (sym (λ k. is_replaced (z k) (Who_then (open_at w a H x e k))) ∙ i))
        | inr z ↦ z.0
      ])
        where
          over : is_over x ≡ true → breaks how.Gone t x ≡ record x { name = (breaks how.Gone t x).name }
          over o = let z : breaks how.Gone t x ≡ x = ap (λ (b : Bool). if b then x else record x { broken = Some how.Gone; last = t }) o in z ∙ (λ k. record x { name = (sym z k).name })

      own : said_between (to_whom x) x.sender.message.source f ≡ None
      own = (λ i. said_between (open_at w a H x e i) ((between w a H x right e).source i) f) ∙ not_between a w.address f other

      go : (b : Bool) → Lost_then ≡ b → heard_open b Who_then f t x ≡ record x { name = (heard_open b Who_then f t x).name }
      go true l =
          let o = n.over (sym still_lost ∙ l) in
          let z : breaks how.Withdrawn t x ≡ x = ap (λ (b : Bool). if b then x else record x { broken = Some how.Withdrawn; last = t }) o in
          z ∙ (λ k. record x { name = (sym z k).name })
      go false l =
          let y = leaves_in None Who_then t x in
          let r = left (is_left None Who_then x) refl (sym still_lost ∙ l) in
          let u = unheard_one f t y (ap (λ (s : SenderRecord). said_between s.destination s.message.source f) (left_sender Who_then t x) ∙ own) in
          u ∙ (r ∙ (λ k. record x { name = (sym u k).name }))

  -- not even that, where its holder stays
  same_one : (a : ℕ) (x : Running) → open_to w a H ≡ Some x → IsOther w a f → Who_then a ≡ holder w H a → Then x ≡ x
  same_one a x e other held = go Lost_then refl
    where
      t : ℕ
      t = clock_at w H when

      n : Named x (holder w H a) (is_lost (address_after w H))
      n = named_open w a H x right e

      own : said_between (to_whom x) x.sender.message.source f ≡ None
      own = (λ i. said_between (open_at w a H x e i) ((between w a H x right e).source i) f) ∙ not_between a w.address f other

      knows : Who_then (to_whom x) ≡ holder w H a
      knows = ap Who_then (open_at w a H x e) ∙ held

      left : (b : Bool) → is_left None Who_then x ≡ b → (x.name ≡ holder w H a) ⊎ ((is_over x ≡ true) × (is_replaced x.name (holder w H a) ≡ true))
          → (if b then breaks how.Gone t x else record x { name = Who_then (to_whom x) }) ≡ x
      left true i (inl z) = absurd (not_both _ (same_held (holder w H a)) (sym (λ k. is_replaced (z k) (knows k)) ∙ i))
      left true i (inr z) = ap (λ (b : Bool). if b then x else record x { broken = Some how.Gone; last = t }) z.0
      left false i (inl z) = λ k. record x { name = (knows ∙ sym z) k }
      left false i (inr z) = absurd (not_both _ (sym (ap (is_replaced x.name) knows) ∙ i) z.1)

      go : (b : Bool) → Lost_then ≡ b → heard_open b Who_then f t x ≡ x
      go true l = ap (λ (b : Bool). if b then x else record x { broken = Some how.Withdrawn; last = t }) (n.over (sym still_lost ∙ l))
      go false l =
          let r = left (is_left None Who_then x) refl (n.name (sym still_lost ∙ l)) in
          unheard_one f t (leaves_in None Who_then t x) (ap (λ (s : SenderRecord). said_between s.destination s.message.source f) (left_sender Who_then t x) ∙ own) ∙ r

  -- all of them
  running_then : (b : Bool) → (after 0 w.transfers (heard_events b (clock_at w H when) Who_then f (transfer_events w H))).running ≡ map (heard_open b Who_then f (clock_at w H when)) (transfers_at w H).running
  running_then true = refl
  running_then false = map_twice (heard_in_one f (clock_at w H when)) (leaves_in None Who_then (clock_at w H when)) (transfers_at w H).running
    where
      map_twice : (g k : Running → Running) (xs : List Running) → map g (map k xs) ≡ map (λ x. g (k x)) xs
      map_twice g k [] = refl
      map_twice g k (x ∷ xs) = ap (λ ys. g (k x) ∷ ys) (map_twice g k xs)

-- what holds of each that is found
map_each : (g r : Running → Running) (XS xs : List Running) → ((a : ℕ) (x : Running) → of_whom a xs ≡ Some x → of_whom a XS ≡ Some x) → AreApart xs
    → ((a : ℕ) (x : Running) → of_whom a XS ≡ Some x → g x ≡ r x) → map g xs ≡ map r xs
map_each g r XS [] m h k = refl
map_each g r XS (x ∷ xs) m h k =
    (λ i. k (to_whom x) x (m (to_whom x) x (ap (λ (b : Bool). if b then Some x else of_whom (to_whom x) xs) (eq-eqb (to_whom x) (to_whom x) refl))) i
    ∷ map_each g r XS xs (λ a y e. m a y (next a y e)) h.1 k i)
  where
    next : (a : ℕ) (y : Running) → of_whom a xs ≡ Some y → of_whom a (x ∷ xs) ≡ Some y
    next a y e = let n = h.0 in elim (cases_eq a (to_whom x)) [
      | inl z ↦ absurd (none-some y (sym n ∙ (ap (λ (b : ℕ). of_whom b xs) (sym z) ∙ e)))
      | inr z ↦ ap (λ (b : Bool). if b then Some x else of_whom a xs) (ne_eqb a (to_whom x) z) ∙ e
    ]

map_same : (xs : List Running) → map (λ x. x) xs ≡ xs
map_same [] = refl
map_same (x ∷ xs) = ap (λ ys. x ∷ ys) (map_same xs)

-- names make no difference to what is said and told
module _ (n : Running → Option ℕ) where
  abbrev named_anew : Running → Running
  named_anew x = record x { name = n x }

  urgency_same : (now : ℕ) (xs : List Running) → urgency now (map named_anew xs) ≡ urgency now xs
  urgency_same now [] = refl
  urgency_same now (x ∷ xs) = ap (sooner (urgency_in now x)) (urgency_same now xs)

  found_same : (now : ℕ) (u : Option ℕ) (xs : List Running) → frame_by now (find (goes now u) (map named_anew xs)) ≡ frame_by now (find (goes now u) xs)
  found_same now u [] = refl
  found_same now u (x ∷ xs) = go (goes now u x) (found_same now u xs)
    where
      go : (b : Bool) → frame_by now (find (goes now u) (map named_anew xs)) ≡ frame_by now (find (goes now u) xs)
          → frame_by now (if b then Some (named_anew x) else find (goes now u) (map named_anew xs)) ≡ frame_by now (if b then Some x else find (goes now u) xs)
      go true h = refl
      go false h = h

  said_same : (now : ℕ) (xs : List Running) → frame_by now (turn now (map named_anew xs)) ≡ frame_by now (turn now xs)
  said_same now xs = ap (λ (u : Option ℕ). frame_by now (find (goes now u) (map named_anew xs))) (urgency_same now xs) ∙ found_same now (urgency now xs) xs

  ends_same : (xs : List Running) → end_by (find is_over (map named_anew xs)) ≡ end_by (find is_over xs)
  ends_same [] = refl
  ends_same (x ∷ xs) = go (is_over x) (ends_same xs)
    where
      go : (b : Bool) → end_by (find is_over (map named_anew xs)) ≡ end_by (find is_over xs)
          → end_by (if b then Some (named_anew x) else find is_over (map named_anew xs)) ≡ end_by (if b then Some x else find is_over xs)
      go true h = refl
      go false h = h

pub transfer_stays : (w : Who) (H : List Call) (c : Controller) (when a : ℕ) (f : FrameRecord) (x : Running) → Is w H c → open_to w a H ≡ Some x → IsOther w a f
    → is_replaced (holder w H a) (holder w (At when (Hear f) ∷ H) a) ≡ false → is_smaller w (claim_of f) ≡ false
    → (y : Running) × (open_to w a (At when (Hear f) ∷ H) ≡ Some y) × (y ≡ record x { name = y.name })
transfer_stays w H c when a f x is e other kept mine = (
  heard_open (is_lost (address_after w (At when (Hear f) ∷ H))) (holder w (At when (Hear f) ∷ H)) f (clock_at w H when) x,
  open_heard w a when f H ∙ ap (option_map (heard_open (is_lost (address_after w (At when (Hear f) ∷ H))) (holder w (At when (Hear f) ∷ H)) f (clock_at w H when))) e,
  renamed w H when f is.answered mine a x e other kept,
)

-- ---- of all that are open

abbrev pub AreOthers : Who → List Call → ℕ → FrameRecord → Type 0
AreOthers w H when f = (a : ℕ) (x : Running) → open_to w a H ≡ Some x → IsOther w a f × (is_replaced (holder w H a) (holder w (At when (Hear f) ∷ H) a) ≡ false)

all_renamed : (w : Who) (H : List Call) (when : ℕ) (f : FrameRecord) → AreAnswered w H → AreOthers w H when f → is_smaller w (claim_of f) ≡ false
    → (n : Running → Option ℕ) × ((transfers_at w (At when (Hear f) ∷ H)).running ≡ map (λ x. (let y : Running = record x { name = n x } in y)) (transfers_at w H).running)
all_renamed w H when f right others mine =
    let g = heard_open (is_lost (address_after w (At when (Hear f) ∷ H))) (holder w (At when (Hear f) ∷ H)) f (clock_at w H when) in (
      λ x. (g x).name,
      running_then w H when f right mine (is_lost (address_after w (At when (Hear f) ∷ H)))
          ∙ map_each g (λ x. (let y : Running = record x { name = (g x).name } in y)) (transfers_at w H).running (transfers_at w H).running (λ a x e. e) (apart w H)
          (λ a x e. renamed w H when f right mine a x e (others a x e).0 (others a x e).1),
    )

pub next_stays : (w : Who) (H : List Call) (c : Controller) (when now : ℕ) (f : FrameRecord) → Is w H c → AreOthers w H when f → is_smaller w (claim_of f) ≡ false
    → next_transfer w (At when (Hear f) ∷ H) now ≡ next_transfer w (At when Tick ∷ H) now
next_stays w H c when now f is others mine =
    let r = all_renamed w H when f is.answered others mine in
    let t = clock_at w (At when Tick ∷ H) now in
    ap (λ (xs : List Running). option_map carried_by (frame_by t (turn t xs))) r.1 ∙ ap (option_map carried_by) (said_same r.0 t (transfers_at w H).running)

pub ends_stay : (w : Who) (H : List Call) (c : Controller) (when : ℕ) (f : FrameRecord) → Is w H c → AreOthers w H when f → is_smaller w (claim_of f) ≡ false
    → next_transfer_ended w (At when (Hear f) ∷ H) ≡ next_transfer_ended w (At when Tick ∷ H)
ends_stay w H c when f is others mine =
    let r = all_renamed w H when f is.answered others mine in ap (λ (xs : List Running). end_by (find is_over xs)) r.1 ∙ ends_same r.0 (transfers_at w H).running

-- ---- the next frame

-- what is no claim leaves who holds an address
unclaimed : (w : Who) (H : List Call) (when : ℕ) (f : FrameRecord) (a : ℕ) → claim_of f ≡ None → holder w (At when (Hear f) ∷ H) a ≡ holder w H a
unclaimed w H when f a e = ap (λ (o : Option Claim). held_then a (of_other w o) (holder w H a)) e

pub open_stays : (w : Who) (H : List Call) (when : ℕ) (f : FrameRecord) → AreAnswered w H → claim_of f ≡ None → destination_of f.id ≢ Some w.address
    → transfers_at w (At when (Hear f) ∷ H) ≡ transfers_at w H
open_stays w H when f right e n = go (is_lost (address_after w (At when (Hear f) ∷ H))) (running_then w H when f right mine (is_lost (address_after w (At when (Hear f) ∷ H))) ∙ all_same)
  where
    mine : is_smaller w (claim_of f) ≡ false
    mine = ap (is_smaller w) e

    g : Running → Running
    g = heard_open (is_lost (address_after w (At when (Hear f) ∷ H))) (holder w (At when (Hear f) ∷ H)) f (clock_at w H when)

    all_same : map g (transfers_at w H).running ≡ (transfers_at w H).running
    all_same =
        map_each g (λ x. x) (transfers_at w H).running (transfers_at w H).running (λ a x e. e) (apart w H)
        (λ a x k. same_one w H when f right mine a x k (inr n) (unclaimed w H when f a e)) ∙ map_same (transfers_at w H).running

    go : (b : Bool) → (after 0 w.transfers (heard_events b (clock_at w H when) (holder w (At when (Hear f) ∷ H)) f (transfer_events w H))).running ≡ (transfers_at w H).running
        → after 0 w.transfers (heard_events b (clock_at w H when) (holder w (At when (Hear f) ∷ H)) f (transfer_events w H)) ≡ transfers_at w H
    go true r = λ i. record (transfers_at w H) { running = r i }
    go false r = λ i. record (transfers_at w H) { running = r i }

pub frame_stays : (w : Who) (H : List Call) (c : Controller) (when : ℕ) (f : FrameRecord) (now : ℕ) → Is w H c → claim_of f ≡ None → asked_group f ≡ None
    → destination_of f.id ≢ Some w.address → source_of f.id ≢ w.address → next_frame w (At when (Hear f) ∷ H) now ≡ next_frame w (At when (TakeFrame None) ∷ H) now
frame_stays w H c when f now is e g n m =
    λ i. by (owes i) (delays i) (lives i) (owed i) (said i) (moved i)
  where
    by : Bool → ℕ → Address → List Message → List Message → TransfersRecord → Option (ℕ × Message)
    by b d a acks replies t =
        let held = is_held (older (step (At when (Hear f) ∷ H) now) a) in
        let transfer = option_map carried_by (said (clock_at w (At when (Hear f) ∷ H) now) t) in
        let left = pause H - step H when - step (At when (Hear f) ∷ H) now in
        let due : Ready = record {
          overdue = has_packets w H && nat_eq left 0;
          reply = nat_lt 0 (length replies);
          message = nat_lt (reached H) (length (accepted w H));
          packet = has_packets w H && nat_le left 100000;
          transfer = is_apart transfer (slice_get replies 0);
        } in
        let others = turn_frame (turn_of (yields w H) due) (slice_get replies 0) (slice_get (accepted w H) (reached H))
        (next_packet w (At when (Hear f) ∷ H) now) transfer in
        let gives = nat_le 2 (turns H) && is_there (if held then others else None) in
        if (b && (not (is_lost a) || nat_eq (d - step (At when (Hear f) ∷ H) now) 0)) && not gives then Some (now, claim_from w (claim_address w a))
        else if held
        then option_map (λ m. (now, m)) (control_of (if gives then None else slice_get acks (length (acknowledged H))) others) else None

    not_here : (held : Bool) → is_another w held f ≡ false
    not_here held = ap (λ (b : Bool). held && (b && not (is_claim f))) (ne_eqb (source_of f.id) w.address m) ∙ and-false held

    calls : calls_for_claim w (is_lost (address_after w H)) f ≡ false
    calls = grind arith

    owes : owes_claim w (At when (Hear f) ∷ H) ≡ owes_claim w H
    owes = (λ i. owes_claim w H || (calls i || (not_here (holds w H when) i && nat_eq (patience w H - step H when) 0))) ∙ or-false (owes_claim w H)

    delays : delayed w (At when (Hear f) ∷ H) ≡ delayed w H - step H when
    delays = grind arith

    mine : is_smaller w (claim_of f) ≡ false
    mine = ap (is_smaller w) e

    lives : address_after w (At when (Hear f) ∷ H) ≡ older (step H when) (address_after w H)
    lives = ap (λ (b : Bool). if b then Lost else older (step H when) (address_after w H)) mine

    owed : due w (At when (Hear f) ∷ H) ≡ due w H
    owed = grind arith

    said : all_replies w (At when (Hear f) ∷ H) ≡ all_replies w H
    said = ap replies_of (to_others w H when f mine (λ a x z. unclaimed_known w H when f a e) n)

    moved : transfers_at w (At when (Hear f) ∷ H) ≡ transfers_at w H
    moved = open_stays w H when f is.answered e n
