-- Ends are told in turn.
use Rattle.j39_node.proofs.Common.{[], ◌++◌, ◌+◌, ◌<◌, ◌∙◌, ◌∷◌, ◌≡◌, ◌≢◌, ◌≤◌, address_after, all_transfers, ap, AreAnswered, arith, At, Bool, breaks, Call, cases_eq, clock_at, eq-eqb, false, FrameRecord, Hear, heard_events, heard_in_one, holder, if◌then◌else◌, inl, inr, is_claim, is_lost, is_move, is_over, is_tried, leaves_in, length, List, map, nat_eq, ne_eqb, none-some, None, NoneTold, not_both, of_whom, Ok, Err, open_to, option_map, Option, order, refl, Running, same_Some, sent_in_one, Some, subst, suc, sym, TakeFrame, taken_events, TakeTransferEnded, tells_transfer, to_whom, told_transfers, Transfer, transfer_events, transfers_at, TransfersRecord, tried_events, true, Who, ℕ}
use Rattle.j39_transfers.specs.Events.{after, Begins}
use Rattle.j39_transfers.specs.Transfers.{begun, is_first, listed, Order, others}
use Rattle.j39_transfers.specs.declared.kinds.Ending.TheVariants as how
use Rattle.j39_transfers.proofs.LawLemmas.{begun_split, same_others}
use Rattle.j39_transfers.proofs.StepLemmas.{keeps_broken, keeps_heard, keeps_left}
use Rattle.j39_node.proofs.ChangeLemmas.{sent_case}
use Rattle.j39_node.proofs.CountLaws.{fits, Keeps, stays_on}
use Rattle.j39_node.proofs.OpenLemmas.{open_told, Told}
use Rattle.j39_node.proofs.QueueLemmas.{length_one_more}
use Rattle.j39_node.proofs.SoundLemmas.{frame_case}
use Rattle.j39_node.proofs.TransferEnds.{due_open, over_heard_open, over_left}
use Rattle.std.specs.List.{find}

-- how many stand before the one to an address
abbrev before : ℕ → List Running → ℕ
before a [] = 0
before a (x ∷ xs) = if nat_eq a (to_whom x) then 0 else suc (before a xs)

module _ (a : ℕ) where
  before_map : (g : Running → Running) → ((x : Running) → to_whom (g x) ≡ to_whom x) → (xs : List Running) → before a (map g xs) ≡ before a xs
  before_map g k [] = refl
  before_map g k (x ∷ xs) = λ i. if nat_eq a (k x i) then 0 else suc (before_map g k xs i)

  before_append : (xs ys : List Running) (x : Running) → of_whom a xs ≡ Some x → before a (xs ++ ys) ≡ before a xs
  before_append [] ys x e = absurd (cc)
  before_append (y ∷ xs) ys x e = let h = before_append xs ys x in grind (arith, h, e)

  before_within : (xs : List Running) (x : Running) → of_whom a xs ≡ Some x → before a xs < length xs
  before_within [] x e = absurd (cc)
  before_within (y ∷ xs) x e = let h = before_within xs x in grind (arith, h, e)

  module _ (p : Running → Bool) where
    others_most : (xs : List Running) (y : Running) → find p xs ≡ Some y → to_whom y ≢ a → before a (others p xs) ≤ before a xs
    others_most [] y e n = absurd (cc)
    others_most (x ∷ xs) y e n = go (p x) (nat_eq a (to_whom x)) refl (others_most xs y) e
      where
        go : (b c : Bool) → nat_eq a (to_whom x) ≡ c → (find p xs ≡ Some y → to_whom y ≢ a → before a (others p xs) ≤ before a xs) → (if b then Some x else find p xs) ≡ Some y
            → before a (if b then xs else x ∷ others p xs) ≤ (if c then 0 else suc (before a xs))
        go true true i k e = absurd (let z = same_Some x y e in n (ap to_whom (sym z) ∙ sym (Rattle.j39_node.proofs.Common.eqb-true a (to_whom x) i)))
        go true false i k e = omega arith
        go false true i k e = subst (λ (b : Bool). (if b then 0 else suc (before a (others p xs))) ≤ 0) (sym i) (omega arith)
        go false false i k e = let h = k e n in subst (λ (b : Bool). (if b then 0 else suc (before a (others p xs))) ≤ suc (before a xs)) (sym i) (omega (arith, h))

    others_less : (xs : List Running) (y x : Running) → find p xs ≡ Some y → to_whom y ≢ a → of_whom a xs ≡ Some x → p x ≡ true → suc (before a (others p xs)) ≤ before a xs
    others_less [] y x e n o q = absurd (cc)
    others_less (z ∷ xs) y x e n o q = go (p z) (nat_eq a (to_whom z)) refl refl (others_less xs y x) e o
      where
        go : (b c : Bool) → p z ≡ b → nat_eq a (to_whom z) ≡ c
            → (find p xs ≡ Some y → to_whom y ≢ a → of_whom a xs ≡ Some x → p x ≡ true → suc (before a (others p xs)) ≤ before a xs) → (if b then Some z else find p xs) ≡ Some y
            → (if c then Some z else of_whom a xs) ≡ Some x → suc (before a (if b then xs else z ∷ others p xs)) ≤ (if c then 0 else suc (before a xs))
        go true true j i k e o = absurd (let v = same_Some z y e in n (ap to_whom (sym v) ∙ sym (Rattle.j39_node.proofs.Common.eqb-true a (to_whom z) i)))
        go true false j i k e o = omega arith
        go false true j i k e o = absurd (not_both _ j (ap p (same_Some z x o) ∙ q))
        go false false j i k e o = let h = k e n o q in subst (λ (b : Bool). suc (if b then 0 else suc (before a (others p xs))) ≤ suc (before a xs)) (sym i) (omega (arith, h))

-- ---- after each call

module _ (w : Who) (a : ℕ) where
  abbrev Place : List Call → ℕ
  Place H = before a (transfers_at w H).running

  heard_place : (H : List Call) (b : Bool) (now : ℕ) (who : ℕ → Option ℕ) (f : FrameRecord) → before a (after 0 w.transfers (heard_events b now who f (transfer_events w H))).running ≡ Place H
  heard_place H true now who f = before_map a (breaks how.Withdrawn now) (λ x. (keeps_broken how.Withdrawn now x).0) (transfers_at w H).running
  heard_place H false now who f =
      before_map a (heard_in_one f now) (λ x. (keeps_heard f now x).0) (map (leaves_in None who now) (transfers_at w H).running)
      ∙ before_map a (leaves_in None who now) (λ x. (keeps_left None who now x).0) (transfers_at w H).running

  taken_place : (H : List Call) (now : ℕ) (f : FrameRecord) (x : Running) → AreAnswered w (At now (TakeFrame (Some f)) ∷ H) → open_to w a H ≡ Some x → is_over x ≡ true → (b m : Bool) → is_move w H f ≡ m
      → before a (after 0 w.transfers (taken_events b m (clock_at w H now) (holder w (At now (TakeFrame (Some f)) ∷ H)) (transfer_events w H))).running ≤ Place H
  taken_place H now f x right e o true m i =
      let h = before_map a (leaves_in None (holder w (At now (TakeFrame (Some f)) ∷ H)) (clock_at w H now)) (λ x. (keeps_left None (holder w (At now (TakeFrame (Some f)) ∷ H)) (clock_at w H now) x).0) (transfers_at w H).running in omega (arith, h)
  taken_place H now f x right e o false false i = omega arith
  taken_place H now f x right e o false true i =
      let s = sent_case w H now f right.0 (frame_case w H now f right.1) i in
      let p = is_first (clock_at w H now) (transfers_at w H).running in
      let n : to_whom s.running ≢ a = λ z. not_both _ (due_open s.running (clock_at w H now) s.signal s.said).1 (ap is_over (same_Some s.running x (sym s.is ∙ (ap (λ (k : ℕ). open_to w k H) z ∙ e))) ∙ o) in
      let h = others_most a p (transfers_at w H).running s.running s.turn_is n in
      let k = before_append a (others p (transfers_at w H).running) (listed (option_map (sent_in_one (clock_at w H now)) (find p (transfers_at w H).running))) x (same_others p a (transfers_at w H).running s.running s.turn_is n ∙ e) in
      omega (arith, h, k)

  tried_place : (H : List Call) (o : Order) (name : Option ℕ) (now : ℕ) (x : Running) → open_to w a H ≡ Some x → (b : Bool)
      → before a (after 0 w.transfers (tried_events b (Begins o name now) (transfer_events w H))).running ≡ Place H
  tried_place H o name now x e false = refl
  tried_place H o name now x e true = begun_split (λ (s : TransfersRecord). before a s.running ≡ Place H) o name now (transfers_at w H) refl
      (λ i r. before_append a (transfers_at w H).running (begun (transfers_at w H).own o name now ∷ []) x e)

  told_place : (H : List Call) (e : ℕ × Rattle.j39_node.proofs.Common.TransferEnding) (x : Running) → (t : Told w H e) → open_to w a H ≡ Some x → is_over x ≡ true → tells_transfer x.token (TakeTransferEnded (Some e)) ≡ false
      → suc (Place (TakeTransferEnded (Some e) ∷ H)) ≤ Place H
  told_place H e x t i o n =
      others_less a is_over (transfers_at w H).running t.running x t.first
      (λ z. not_both _ n (eq-eqb e.0 x.token (sym t.token ∙ ap (λ (y : Running). y.token) (same_Some t.running x (sym t.is ∙ (ap (λ (k : ℕ). open_to w k H) z ∙ i)))))) i o

  -- the place falls by each end that is told
  falls : (call : Call) (H : List Call) (x : Running) → AreAnswered w (call ∷ H) → open_to w a H ≡ Some x → is_over x ≡ true → tells_transfer x.token call ≡ false
      → length (told_transfers (call ∷ [])) + Place (call ∷ H) ≤ Place H
  falls (At now (Hear f)) H x right e o n = let h = heard_place H (is_lost (address_after w (At now (Hear f) ∷ H))) (clock_at w H now) (holder w (At now (Hear f) ∷ H)) f in omega (arith, h)
  falls (At now (TakeFrame (Some f))) H x right e o n = let h = taken_place H now f x right e o (is_claim f) (is_move w H f) refl in omega (arith, h)
  falls (At now (Transfer priority group to bytes r)) H x right e o n =
      let h = tried_place H (order (length (all_transfers w H)) priority group to bytes) (holder w H to) (clock_at w H now) x e (is_tried r (nat_eq (length (all_transfers w H)) 18446744073709551615)) in omega (arith, h)
  falls (TakeTransferEnded (Some y)) H x right e o n = let h = told_place H y x (open_told w H y right.1) e o n in omega (arith, h)
  falls call H x right e o n = omega arith

  keeps_over : Keeps w a (λ x. is_over x ≡ true)
  keeps_over = record {
    hears = over_heard_open;
    claims = over_left;
    sends = λ now x s i h. absurd (not_both _ (due_open x now s i).1 h);
  }

  told_more : (call : Call) (later : List Call) → length (told_transfers (call ∷ later)) ≡ length (told_transfers (call ∷ [])) + length (told_transfers later)
  told_more (TakeTransferEnded (Some x)) later = let h = length_one_more (told_transfers later) x in omega (arith, h)
  told_more call later = omega arith

  falls_on : (later H : List Call) (x : Running) → AreAnswered w (later ++ H) → open_to w a H ≡ Some x → is_over x ≡ true → NoneTold (tells_transfer x.token) later
      → length (told_transfers later) + Place (later ++ H) ≤ Place H
  falls_on [] H x right e o n = omega arith
  falls_on (call ∷ later) H x right e o n =
      let s = stays_on w a (λ y. is_over y ≡ true) x.token keeps_over later H right.0 n.1 (record { running = x; is = e; token_is = refl; so = o }) in
      let h = falls call (later ++ H) s.running right s.is s.so (ap (λ (k : ℕ). tells_transfer k call) s.token_is ∙ n.0) in
      let k = falls_on later H x right.0 e o n.1 in
      let m = told_more call later in
      omega (arith, h, k, m)

  pub in_turn : (H later : List Call) (x : Running) → AreAnswered w (later ++ H) → open_to w a H ≡ Some x → is_over x ≡ true → NoneTold (tells_transfer x.token) later
      → length (told_transfers later) < w.transfers
  in_turn H later x right e o n =
      let h = falls_on later H x right e o n in
      let l = before_within a (transfers_at w H).running x e in
      let m = fits w H in
      omega (arith, h, l, m)
