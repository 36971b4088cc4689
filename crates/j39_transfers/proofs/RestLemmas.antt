-- What rests, and since when.
use Rattle.j39_transfers.proofs.Common.{[], if◌then◌else◌, ◌&&◌, ◌+◌, ◌++◌, ◌<◌, ◌∙◌, ◌∷◌, ◌≡◌, ◌≤◌, ◌||◌, ap, arith, awake, Bool, cond_both, eq-eqb, false, filter, find, is_over, is_resting, List, list_any, listed, lt-ltb, nat_eq, nat_lt, None, Option, refl, Rest, rest_of, Some, sym, to, Transfer, TransfersRecord, true, ℕ}
use Rattle.j39_transfers.specs.Events.{after, AreBy, Begins, Event, Hears, IsBy, Leaves, Loses, Moves, Sends, step, Tells, WasTold}
use Rattle.j39_transfers.specs.Events as events
use Rattle.j39_transfers.specs.Transfers.{can_move, is_of, rest_by, rest_time, rests}
use Rattle.j39_transfers.proofs.LawLemmas.{begun_split}

module _ (now a g : ℕ) where
  -- of this pair, and it rests yet
  abbrev is_still : Rest → Bool
  is_still r = nat_lt now r.until && is_of a g r

  abbrev any_still : List Rest → Bool
  any_still = list_any is_still

  any_awake : (xs : List Rest) → is_resting a g (filter (λ r. nat_lt now r.until) xs) ≡ any_still xs
  any_awake [] = refl
  any_awake (x ∷ xs) = let h = any_awake xs in grind (arith, h)

  any_append : (xs ys : List Rest) → any_still (xs ++ ys) ≡ (any_still xs || any_still ys)
  any_append [] ys = refl
  any_append (x ∷ xs) ys = let h = any_append xs ys in grind (arith, h)

  -- what rests yet isn't dropped before
  any_filter : (m : ℕ) (xs : List Rest) → m ≤ now → any_still (filter (λ r. nat_lt m r.until) xs) ≡ any_still xs
  any_filter m [] l = refl
  any_filter m (x ∷ xs) l = let h = any_filter m xs l in grind (arith, h, l)

  any_fewer : (m : ℕ) (xs : List Rest) → any_still (filter (λ r. nat_lt m r.until) xs) ≡ true → any_still xs ≡ true
  any_fewer m [] e = e
  any_fewer m (x ∷ xs) e = let h = any_fewer m xs in grind (arith, h, e)

  any_left : (xs ys : List Rest) → any_still xs ≡ true → any_still (xs ++ ys) ≡ true
  any_left xs ys e = let h = any_append xs ys in grind (arith, h, e)

  stays_step : (event : Event) (s : TransfersRecord) → IsBy now event → any_still s.rests ≡ true → any_still (step event s).rests ≡ true
  stays_step (Begins o name m) s l e = begun_split (λ (x : TransfersRecord). any_still x.rests ≡ true) o name m s (any_filter m s.rests l ∙ e) (λ i r. any_filter m s.rests l ∙ e)
  stays_step (Hears f m) s l e = e
  stays_step (Sends m) s l e = e
  stays_step Tells s l e = any_left s.rests (listed (rest_by (find is_over s.running))) e
  stays_step (Leaves who holder m) s l e = e
  stays_step (Loses m) s l e = e
  stays_step (Moves own) s l e = cond_both (can_move own s) (record s { own = own }) s (λ (x : TransfersRecord). any_still x.rests ≡ true) (λ i. e) (λ i. e)

  stays_all : (own boxes : ℕ) (later E : List Event) → AreBy now later → any_still (after own boxes E).rests ≡ true → any_still (after own boxes (later ++ E)).rests ≡ true
  stays_all own boxes [] E l e = e
  stays_all own boxes (event ∷ later) E l e = stays_step event (after own boxes (later ++ E)) l.0 (stays_all own boxes later E l.1 e)

  -- ---- where it comes from

  one_still : (o : Option Transfer) → any_still (listed (rest_by o)) ≡ true → (x : Transfer) × (o ≡ Some x) × (any_still (listed (rest_of x)) ≡ true)
  one_still None e = absurd (cc)
  one_still (Some x) e = (x, refl, e)

  origin_of : (x : Transfer) → any_still (listed (rest_of x)) ≡ true → (rests x ≡ true) × (to x ≡ a) × (x.sender.message.pgn ≡ g) × (now < x.last + rest_time)
  origin_of x e = go (rests x) refl e
    where
      go : (b : Bool) → rests x ≡ b → any_still (listed (if b then Some (let r : Rest = record { to = to x; group = x.sender.message.pgn; until = x.last + rest_time } in r) else None)) ≡ true
          → (rests x ≡ true) × (to x ≡ a) × (x.sender.message.pgn ≡ g) × (now < x.last + rest_time)
      go false i h = absurd (cc)
      go true i h =
          let k : (nat_lt now (x.last + rest_time) && (nat_eq (to x) a && nat_eq x.sender.message.pgn g)) ≡ true = grind (arith, h) in
          (i, grind (arith, k), grind (arith, k), grind (arith, k))

  was_told : (own boxes : ℕ) (E : List Event) → any_still (after own boxes E).rests ≡ true → WasTold own boxes now a g E
  was_told own boxes [] e = absurd (cc)
  was_told own boxes (Begins o name m ∷ E) e = events.later (Begins o name m) E (was_told own boxes E
      (begun_split (λ (x : TransfersRecord). any_still x.rests ≡ true → any_still (after own boxes E).rests ≡ true) o name m (after own boxes E)
      (λ h. any_fewer m (after own boxes E).rests h) (λ i r h. any_fewer m (after own boxes E).rests h) e))
  was_told own boxes (Hears f m ∷ E) e = events.later (Hears f m) E (was_told own boxes E e)
  was_told own boxes (Sends m ∷ E) e = events.later (Sends m) E (was_told own boxes E e)
  was_told own boxes (Tells ∷ E) e = go (any_still (after own boxes E).rests) refl (was_told own boxes E)
    where
      go : (b : Bool) → any_still (after own boxes E).rests ≡ b → (any_still (after own boxes E).rests ≡ true → WasTold own boxes now a g E) → WasTold own boxes now a g (Tells ∷ E)
      go true i f = events.later Tells E (f i)
      go false i f =
          let h = any_append (after own boxes E).rests (listed (rest_by (find is_over (after own boxes E).running))) in
          let k : any_still (listed (rest_by (find is_over (after own boxes E).running))) ≡ true = grind (arith, h, i, e) in
          let x = one_still (find is_over (after own boxes E).running) k in
          let q = origin_of x.0 x.2 in
          events.here x.0 E x.1 q.0 q.1 q.2 q.3
  was_told own boxes (Leaves who holder m ∷ E) e = events.later (Leaves who holder m) E (was_told own boxes E e)
  was_told own boxes (Loses m ∷ E) e = events.later (Loses m) E (was_told own boxes E e)
  was_told own boxes (Moves b ∷ E) e = events.later (Moves b) E (was_told own boxes E
      (cond_both (can_move b (after own boxes E)) (record (after own boxes E) { own = b }) (after own boxes E)
      (λ (x : TransfersRecord). any_still x.rests ≡ true → any_still (after own boxes E).rests ≡ true) (λ i h. h) (λ i h. h) e))

pub it_rests : (own boxes now : ℕ) (later E : List Event) (x : Transfer) → find is_over (after own boxes E).running ≡ Some x → rests x ≡ true
    → now < x.last + rest_time → AreBy now later → is_resting (to x) x.sender.message.pgn (awake now (after own boxes (later ++ Tells ∷ E))).rests ≡ true
it_rests own boxes now later E x e r l b =
    any_awake now (to x) x.sender.message.pgn (after own boxes (later ++ Tells ∷ E)).rests
    ∙ stays_all now (to x) x.sender.message.pgn own boxes later (Tells ∷ E) b
    (let h = any_append now (to x) x.sender.message.pgn (after own boxes E).rests (listed (rest_by (find is_over (after own boxes E).running))) in
    let k : any_still now (to x) x.sender.message.pgn (listed (rest_by (find is_over (after own boxes E).running))) ≡ true =
    ap (λ (o : Option Transfer). any_still now (to x) x.sender.message.pgn (listed (rest_by o))) e ∙ one x r l in
    grind (arith, h, k))
  where
    one : (x : Transfer) → rests x ≡ true → now < x.last + rest_time → any_still now (to x) x.sender.message.pgn (listed (rest_of x)) ≡ true
    one x r l =
        let p = eq-eqb (to x) (to x) refl in
        let q = eq-eqb x.sender.message.pgn x.sender.message.pgn refl in
        let m = lt-ltb now (x.last + rest_time) l in
        ap (λ (b : Bool). any_still now (to x) x.sender.message.pgn (listed (if b then Some (let r : Rest = record { to = to x; group = x.sender.message.pgn; until = x.last + rest_time } in r) else None))) r
        ∙ grind (arith, p, q, m)

pub comes_from : (own boxes now a g : ℕ) (E : List Event) → is_resting a g (awake now (after own boxes E)).rests ≡ true → WasTold own boxes now a g E
comes_from own boxes now a g E e = was_told now a g own boxes E (sym (any_awake now a g (after own boxes E).rests) ∙ e)
