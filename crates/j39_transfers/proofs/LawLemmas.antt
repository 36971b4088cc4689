-- What all that transfers went through leaves.
use Rattle.j39_transfers.proofs.Common.{[], if◌then◌else◌, ◌*◌, ◌+◌, ◌++◌, ◌∙◌, ◌∷◌, ◌≡◌, ◌≢◌, ◌≤◌, and_parts, answer, ap, append-nil, arith, awake, begins, begun, Bool, breaks, can_begin, cond_both, eq-eqb, eqb-true, Err, false, filter, find, FrameRecord, has_room, has_some, hears, hears_in, is_first, is_open, is_over, is_resting, leaves, leaves_in, length, length-append, length-map, List, listed, loses, ltb-true, map, nat_eq, nat_lt, ne_eqb, None, not, of, Ok, Option, option_map, Order, others, refl, Rest, rest_of, Result, sends, sends_in, Some, source_of, subst, sym, tells, to, Transfer, TransfersRecord, true, turn, ℕ}
use Rattle.j39_transport.specs.Sending.{new_sender}
use Rattle.j39_transfers.specs.Events.{after, AreApart, Begins, begun_by, begun_tokens, Event, Hears, Leaves, Loses, Moves, Sends, step, Tells, times, token_if, tokens, told_by, told_tokens}
use Rattle.j39_transfers.specs.Transfers.{begun_if, can_move, end_by, ending, rest_by}
use Rattle.j39_transfers.specs.declared.kinds.Refused.{Refused}
use Rattle.j39_transfers.specs.declared.kinds.Refused.TheVariants.{BadValue, Busy, Full, Resting}
use Rattle.j39_transfers.specs.declared.kinds.Ending.{Ending}
use Rattle.j39_transfers.specs.declared.kinds.Ending.TheVariants as how
use Rattle.j39_transfers.proofs.StepLemmas.{keeps_broken, keeps_heard, keeps_left, keeps_sent, same_elsewhere, same_heard}
use Rattle.j39_transport.specs.Frames as frames

-- ---- all are changed

-- to whom it goes, and its token, stay
abbrev pub Keeps : (Transfer → Transfer) → Type 0
Keeps f = (x : Transfer) → (to (f x) ≡ to x) × ((f x).token ≡ x.token)

module _ (f : Transfer → Transfer) (keeps : Keeps f) where
  pub of_map : (a : ℕ) (xs : List Transfer) → of a (map f xs) ≡ option_map f (of a xs)
  of_map a [] = refl
  of_map a (x ∷ xs) = let h = of_map a xs in let k = (keeps x).0 in grind (arith, h, k)

  pub tokens_map : (xs : List Transfer) → tokens (map f xs) ≡ tokens xs
  tokens_map [] = refl
  tokens_map (x ∷ xs) = let h = tokens_map xs in let k = (keeps x).1 in cc

  pub apart_map : (xs : List Transfer) → AreApart xs → AreApart (map f xs)
  apart_map [] h = tt
  apart_map (x ∷ xs) h = (ap (λ (n : ℕ). of n (map f xs)) (keeps x).0 ∙ (of_map (to x) xs ∙ ap (option_map f) h.0), apart_map xs h.1)

-- ---- one is taken out, or stands last

pub of_append : (a : ℕ) (xs ys : List Transfer) → of a xs ≡ None → of a (xs ++ ys) ≡ of a ys
of_append a [] ys e = refl
of_append a (x ∷ xs) ys e = let h = of_append a xs ys in grind (arith, h, e)

pub of_before : (a : ℕ) (xs ys : List Transfer) → of a ys ≡ None → of a (xs ++ ys) ≡ of a xs
of_before a [] ys e = e
of_before a (x ∷ xs) ys e = let h = of_before a xs ys e in grind (arith, h)

pub apart_more : (xs : List Transfer) (y : Transfer) → AreApart xs → of (to y) xs ≡ None → AreApart (xs ++ y ∷ [])
apart_more [] y h e = (refl, tt)
apart_more (x ∷ xs) y h e =
    let n = of_before (to x) xs (y ∷ []) in
    let k = h.0 in
    (grind (arith, n, k, e), apart_more xs y h.1 (grind (arith, e)))

module _ (p : Transfer → Bool) where
  -- what is found passes, and stands there
  pub found_passes : (xs : List Transfer) (y : Transfer) → find p xs ≡ Some y → p y ≡ true
  found_passes [] y e = absurd (cc)
  found_passes (x ∷ xs) y e = let h = found_passes xs y in grind (arith, h, e)

  pub found_in : (xs : List Transfer) (y : Transfer) → find p xs ≡ Some y → has_some (of (to y) xs) ≡ true
  found_in [] y e = absurd (cc)
  found_in (x ∷ xs) y e = let h = found_in xs y in grind (arith, h, e)

  none_others : (b : ℕ) (xs : List Transfer) → of b xs ≡ None → of b (others p xs) ≡ None
  none_others b [] e = refl
  none_others b (x ∷ xs) e = let h = none_others b xs in grind (arith, h, e)

  pub apart_others : (xs : List Transfer) → AreApart xs → AreApart (others p xs)
  apart_others [] h = tt
  apart_others (x ∷ xs) h = go (p x) refl (apart_others xs h.1)
    where
      go : (b : Bool) → p x ≡ b → AreApart (others p xs) → AreApart (if b then xs else x ∷ others p xs)
      go true e k = h.1
      go false e k = (none_others (to x) xs h.0, k)

  -- without the first that passes there is none to its address
  pub gone_others : (xs : List Transfer) (y : Transfer) → AreApart xs → find p xs ≡ Some y → of (to y) (others p xs) ≡ None
  gone_others [] y h e = absurd (cc)
  gone_others (x ∷ xs) y h e = go (p x) refl (gone_others xs y h.1) e
    where
      go : (b : Bool) → p x ≡ b → (find p xs ≡ Some y → of (to y) (others p xs) ≡ None) → (if b then Some x else find p xs) ≡ Some y
          → of (to y) (if b then xs else x ∷ others p xs) ≡ None
      go true i k e = let z : x ≡ y = cc in ap (λ (u : Transfer). of (to u) xs) (sym z) ∙ h.0
      go false i k e =
          let m = k e in
          let f = found_in xs y e in
          let n = h.0 in
          grind (arith, m, f, n)

  pub same_others : (b : ℕ) (xs : List Transfer) (y : Transfer) → find p xs ≡ Some y → to y ≢ b → of b (others p xs) ≡ of b xs
  same_others b [] y e n = refl
  same_others b (x ∷ xs) y e n = let h = same_others b xs y in grind (arith, h, e, n)

  pub others_none : (xs : List Transfer) → find p xs ≡ None → others p xs ≡ xs
  others_none [] e = refl
  others_none (x ∷ xs) e = let h = others_none xs in grind (arith, h, e)

  pub others_count : (xs : List Transfer) → length (others p xs) + (if has_some (find p xs) then 1 else 0) ≡ length xs
  others_count [] = refl
  others_count (x ∷ xs) = let h = others_count xs in grind (arith, h)

  -- a token is that of the first that passes, or of one of the others
  pub others_times : (k : ℕ) (xs : List Transfer) → times k (tokens xs) ≡ times k (tokens (others p xs)) + times k (listed (option_map (λ (x : Transfer). x.token) (find p xs)))
  others_times k [] = refl
  others_times k (x ∷ xs) = let h = others_times k xs in grind (arith, h)

pub times_append : (k : ℕ) (xs ys : List ℕ) → times k (xs ++ ys) ≡ times k xs + times k ys
times_append k [] ys = omega arith
times_append k (x ∷ xs) ys = let h = times_append k xs ys in omega (arith, h)

tokens_append : (xs ys : List Transfer) → tokens (xs ++ ys) ≡ tokens xs ++ tokens ys
tokens_append [] ys = refl
tokens_append (x ∷ xs) ys = let h = tokens_append xs ys in cc

-- ---- one begins

chosen : (a b c d : Bool) (x y z w : Refused) (u : Unit {0})
    → (let r : Result Unit Refused = if a then Err x else if b then Err y else if c then Err z else if d then Ok tt else Err w in r) ≡ Ok u → (b ≡ false) × (d ≡ true)
chosen a b c d x y z w u e = (grind (arith, e), grind (arith, e))

pub answered : (o : Order) (s : TransfersRecord) (u : Unit {0}) → answer o s ≡ Ok u → (is_open o.to s.running ≡ false) × (has_room s ≡ true)
answered o s u e = chosen (not (can_begin s.own o)) (is_open o.to s.running) (is_resting o.to o.group s.rests) (has_room s) BadValue Busy Resting Full u e

pub begun_split : (P : TransfersRecord → Type 0) (o : Order) (name : Option ℕ) (now : ℕ) (s : TransfersRecord) → P (awake now s)
    → (is_open o.to s.running ≡ false → has_room (awake now s) ≡ true → P (record (awake now s) { running = s.running ++ begun s.own o name now ∷ [] }))
    → P (begins o name now s)
begun_split P o name now s stays adds = go (answer o (awake now s)) refl
  where
    go : (r : Result Unit Refused) → answer o (awake now s) ≡ r → P (begun_if r (begun s.own o name now) (awake now s))
    go (Ok u) e =
        let h = answered o (awake now s) u e in
        adds h.0 h.1
    go (Err x) e = stays

pub not_open : (a : ℕ) (xs : List Transfer) → is_open a xs ≡ false → of a xs ≡ None
not_open a [] e = refl
not_open a (x ∷ xs) e = let h = not_open a xs in grind (arith, h, e)

pub to_begun : (own : ℕ) (o : Order) (name : Option ℕ) (now : ℕ) → to (begun own o name now) ≡ o.to
unfolding new_sender
to_begun own o name now = refl

apart_begun : (o : Order) (name : Option ℕ) (now : ℕ) (s : TransfersRecord) → AreApart s.running → AreApart (begins o name now s).running
apart_begun o name now s h = begun_split (λ (x : TransfersRecord). AreApart x.running) o name now s h
    (λ e r. apart_more s.running (begun s.own o name now) h (ap (λ (n : ℕ). of n s.running) (to_begun s.own o name now) ∙ not_open o.to s.running e))

pub begun_another : (s : TransfersRecord) (now a : ℕ) (o : Order) (name : Option ℕ) → o.to ≢ a → of a (begins o name now s).running ≡ of a s.running
begun_another s now a o name n = begun_split (λ (x : TransfersRecord). of a x.running ≡ of a s.running) o name now s refl
    (λ e r. of_before a s.running (begun s.own o name now ∷ [])
    (ap (λ (b : Bool). if b then Some (begun s.own o name now) else None) (ne_eqb a (to (begun s.own o name now)) (λ z. n (sym (z ∙ to_begun s.own o name now))))))

-- ---- one sends

abbrev standing : (Transfer → Transfer) → (Transfer → Bool) → List Transfer → List Transfer
standing f p xs = others p xs ++ listed (option_map f (find p xs))

module _ (f : Transfer → Transfer) (keeps : Keeps f) (p : Transfer → Bool) where
  apart_standing : (xs : List Transfer) → AreApart xs → AreApart (standing f p xs)
  apart_standing xs h = go (find p xs) refl
    where
      go : (o : Option Transfer) → find p xs ≡ o → AreApart (others p xs ++ listed (option_map f o))
      go None e = subst AreApart (sym (append-nil (others p xs))) (apart_others p xs h)
      go (Some y) e = apart_more (others p xs) (f y) (apart_others p xs h) (ap (λ (n : ℕ). of n (others p xs)) (keeps y).0 ∙ gone_others p xs y h e)

  its_standing : (xs : List Transfer) (y : Transfer) → AreApart xs → find p xs ≡ Some y → of (to y) (standing f p xs) ≡ Some (f y)
  its_standing xs y h e =
      of_append (to y) (others p xs) (listed (option_map f (find p xs))) (gone_others p xs y h e)
      ∙ (ap (λ (o : Option Transfer). of (to y) (listed (option_map f o))) e
      ∙ ap (λ (b : Bool). if b then Some (f y) else None) (eq-eqb (to y) (to (f y)) (sym (keeps y).0)))

  another_standing : (xs : List Transfer) (a : ℕ) (y : Transfer) → find p xs ≡ Some y → to y ≢ a → of a (standing f p xs) ≡ of a xs
  another_standing xs a y e n =
      ap (λ (o : Option Transfer). of a (others p xs ++ listed (option_map f o))) e
      ∙ (of_before a (others p xs) (f y ∷ []) (ap (λ (b : Bool). if b then Some (f y) else None) (ne_eqb a (to (f y)) (λ z. n (sym (z ∙ (keeps y).0)))))
      ∙ same_others p a xs y e n)

  count_standing : (xs : List Transfer) → length (standing f p xs) ≡ length xs
  count_standing xs =
      let a = length-append (others p xs) (listed (option_map f (find p xs))) in
      let c = others_count p xs in
      let l = one (find p xs) in
      omega (arith, a, c, l)
    where
      one : (o : Option Transfer) → length (listed (option_map f o)) ≡ (if has_some o then 1 else 0)
      one None = refl
      one (Some y) = refl

  times_standing : (k : ℕ) (xs : List Transfer) → times k (tokens (standing f p xs)) ≡ times k (tokens xs)
  times_standing k xs =
      let a = ap (times k) (tokens_append (others p xs) (listed (option_map f (find p xs)))) ∙ times_append k (tokens (others p xs)) (tokens (listed (option_map f (find p xs)))) in
      let c = others_times p k xs in
      let l = one (find p xs) in
      omega (arith, a, c, l)
    where
      one : (o : Option Transfer) → times k (tokens (listed (option_map f o))) ≡ times k (listed (option_map (λ (x : Transfer). x.token) o))
      one None = refl
      one (Some y) = ap (λ (n : ℕ). times k (n ∷ [])) (keeps y).1

-- ---- laws of one step

pub of_another : (s : TransfersRecord) (now a : ℕ) (f : FrameRecord) → source_of f.id ≢ a → of a (hears f now s).running ≡ of a s.running
of_another s now a f n = of_map (hears_in f now) (keeps_heard f now) a s.running ∙ same (of a s.running) refl
  where
    same : (o : Option Transfer) → of a s.running ≡ o → option_map (hears_in f now) o ≡ o
    same None e = refl
    same (Some x) e = ap Some (same_heard f now x (λ z. n (z ∙ sym (eqb-true a (to x) (found_passes (λ y. nat_eq a (to y)) s.running x e)))))

pub to_another : (s : TransfersRecord) (now a : ℕ) (f : FrameRecord) (x : Transfer) → of a s.running ≡ Some x → frames.destination_of f.id ≢ x.sender.message.source
    → of a (hears f now s).running ≡ Some x
to_another s now a f x e n = of_map (hears_in f now) (keeps_heard f now) a s.running ∙ (ap (option_map (hears_in f now)) e ∙ ap Some (same_elsewhere f now x n))

pub sent_another : (s : TransfersRecord) (now a : ℕ) (y : Transfer) → turn now s.running ≡ Some y → to y ≢ a → of a (sends now s).running ≡ of a s.running
sent_another s now a y e n = another_standing (sends_in now) (keeps_sent now) (is_first now s.running) s.running a y e n

pub told_another : (s : TransfersRecord) (a : ℕ) (y : Transfer) → find is_over s.running ≡ Some y → to y ≢ a → of a (tells s).running ≡ of a s.running
told_another s a y e n = same_others is_over a s.running y e n

pub its_heard : (s : TransfersRecord) (now a : ℕ) (f : FrameRecord) → of a (hears f now s).running ≡ option_map (hears_in f now) (of a s.running)
its_heard s now a f = of_map (hears_in f now) (keeps_heard f now) a s.running

pub its_left : (s : TransfersRecord) (now a : ℕ) (gone : Option ℕ) (holder : ℕ → Option ℕ) → of a (leaves gone holder now s).running ≡ option_map (leaves_in gone holder now) (of a s.running)
its_left s now a gone holder = of_map (leaves_in gone holder now) (keeps_left gone holder now) a s.running

-- ---- over all

pub each_apart : (own boxes : ℕ) (E : List Event) → AreApart (after own boxes E).running
each_apart own boxes [] = tt
each_apart own boxes (Begins o name now ∷ E) = apart_begun o name now (after own boxes E) (each_apart own boxes E)
each_apart own boxes (Hears f now ∷ E) = apart_map (hears_in f now) (keeps_heard f now) (after own boxes E).running (each_apart own boxes E)
each_apart own boxes (Sends now ∷ E) =
    apart_standing (sends_in now) (keeps_sent now) (is_first now (after own boxes E).running) (after own boxes E).running (each_apart own boxes E)
each_apart own boxes (Tells ∷ E) = apart_others is_over (after own boxes E).running (each_apart own boxes E)
each_apart own boxes (Leaves gone holder now ∷ E) = apart_map (leaves_in gone holder now) (keeps_left gone holder now) (after own boxes E).running (each_apart own boxes E)
each_apart own boxes (Loses now ∷ E) = apart_map (breaks how.Withdrawn now) (keeps_broken how.Withdrawn now) (after own boxes E).running (each_apart own boxes E)
each_apart own boxes (Moves a ∷ E) =
    cond_both (can_move a (after own boxes E)) (record (after own boxes E) { own = a }) (after own boxes E) (λ (s : TransfersRecord). AreApart s.running)
    (λ e. each_apart own boxes E) (λ e. each_apart own boxes E)

pub its_sent : (own boxes now : ℕ) (E : List Event) (y : Transfer) → turn now (after own boxes E).running ≡ Some y → of (to y) (sends now (after own boxes E)).running ≡ Some (sends_in now y)
its_sent own boxes now E y e =
    its_standing (sends_in now) (keeps_sent now) (is_first now (after own boxes E).running) (after own boxes E).running y (each_apart own boxes E) e

-- ---- how many

abbrev pub Fits : ℕ → TransfersRecord → Type 0
Fits boxes s = (s.boxes ≡ boxes) × ((length s.running ≤ boxes) × (length s.rests + length s.running ≤ 2 * boxes))

fewer : (p : Rest → Bool) (xs : List Rest) → length (filter p xs) ≤ length xs
fewer p [] = omega arith
fewer p (x ∷ xs) = let h = fewer p xs in grind (arith, h)

fits_as : (boxes : ℕ) (s t : TransfersRecord) → Fits boxes s → t.boxes ≡ s.boxes → length t.running ≡ length s.running → length t.rests ≡ length s.rests → Fits boxes t
fits_as boxes s t h b n r = let h0 = h.0 in let h1 = h.1.0 in let h2 = h.1.1 in (b ∙ h0, (omega (arith, h1, n), omega (arith, h2, n, r)))

fits_begun : (boxes : ℕ) (o : Order) (name : Option ℕ) (now : ℕ) (s : TransfersRecord) → Fits boxes s → Fits boxes (begins o name now s)
fits_begun boxes o name now s h = begun_split (Fits boxes) o name now s
    (let n = fewer (λ r. nat_lt now r.until) s.rests in let k = h.1.1 in (h.0, (h.1.0, omega (arith, n, k))))
    (λ e room.
    let b = h.0 in
    let n = length-append s.running (begun s.own o name now ∷ []) in
    let r = and_parts (nat_lt (length s.running) s.boxes) (nat_lt (length (filter (λ (r : Rest). nat_lt now r.until) s.rests) + length s.running) (2 * s.boxes)) room in
    let f = ltb-true (length s.running) s.boxes r.0 in
    let g = ltb-true (length (filter (λ (r : Rest). nat_lt now r.until) s.rests) + length s.running) (2 * s.boxes) r.1 in
    (b, (omega (arith, n, f, b), omega (arith, n, g, b))))

fits_told : (boxes : ℕ) (s : TransfersRecord) → Fits boxes s → Fits boxes (tells s)
fits_told boxes s h =
    let b = h.0 in
    let l = h.1.0 in
    let k = h.1.1 in
    let c = others_count is_over s.running in
    let a = length-append s.rests (listed (rest_by (find is_over s.running))) in
    let o = one (find is_over s.running) in
    (b, (omega (arith, c, l), omega (arith, k, c, a, o)))
  where
    most : (r : Option Rest) → length (listed r) ≤ 1
    most r = grind arith

    one : (o : Option Transfer) → length (listed (rest_by o)) ≤ (if has_some o then 1 else 0)
    one None = omega arith
    one (Some x) = most (rest_of x)

all_fits : (own boxes : ℕ) (E : List Event) → Fits boxes (after own boxes E)
all_fits own boxes [] = (refl, (omega arith, omega arith))
all_fits own boxes (Begins o name now ∷ E) = fits_begun boxes o name now (after own boxes E) (all_fits own boxes E)
all_fits own boxes (Hears f now ∷ E) = fits_as boxes (after own boxes E) (hears f now (after own boxes E)) (all_fits own boxes E) refl (length-map (after own boxes E).running (hears_in f now)) refl
all_fits own boxes (Sends now ∷ E) =
    fits_as boxes (after own boxes E) (sends now (after own boxes E)) (all_fits own boxes E) refl
    (count_standing (sends_in now) (keeps_sent now) (is_first now (after own boxes E).running) (after own boxes E).running) refl
all_fits own boxes (Tells ∷ E) = fits_told boxes (after own boxes E) (all_fits own boxes E)
all_fits own boxes (Leaves gone holder now ∷ E) =
    fits_as boxes (after own boxes E) (leaves gone holder now (after own boxes E)) (all_fits own boxes E) refl (length-map (after own boxes E).running (leaves_in gone holder now)) refl
all_fits own boxes (Loses now ∷ E) =
    fits_as boxes (after own boxes E) (loses now (after own boxes E)) (all_fits own boxes E) refl (length-map (after own boxes E).running (breaks how.Withdrawn now)) refl
all_fits own boxes (Moves a ∷ E) =
    cond_both (can_move a (after own boxes E)) (record (after own boxes E) { own = a }) (after own boxes E) (Fits boxes) (λ e. all_fits own boxes E) (λ e. all_fits own boxes E)

pub all_fit : (own boxes : ℕ) (E : List Event)
    → (length (after own boxes E).running ≤ boxes) × (length (after own boxes E).rests + length (after own boxes E).running ≤ 2 * boxes)
all_fit own boxes E = (all_fits own boxes E).1

-- ---- tokens

-- at each event a token that begins is open, and one that is told is no more
balanced : (k : ℕ) (event : Event) (s : TransfersRecord)
    → times k (tokens s.running) + times k (listed (begun_by event s)) ≡ times k (tokens (step event s).running) + times k (listed (told_by event s))
balanced k (Begins o name now) s = go (answer o (awake now s))
  where
    go : (r : Result Unit Refused) → times k (tokens s.running) + times k (listed (token_if r o.token))
        ≡ times k (tokens (begun_if r (begun s.own o name now) (awake now s)).running) + 0
    go (Ok u) =
        let a = ap (times k) (tokens_append s.running (begun s.own o name now ∷ [])) ∙ times_append k (tokens s.running) (o.token ∷ []) in
        omega (arith, a)
    go (Err e) = refl
balanced k (Hears f now) s = ap (λ ns. times k ns + 0) (sym (tokens_map (hears_in f now) (keeps_heard f now) s.running))
balanced k (Sends now) s = ap (λ n. n + 0) (sym (times_standing (sends_in now) (keeps_sent now) (is_first now s.running) k s.running))
balanced k Tells s =
    let c = others_times is_over k s.running in
    let t = told_one (find is_over s.running) refl in
    omega (arith, c, t)
  where
    told_one : (o : Option Transfer) → find is_over s.running ≡ o
        → times k (listed (option_map (λ (e : ℕ × Ending). e.0) (end_by o))) ≡ times k (listed (option_map (λ (x : Transfer). x.token) o))
    told_one None e = refl
    told_one (Some x) e = some (ending x) (found_passes is_over s.running x e)
      where
        some : (q : Option Ending) → has_some q ≡ true → times k (listed (option_map (λ (e : ℕ × Ending). e.0) (option_map (λ e. (x.token, e)) q))) ≡ times k (x.token ∷ [])
        some None e = absurd (cc)
        some (Some y) e = refl
balanced k (Leaves gone holder now) s = ap (λ ns. times k ns + 0) (sym (tokens_map (leaves_in gone holder now) (keeps_left gone holder now) s.running))
balanced k (Loses now) s = ap (λ ns. times k ns + 0) (sym (tokens_map (breaks how.Withdrawn now) (keeps_broken how.Withdrawn now) s.running))
balanced k (Moves a) s =
    cond_both (can_move a s) (record s { own = a }) s (λ (t : TransfersRecord). times k (tokens s.running) + 0 ≡ times k (tokens t.running) + 0) (λ e. refl) (λ e. refl)

pub all_accounted : (own boxes k : ℕ) (E : List Event) → times k (begun_tokens own boxes E) ≡ times k (told_tokens own boxes E) + times k (tokens (after own boxes E).running)
all_accounted own boxes k [] = refl
all_accounted own boxes k (event ∷ E) =
    let h = all_accounted own boxes k E in
    let b = balanced k event (after own boxes E) in
    let x = times_append k (begun_tokens own boxes E) (listed (begun_by event (after own boxes E))) in
    let y = times_append k (told_tokens own boxes E) (listed (told_by event (after own boxes E))) in
    omega (arith, h, b, x, y)
