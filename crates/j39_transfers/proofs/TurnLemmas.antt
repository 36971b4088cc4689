-- Whose turn it is.
use Rattle.j39_transfers.proofs.Common.{[], if◌then◌else◌, ◌&&◌, ◌++◌, ◌∙◌, ◌∷◌, ◌≡◌, ◌≢◌, ◌≤◌, ap, append-nil, arith, begun, Bool, breaks, cond_both, eq-eqb, eqb-true, false, find, goes, has_some, hears_in, is_due, is_first, is_over, leaves_in, List, listed, map, nat_eq, None, of, Option, option_map, others, refl, sends, sends_in, Some, sooner, subst, sym, to, Transfer, TransfersRecord, true, turn, urgency, urgency_in, ℕ}
use Rattle.j39_transfers.specs.Events.{after, AreApart, Begins, Event, Hears, is_before, Leaves, Loses, Moves, Passes, PassesBy, Sends, step, Tells}
use Rattle.j39_transfers.specs.Transfers.{can_move}
use Rattle.j39_transfers.specs.declared.kinds.Ending.TheVariants as how
use Rattle.j39_transfers.proofs.LawLemmas.{begun_split, each_apart, gone_others, Keeps, of_map, others_none, same_others, found_passes}
use Rattle.j39_transfers.proofs.StepLemmas.{keeps_broken, keeps_heard, keeps_left}

-- ---- who stands before whom

none_before : (b a : ℕ) (xs : List Transfer) → of a xs ≡ None → is_before b a xs ≡ false
none_before b a [] e = refl
none_before b a (x ∷ xs) e = let h = none_before b a xs in grind (arith, h, e)

none_first : (b a : ℕ) (xs : List Transfer) → of b xs ≡ None → is_before b a xs ≡ false
none_first b a [] e = refl
none_first b a (x ∷ xs) e = let h = none_first b a xs in grind (arith, h, e)

-- the one stands, and the other not before it
abbrev IsBehind : ℕ → ℕ → List Transfer → Type 0
IsBehind a b xs = (has_some (of a xs) ≡ true) × (is_before b a xs ≡ false)

before_map : (f : Transfer → Transfer) → Keeps f → (a b : ℕ) (xs : List Transfer) → is_before b a (map f xs) ≡ is_before b a xs
before_map f keeps a b [] = refl
before_map f keeps a b (x ∷ xs) = let h = before_map f keeps a b xs in let m = of_map f keeps a xs in let k = (keeps x).0 in grind (arith, h, m, k)

some_map : (f : Transfer → Transfer) (o : Option Transfer) → has_some (option_map f o) ≡ has_some o
some_map f None = refl
some_map f (Some x) = refl

behind_map : (f : Transfer → Transfer) → Keeps f → (a b : ℕ) (xs : List Transfer) → IsBehind a b xs → IsBehind a b (map f xs)
behind_map f keeps a b xs h = (ap has_some (of_map f keeps a xs) ∙ (some_map f (of a xs) ∙ h.0), before_map f keeps a b xs ∙ h.1)

before_others : (p : Transfer → Bool) (a b : ℕ) (xs : List Transfer) (y : Transfer) → find p xs ≡ Some y → to y ≢ a → is_before b a xs ≡ false → is_before b a (others p xs) ≡ false
before_others p a b [] y e n h = refl
before_others p a b (x ∷ xs) y e n h =
    let k = before_others p a b xs y in
    let s = same_others p a xs y in
    let z = none_before b a xs in
    grind (arith, k, s, z, e, n, h)

some_append : (a : ℕ) (xs ys : List Transfer) → has_some (of a xs) ≡ true → has_some (of a (xs ++ ys)) ≡ true
some_append a [] ys e = absurd (cc)
some_append a (x ∷ xs) ys e = let h = some_append a xs ys in grind (arith, h, e)

before_append : (a b : ℕ) (xs ys : List Transfer) → b ≢ a → IsBehind a b xs → is_before b a (xs ++ ys) ≡ false
before_append a b [] ys n h = let e = h.0 in absurd (cc)
before_append a b (x ∷ xs) ys n h = let k = before_append a b xs ys n in let e = h.0 in let f = h.1 in grind (arith, k, e, f, n)

behind_append : (a b : ℕ) (xs ys : List Transfer) → b ≢ a → IsBehind a b xs → IsBehind a b (xs ++ ys)
behind_append a b xs ys n h = (some_append a xs ys h.0, before_append a b xs ys n h)

behind_others : (p : Transfer → Bool) (a b : ℕ) (xs : List Transfer) (y : Transfer) → find p xs ≡ Some y → to y ≢ a → IsBehind a b xs → IsBehind a b (others p xs)
behind_others p a b xs y e n h = (ap has_some (same_others p a xs y e n) ∙ h.0, before_others p a b xs y e n h.1)

-- the one whose frame goes stands behind all others
behind_sent : (now a : ℕ) (s : TransfersRecord) (y : Transfer) → AreApart s.running → turn now s.running ≡ Some y → to y ≢ a → has_some (of a s.running) ≡ true
    → IsBehind a (to y) (sends now s).running
behind_sent now a s y h e n o =
    let p = is_first now s.running in
    behind_append a (to y) (others p s.running) (listed (option_map (sends_in now) (turn now s.running))) n
    (ap has_some (same_others p a s.running y e n) ∙ o, none_first (to y) a (others p s.running) (gone_others p s.running y h e))

behind_step : (a b : ℕ) (event : Event) (s : TransfersRecord) → b ≢ a → Passes a event s → IsBehind a b s.running → IsBehind a b (step event s).running
behind_step a b (Begins o name now) s n p h = begun_split (λ (x : TransfersRecord). IsBehind a b x.running) o name now s h (λ e r. behind_append a b s.running (begun s.own o name now ∷ []) n h)
behind_step a b (Hears f now) s n p h = behind_map (hears_in f now) (keeps_heard f now) a b s.running h
behind_step a b (Sends now) s n p h = go (turn now s.running) refl p
  where
    go : (o : Option Transfer) → turn now s.running ≡ o → option_map to o ≢ Some a
        → IsBehind a b (others (is_first now s.running) s.running ++ listed (option_map (sends_in now) o))
    go None e p = subst (IsBehind a b) (sym (append-nil (others (is_first now s.running) s.running) ∙ others_none (is_first now s.running) s.running e)) h
    go (Some y) e p = behind_append a b (others (is_first now s.running) s.running) (sends_in now y ∷ []) n
        (behind_others (is_first now s.running) a b s.running y e (λ z. p (ap Some z)) h)
behind_step a b Tells s n p h = go (find is_over s.running) refl p
  where
    go : (o : Option Transfer) → find is_over s.running ≡ o → option_map to o ≢ Some a → IsBehind a b (others is_over s.running)
    go None e p = subst (IsBehind a b) (sym (others_none is_over s.running e)) h
    go (Some y) e p = behind_others is_over a b s.running y e (λ z. p (ap Some z)) h
behind_step a b (Leaves gone holder now) s n p h = behind_map (leaves_in gone holder now) (keeps_left gone holder now) a b s.running h
behind_step a b (Loses now) s n p h = behind_map (breaks how.Withdrawn now) (keeps_broken how.Withdrawn now) a b s.running h
behind_step a b (Moves own) s n p h = cond_both (can_move own s) (record s { own = own }) s (λ (x : TransfersRecord). IsBehind a b x.running) (λ e. h) (λ e. h)

behind_all : (own boxes a b : ℕ) (later E : List Event) → b ≢ a → PassesBy own boxes a later E → IsBehind a b (after own boxes E).running
    → IsBehind a b (after own boxes (later ++ E)).running
behind_all own boxes a b [] E n p h = h
behind_all own boxes a b (event ∷ later) E n p h = behind_step a b event (after own boxes (later ++ E)) n p.0 (behind_all own boxes a b later E n p.1 h)

-- ---- which is first

-- the smallest priority number of those that send is at most this
abbrev IsAtMost : Option ℕ → ℕ → Type 0
IsAtMost None n = ⊥
IsAtMost (Some m) n = m ≤ n

sooner_left : (a b : Option ℕ) (n : ℕ) → IsAtMost a n → IsAtMost (sooner a b) n
sooner_left a b n h = grind (arith, h)

sooner_right : (a b : Option ℕ) (n : ℕ) → IsAtMost b n → IsAtMost (sooner a b) n
sooner_right a b n h = grind (arith, h)

its_urgency : (now : ℕ) (x : Transfer) → is_due now x ≡ true → IsAtMost (urgency_in now x) x.priority
its_urgency now x e = subst (λ (b : Bool). IsAtMost (if b then Some x.priority else None) x.priority) (sym e) (omega arith)

least : (now a : ℕ) (xs : List Transfer) (x : Transfer) → of a xs ≡ Some x → is_due now x ≡ true → IsAtMost (urgency now xs) x.priority
least now a [] x e d = absurd (cc)
least now a (z ∷ xs) x e d = go (nat_eq a (to z)) e (least now a xs x)
  where
    go : (b : Bool) → (if b then Some z else of a xs) ≡ Some x → (of a xs ≡ Some x → is_due now x ≡ true → IsAtMost (urgency now xs) x.priority)
        → IsAtMost (urgency now (z ∷ xs)) x.priority
    go true i h = let k : z ≡ x = cc in sooner_left (urgency_in now z) (urgency now xs) x.priority
        (subst (λ (w : Transfer). IsAtMost (urgency_in now w) x.priority) (sym k) (its_urgency now x d))
    go false i h = sooner_right (urgency_in now z) (urgency now xs) x.priority (h i d)

-- its priority number is the smallest
pub goes_due : (now : ℕ) (u : Option ℕ) (y : Transfer) → goes now u y ≡ true → (is_due now y ≡ true) × (u ≡ Some y.priority)
goes_due now None y e = absurd (let h : (is_due now y && false) ≡ true = e in grind (arith, h))
goes_due now (Some m) y e = let h : (is_due now y && nat_eq y.priority m) ≡ true = e in (grind (arith, h), grind (arith, h))

pub smallest : (now a : ℕ) (xs : List Transfer) (y x : Transfer) → turn now xs ≡ Some y → of a xs ≡ Some x → is_due now x ≡ true → (is_due now y ≡ true) × (y.priority ≤ x.priority)
smallest now a xs y x e o d =
    let g = goes_due now (urgency now xs) y (found_passes (is_first now xs) xs y e) in
    (g.0, subst (λ (u : Option ℕ). IsAtMost u x.priority) g.1 (least now a xs x o d))

pub most_urgent : (now a : ℕ) (xs : List Transfer) (y x : Transfer) → turn now xs ≡ Some y → of a xs ≡ Some x → is_due now x ≡ true → y.priority ≤ x.priority
most_urgent now a xs y x e o d = (smallest now a xs y x e o d).1

pub first_due : (now : ℕ) (xs : List Transfer) (y : Transfer) → turn now xs ≡ Some y → is_due now y ≡ true
first_due now xs y e = (goes_due now (urgency now xs) y (found_passes (is_first now xs) xs y e)).0

first_found : (p : Transfer → Bool) (a : ℕ) (xs : List Transfer) (x y : Transfer) → find p xs ≡ Some y → of a xs ≡ Some x → p x ≡ true → to y ≢ a → is_before (to y) a xs ≡ true
first_found p a [] x y e o i n = absurd (cc)
first_found p a (z ∷ xs) x y e o i n = go (p z) refl (nat_eq a (to z)) refl e o (first_found p a xs x y)
  where
    go : (b : Bool) → p z ≡ b → (c : Bool) → nat_eq a (to z) ≡ c → (if b then Some z else find p xs) ≡ Some y → (if c then Some z else of a xs) ≡ Some x
        → (find p xs ≡ Some y → of a xs ≡ Some x → p x ≡ true → to y ≢ a → is_before (to y) a xs ≡ true) → is_before (to y) a (z ∷ xs) ≡ true
    go true j true k e o h = let w : z ≡ y = cc in absurd (n (ap to (sym w) ∙ sym (eqb-true a (to z) k)))
    go true j false k e o h =
        let w : z ≡ y = cc in
        ap (λ (b : Bool). if b then has_some (of a xs) else if nat_eq a (to z) then false else is_before (to y) a xs) (eq-eqb (to y) (to z) (ap to (sym w))) ∙ ap has_some o
    go false j true k e o h = let w : z ≡ x = cc in absurd (let q = sym j ∙ (ap p w ∙ i) in cc)
    go false j false k e o h =
        let m = h e o i n in
        let r = ap has_some o in
        grind (arith, m, r, k)

-- of two whose numbers are the same, or the other's is larger, the one behind waits
pub its_turn : (now a : ℕ) (xs : List Transfer) (x y : Transfer) → turn now xs ≡ Some y → of a xs ≡ Some x → is_due now x ≡ true → x.priority ≤ y.priority → to y ≢ a
    → is_before (to y) a xs ≡ true
its_turn now a xs x y e o d l n =
    let g = goes_due now (urgency now xs) y (found_passes (is_first now xs) xs y e) in
    let m = smallest now a xs y x e o d in
    let k = m.1 in
    let q : x.priority ≡ y.priority = omega (arith, k, l) in
    first_found (is_first now xs) a xs x y e o
    (ap (λ (u : Option ℕ). goes now u x) g.1 ∙ (let r = eq-eqb x.priority y.priority q in grind (arith, d, r))) n

pub by_turns : (own boxes now when a : ℕ) (later E : List Event) (x y z : Transfer) → turn now (after own boxes E).running ≡ Some y → to y ≢ a
    → has_some (of a (after own boxes E).running) ≡ true → PassesBy own boxes a later (Sends now ∷ E) → of a (after own boxes (later ++ Sends now ∷ E)).running ≡ Some x
    → is_due when x ≡ true → x.priority ≤ z.priority → turn when (after own boxes (later ++ Sends now ∷ E)).running ≡ Some z → to z ≢ to y
by_turns own boxes now when a later E x y z e n o p i d l t = λ same.
    let xs = (after own boxes (later ++ Sends now ∷ E)).running in
    let b = behind_all own boxes a (to y) later (Sends now ∷ E) n p (behind_sent now a (after own boxes E) y (each_apart own boxes E) e n o) in
    let f = its_turn when a xs x z t i d l (λ w. n (sym same ∙ w)) in
    let g = ap (λ (c : ℕ). is_before c a xs) same in
    let h = b.1 in
    absurd (cc)
