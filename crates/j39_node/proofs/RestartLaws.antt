-- A restart is met.
use Rattle.j39_node.proofs.Common.{[], after, ap, arith, At, Bool, Call, called, called_for, Calling, calls_whom, Claim, claim_of, claimed_again, eq-eqb, false, FrameRecord, Hear, heard_at, held_then, holder, holds, if◌then◌else◌, is_called, is_claim, is_message, is_same, KeepsHolder, known, later, List, moment, nat_eq, None, not, of_other, Option, passed_in, refl, restarts, Some, step, still, sym, TakeFrame, taken_whom, Tick, true, waned, Who, ℕ, ◌&&◌, ◌++◌, ◌+◌, ◌-◌, ◌<◌, ◌||◌, ◌↔◌, ◌∙◌, ◌∷◌, ◌≡◌, ◌≢◌, ◌≤◌}
use Rattle.std.proofs.lemmas.Bool.{ne_eqb}

means_by : (holds : ℕ → Option ℕ) (k : Calling) (a : ℕ) (o : Option Claim)
    → (claimed_again holds k o ≡ Some a ↔ ((c : Claim) × (o ≡ Some c) × (c.address ≡ a) × (holds a ≡ Some c.name) × (is_called a k ≡ false)))
means_by holds k a o = (λ z. grind (arith, z), λ z. (let claim = z.1 in let at = z.2 in let name = z.3 in let l = z.4 in grind (arith, claim, at, name, l)))

pub means : (w : Who) (H : List Call) (now a : ℕ) (f : FrameRecord) → (restarts w H now f ≡ Some a
    ↔ ((c : Claim) × (claim_of f ≡ Some c) × (c.address ≡ a) × (holder w H a ≡ Some c.name) × (is_called a (waned (now - heard_at H) (called w H)) ≡ false)))
means w H now a f = means_by (holder w H) (waned (now - heard_at H) (called w H)) a (claim_of f)

-- the address has its holder still, who isn't the one before
pub gone : (w : Who) (H : List Call) (when a : ℕ) (f : FrameRecord) → restarts w H when f ≡ Some a → (known w H when f a ≡ None) × ((n : ℕ) × (holder w (At when (Hear f) ∷ H) a ≡ Some n))
gone w H when a f e =
    let m = (means w H when a f).0 e in (
      ap (λ (o : Option ℕ). still o (holder w H) a) e ∙ ap (λ (b : Bool). if b then None else holder w H a) (eq-eqb a a refl),
      (
        m.0.name,
        (λ i. held_then a (of_other w (m.1 i)) (m.3 i)) ∙ still_held (nat_eq m.0.name w.name) m.0 m.2,
      ),
    )
  where
    still_held : (b : Bool) (c : Claim) → c.address ≡ a → held_then a (if b then None else Some c) (Some c.name) ≡ Some c.name
    still_held b c e = grind (arith, e)

pub left_by : (w : Who) (H : List Call) (when a : ℕ) (f : FrameRecord) → restarts w H when f ≡ Some a → is_same (known w H when f a) (holder w (At when (Hear f) ∷ H) a) ≡ false
left_by w H when a f e = let g = gone w H when a f e in λ i. is_same (g.0 i) (g.1.1 i)

pub differs : (w : Who) (H : List Call) (when a : ℕ) (f : FrameRecord) → restarts w H when f ≡ Some a → holder w (At when (Hear f) ∷ H) a ≢ known w H when f a
differs w H when a f e same = let g = gone w H when a f e in absurd (let z : Some g.1.0 ≡ None = sym g.1.1 ∙ (same ∙ g.0) in cc)

-- ---- what calls for claims

abbrev calls_it : ℕ → Calling → Bool
calls_it a k = nat_eq k.whose a || nat_eq k.whose 255

-- by a call for a, or for all
pub named : (a b time : ℕ) (k : Calling) (o : Option ℕ) → o ≡ Some b → (nat_eq b a || nat_eq b 255) ≡ true
    → (calls_it a (called_for time o k) ≡ true) × ((called_for time o k).left ≡ time)
named a b time k o e n = grind (arith, e, n)

-- by one for another alone
pub alone : (a b p : ℕ) (k : Calling) (o : Option ℕ) → o ≡ Some b → k.left ≤ p → b ≢ a → b ≢ 255 → is_called a (called_for 1250000 o (waned p k)) ≡ false
alone a b p k o e l n m = let z : k.left - p ≡ 0 = omega (arith, l) in grind (arith, e, z, n, m)

stays : (a time : ℕ) (o : Option ℕ) (k : Calling) → nat_eq k.left 0 ≡ false → calls_it a k ≡ true → calls_it a (called_for time o k) ≡ true
stays a time None k n e = e
stays a time (Some b) k n e = grind (arith, n, e)

left_in : (time : ℕ) (o : Option ℕ) (k : Calling) (P : ℕ → Type 0) → P time → P k.left → P (called_for time o k).left
left_in time None k P p q = q
left_in time (Some b) k P p q = p

record Called (w : Who) (a : ℕ) (later E : List Call) : Type 0 where
  left : 1250000 ≤ ((called w (later ++ E)).left - (moment (later ++ E) - heard_at (later ++ E))) + passed_in later E
  whose : passed_in later E < 1250000 → calls_it a (called w (later ++ E)) ≡ true

-- what is left of it at most so much less than what passed
kept_on : (c m h p now : ℕ) → 1250000 ≤ (c - (m - h)) + p → 1250000 ≤ ((c - (now - h)) - (now - now)) + (p + (now - m))
kept_on c m h p now l = omega (arith, l)

taken_on : (c m h p now : ℕ) → 1250000 ≤ (c - (m - h)) + p → 1250000 ≤ (c - (now - h)) + (p + (now - m))
taken_on c m h p now l = omega (arith, l)

not_yet : (c m h p now : ℕ) → 1250000 ≤ (c - (m - h)) + p → p + (now - m) < 1250000 → nat_eq (c - (now - h)) 0 ≡ false
not_yet c m h p now l q = ne_eqb (c - (now - h)) 0 (λ e. absurd (omega (arith, e, l, q)))

still_left : (c m h p now : ℕ) → 1250000 ≤ (c - (m - h)) + p → p + (now - m) < 1250000 → nat_eq c 0 ≡ false
still_left c m h p now l q = ne_eqb c 0 (λ e. absurd (omega (arith, e, l, q)))

earlier : (p s : ℕ) → p + s < 1250000 → p < 1250000
earlier p s l = omega (arith, l)

called_on : (w : Who) (a : ℕ) (later E : List Call) → 1250000 ≤ (called w E).left - (moment E - heard_at E) → calls_it a (called w E) ≡ true → Called w a later E
called_on w a [] E l n = record { left = omega (arith, l); whose = λ z. n }
called_on w a (call ∷ later) E l n = go call (called_on w a later E l n)
  where
    G : List Call
    G = later ++ E

    go : (call : Call) → Called w a later E → Called w a (call ∷ later) E
    go (At now (Hear f)) c = record {
      left = left_in 1250000 (calls_whom (holder w G) f (claim_of f)) (waned (now - heard_at G) (called w G)) (λ (m : ℕ). 1250000 ≤ (m - (now - now)) + (passed_in later E + (now - moment G)))
          (omega arith) (kept_on (called w G).left (moment G) (heard_at G) (passed_in later E) now c.left);
      whose = λ z. stays a 1250000 (calls_whom (holder w G) f (claim_of f)) (waned (now - heard_at G) (called w G))
          (not_yet (called w G).left (moment G) (heard_at G) (passed_in later E) now c.left z) (c.whose (earlier (passed_in later E) (now - moment G) z));
    }
    go (At now Tick) c = record {
      left = kept_on (called w G).left (moment G) (heard_at G) (passed_in later E) now c.left;
      whose = λ z. c.whose (earlier (passed_in later E) (now - moment G) z);
    }
    go (At now (TakeFrame (Some f))) c = record {
      left = left_in (1250000 + (now - heard_at G)) (taken_whom (is_claim f) (is_message f) f) (called w G) (λ (m : ℕ). 1250000 ≤ (m - (now - heard_at G)) + (passed_in later E + (now - moment G)))
          (omega arith) (taken_on (called w G).left (moment G) (heard_at G) (passed_in later E) now c.left);
      whose = λ z. stays a _ (taken_whom (is_claim f) (is_message f) f) (called w G)
          (still_left (called w G).left (moment G) (heard_at G) (passed_in later E) now c.left z) (c.whose (earlier (passed_in later E) (now - moment G) z));
    }
    go (At now act) c = record {
      left = taken_on (called w G).left (moment G) (heard_at G) (passed_in later E) now c.left;
      whose = λ z. c.whose (earlier (passed_in later E) (now - moment G) z);
    }
    go call c = let l = c.left in record { left = omega (arith, l); whose = λ z. c.whose (earlier (passed_in later E) (moment G - moment G) z) }

pub none_restarts : (w : Who) (a : ℕ) (later E : List Call) (now : ℕ) (g : FrameRecord) → 1250000 ≤ (called w E).left - (moment E - heard_at E) → calls_it a (called w E) ≡ true
    → passed_in later E + step (later ++ E) now < 1250000 → restarts w (later ++ E) now g ≢ Some a
none_restarts w a later E now g l n q e =
    let c = called_on w a later E l n in
    let it : is_called a (waned (now - heard_at G) (called w G)) ≡ true =
    λ i. not (not_yet (called w G).left (moment G) (heard_at G) (passed_in later E) now c.left q i) && c.whose (earlier (passed_in later E) (now - moment G) q) i in
    let z : true ≡ false = sym it ∙ ((means w G now a g).0 e).4 in absurd (cc)
  where
    G : List Call
    G = later ++ E

-- ---- between the calls that bring a message

pub between : (w : Who) (a : ℕ) (after before earlier : List Call) (now : ℕ) (f : FrameRecord) → KeepsHolder w a (after ++ At now (Hear f) ∷ before) earlier
    → restarts w (before ++ earlier) now f ≢ Some a
between w a [] before earlier now f h e = differs w (before ++ earlier) now a f e h.0
between w a (call ∷ after) before earlier now f h e = between w a after before earlier now f h.1 e
