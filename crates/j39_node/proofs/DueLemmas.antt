-- When a frame of packets is due.
use Rattle.j39_node.proofs.Common.{[], ◌+◌, ◌-◌, ◌<◌, ◌∙◌, ◌∷◌, ◌≡◌, ◌≤◌, ◌⊎◌, age, ap, arith, at_in, Call, carried_by, clock, has_packets, has_some, inl, inr, is_left, length, List, long_by, Message, MessageRecord, min, moment, nat_le, nat_lt, next_long, next_packet, next_transfer, None, open_broadcast, Option, option_map, packet_by, packets, packets_in, pause, refl, Running, said, Some, sooner, soonest, step, TransfersRecord, transfers_at, true, Who, ℕ, lt-leb, same_Some, cases_lt, cond_some, false}
use Rattle.j39_transfers.proofs.DueLemmas.{none_before, none_ever, one_then}
use Rattle.j39_transfers.specs.Transfers.{due_in}
use Rattle.j39_transport.specs.Cutting.{ToSend}
use Rattle.j39_node.specs.Transfers.{packet_in}

-- ---- a frame isn't due yet

not_yet : (p s : ℕ) → s < p - 100000 → nat_le (p - s) 100000 ≡ false
not_yet p s l = lt-leb (p - s) 100000 (omega (arith, l))

no_packet : (o : Option (ℕ × MessageRecord)) (i p s : ℕ) → ((n : ℕ) → packet_in (is_left o i) p ≡ Some n → s < n) → packet_by o i (p - s) ≡ None
no_packet o i p s e = grind (arith, e)

later_than : (a s n : ℕ) → s < n → clock (a + s) < clock a + n
later_than a s n l = omega (arith, l)

no_less : (a s : ℕ) → clock a ≤ clock (a + s)
no_less a s = omega arith

no_transfer : (x : TransfersRecord) (a s : ℕ) → ((n : ℕ) → soonest (clock a) x.running ≡ Some n → s < n) → said (clock (a + s)) x ≡ None
no_transfer x a s h = go (soonest (clock a) x.running) refl
  where
    go : (o : Option ℕ) → soonest (clock a) x.running ≡ o → said (clock (a + s)) x ≡ None
    go None e = none_ever x (clock a) (clock (a + s)) e (no_less a s)
    go (Some d) e = none_before x (clock a) (clock (a + s)) d e (no_less a s) (later_than a s d (h d e))

pub quiet_long : (w : Who) (H : List Call) (now : ℕ) → ((n : ℕ) → packets_in w H ≡ Some n → step H now < n) → next_long w H now ≡ None
quiet_long w H now h =
    ap (λ o. long_by o (next_transfer w H now)) (no_packet (open_broadcast w H) (length (packets H)) (pause H) (step H now) first)
    ∙ ap (option_map carried_by) (no_transfer (transfers_at w H) (age w H) (step H now) second)
  where
    first : (n : ℕ) → packet_in (has_packets w H) (pause H) ≡ Some n → step H now < n
    first n e = grind (arith, e)

    second : (n : ℕ) → soonest (clock (age w H)) (transfers_at w H).running ≡ Some n → step H now < n
    second n e = grind (arith, e)

-- ---- a frame is due

at_then : (m t : ℕ) (o : Option ℕ) → at_in m o ≡ Some t → (n : ℕ) × (o ≡ Some n) × (m + n ≡ t)
at_then m t None e = absurd (cc)
at_then m t (Some n) e = (n, refl, (cond_some (nat_lt (m + n) 10000000000000000) (m + n) t e).1)

either_sooner : (a b : Option ℕ) (n : ℕ) → sooner a b ≡ Some n → (a ≡ Some n) ⊎ (b ≡ Some n)
either_sooner None b n e = inr e
either_sooner (Some k) None n e = inl e
either_sooner (Some k) (Some m) n e =
    let least : min k m ≡ n = same_Some (min k m) n e in
    elim (cases_lt k m) [ inl l ↦ inl (ap (λ (x : ℕ). Some x) (omega (arith, l, least))) | inr l ↦ inr (ap (λ (x : ℕ). Some x) (omega (arith, l, least))) ]

some_packet : (o : Option (ℕ × MessageRecord)) (i p n s : ℕ) → n ≤ s → packet_in (is_left o i) p ≡ Some n → packet_by o i (p - s) ≡ None → ⊥
some_packet o i p n s e f g = grind (arith, e, f, g)

-- what is due stays due
due_still : (now later d : ℕ) (x : Running) → now + d ≤ later → due_in now x ≡ Some d → due_in later x ≡ Some 0
due_still now later d x l e = grind (arith, l, e)

sooner_front : (a b : Option ℕ) → a ≡ Some 0 → sooner a b ≡ Some 0
sooner_front a b e = grind (arith, e)

sooner_back : (a b : Option ℕ) → b ≡ Some 0 → sooner a b ≡ Some 0
sooner_back a b e = grind (arith, e)

soonest_still : (now later d : ℕ) (xs : List Running) → now + d ≤ later → soonest now xs ≡ Some d → soonest later xs ≡ Some 0
soonest_still now later d [] l e = absurd (cc)
soonest_still now later d (x ∷ xs) l e = go (either_sooner (due_in now x) (soonest now xs) d e) (soonest_still now later d xs l)
  where
    go : (due_in now x ≡ Some d) ⊎ (soonest now xs ≡ Some d) → (soonest now xs ≡ Some d → soonest later xs ≡ Some 0) → soonest later (x ∷ xs) ≡ Some 0
    go (inl a) h = sooner_front (due_in later x) (soonest later xs) (due_still now later d x l a)
    go (inr b) h = sooner_back (due_in later x) (soonest later xs) (h b)

reached_then : (a n s : ℕ) → n ≤ s → (n ≡ 0) ⊎ (a + n < 10000000000000000) → clock a + n ≤ clock (a + s)
reached_then a n s l (inl e) = omega (arith, l, e)
reached_then a n s l (inr m) = omega (arith, l, m)

some_said : (x : TransfersRecord) (a n s : ℕ) → n ≤ s → (n ≡ 0) ⊎ (a + n < 10000000000000000) → soonest (clock a) x.running ≡ Some n → option_map carried_by (said (clock (a + s)) x) ≡ None → ⊥
some_said x a n s l m e f = none_there (said (clock (a + s)) x) (ap (λ (t : ℕ). has_some (said t x)) (let z : clock (a + s) ≡ clock (a + s) + 0 = omega arith in z)
    ∙ one_then x (clock (a + s)) 0 (soonest_still (clock a) (clock (a + s)) n x.running (reached_then a n s l m) e)) f
  where
    none_there : (o : Option ToSend) → has_some o ≡ true → option_map carried_by o ≡ None → ⊥
    none_there o i z = grind (arith, i, z)

pub both_none : (a b : Option Message) → long_by a b ≡ None → (a ≡ None) × (b ≡ None)
both_none a b e = (grind (arith, e), grind (arith, e))

some_long : (w : Who) (H : List Call) (now n : ℕ) → n ≤ step H now → (n ≡ 0) ⊎ (age w H + n < 10000000000000000) → packets_in w H ≡ Some n → next_long w H now ≡ None → ⊥
some_long w H now n l m e f = elim (either_sooner _ _ n e) [
  | inl a ↦ some_packet (open_broadcast w H) (length (packets H)) (pause H) n (step H now) l a (both_none (next_packet w H now) (next_transfer w H now) f).0
  | inr b ↦ some_said (transfers_at w H) (age w H) n (step H now) l m b (both_none (next_packet w H now) (next_transfer w H now) f).1
]

pub from_long : (w : Who) (H : List Call) (now : ℕ) → at_in (moment H) (packets_in w H) ≡ Some (moment H) → next_long w H now ≡ None → ⊥
from_long w H now e f =
    let z = at_then (moment H) (moment H) (packets_in w H) e in
    let k : z.0 ≡ 0 = let y = z.2 in omega (arith, y) in
    some_long w H now z.0 (omega (arith, k)) (inl k) z.1 f

pub then_long : (w : Who) (H : List Call) (now t : ℕ) → t ≤ now → age w H + step H t < 10000000000000000 → at_in (moment H) (packets_in w H) ≡ Some t
    → next_long w H now ≡ None → ⊥
then_long w H now t l m e f =
    let z = at_then (moment H) t (packets_in w H) e in
    let y = z.2 in
    some_long w H now z.0 (omega (arith, y, l)) (inr (omega (arith, y, m))) z.1 f
