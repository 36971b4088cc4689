-- Messages put together: which places of a list of events make a message (J1939-21, 5.10).
use Rattle.std.specs.Prelude.{◌≡◌, ◌⊎◌, ℕ, zero, suc, ◌+◌, ◌*◌, ◌<◌, ◌≤◌, Bool, true, false, List, [], ◌∷◌, ◌++◌, length, take, if◌then◌else◌}
use Rattle.j39_transport.specs.Key.{Key, limit}
use Rattle.j39_transport.specs.Events.{Event, at, announces, ends, rivals, payload, size, packets, group, stamp, belongs, is_numbered}

-- p is the first place after q at which a packet of k numbered j stands
pub record IsFirstAfter (E : List Event) (k : Key) (q j p : ℕ) : Type 0 where
  pub later : q < p
  pub stands : is_numbered k j (at E p) ≡ true
  pub first : (r : ℕ) → q < r → r < p → is_numbered k j (at E r) ≡ false

-- the last of the places p0, p1, .. pm, where ps is pm, .. p1
abbrev pub last_of : ℕ → List ℕ → ℕ
last_of p0 [] = p0
last_of p0 (p ∷ ps) = p

-- ps are the places pm, .. p2, p1: each pj is the first after p(j-1) at which a packet of k numbered j stands
abbrev pub Links : List Event → Key → ℕ → List ℕ → Type 0
Links E k p0 [] = Unit {0}
Links E k p0 (p ∷ ps) = IsFirstAfter E k (last_of p0 ps) (length (p ∷ ps)) p × Links E k p0 ps

-- a and b are successive frames of the message of group g
pub record AreSuccessive (E : List Event) (k : Key) (g a b : ℕ) : Type 0 where
  pub order : a < b
  pub earlier : belongs k g (at E a) ≡ true
  pub later : belongs k g (at E b) ≡ true
  pub none_between : (q : ℕ) → a < q → q < b → belongs k g (at E q) ≡ false

-- how many of the first n places pass a test
abbrev pub count_below : (Event → Bool) → List Event → ℕ → ℕ
count_below t E zero = 0
count_below t E (suc n) = if t (at E n) then suc (count_below t E n) else count_below t E n

-- a message of group g announced at p0 runs on below end: after p0 no announcement of k and no end of it; of two
-- successive frames of it from p0 on the later is in time; fewer than sixteen directed announcements after p0
pub record Runs (E : List Event) (k : Key) (g p0 end : ℕ) : Type 0 where
  pub quiet : (q : ℕ) → p0 < q → q < end → (announces k (at E q) ≡ false) × (ends k g (at E q) ≡ false)
  pub in_time : (a b : ℕ) → p0 ≤ a → b < end → AreSuccessive E k g a b → stamp (at E b) ≤ stamp (at E a) + limit k
  pub young : count_below (rivals k) E end < 16 + count_below (rivals k) E (suc p0)

-- an announcement of k, of the group g, at p0, and packets of it at the places ps, the last first
pub record Chain (E : List Event) (k : Key) (g p0 : ℕ) (ps : List ℕ) : Type 0 where
  pub announced : announces k (at E p0) ≡ true
  pub group_is : g ≡ group (at E p0)
  pub few : length ps ≤ packets (at E p0)
  pub links : Links E k p0 ps
  pub runs : Runs E k g p0 (suc (last_of p0 ps))

-- the data of the packets at these places, the last first, joined in order
abbrev pub joined_at : List Event → List ℕ → List ℕ
joined_at E [] = []
joined_at E (p ∷ ps) = joined_at E ps ++ payload (at E p)

-- at place i the message of group g with the bytes b is whole
pub record Whole (E : List Event) (i : ℕ) (k : Key) (g : ℕ) (b : List ℕ) : Type 0 where
  pub start : ℕ
  pub places : List ℕ
  pub chain : Chain E k g start places
  pub full : length places ≡ packets (at E start)
  pub ends_at : last_of start places ≡ i
  pub bytes_are : b ≡ take (size (at E start)) (joined_at E places)

-- a message of k, of the group g, is open, with the announcement at p0 and packets at ps
pub record OpenBy (E : List Event) (k : Key) (g p0 : ℕ) (ps : List ℕ) : Type 0 where
  pub announced : announces k (at E p0) ≡ true
  pub group_is : g ≡ group (at E p0)
  pub few : length ps < packets (at E p0)
  pub links : Links E k p0 ps
  pub no_next : (q : ℕ) → last_of p0 ps < q → is_numbered k (suc (length ps)) (at E q) ≡ false
  pub runs : Runs E k g p0 (length E)

abbrev pub Open : List Event → Key → ℕ → Type 0
Open E k m = (g : ℕ) × (p0 : ℕ) × (ps : List ℕ) × OpenBy E k g p0 ps × (length ps ≡ m)

-- of these keys n have a message open, and held is seven times the sum of their packets so far
abbrev pub Opens : List Event → List Key → ℕ → ℕ → Type 0
Opens E [] n held = (n ≡ 0) × (held ≡ 0)
Opens E (k ∷ ks) n held = (a : ℕ) × (b : ℕ) × Opens E ks a b
    × (((m : ℕ) × Open E k m × (n ≡ suc a) × (held ≡ b + 7 * m)) ⊎ (((m : ℕ) → Open E k m → ⊥) × (n ≡ a) × (held ≡ b)))
