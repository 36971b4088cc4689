-- Tests of places and items, and an item that passes them: it was sent.
use Rattle.std.proofs.Common.{◌≡◌, ℕ, zero, suc, ◌+◌, ◌-◌, ◌<◌, ◌≤◌, Bool, true, false, not, ◌&&◌, ◌||◌, List, [], ◌∷◌, length, get_or, map, if◌then◌else◌, Option, Some, None, Contains, refl, sym, ap, subst, inl, inr, arith, slice_get, slice_index, nat_lt, nat_le, ◌==◌, eqb-true, eq-eqb, ltb-true, le-leb}
use Rattle.std.specs.List.{list_all, list_any}
use Rattle.std.specs.Option.{option_eq}
use Rattle.std.proofs.lemmas.Bool.{agree_below, agree_below_at, and_parts, both_ways, cases_eq, leb-true}
use Rattle.std.proofs.lemmas.List.Folds.{Any-from_list_any, list_any_at}
use Rattle.j39_address.proofs.HolderLemmas.{holder_below, one_more}
use Rattle.j39_address.specs.Claim.{Claim, claims_of}
use Rattle.j39_address.specs.Holder.{IsHolder}
use Rattle.j39_frame.specs.Frame.{FrameRecord}
use Rattle.j39_groups.specs.Readings.{is_reported_group}
use Rattle.j39_groups.specs.Table.{the_table}
use Rattle.j39_listen.specs.Heard.{frame_at, frames_only}
use Rattle.j39_listen.specs.Published.{IsSent, Item, NeverBack, Publishing, first_place, last_place}
use Rattle.j39_transport.specs.Assembly.{count_below}
use Rattle.j39_transport.specs.Carries.{Carries}
use Rattle.j39_transport.specs.Events.{Event, at, rivals}
use Rattle.j39_transport.specs.Frames.{is_end}
use Rattle.j39_transport.specs.Key.{limit}

-- ---- tests

-- each number below n passes
abbrev pub all_below : (ℕ → Bool) → ℕ → Bool
all_below t n = agree_below t (λ j. true) n

pub below_at : (t : ℕ → Bool) (n j : ℕ) → all_below t n ≡ true → j < n → t j ≡ true
below_at t n j h l = agree_below_at t (λ i. true) n j h l

abbrev pub implies : Bool → Bool → Bool
implies a b = not a || b

pub implied : (a b : Bool) → implies a b ≡ true → a ≡ true → b ≡ true
implied true b h e = h
implied false b h e = absurd (both_ways false refl e)

-- each element with each later one
abbrev pub all_pairs : {X : Type 0} → (X → X → Bool) → List X → Bool
all_pairs t [] = true
all_pairs t (x ∷ xs) = list_all (t x) xs && all_pairs t xs

pub from_not : (b : Bool) → not b ≡ true → b ≡ false
from_not true h = sym h
from_not false h = refl

-- T of each element
abbrev pub Each : {X : Type 0} → (X → Type 0) → List X → Type 0
Each T [] = Unit {0}
Each T (x ∷ xs) = T x × Each T xs

pub each_at : {X : Type 0} (T : X → Type 0) (xs : List X) (n : ℕ) (x : X) → Each T xs → slice_get xs n ≡ Some x → T x
each_at T [] n x h e = absurd (cc e)
each_at T (z ∷ xs) zero x h e = subst T (let s : Some z ≡ Some x = e in cc) h.0
each_at T (z ∷ xs) (suc n) x h e = each_at T xs n x h.1 e

pub all_at : {X : Type 0} (t : X → Bool) (xs : List X) (n : ℕ) (x : X) → list_all t xs ≡ true → slice_get xs n ≡ Some x → t x ≡ true
all_at t [] n x h e = absurd (cc e)
all_at t (z ∷ xs) zero x h e = subst (λ y. t y ≡ true) (let s : Some z ≡ Some x = e in cc) (and_parts _ _ h).0
all_at t (z ∷ xs) (suc n) x h e = all_at t xs n x (and_parts _ _ h).1 e

pub pair_at : {X : Type 0} (t : X → X → Bool) (xs : List X) (m n : ℕ) (x y : X) → all_pairs t xs ≡ true → m < n
    → slice_get xs m ≡ Some x → slice_get xs n ≡ Some y → t x y ≡ true
pair_at t [] m n x y h l a b = absurd (cc a)
pair_at t (z ∷ xs) m zero x y h l a b = absurd (omega arith)
pair_at t (z ∷ xs) zero (suc n) x y h l a b = all_at (t x) xs n y (subst (λ w. list_all (t w) xs ≡ true) (let s : Some z ≡ Some x = a in cc) (and_parts _ _ h).0) b
pair_at t (z ∷ xs) (suc m) (suc n) x y h l a b = pair_at t xs m n x y (and_parts _ _ h).1 (omega arith) a b

-- whether j is one of the places
abbrev pub has : List ℕ → ℕ → Bool
has ps j = list_any (λ p. p == j) ps

pub has_to : (ps : List ℕ) (j : ℕ) → has ps j ≡ true → Contains ps j
has_to ps j h = let a = Any-from_list_any (λ p. p == j) ps h in (a.0, a.2, subst (λ (x : ℕ). get_or ps a.0 x ≡ x) (eqb-true _ _ a.4) a.3)

pub has_from : (ps : List ℕ) (j : ℕ) → Contains ps j → has ps j ≡ true
has_from ps j c = list_any_at (λ p. p == j) ps c.0 j c.1 (eq-eqb _ _ c.2)

same_option : (o p : Option ℕ) → option_eq (λ a b. a == b) o p ≡ true → o ≡ p
same_option None None h = refl
same_option None (Some n) h = absurd (both_ways false refl h)
same_option (Some m) None h = absurd (both_ways false refl h)
same_option (Some m) (Some n) h = ap (λ (x : ℕ). Some x) (eqb-true _ _ h)

-- ---- the check of an item

-- whether this name holds the address before place j
abbrev name_is : List FrameRecord → Item → ℕ → Bool
name_is F item j = option_eq (λ a b. a == b) (holder_below (claims_of F) j item.publisher.address) item.publisher.name

abbrev is_held : List FrameRecord → Item → Bool
is_held F item = all_below (λ j. implies (nat_le (first_place item) j) (name_is F item j)) (suc (last_place item))

abbrev rises : List ℕ → Bool
rises ps = all_below (λ k. nat_lt (slice_index ps k) (slice_index ps (k + 1))) (length ps - 1)

-- short enough for every limit: no sixteen frames and no more time than between two frames of it may lie
abbrev is_near : List FrameRecord → Item → Bool
is_near F item =
    nat_le (first_place item) (last_place item)
    && (nat_lt (last_place item) (first_place item + 16)
    && nat_le (frame_at F (last_place item)).stamp ((frame_at F (first_place item)).stamp + limit item.key))

abbrev goes_on : List FrameRecord → Item → ℕ → Bool
goes_on F item j = implies (nat_le (first_place item) j) (not (is_end item.key item.message.pgn (frame_at F j)))

abbrev is_unended : List FrameRecord → Item → Bool
is_unended F item = all_below (goes_on F item) (suc (last_place item))

abbrev pub item_fits : List FrameRecord → Item → Bool
item_fits F item =
    nat_lt item.publisher.address 254
    && (item.message.source == item.publisher.address
    && (implies (nat_le (length item.message.bytes) 8) (is_reported_group item.message.pgn)
    && (rises item.places
    && (nat_lt (last_place item) (length F)
    && (is_held F item
    && (is_near F item
    && is_unended F item))))))

held_below : (C : List (Option Claim)) (i a : ℕ) → a < 254 → IsHolder C i a (holder_below C i a)
held_below C zero a w = λ n h. h
held_below C (suc i) a w = one_more C i a (get_or C i None) (holder_below C i a) w refl (held_below C i a w)

one_step : (b : Bool) (c k m n : ℕ) → c + m ≤ k + n → (if b then suc c else c) + m ≤ k + suc n
one_step true c k m n l = omega arith
one_step false c k m n l = omega arith

-- no more places pass a test than there are
few_more : (t : Event → Bool) (E : List Event) (m n : ℕ) → m ≤ n → count_below t E n + m ≤ count_below t E m + n
few_more t E m zero l = let z : ◌≡◌ {A = ℕ} m 0 = omega arith in subst (λ (x : ℕ). count_below t E 0 + x ≤ count_below t E x + 0) (sym z) (omega arith)
few_more t E m (suc n) l = elim (cases_eq m (suc n)) [
  | inl e ↦ subst (λ (x : ℕ). count_below t E (suc n) + x ≤ count_below t E x + suc n) (sym e) (omega arith)
  | inr d ↦ one_step (t (at E n)) (count_below t E n) (count_below t E m) m n (few_more t E m n (omega arith))
]

-- what is given of an item by itself: whose it is, and its frames
abbrev pub Given : List FrameRecord → Publishing → Item → Type 0
Given F P item = Contains P.publishers item.publisher × Carries item.key item.message (map (frame_at F) item.places) × (item_fits F item ≡ true)

stamps_rise : (F : List FrameRecord) (i j : ℕ) → NeverBack F → i ≤ j → j < length F → (frame_at F i).stamp ≤ (frame_at F j).stamp
stamps_rise F i j h k l = elim (cases_eq i j) [
  | inl e ↦ let z : (frame_at F i).stamp ≡ (frame_at F j).stamp = ap (λ (q : ℕ). (frame_at F q).stamp) e in omega arith
  | inr e ↦ h i j (omega arith) l
]

pub is_sent : (F : List FrameRecord) (P : Publishing) (item : Item) → NeverBack F → Given F P item → IsSent the_table F P item
is_sent F P item never g =
    let a = and_parts _ _ g.2 in
    let b = and_parts _ _ a.1 in
    let c = and_parts _ _ b.1 in
    let d = and_parts _ _ c.1 in
    let e = and_parts _ _ d.1 in
    let f = and_parts _ _ e.1 in
    let n = and_parts _ _ f.1 in
    let o = and_parts _ _ n.0 in
    let p = and_parts _ _ o.1 in
    let inside : last_place item < length F = ltb-true _ _ e.0 in
    let order : first_place item ≤ last_place item = leb-true _ _ o.0 in
    let few : last_place item < first_place item + 16 = ltb-true _ _ p.0 in
    let short : (frame_at F (last_place item)).stamp ≤ (frame_at F (first_place item)).stamp + limit item.key = leb-true _ _ p.1 in
    record {
      of_a_publisher = g.0;
      source_is = eqb-true _ _ b.0;
      reported = λ l. implied _ _ c.0 (le-leb _ _ l);
      rising = λ k l. ltb-true _ _ (below_at _ (length item.places - 1) k d.0 (omega arith));
      inside = inside;
      carried = g.1;
      held = λ j s.
          let l : j ≤ last_place item = s.1 in
          subst (λ (o : Option ℕ). IsHolder (claims_of F) j item.publisher.address o)
          (same_option _ _ (implied _ _ (below_at (λ i. implies (nat_le (first_place item) i) (name_is F item i)) (suc (last_place item)) j f.0 (omega arith)) (le-leb _ _ s.0)))
          (held_below (claims_of F) j item.publisher.address (ltb-true _ _ a.0));
      in_time = λ x y s.
          let first : first_place item ≤ x = s.earlier.0.0 in
          let last : y ≤ last_place item = s.later.0.1 in
          let order : x < y = s.order in
          let u : (frame_at F (first_place item)).stamp ≤ (frame_at F x).stamp = stamps_rise F (first_place item) x never first (omega arith) in
          let v : (frame_at F y).stamp ≤ (frame_at F (last_place item)).stamp = stamps_rise F y (last_place item) never last inside in
          omega arith;
      unended = λ j s.
          let l : j ≤ last_place item = s.1 in
          from_not _ (implied _ _ (below_at (goes_on F item) (suc (last_place item)) j n.1 (omega arith)) (le-leb _ _ s.0));
      young =
          let u : count_below (rivals item.key) (frames_only F) (suc (last_place item)) + suc (first_place item)
          ≤ count_below (rivals item.key) (frames_only F) (suc (first_place item)) + suc (last_place item)
          = few_more (rivals item.key) (frames_only F) (suc (first_place item)) (suc (last_place item)) (omega arith) in
          omega arith;
    }
