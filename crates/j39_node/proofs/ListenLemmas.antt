-- Lists of broadcasts in their boxes, step by step.
use Rattle.std.proofs.Math.Seq.{drop-nil}
use Rattle.std.proofs.lemmas.List.Elements.{All-head, All-tail}
use Rattle.std.proofs.lemmas.List.Filters.{length-filter_both}
use Rattle.std.proofs.lemmas.Option.{slice_get-get_or}
use Rattle.j39_node.proofs.QueueLemmas.{get_map}
use Rattle.j39_node.proofs.Common.{cond_both, AreApart, Bool, FrameRecord, HearingRecord, IfSome, List, Listening, MessageRecord, None, OpenBroadcast, Option, Some, Who, [], announces, ap, arith, by, drop, earliest, eqb-true, expires, false, get_or, goes, if◌then◌else◌, is_key, is_unheard_in, is_whole, length, length-map, lt-leb, ltb-true, made_in, made_of, map, min, nat_eq, nat_lt, not, of, option_map, others, packed, packs, refl, remove, since_in, slice_get, sooner, source_of, subst, suc, sym, transport_data_group, true, whole_of, with_one, without_source, zero, ℕ, ◌&&◌, ◌+◌, ◌<◌, ◌∙◌, ◌∷◌, ◌≡◌, ◌≢◌, ◌≤◌}
use Rattle.j39_transport.specs.Frames.{is_packet}
use Rattle.std.specs.List.{All, filter, position, position_or_len}
use Rattle.j39_node.specs.Hearing.{begun, is_gap, with_sender}
use Rattle.j39_node.specs.Is.{hearing_it}
use Rattle.j39_transport.proofs.FrameFacts.{announcement_facts}

-- ---- one after another, from the last on

pub map_remove : {T U : Type 0} (v : T → U) (xs : List T) (k : ℕ) → k < length xs → map v (remove xs k) ≡ remove (map v xs) k
map_remove v [] k l = absurd (omega (arith, l))
map_remove v (x ∷ xs) zero l = refl
map_remove v (x ∷ xs) (suc k) l = ap (λ ys. v x ∷ ys) (map_remove v xs k (omega (arith, l)))

-- the one at a place, mapped
pub at_place : {T U : Type 0} (v : T → U) (xs : List T) (x : T) (k : ℕ) → k < length xs → x ≡ get_or xs k x → slice_get (map v xs) k ≡ Some (v x)
at_place v xs x k l e = get_map v xs k x (slice_get-get_or xs k x l ∙ ap Some (sym e))

-- without one that passes, the same don't
pub without_one : {T U : Type 0} (q : U → Bool) (v : T → U) (xs : List T) (k : ℕ) (d : T) → k < length xs → q (v (get_or xs k d)) ≡ true
    → filter (λ y. not (q y)) (map v (remove xs k)) ≡ filter (λ y. not (q y)) (map v xs)
without_one q v [] k d l e = absurd (omega (arith, l))
without_one q v (x ∷ xs) zero d l e = sym (ap (λ (b : Bool). if not b then v x ∷ filter (λ y. not (q y)) (map v xs) else filter (λ y. not (q y)) (map v xs)) e)
without_one q v (x ∷ xs) (suc k) d l e = let h = without_one q v xs k d (omega (arith, l)) e in grind (arith, h, l, e)

none_within : {T : Type 0} (p : T → Bool) (xs : List T) → None ≡ position p xs → length xs ≤ position_or_len p xs
none_within p xs e = grind (arith, e)

-- where none passes, all are left
none_passes : {T U : Type 0} (q : U → Bool) (v : T → U) (xs : List T) → length xs ≤ position_or_len (λ x. q (v x)) xs → filter (λ y. not (q y)) (map v xs) ≡ map v xs
none_passes q v [] l = refl
none_passes q v (x ∷ xs) l = let h = none_passes q v xs in grind (arith, h, l)

pub all_left : {T U : Type 0} (q : U → Bool) (v : T → U) (xs : List T) → None ≡ position (λ x. q (v x)) xs → filter (λ y. not (q y)) (map v xs) ≡ map v xs
all_left q v xs e = none_passes q v xs (none_within (λ x. q (v x)) xs e)

-- those that passed are as many as are gone
pub over_lengths : {T U : Type 0} (q : U → Bool) (v : T → U) (xs ys : List T) → None ≡ position (λ x. q (v x)) xs → filter (λ y. not (q y)) (map v xs) ≡ filter (λ y. not (q y)) (map v ys)
    → length xs + length (filter q (map v ys)) ≡ length ys
over_lengths q v xs ys e g =
    let a = ap length (sym (all_left q v xs e) ∙ g) in
    let b = length-map xs v in
    let c = length-map ys v in
    let d = length-filter_both q (λ y. not (q y)) (λ y. refl) (map v ys) in
    omega (arith, a, b, c, d)

pub unequal : (m n : ℕ) → (m ≢ n) → nat_eq m n ≡ false
unequal m n h = grind (arith, h)

-- ---- the one of a source

-- none is of the source
pub none_other : (a : ℕ) (xs : List OpenBroadcast) → of a xs ≡ None → others a xs ≡ xs
none_other a [] e = refl
none_other a (x ∷ xs) e = let h = none_other a xs in grind (arith, h, e)

-- the one at this place is that of the source, and the others are those of others
abbrev pub IsPlaceOf : ℕ → ℕ → List OpenBroadcast → Type 0
IsPlaceOf source i xs = (of source xs ≡ slice_get xs i) × (AreApart xs → remove xs i ≡ others source xs)

-- the first place at which one is of the source
module _ {T : Type 0} (v : T → OpenBroadcast) (a : ℕ) where
  abbrev is_of : T → Bool
  is_of x = nat_eq a (v x).source

  first : (items : List T) → position_or_len is_of items < length items → IsPlaceOf a (position_or_len is_of items) (map v items)
  first [] l = absurd (omega (arith, l))
  first (x ∷ items) l = go (is_of x) refl (position_or_len is_of items) (first items) l
    where
      go : (b : Bool) → is_of x ≡ b → (n : ℕ) → (n < length items → IsPlaceOf a n (map v items)) → (if not b then 1 + n else 0) < length (x ∷ items)
          → IsPlaceOf a (if not b then 1 + n else 0) (v x ∷ map v items)
      go true i n h l = (
        ap (λ (b : Bool). if b then Some (v x) else of a (map v items)) i,
        λ k. sym (ap (λ (b : Bool). if not b then v x ∷ others a (map v items) else others a (map v items)) i ∙ none_other a (map v items) (ap (λ (b : ℕ). of b (map v items)) (eqb-true a (v x).source i) ∙ k.0)),
      )
      go false i n h l =
          let q = h (omega (arith, l)) in
          subst (λ (m : ℕ). IsPlaceOf a m (v x ∷ map v items)) (let z : suc n ≡ 1 + n = omega arith in z) (
            ap (λ (b : Bool). if b then Some (v x) else of a (map v items)) i ∙ q.0,
            λ k. ap (λ ys. v x ∷ ys) (q.1 k.1) ∙ sym (ap (λ (b : Bool). if not b then v x ∷ others a (map v items) else others a (map v items)) i),
          )

  pub placed : (items : List T) (i : ℕ) → Some i ≡ position is_of items → (i < length items) × IsPlaceOf a i (map v items)
  placed items i = go (nat_lt (position_or_len is_of items) (length items)) refl
    where
      go : (b : Bool) → nat_lt (position_or_len is_of items) (length items) ≡ b → Some i ≡ (if b then Some (position_or_len is_of items) else None) → (i < length items) × IsPlaceOf a i (map v items)
      go true k e =
          let l = ltb-true _ _ k in let z : position_or_len is_of items ≡ i = cc in
          subst (λ (m : ℕ). (m < length items) × IsPlaceOf a m (map v items)) z (l, first items l)
      go false k e = absurd (cc)

  none_first : (items : List T) → length items ≤ position_or_len is_of items → of a (map v items) ≡ None
  none_first [] l = refl
  none_first (x ∷ items) l = let h = none_first items in grind (arith, h, l)

  pub none_placed : (items : List T) → None ≡ position is_of items → of a (map v items) ≡ None
  none_placed items e = none_first items (none_within is_of items e)

-- what holds of all holds of it
pub all_of : (P : OpenBroadcast → Type 0) (a : ℕ) (xs : List OpenBroadcast) (x : OpenBroadcast) → All P xs → of a xs ≡ Some x → P x
all_of P a [] x h e = absurd (cc)
all_of P a (y ∷ xs) x h e = cond_both (nat_eq a y.source) (Some y) (of a xs) (λ (o : Option OpenBroadcast). o ≡ Some x → P x)
    (λ i m. subst P (let z : y ≡ x = cc in z) (All-head P y xs h)) (λ i m. all_of P a xs x (All-tail P y xs h) m) e

-- ---- the soonest

pub earliest_next : (xs : List OpenBroadcast) (x : OpenBroadcast) (k : ℕ) → slice_get xs k ≡ Some x → earliest (drop k xs) ≡ sooner (Some (expires x)) (earliest (drop (suc k) xs))
earliest_next [] x k e = absurd (cc)
earliest_next (y ∷ xs) x zero e = let z : y ≡ x = cc in ap (λ (u : OpenBroadcast). sooner (Some (expires u)) (earliest xs)) z
earliest_next (y ∷ xs) x (suc k) e = earliest_next xs x k e

pub sooner_of : (a b c : Option ℕ) → sooner (sooner a b) c ≡ sooner a (sooner b c)
sooner_of a b c = grind arith

pub sooner_none : (a : Option ℕ) → sooner a None ≡ a
sooner_none a = grind arith

pub sooner_below : (a b : Option ℕ) (n : ℕ) → IfSome a (λ m. m < n) → IfSome b (λ m. m < n) → IfSome (sooner a b) (λ m. m < n)
sooner_below a b n h k = grind (arith, h, k)

pub drop_all : {T : Type 0} (xs : List T) (k : ℕ) → length xs ≤ k → drop k xs ≡ []
drop_all [] k l = drop-nil k
drop_all (x ∷ xs) zero l = absurd (omega (arith, l))
drop_all (x ∷ xs) (suc k) l = drop_all xs k (omega (arith, l))

-- ---- a frame

pub begun_open : (name : Option ℕ) (since now : ℕ) (f : FrameRecord) → announces f ≡ true → is_whole (begun name since now f) ≡ false
begun_open name since now f e = lt-leb _ 0 (let l = (announcement_facts (by (source_of f.id)) f e).large in omega (arith, l))

pub none_made : (y : OpenBroadcast) (f : FrameRecord) {name : Option ℕ} {since now : ℕ} → announces f ≡ true → y ≡ begun name since now f
    → made_of (option_map (λ (u : ℕ × MessageRecord). u.1) (whole_of (Some y))) ≡ None
none_made y f {name} {since} {now} e g = let b = begun_open name since now f e in grind (arith, g, b)

pub no_sender : {T : Type 0} (o : Option T) (name : Option ℕ) (names : List (Option ℕ)) → o ≡ None → with_sender o name names ≡ names
no_sender o name names e = ap (λ o. with_sender o name names) e

pub shown_as : (l m : Listening) (b d n k : ℕ) → l ≡ m → b ≡ d → n ≡ k
    → (let x : HearingRecord = record { listening = l; boxes = b; missed = n } in x) ≡ record { listening = m; boxes = d; missed = k }
shown_as l m b d n k e g h = λ i. record { listening = e i; boxes = g i; missed = h i }

module _ (w : Who) (name : Option ℕ) (now : ℕ) (f : FrameRecord) (x : HearingRecord) where
  abbrev pub s : ℕ
  s = source_of f.id

  abbrev pub l : Listening
  l = x.listening

  -- a packet, or another frame
  pub hears_packet : announces f ≡ false → packs f ≡ true → hearing_it w name now f x ≡ record {
    listening = with_one (packed now f (of s l.current)) (without_source s l);
    boxes = x.boxes;
    missed = if is_gap f (of s l.current) then min (x.missed + 1) 18446744073709551615 else x.missed;
  }
  hears_packet e g = grind (arith, e, g)

  pub hears_other : announces f ≡ false → packs f ≡ false → hearing_it w name now f x ≡ x
  hears_other e g = grind (arith, e, g)

-- ---- what it misses, and makes whole

pub packs_is : (f : FrameRecord) (b : Bool) → b ≡ (is_key (by (source_of f.id)) && goes transport_data_group (source_of f.id) 255 f) → packs f ≡ b
unfolding is_packet
packs_is f b e = sym e

pub unheard_by_kind : (w : Who) (f : FrameRecord) (n : ℕ) (l : Listening) (b : Bool) → announces f ≡ false → packs f ≡ b
    → is_unheard_in n w f l ≡ (b && is_gap f (of (source_of f.id) l.current))
unheard_by_kind w f n l b e g = grind (arith, e, g)

pub made_by_packet : (w : Who) (name : Option ℕ) (now : ℕ) (f : FrameRecord) (n : ℕ) (l : Listening) → announces f ≡ false → packs f ≡ true
    → made_in n w name now f l ≡ whole_of (packed now f (of (source_of f.id) l.current))
made_by_packet w name now f n l e g = grind (arith, e, g)

pub made_by_none : (w : Who) (name : Option ℕ) (now : ℕ) (f : FrameRecord) (n : ℕ) (l : Listening) → announces f ≡ false → packs f ≡ false → made_in n w name now f l ≡ None
made_by_none w name now f n l e g = grind (arith, e, g)

-- an announcement makes nothing whole
pub made_by_announcement : (w : Who) (name : Option ℕ) (now : ℕ) (f : FrameRecord) (n : ℕ) (l : Listening) → announces f ≡ true → IfSome (of (source_of f.id) l.current) (λ y. is_whole y ≡ false)
    → made_in n w name now f l ≡ None
made_by_announcement w name now f n l e h = let b = begun_open name (since_in now (of (source_of f.id) l.current)) now f e in grind (arith, e, h, b)

pub if_all : (P : OpenBroadcast → Type 0) (a : ℕ) (xs : List OpenBroadcast) → All P xs → IfSome (of a xs) P
if_all P a [] h = tt
if_all P a (x ∷ xs) h = cond_both (nat_eq a x.source) (Some x) (of a xs) (λ (o : Option OpenBroadcast). IfSome o P) (λ e. All-head P x xs h) (λ e. if_all P a xs (All-tail P x xs h))
