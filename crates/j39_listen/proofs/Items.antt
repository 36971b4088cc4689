-- The items of a publishing: of one frame, or of an announcement and packets at rising places.
use Rattle.std.proofs.Common.{◌≡◌, ◌⊎◌, ℕ, zero, suc, ◌+◌, ◌-◌, ◌<◌, ◌≤◌, true, false, List, [], ◌∷◌, map, length, Some, Contains, refl, sym, ap, ◌∙◌, subst, inl, inr, arith, slice_get, slice_index}
use Rattle.std.proofs.lemmas.Bool.{cases_eq, both_ways}
use Rattle.std.proofs.lemmas.List.{get_or_default, length-map}
use Rattle.std.specs.List.Sorted.{IsStrictlyIncreasing}
use Rattle.j39_address.proofs.HolderLemmas.{same_holder}
use Rattle.j39_address.specs.Claim.{claims_of}
use Rattle.j39_address.specs.Holder.{IsHolder}
use Rattle.j39_frame.specs.Frame.{FrameRecord}
use Rattle.j39_frame.specs.Identifier.{pgn_of}
use Rattle.j39_groups.specs.Readings.{is_reported_in}
use Rattle.j39_groups.specs.Row.{RowRecord}
use Rattle.j39_listen.specs.Heard.{frame_at}
use Rattle.j39_listen.specs.Published.{IsSent, Item, Published, Publishing, Spans, first_place, last_place, number_at}
use Rattle.j39_transport.proofs.FrameFacts.{announcement_facts, one_key, packet_facts}
use Rattle.j39_transport.specs.Carries.{AreNumbered, Carries, CarriesAlone, CarriesCut}
use Rattle.j39_transport.specs.Frames.{group_of, is_announcement, is_packet, packets_named}
use Rattle.j39_transport.specs.Key.{Key, sender}

-- ---- a packet, or an announcement, is of one key

pub packet_key : (j k : Key) (f : FrameRecord) → is_packet j f ≡ true → is_packet k f ≡ true → j ≡ k
packet_key j k f h g =
    let a = packet_facts j f h in let b = packet_facts k f g in
    one_key j k a.key b.key (sym a.source ∙ b.source) (sym a.destination ∙ b.destination)

pub announcement_key : (j k : Key) (f : FrameRecord) → is_announcement j f ≡ true → is_announcement k f ≡ true → j ≡ k
announcement_key j k f h g =
    let a = announcement_facts j f h in let b = announcement_facts k f g in
    one_key j k a.key b.key (sym a.source ∙ b.source) (sym a.destination ∙ b.destination)

pub packet-announcement : (j k : Key) (f : FrameRecord) → is_packet j f ≡ true → is_announcement k f ≡ true → ⊥
packet-announcement j k f h g =
    let a : group_of f.id ≡ 60160 = (packet_facts j f h).pgn in
    let b : group_of f.id ≡ 60416 = (announcement_facts k f g).pgn in
    omega arith

-- ---- lists of places

rising : (ps : List ℕ) → IsStrictlyIncreasing ps → (i j : ℕ) → i < j → j < length ps → slice_index ps i < slice_index ps j
rising ps h i zero l w = absurd (omega arith)
rising ps h i (suc j) l w =
    let s : slice_index ps j < slice_index ps (suc j) = subst (λ (n : ℕ). slice_index ps j < slice_index ps n) (let e : j + 1 ≡ suc j = omega arith in e) (h j (omega arith)) in
    elim (cases_eq i j) [
      | inl e ↦ let z : slice_index ps i ≡ slice_index ps j = ap (slice_index ps) e in omega arith
      | inr e ↦ let z : slice_index ps i < slice_index ps j = rising ps h i j (omega arith) (omega arith) in omega arith
    ]

numbered_at : (F : List FrameRecord) (k : Key) (j : ℕ) (ps : List ℕ) (i : ℕ) → AreNumbered k j (map (frame_at F) ps) → i < length ps
    → (is_packet k (frame_at F (slice_index ps i)) ≡ true) × (number_at F (slice_index ps i) ≡ j + i)
numbered_at F k j [] i h l = absurd (omega arith)
numbered_at F k j (p ∷ ps) zero h l = (h.0, (let e : number_at F p ≡ j = h.1 in omega arith))
numbered_at F k j (p ∷ ps) (suc i) h l =
    let r = numbered_at F k (j + 1) ps i h.2 (omega arith) in
    (r.0, (let e : number_at F (slice_index ps i) ≡ j + 1 + i = r.1 in omega arith))

-- ---- the two kinds of items

pub record AloneItem (groups : List RowRecord) (F : List FrameRecord) (P : Publishing) (n : ℕ) (item : Item) : Type 0 where
  pub at_n : slice_get P.items n ≡ Some item
  pub sent : IsSent groups F P item
  pub place : ℕ
  pub places_are : item.places ≡ place ∷ []
  pub alone : CarriesAlone item.message (frame_at F place) []

pub record CutItem (groups : List RowRecord) (F : List FrameRecord) (P : Publishing) (n : ℕ) (item : Item) : Type 0 where
  pub at_n : slice_get P.items n ≡ Some item
  pub sent : IsSent groups F P item
  pub start : ℕ
  pub rest : List ℕ
  pub places_are : item.places ≡ start ∷ rest
  pub cut : CarriesCut item.key item.message (frame_at F start) (map (frame_at F) rest)

pub item_kinds : (groups : List RowRecord) (F : List FrameRecord) (P : Publishing) (n : ℕ) (item : Item) → Published groups F P → slice_get P.items n ≡ Some item
    → AloneItem groups F P n item ⊎ CutItem groups F P n item
item_kinds groups F P n item h e = go item.places refl
  where
    m : IsSent groups F P item
    m = h.sent n item e

    empty : (ps : List ℕ) → map (frame_at F) ps ≡ [] → ps ≡ []
    empty [] z = refl
    empty (p ∷ ps) z = cc

    carried : (ps : List ℕ) → item.places ≡ ps → Carries item.key item.message (map (frame_at F) ps)
    carried ps k = subst (λ (qs : List ℕ). Carries item.key item.message (map (frame_at F) qs)) k m.carried

    go : (ps : List ℕ) → item.places ≡ ps → AloneItem groups F P n item ⊎ CutItem groups F P n item
    go [] k = absurd (carried [] k)
    go (p ∷ ps) k = elim (carried (p ∷ ps) k).1 [
      | inl a ↦
          (let z : ps ≡ [] = empty ps a.alone in
          inl (record {
            at_n = e;
            sent = m;
            place = p;
            places_are = k ∙ ap (λ (qs : List ℕ). p ∷ qs) z;
            alone = subst (λ (fs : List FrameRecord). CarriesAlone item.message (frame_at F p) fs) a.alone a;
          }))
      | inr a ↦ inr (record { at_n = e; sent = m; start = p; rest = ps; places_are = k; cut = a })
    ]

-- the place of the j-th frame, the announcement being the 0-th
abbrev pub nth : {groups : List RowRecord} {F : List FrameRecord} {P : Publishing} {n : ℕ} {item : Item} → CutItem groups F P n item → ℕ → ℕ
nth c j = slice_index (c.start ∷ c.rest) j

pub alone_place : (groups : List RowRecord) (F : List FrameRecord) (P : Publishing) (n : ℕ) (item : Item) (c : AloneItem groups F P n item) (j : ℕ) → Contains item.places j → j ≡ c.place
alone_place groups F P n item c j h = go (subst (λ (ps : List ℕ). Contains ps j) c.places_are h)
  where
    go : Contains (c.place ∷ []) j → j ≡ c.place
    go (zero, w, e) = sym e
    go (suc k, w, e) = absurd (omega arith)

pub alone_last : (groups : List RowRecord) (F : List FrameRecord) (P : Publishing) (n : ℕ) (item : Item) (c : AloneItem groups F P n item) → last_place item ≡ c.place
alone_last groups F P n item c = ap (λ (ps : List ℕ). slice_index ps (length ps - 1)) c.places_are

-- an item one of whose frames is of a group that isn't reported is cut
pub cut_from : (groups : List RowRecord) (F : List FrameRecord) (P : Publishing) (n j : ℕ) (item : Item) → Published groups F P → slice_get P.items n ≡ Some item
    → Contains item.places j → is_reported_in groups (pgn_of (frame_at F j).id) ≡ false → CutItem groups F P n item
cut_from groups F P n j item h e l r = elim (item_kinds groups F P n item h e) [
  | inl c ↦ absurd (both_ways _ r
      (ap (λ (q : ℕ). is_reported_in groups (pgn_of (frame_at F q).id)) (alone_place groups F P n item c j l) ∙ (ap (is_reported_in groups) c.alone.pgn ∙ c.sent.reported c.alone.short)))
  | inr c ↦ c
]

module _ (groups : List RowRecord) (F : List FrameRecord) (P : Publishing) (n : ℕ) (item : Item) (c : CutItem groups F P n item) where
  pub count_is : length c.rest ≡ packets_named (frame_at F c.start)
  count_is = sym (length-map c.rest (frame_at F)) ∙ c.cut.count

  pub nth_rising : (i j : ℕ) → i < j → j ≤ length c.rest → nth c i < nth c j
  nth_rising i j k l = rising (c.start ∷ c.rest) (subst (λ (ps : List ℕ). IsStrictlyIncreasing ps) c.places_are c.sent.rising) i j k (omega arith)

  pub nth_le : (i j : ℕ) → i ≤ j → j ≤ length c.rest → nth c i ≤ nth c j
  nth_le i j k l = elim (cases_eq i j) [
    | inl e ↦ let z : nth c i ≡ nth c j = ap (nth c) e in omega arith
    | inr e ↦ let z : nth c i < nth c j = nth_rising i j (omega arith) l in omega arith
  ]

  pub nth_first : first_place item ≡ c.start
  nth_first = ap (λ (ps : List ℕ). slice_index ps 0) c.places_are

  pub nth_last : last_place item ≡ nth c (length c.rest)
  nth_last = ap (λ (ps : List ℕ). slice_index ps (length ps - 1)) c.places_are
      ∙ ap (nth c) (let e : suc (length c.rest) - 1 ≡ length c.rest = omega arith in e)

  pub nth_inside : (j : ℕ) → j ≤ length c.rest → nth c j < length F
  nth_inside j l =
      let a : last_place item ≡ nth c (length c.rest) = nth_last in
      let b : last_place item < length F = c.sent.inside in
      let d : nth c j ≤ nth c (length c.rest) = nth_le j (length c.rest) l (omega arith) in
      omega arith

  -- from its first place to its last
  pub spans : (t : ℕ) → c.start ≤ t → t ≤ nth c (length c.rest) → Spans item t
  spans t k l = let a = nth_first in let b = nth_last in ((omega arith), (omega arith))

  pub nth_packet : (j : ℕ) → j < length c.rest → is_packet item.key (frame_at F (nth c (suc j))) ≡ true
  nth_packet j l = (numbered_at F item.key 1 c.rest j c.cut.numbered l).0

  pub nth_number : (j : ℕ) → j < length c.rest → number_at F (nth c (suc j)) ≡ suc j
  nth_number j l = let e = (numbered_at F item.key 1 c.rest j c.cut.numbered l).1 in omega arith

  pub nth_listed : (j : ℕ) → j ≤ length c.rest → Contains item.places (nth c j)
  nth_listed j l = subst (λ (ps : List ℕ). Contains ps (nth c j)) (sym c.places_are)
      (j, (omega arith), get_or_default (c.start ∷ c.rest) j (nth c j) 0 (omega arith))

  pub listed_nth : (t : ℕ) → Contains item.places t → (j : ℕ) × (j ≤ length c.rest) × (t ≡ nth c j)
  listed_nth t h =
      let r : Contains (c.start ∷ c.rest) t = subst (λ (ps : List ℕ). Contains ps t) c.places_are h in
      let w : r.0 < suc (length c.rest) = r.1 in
      (r.0, (omega arith), sym r.2 ∙ get_or_default (c.start ∷ c.rest) r.0 t 0 w)

  -- one of its packets is one of those behind the announcement
  pub listed_packet : (k : Key) (t : ℕ) → Contains item.places t → is_packet k (frame_at F t) ≡ true → (j : ℕ) × (j < length c.rest) × (t ≡ nth c (suc j))
  listed_packet k t h p = go (listed_nth t h)
    where
      go : (j : ℕ) × (j ≤ length c.rest) × (t ≡ nth c j) → (j : ℕ) × (j < length c.rest) × (t ≡ nth c (suc j))
      go (zero, w, e) = absurd (packet-announcement k item.key (frame_at F t) p (ap (λ (q : ℕ). is_announcement item.key (frame_at F q)) e ∙ c.cut.announced))
      go (suc j, w, e) = (j, (omega arith), e)

  pub held_at : (j : ℕ) → c.start ≤ j → j ≤ nth c (length c.rest) → IsHolder (claims_of F) j item.message.source item.publisher.name
  held_at j k l = subst (λ (a : ℕ). IsHolder (claims_of F) j a item.publisher.name) (sym c.sent.source_is) (c.sent.held j (spans j k l))

-- two cut items of one key that meet are one
pub meet : (groups : List RowRecord) (F : List FrameRecord) (P : Publishing) (m n : ℕ) (x y : Item) → Published groups F P → (c : CutItem groups F P m x) (d : CutItem groups F P n y)
    → x.key ≡ y.key → (t : ℕ) → c.start ≤ t → t ≤ nth c (length c.rest) → d.start ≤ t → t ≤ nth d (length d.rest) → m ≡ n
meet groups F P m n x y h c d ek t a b u v = elim (cases_eq m n) [
  | inl k ↦ k
  | inr k ↦
      let e : x.message.source ≡ y.message.source = sym c.cut.source ∙ (ap sender ek ∙ d.cut.source) in
      let q : IsHolder (claims_of F) t x.message.source y.publisher.name = subst (λ (s : ℕ). IsHolder (claims_of F) t s y.publisher.name) (sym e) (held_at groups F P n y d t u v) in
      let i : x.publisher.name ≡ y.publisher.name = same_holder (claims_of F) t x.message.source _ _ (held_at groups F P m x c t a b) q in
      let j : x.publisher.address ≡ y.publisher.address = sym c.sent.source_is ∙ (e ∙ d.sent.source_is) in
      let s : x.publisher ≡ y.publisher = λ i'. record { name = i i'; address = j i' } in
      elim (h.apart m n x y c.at_n d.at_n k (record { publisher = s; key = ek; long_x = c.cut.long; long_y = d.cut.long })) [
        | inl z ↦ absurd (let z' : last_place x < first_place y = z in let e1 = nth_last groups F P m x c in let e2 = nth_first groups F P n y d in omega arith)
        | inr z ↦ absurd (let z' : last_place y < first_place x = z in let e1 = nth_last groups F P n y d in let e2 = nth_first groups F P m x c in omega arith)
      ]
]
