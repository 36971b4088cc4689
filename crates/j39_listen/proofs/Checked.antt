-- A check of what was published, place by place, of a short log: where it passes, that was published.
use Rattle.std.proofs.Common.{◌≡◌, ◌≢◌, ◌⊎◌, ℕ, zero, suc, ◌-◌, ◌<◌, ◌≤◌, Bool, true, false, not, ◌&&◌, ◌||◌, List, length, Some, Contains, refl, sym, ap, ◌∙◌, inl, inr, arith, slice_get, slice_index, nat_lt, nat_le, ◌==◌, eqb-true, eq-eqb, ltb-true, lt-ltb}
use Rattle.std.specs.List.{list_all, list_any}
use Rattle.std.proofs.lemmas.Bool.{and_from, and_parts, both_ways, cases_eq, cases_order, false_from_ne_true, leb-true, or_cases, or_left, or_right}
use Rattle.std.proofs.lemmas.List.Folds.{Any-from_list_any, list_any_at}
use Rattle.std.proofs.lemmas.List.Sums.{AllPass-from_list_all}
use Rattle.std.proofs.lemmas.Option.{slice_get-get_or}
use Rattle.j39_frame.specs.Frame.{FrameRecord}
use Rattle.j39_frame.specs.Identifier.{pgn_of, source_of}
use Rattle.j39_groups.specs.Readings.{is_reported_group, is_reported_in}
use Rattle.j39_groups.specs.Table.{the_table}
use Rattle.j39_listen.proofs.Events.{announcement_within, packet_within}
use Rattle.j39_listen.proofs.Reported.{not_single, packet_group, packet_source, reported_leaves}
use Rattle.j39_listen.specs.Heard.{frame_at}
use Rattle.j39_listen.specs.Published.{IsSpare, Item, NeverBack, Published, Publisher, Publishing, StandsInOne, is_publisher, number_at}
use Rattle.j39_transport.proofs.FrameFacts.{announcement_facts, opening_is, packet_facts}
use Rattle.j39_transport.specs.Frames as frames
use Rattle.j39_transport.specs.Frames.{destination_of, group_of, is_announcement, is_packet}
use Rattle.j39_transport.specs.Key.{Key, sender}
use Rattle.j39_transport.specs.Key.Key.{Broadcast, Directed}
use Rattle.j39_listen.proofs.CheckedItems.{Each, Given, all_at, all_below, all_pairs, below_at, each_at, from_not, has, has_from, has_to, implied, implies, is_sent, pair_at}

-- an announcement is of the group of transport control, from its key's sender
announcement_group : (k : Key) (f : FrameRecord) → is_announcement k f ≡ true → (pgn_of f.id ≡ 60416) × (source_of f.id ≡ sender k)
unfolding group_of frames.source_of
announcement_group k f h = let a = announcement_facts k f h in (a.pgn, a.source)

-- a BAM or an RTS
abbrev is_opening : FrameRecord → Bool
is_opening f = pgn_of f.id == 60416 && (slice_index f.bytes 0 == 32 || slice_index f.bytes 0 == 16)

opening_passes : (k : Key) (f : FrameRecord) → is_announcement k f ≡ true → is_opening f ≡ true
opening_passes k f h =
    let a = announcement_facts k f h in
    and_from _ _ (eq-eqb _ _ (announcement_group k f h).0) (elim (opening_is k) [
      | inl e ↦ or_left _ _ (eq-eqb _ _ (a.first ∙ e))
      | inr e ↦ or_right _ _ (eq-eqb _ _ (a.first ∙ e))
    ])

-- whether place j is one of some item's
abbrev owned : Publishing → ℕ → Bool
owned P j = list_any (λ item. has item.places j) P.items

-- two items that share a place, or are both of more than eight bytes from one address
abbrev meets : Item → Item → Bool
meets x y =
    list_any (has y.places) x.places
    || (nat_lt 8 (length x.message.bytes) && (nat_lt 8 (length y.message.bytes) && x.publisher.address == y.publisher.address))

abbrev is_data : FrameRecord → Bool
is_data f = pgn_of f.id == 60160

-- a frame that stands in an item where its source is a publisher's
abbrev is_told : FrameRecord → Bool
is_told f = is_reported_group (pgn_of f.id) || (is_opening f || is_data f)

abbrev goes_to_all : FrameRecord → Bool
goes_to_all f = destination_of f.id == 255

-- a packet to all that no announcement precedes
abbrev is_early : List FrameRecord → ℕ → Bool
is_early F j = goes_to_all (frame_at F j) && all_below (λ q. not (is_opening (frame_at F q))) j

-- a place of these stands between
abbrev has_between : List ℕ → ℕ → ℕ → Bool
has_between places j q = list_any (λ r. nat_lt j r && nat_lt r q) places

-- q isn't the item's next place behind j, or its packet has another number
abbrev differs : List FrameRecord → ℕ → Item → ℕ → Bool
differs F j item q = nat_le q j || (has_between item.places j q || not (number_at F j == number_at F q))

-- a packet to one controller that is no item's next
abbrev is_idle : List FrameRecord → Publishing → ℕ → Bool
is_idle F P j = not (goes_to_all (frame_at F j)) && list_all (λ item. list_all (differs F j item) item.places) P.items

-- what a publisher tells stands in an item, but for packets that nobody waits for
abbrev pub place_fits : List FrameRecord → Publishing → ℕ → Bool
place_fits F P j =
    implies (is_publisher P (source_of (frame_at F j).id))
    (implies (is_told (frame_at F j)) (owned P j || (is_data (frame_at F j) && (is_early F j || is_idle F P j))))

abbrev pub rising_stamps : List FrameRecord → Bool
rising_stamps F = all_below (λ j. nat_le (frame_at F j).stamp (frame_at F (suc j)).stamp) (length F - 1)

pub never_back : (F : List FrameRecord) → rising_stamps F ≡ true → NeverBack F
never_back F h i zero u v = absurd (omega arith)
never_back F h i (suc j) u v =
    let s : (frame_at F j).stamp ≤ (frame_at F (suc j)).stamp = leb-true _ _ (below_at _ (length F - 1) j h (omega arith)) in
    elim (cases_eq i j) [
      | inl e ↦ let z : (frame_at F i).stamp ≡ (frame_at F j).stamp = ap (λ (q : ℕ). (frame_at F q).stamp) e in omega arith
      | inr e ↦ let z : (frame_at F i).stamp ≤ (frame_at F j).stamp = never_back F h i j (omega arith) (omega arith) in omega arith
    ]

differs_at : (F : List FrameRecord) (P : Publishing) (j n : ℕ) (item : Item) (q : ℕ) → is_idle F P j ≡ true
    → slice_get P.items n ≡ Some item → Contains item.places q → differs F j item q ≡ true
differs_at F P j n item q h e c =
    let t = all_at (λ x. list_all (differs F j x) x.places) P.items n item (and_parts _ _ h).1 e in
    sym (ap (differs F j item) c.2) ∙ AllPass-from_list_all _ item.places t c.0 q c.1

-- such a packet is spare
is_spare : (F : List FrameRecord) (P : Publishing) (k : Key) (j : ℕ) → is_idle F P j ≡ true → IsSpare F P k j
is_spare F P k j h n item e key span q next same =
    elim (or_cases _ _ (differs_at F P j n item q h e next.stands)) [
      | inl l ↦ let b : j < q = next.behind in let m : q ≤ j = leb-true _ _ l in absurd (omega arith)
      | inr o ↦ elim (or_cases _ _ o) [
        | inl l ↦ (let a = Any-from_list_any (λ r. nat_lt j r && nat_lt r q) item.places l in
            let b = and_parts _ _ a.4 in
            let w : q ≤ a.1 = next.first a.1 (a.0, a.2, a.3) (ltb-true _ _ b.0) in
            let v : a.1 < q = ltb-true _ _ b.1 in
            absurd (omega arith))
        | inr l ↦ absurd (both_ways _ (from_not _ l) (eq-eqb _ _ same))
      ]
    ]

-- what a log and a publishing are asked
pub record Passes (F : List FrameRecord) (P : Publishing) : Type 0 where
  pub addresses : list_all (λ p. nat_lt p.address 254) P.publishers ≡ true
  pub distinct : all_pairs (λ p q. not (p.address == q.address)) P.publishers ≡ true
  pub items : Each (Given F P) P.items
  pub apart : all_pairs (λ x y. not (meets x y)) P.items ≡ true
  pub places : all_below (place_fits F P) (length F) ≡ true
  pub stamps : rising_stamps F ≡ true

-- all but the items' frames is one test, that computes
pub passes : (F : List FrameRecord) (P : Publishing) → Each (Given F P) P.items
    → (list_all (λ p. nat_lt p.address 254) P.publishers && all_pairs (λ p q. not (p.address == q.address)) P.publishers)
    && (all_pairs (λ x y. not (meets x y)) P.items && (all_below (place_fits F P) (length F) && rising_stamps F)) ≡ true
    → Passes F P
passes F P items h =
    let parts = and_parts _ _ h in
    let publishers = and_parts _ _ parts.0 in
    let others = and_parts _ _ parts.1 in
    let frames = and_parts _ _ others.1 in record {
      addresses = publishers.0;
      distinct = publishers.1;
      items = items;
      apart = others.0;
      places = frames.0;
      stamps = frames.1;
    }

module _ (F : List FrameRecord) (P : Publishing) (h : Passes F P) where
  -- of two items at least one pair, in order, passed
  apart_at : (m n : ℕ) (x y : Item) → slice_get P.items m ≡ Some x → slice_get P.items n ≡ Some y → m ≢ n
      → (meets x y ≡ false) ⊎ (meets y x ≡ false)
  apart_at m n x y a b d = elim (cases_order m n) [
    | inl e ↦ absurd (d e)
    | inr o ↦ elim o [ inl l ↦ inl (from_not _ (pair_at _ P.items m n x y h.apart l a b)) | inr l ↦ inr (from_not _ (pair_at _ P.items n m y x h.apart l b a)) ]
  ]

  share : (x y : Item) (j : ℕ) → Contains x.places j → Contains y.places j → meets x y ≡ true
  share x y j c d = or_left _ _ (list_any_at (has y.places) x.places c.0 j c.1 (ap (has y.places) c.2 ∙ has_from y.places j d))

  stands : (j : ℕ) → owned P j ≡ true → StandsInOne P j
  stands j o =
      let a = Any-from_list_any (λ item. has item.places j) P.items o in
      let g : slice_get P.items a.0 ≡ Some a.1 = slice_get-get_or P.items a.0 a.1 a.2 ∙ ap (λ (x : Item). Some x) a.3 in
      let c : Contains a.1.places j = has_to a.1.places j a.4 in (
        a.0,
        (a.1, g, c),
        λ m s. elim (cases_eq m a.0) [
          | inl e ↦ e
          | inr e ↦ absurd (elim (apart_at m a.0 s.0 a.1 s.1 g e) [
            | inl z ↦ both_ways _ z (share s.0 a.1 j s.2 c)
            | inr z ↦ both_ways _ z (share a.1 s.0 j c s.2)
          ])
        ],
      )

  long_meet : (x y : Item) → 9 ≤ length x.message.bytes → 9 ≤ length y.message.bytes → x.publisher.address ≡ y.publisher.address → meets x y ≡ true
  long_meet x y a b e = or_right _ _ (and_from _ _ (lt-ltb _ _ a) (and_from _ _ (lt-ltb _ _ b) (eq-eqb _ _ e)))

  told : (j s : ℕ) → j < length F → is_publisher P s ≡ true → source_of (frame_at F j).id ≡ s → is_told (frame_at F j) ≡ true
      → StandsInOne P j ⊎ ((pgn_of (frame_at F j).id ≡ 60160) × ((is_early F j ≡ true) ⊎ (is_idle F P j ≡ true)))
  told j s l a e t =
      elim (or_cases _ _ (implied _ _ (implied _ _ (below_at _ (length F) j h.places l) (ap (is_publisher P) e ∙ a)) t)) [
        | inl o ↦ inl (stands j o)
        | inr o ↦ (let p = and_parts _ _ o in inr ((eqb-true _ _ p.0, or_cases _ _ p.1)))
      ]

  told_packet : (k : Key) (j : ℕ) → is_publisher P (sender k) ≡ true → is_packet k (frame_at F j) ≡ true
      → StandsInOne P j ⊎ ((pgn_of (frame_at F j).id ≡ 60160) × ((is_early F j ≡ true) ⊎ (is_idle F P j ≡ true)))
  told_packet k j a p = told j (sender k) (packet_within F k j p) a (packet_source k (frame_at F j) p)
      (or_right _ _ (or_right _ _ (eq-eqb _ _ (packet_group k (frame_at F j) p))))

  pub is_published : Published the_table F P
  is_published = record {
    addresses = λ k d l. ltb-true _ _ (AllPass-from_list_all (λ p. nat_lt p.address 254) P.publishers h.addresses k d l);
    distinct = λ m n p a b. elim (cases_order m n) [
      | inl e ↦ e
      | inr o ↦ absurd (elim o [ inl l ↦ other p (pair_at _ P.publishers m n p p h.distinct l a b) | inr l ↦ other p (pair_at _ P.publishers n m p p h.distinct l b a) ])
    ];
    sent = λ n item e. is_sent F P item (never_back F h.stamps) (each_at (Given F P) P.items n item h.items e);
    apart = λ m n x y a b d alike. absurd (elim (apart_at m n x y a b d) [
      | inl z ↦ both_ways _ z (long_meet x y alike.long_x alike.long_y (ap (λ (p : Publisher). p.address) alike.publisher))
      | inr z ↦ both_ways _ z (long_meet y x alike.long_y alike.long_x (sym (ap (λ (p : Publisher). p.address) alike.publisher)))
    ]);
    reported = λ j l a r. elim (told j (source_of (frame_at F j).id) l a refl (or_left _ _ r)) [
      | inl o ↦ o
      | inr o ↦ absurd (not_single (is_reported_in the_table) (reported_leaves the_table) _ r o.0)
    ];
    announced = λ j k a b.
        let g = announcement_group k (frame_at F j) b in
        elim (told j (sender k) (announcement_within F k j b) a g.1 (or_right _ _ (or_left _ _ (opening_passes k (frame_at F j) b)))) [
          | inl o ↦ o
          | inr o ↦ absurd (let u : pgn_of (frame_at F j).id ≡ 60416 = g.0 in let v : pgn_of (frame_at F j).id ≡ 60160 = o.0 in omega arith)
        ];
    broadcast = λ j s a b. elim (told_packet (Broadcast s) j a b) [
      | inl o ↦ inl o
      | inr o ↦ elim o.1 [
        | inl early ↦ inr (λ q l. false_from_ne_true _ (λ z.
            both_ways _ (from_not _ (below_at _ j q (and_parts _ _ early).1 l)) (opening_passes (Broadcast s) (frame_at F q) z)))
        | inr idle ↦ absurd (both_ways _ (from_not _ (and_parts _ _ idle).0) (eq-eqb _ _ (packet_facts (Broadcast s) (frame_at F j) b).destination))
      ]
    ];
    directed = λ j s d a b. elim (told_packet (Directed s d) j a b) [
      | inl o ↦ inl o
      | inr o ↦ elim o.1 [
        | inl early ↦
            (let v = packet_facts (Directed s d) (frame_at F j) b in
            let u : destination_of (frame_at F j).id ≡ 255 = eqb-true _ _ (and_parts _ _ early).0 in
            let w : destination_of (frame_at F j).id ≡ d = v.destination in
            let x : d < 254 = ltb-true _ _ (and_parts (nat_lt s 254) (nat_lt d 254) v.key).1 in
            absurd (omega arith))
        | inr idle ↦ inr (is_spare F P (Directed s d) j idle)
      ]
    ];
    never_back = never_back F h.stamps;
  }
    where
      other : (p : Publisher) → not (p.address == p.address) ≡ true → ⊥
      other p z = both_ways _ (from_not _ z) (eq-eqb _ _ refl)
