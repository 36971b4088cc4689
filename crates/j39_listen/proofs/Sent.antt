-- What else stands in a published list from an item's first place to its last.
use Rattle.std.proofs.Common.{◌≡◌, ℕ, zero, suc, ◌<◌, ◌≤◌, true, false, List, length, Option, Some, Contains, refl, sym, ap, ◌∙◌, subst, inl, inr, arith, slice_get}
use Rattle.std.proofs.lemmas.Bool.{cases_lt, both_ways, false_from_ne_true}
use Rattle.j39_frame.specs.Frame.{FrameRecord}
use Rattle.j39_groups.specs.Row.{RowRecord}
use Rattle.j39_listen.proofs.Items.{CutItem, announcement_key, cut_from, listed_nth, listed_packet, meet, nth, nth_first, nth_le, nth_listed, nth_number, nth_packet, nth_rising, packet-announcement, packet_key, spans}
use Rattle.j39_listen.proofs.Reported.{unreported_announcement, unreported_packet}
use Rattle.j39_listen.specs.Heard.{frame_at}
use Rattle.j39_listen.specs.Published.{IsNextPlace, Item, Published, Publishing, StandsIn, StandsInOne, first_place, is_publisher, number_at}
use Rattle.j39_transport.specs.Frames.{is_announcement, is_packet}
use Rattle.j39_transport.specs.Key.{Key, sender}
use Rattle.j39_transport.specs.Key.Key.{Broadcast, Directed}

same_item : (x y : Item) (o : Option Item) → o ≡ Some x → o ≡ Some y → x ≡ y
same_item x y o h k = let e : Some x ≡ Some y = sym h ∙ k in cc

-- the item of an announcement, which stands first in it
pub record ItemOf (groups : List RowRecord) (F : List FrameRecord) (P : Publishing) (k : Key) (t : ℕ) : Type 0 where
  pub index : ℕ
  pub item : Item
  pub cut : CutItem groups F P index item
  pub key_is : item.key ≡ k
  pub start_is : cut.start ≡ t

pub announced_item : (groups : List RowRecord) (F : List FrameRecord) (P : Publishing) → Published groups F P → (k : Key) → is_publisher P (sender k) ≡ true
    → (t : ℕ) → is_announcement k (frame_at F t) ≡ true → ItemOf groups F P k t
announced_item groups F P h k adr t a =
    let r = h.announced t k adr a in
    let s : StandsIn P r.0 t = r.1 in
    let c = cut_from groups F P r.0 t s.0 h s.1 s.2 (unreported_announcement groups k _ a) in
    let st : c.start ≡ t = first r.0 s.0 c (listed_nth groups F P r.0 s.0 c t s.2) in
    record {
      index = r.0;
      item = s.0;
      cut = c;
      key_is = announcement_key s.0.key k (frame_at F t) (subst (λ (q : ℕ). is_announcement s.0.key (frame_at F q) ≡ true) st c.cut.announced) a;
      start_is = st;
    }
  where
    first : (n : ℕ) (item : Item) (c : CutItem groups F P n item) → (j : ℕ) × (j ≤ length c.rest) × (t ≡ nth c j) → c.start ≡ t
    first n item c (zero, l, e) = sym e
    first n item c (suc j, l, e) = absurd (packet-announcement item.key k (frame_at F t) (ap (λ (q : ℕ). is_packet item.key (frame_at F q)) e ∙ nth_packet groups F P n item c j (omega arith)) a)

module _ (groups : List RowRecord) (F : List FrameRecord) (P : Publishing) (h : Published groups F P) (n : ℕ) (item : Item) (c : CutItem groups F P n item) (addressed : is_publisher P (sender item.key) ≡ true) where
  -- no other announcement of its key
  pub no_announcement : (t : ℕ) → c.start < t → t ≤ nth c (length c.rest) → is_announcement item.key (frame_at F t) ≡ true → ⊥
  no_announcement t k l a =
      let r = announced_item groups F P h item.key addressed t a in
      let d = r.cut in
      let st : d.start ≡ t = r.start_is in
      let first : d.start ≤ nth d (length d.rest) = nth_le groups F P r.index r.item d 0 (length d.rest) (omega arith) (omega arith) in
      let e : n ≡ r.index = meet groups F P n r.index item r.item h c d (sym r.key_is) t (omega arith) l (omega arith) (omega arith) in
      let same : item ≡ r.item = same_item item r.item (slice_get P.items n) c.at_n (ap (slice_get P.items) e ∙ d.at_n) in
      let fs : c.start ≡ d.start = sym (nth_first groups F P n item c) ∙ (ap first_place same ∙ nth_first groups F P r.index r.item d) in
      omega arith

  -- an item in which a packet of the key stands, behind this one's announcement and with no other between, is this one
  pub standing : (t : ℕ) → c.start < t → is_packet item.key (frame_at F t) ≡ true
      → ((q : ℕ) → c.start < q → q < t → is_announcement item.key (frame_at F q) ≡ false)
      → StandsInOne P t → (j : ℕ) × (j < length c.rest) × (t ≡ nth c (suc j))
  standing t k p q (m, (y, at_m, listed), only) =
      let d = cut_from groups F P m t y h at_m listed (unreported_packet groups item.key _ p) in
      let j = listed_packet groups F P m y d item.key t listed p in
      let tj : t ≡ nth d (suc j.0) = j.2 in
      let jl : j.0 < length d.rest = j.1 in
      let pk : is_packet y.key (frame_at F t) ≡ true = ap (λ (u : ℕ). is_packet y.key (frame_at F u)) tj ∙ nth_packet groups F P m y d j.0 jl in
      let key : y.key ≡ item.key = packet_key y.key item.key (frame_at F t) pk p in
      let da : is_announcement item.key (frame_at F d.start) ≡ true = subst (λ (u : Key). is_announcement u (frame_at F d.start) ≡ true) key d.cut.announced in
      let dt : d.start < nth d (suc j.0) = nth_rising groups F P m y d 0 (suc j.0) (omega arith) (omega arith) in
      let before : d.start ≤ c.start = elim (cases_lt c.start d.start) [ inl l ↦ absurd (both_ways _ (q d.start l (omega arith)) da) | inr l ↦ l ] in
      let dl : nth d (suc j.0) ≤ nth d (length d.rest) = nth_le groups F P m y d (suc j.0) (length d.rest) (omega arith) (omega arith) in
      let cl : c.start ≤ nth c (length c.rest) = nth_le groups F P n item c 0 (length c.rest) (omega arith) (omega arith) in
      let e : n ≡ m = meet groups F P n m item y h c d (sym key) c.start (omega arith) cl before (omega arith) in
      let same : y ≡ item = same_item y item (slice_get P.items m) at_m (ap (slice_get P.items) (sym e) ∙ c.at_n) in
      listed_packet groups F P n item c item.key t (subst (λ (x : Item). Contains x.places t) same listed) p

  -- a packet of a broadcast behind its announcement, with no other between, is the item's
  pub block_packet : (s : ℕ) → item.key ≡ Broadcast s → (t : ℕ) → c.start < t → is_packet item.key (frame_at F t) ≡ true
      → ((q : ℕ) → c.start < q → q < t → is_announcement item.key (frame_at F q) ≡ false)
      → (j : ℕ) × (j < length c.rest) × (t ≡ nth c (suc j))
  block_packet s e t k p q =
      elim (h.broadcast t s (ap (λ (x : Key). is_publisher P (sender x)) (sym e) ∙ addressed) (subst (λ (x : Key). is_packet x (frame_at F t) ≡ true) e p)) [
        | inl st ↦ standing t k p q st
        | inr none ↦ absurd (both_ways _ (none c.start k) (subst (λ (x : Key). is_announcement x (frame_at F c.start) ≡ true) e c.cut.announced))
      ]

  -- the item's next place behind one that lies between two successive ones
  next_place : (t i : ℕ) → suc i ≤ length c.rest → nth c i ≤ t → t < nth c (suc i) → IsNextPlace item t (nth c (suc i))
  next_place t i l a b = record {
    behind = b;
    stands = nth_listed groups F P n item c (suc i) l;
    first = λ r w u. go r u (listed_nth groups F P n item c r w);
  }
    where
      go : (r : ℕ) → t < r → (j : ℕ) × (j ≤ length c.rest) × (r ≡ nth c j) → nth c (suc i) ≤ r
      go r u (j, jl, e) = elim (cases_lt i j) [
        | inl x ↦ let z : nth c (suc i) ≤ nth c j = nth_le groups F P n item c (suc i) j (omega arith) jl in omega arith
        | inr x ↦ absurd (let z : nth c j ≤ nth c i = nth_le groups F P n item c j i x (omega arith) in omega arith)
      ]

  -- between two successive places stands no packet of the key with the number of the second
  pub none_between : (t i : ℕ) → suc i ≤ length c.rest → nth c i < t → t < nth c (suc i) → is_packet item.key (frame_at F t) ≡ true → number_at F t ≡ suc i → ⊥
  none_between t i l a b p u = go item.key refl
    where
      start : c.start ≤ nth c i
      start = nth_le groups F P n item c 0 i (omega arith) (omega arith)

      end : nth c (suc i) ≤ nth c (length c.rest)
      end = nth_le groups F P n item c (suc i) (length c.rest) l (omega arith)

      quiet : (q : ℕ) → c.start < q → q < t → is_announcement item.key (frame_at F q) ≡ false
      quiet q x y = let e0 = end in false_from_ne_true _ (λ z. no_announcement q x (omega arith) z)

      not_ours : (j : ℕ) × (j < length c.rest) × (t ≡ nth c (suc j)) → ⊥
      not_ours (j, w, e) = elim (cases_lt j i) [
        | inl x ↦ let z : nth c (suc j) ≤ nth c i = nth_le groups F P n item c (suc j) i (omega arith) (omega arith) in omega arith
        | inr x ↦ let z : nth c (suc i) ≤ nth c (suc j) = nth_le groups F P n item c (suc i) (suc j) (omega arith) (omega arith) in omega arith
      ]

      go : (k : Key) → item.key ≡ k → ⊥
      go (Broadcast s) e =
          let s0 = start in
          not_ours (block_packet s e t (omega arith) p quiet)
      go (Directed s d) e =
          let s0 = start in let e0 = end in
          elim (h.directed t s d (ap (λ (x : Key). is_publisher P (sender x)) (sym e) ∙ addressed) (subst (λ (x : Key). is_packet x (frame_at F t) ≡ true) e p)) [
            | inl st ↦ not_ours (standing t (omega arith) p quiet st)
            | inr spare ↦ spare n item c.at_n e (spans groups F P n item c t (omega arith) (omega arith)) (nth c (suc i)) (next_place t i l (omega arith) b)
                (u ∙ sym (nth_number groups F P n item c i l))
          ]
