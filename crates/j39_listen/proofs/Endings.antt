-- At each place at most one item ends, and it is what is heard there of publishers.
use Rattle.std.proofs.Common.{◌≡◌, ◌⊎◌, ℕ, zero, suc, ◌+◌, ◌/◌, ◌<◌, ◌≤◌, Bool, true, false, not, ◌&&◌, ◌==◌, List, [], ◌∷◌, map, length, filter, flat_map, Option, Some, None, Contains, refl, sym, ap, ◌∙◌, subst, inl, inr, arith, slice_get, eq-eqb, eqb-true, append-nil}
use Rattle.std.proofs.lemmas.Bool.{cases_Bool, and_from, and_parts, both_ways, cond-false, cond-true, false_from_ne_true, not-true, not_from_false}
use Rattle.std.specs.List.{list_any}
use Rattle.j39_frame.specs.Frame.{FrameRecord}
use Rattle.j39_frame.specs.Identifier.{pgn_of}
use Rattle.j39_groups.specs.Readings.{is_reported_in, readings_in}
use Rattle.j39_groups.specs.Row.{RowRecord}
use Rattle.j39_groups.specs.Value.{ReadingRecord}
use Rattle.j39_listen.proofs.HeardAlone.{EndsAt, cut_unreported, item_address}
use Rattle.j39_listen.proofs.HeardItems.{heard_from, heard_only}
use Rattle.j39_listen.proofs.InTime.{any_from}
use Rattle.j39_listen.proofs.Items.{AloneItem, CutItem, alone_last, count_is, item_kinds, meet, nth, nth_last, nth_le, nth_listed, nth_packet, packet_key}
use Rattle.j39_listen.proofs.Masks.{Same, rank_once}
use Rattle.j39_listen.proofs.Story.{Story}
use Rattle.j39_listen.proofs.Reported.{reported_leaves}
use Rattle.j39_listen.proofs.Unique.{heard_unique}
use Rattle.j39_listen.specs.Heard.{Hearing, HeardAt, frame_at, or_none}
use Rattle.j39_listen.specs.Published.{Item, Published, Publishing, is_publisher, last_place}
use Rattle.j39_listen.specs.Report.{Entry, entries_of, entry_of}
use Rattle.j39_listen.specs.Values.{ending, hearing_of_item, kept_to}
use Rattle.j39_transport.proofs.FrameFacts.{announcement_facts}
use Rattle.j39_transport.specs.Frames.{is_packet, packets_named, size_named}

-- ---- lists of which one element passes a test, or none

filter_none : {A : Type 0} (test : A → Bool) (xs : List A) → ((m : ℕ) (y : A) → slice_get xs m ≡ Some y → test y ≡ true → ⊥) → filter test xs ≡ []
filter_none test [] h = refl
filter_none test (x ∷ xs) h = cond-false _ _ _ (false_from_ne_true _ (λ t. h 0 x refl t)) ∙ filter_none test xs (λ m y e t. h (suc m) y e t)

filter_one : {A : Type 0} (test : A → Bool) (xs : List A) (n : ℕ) (x : A) → slice_get xs n ≡ Some x → test x ≡ true
    → ((m : ℕ) (y : A) → slice_get xs m ≡ Some y → test y ≡ true → m ≡ n) → filter test xs ≡ x ∷ []
filter_one test [] n x e t h = absurd (cc (e))
filter_one test (z ∷ xs) zero x e t h =
    let i : z ≡ x = (let j : Some z ≡ Some x = e in cc) in
    cond-true _ _ _ (ap test i ∙ t) ∙ (ap (λ (ys : List _). z ∷ ys) (filter_none test xs (λ m y k u. let v : suc m ≡ 0 = h (suc m) y k u in omega arith)) ∙ ap (λ (w : _). w ∷ []) i)
filter_one test (z ∷ xs) (suc n) x e t h =
    cond-false _ _ _ (false_from_ne_true _ (λ u. let v : 0 ≡ suc n = h 0 z refl u in absurd (omega arith)))
    ∙ filter_one test xs n x e t (λ m y k u. let v : suc m ≡ suc n = h (suc m) y k u in omega arith)

-- ---- the entries of one hearing are kept or left out together

kept_all : (groups : List RowRecord) (P : Publishing) (h : Hearing) → is_publisher P h.message.source ≡ true → kept_to P (entries_of groups h) ≡ entries_of groups h
kept_all groups P h e = go (readings_in groups h.message.pgn h.message.bytes)
  where
    go : (rs : List ReadingRecord) → filter (λ x. is_publisher P x.address) (map (entry_of h) rs) ≡ map (entry_of h) rs
    go [] = refl
    go (r ∷ rs) = cond-true _ _ _ e ∙ ap (λ (zs : List Entry). entry_of h r ∷ zs) (go rs)

kept_none : (groups : List RowRecord) (P : Publishing) (h : Hearing) → is_publisher P h.message.source ≡ false → kept_to P (entries_of groups h) ≡ []
kept_none groups P h e = go (readings_in groups h.message.pgn h.message.bytes)
  where
    go : (rs : List ReadingRecord) → filter (λ x. is_publisher P x.address) (map (entry_of h) rs) ≡ []
    go [] = refl
    go (r ∷ rs) = cond-false _ _ _ e ∙ go rs

-- ---- two items that end at one place are one

one_ending : (groups : List RowRecord) (F : List FrameRecord) (P : Publishing) → Published groups F P → (m n : ℕ) (x y : Item) → slice_get P.items m ≡ Some x → slice_get P.items n ≡ Some y
    → last_place x ≡ last_place y → m ≡ n
one_ending groups F P h m n x y ex ey e = go (item_kinds groups F P m x h ex) (item_kinds groups F P n y h ey)
  where
    -- the last frame of a cut item is a packet of it
    cut_last : (k : ℕ) (z : Item) (c : CutItem groups F P k z) → (Contains z.places (last_place z)) × (is_packet z.key (frame_at F (last_place z)) ≡ true)
    cut_last k z c = from (length c.rest) refl
      where
        from : (l : ℕ) → length c.rest ≡ l → (Contains z.places (last_place z)) × (is_packet z.key (frame_at F (last_place z)) ≡ true)
        from zero w =
            let a = announcement_facts z.key (frame_at F c.start) c.cut.announced in
            let s : 9 ≤ size_named (frame_at F c.start) = a.large in
            let p : packets_named (frame_at F c.start) ≡ (size_named (frame_at F c.start) + 6) / 7 = a.count in
            let q = count_is groups F P k z c in
            absurd (omega arith)
        from (suc l) w =
            let i : last_place z ≡ nth c (suc l) = nth_last groups F P k z c ∙ ap (nth c) w in (
              subst (λ (t : ℕ). Contains z.places t) (sym i) (nth_listed groups F P k z c (suc l) (omega arith)),
              ap (λ (t : ℕ). is_packet z.key (frame_at F t)) i ∙ nth_packet groups F P k z c l (omega arith),
            )

    mixed : (k l : ℕ) (u v : Item) → AloneItem groups F P k u → CutItem groups F P l v → last_place u ≡ last_place v → ⊥
    mixed k l u v a c i =
        both_ways _ (cut_unreported groups F P l v c (last_place v) (cut_last l v c).0)
        (ap (λ (t : ℕ). is_reported_in groups (pgn_of (frame_at F t).id)) (sym i ∙ alone_last groups F P k u a) ∙ (ap (is_reported_in groups) a.alone.pgn ∙ a.sent.reported a.alone.short))

    go : AloneItem groups F P m x ⊎ CutItem groups F P m x → AloneItem groups F P n y ⊎ CutItem groups F P n y → m ≡ n
    go (inl a) (inr d) = absurd (mixed m n x y a d e)
    go (inr c) (inl b) = absurd (mixed n m y x b c (sym e))
    go (inl a) (inl b) =
        let i : b.place ≡ a.place = sym (alone_last groups F P n y b) ∙ (sym e ∙ alone_last groups F P m x a) in
        let w : a.place < length F = subst (λ (t : ℕ). t < length F) (alone_last groups F P m x a) a.sent.inside in
        let o = h.reported a.place w (ap (is_publisher P) a.alone.source ∙ item_address groups F P x a.sent)
        (ap (is_reported_in groups) a.alone.pgn ∙ a.sent.reported a.alone.short) in
        o.2 m (x, ex, alone_listed m x a a.place refl) ∙ sym (o.2 n (y, ey, alone_listed n y b a.place (sym i)))
      where
        alone_listed : (k : ℕ) (z : Item) (c : AloneItem groups F P k z) (t : ℕ) → t ≡ c.place → Contains z.places t
        alone_listed k z c t s = subst (λ (ps : List ℕ). Contains ps t) (sym c.places_are) (0, omega arith, sym s)
    go (inr c) (inr d) =
        let p = cut_last m x c in
        let q = cut_last n y d in
        let k : x.key ≡ y.key = packet_key x.key y.key (frame_at F (last_place x)) p.1 (ap (λ (t : ℕ). is_packet y.key (frame_at F t)) e ∙ q.1) in
        let cl = nth_last groups F P m x c in
        let dl = nth_last groups F P n y d in
        let c0 : c.start ≤ nth c (length c.rest) = nth_le groups F P m x c 0 (length c.rest) (omega arith) (omega arith) in
        let d0 : d.start ≤ nth d (length d.rest) = nth_le groups F P n y d 0 (length d.rest) (omega arith) (omega arith) in
        meet groups F P m n x y h c d k (last_place x) (omega arith) (omega arith) (omega arith) (omega arith)

module _ (groups : List RowRecord) (F H : List FrameRecord) (P : Publishing) (X Y : ℕ → Bool) (st : Story groups F H P X Y) where
  -- the items that end at f, where h is its place in H
  ends_from : (f h n : ℕ) (item : Item) → Same X Y F H f h → slice_get P.items n ≡ Some item → (last_place item == f && not (list_any X item.places)) ≡ true → EndsAt groups F H P X Y st h n item
  ends_from f h n item s e t =
      let a = and_parts (last_place item == f) (not (list_any X item.places)) t in
      record { at_n = e; same = subst (λ (q : ℕ). Same X Y F H q h) (sym (eqb-true _ _ a.0)) s; not_lost = not-true _ a.1 }

  none_ends : (f h : ℕ) → Same X Y F H f h → ((n : ℕ) (item : Item) → EndsAt groups F H P X Y st h n item → ⊥) → ending P X f ≡ []
  none_ends f h s none = filter_none (λ y. last_place y == f && not (list_any X y.places)) P.items (λ m y k t. none m y (ends_from f h m y s k t))

  one_ends : (f h n : ℕ) (item : Item) → Same X Y F H f h → EndsAt groups F H P X Y st h n item → ending P X f ≡ item ∷ []
  one_ends f h n item s e =
      let at_f : last_place item ≡ f = rank_once X (last_place item) f e.same.f_kept s.f_kept (e.same.ranks ∙ sym s.ranks) in
      filter_one (λ x. last_place x == f && not (list_any X x.places)) P.items n item e.at_n
      (and_from _ _ (eq-eqb _ _ at_f) (not_from_false _ e.not_lost))
      (λ m y k t. one_ending groups F P st.published m n y item k e.at_n
      (eqb-true _ _ (and_parts (last_place y == f) (not (list_any X y.places)) t).0 ∙ sym at_f))

  -- none ends where a frame is lost
  pub gone_ends : (f : ℕ) → X f ≡ true → ending P X f ≡ []
  gone_ends f x = filter_none (λ y. last_place y == f && not (list_any X y.places)) P.items (λ m y k t.
      let a = and_parts (last_place y == f) (not (list_any X y.places)) t in
      let e : last_place y ≡ f = eqb-true _ _ a.0 in
      both_ways _ (not-true _ a.1) (any_from X y.places (last_place y) (last_listed m y k) (ap X e ∙ x)))
    where
      last_listed : (m : ℕ) (y : Item) → slice_get P.items m ≡ Some y → Contains y.places (last_place y)
      last_listed m y k = elim (item_kinds groups F P m y st.published k) [
        | inl c ↦ subst (λ (ps : List ℕ). Contains ps (last_place y)) (sym c.places_are) (0, omega arith, sym (alone_last groups F P m y c))
        | inr c ↦ subst (λ (t : ℕ). Contains y.places t) (sym (nth_last groups F P m y c)) (nth_listed groups F P m y c (length c.rest) (omega arith))
      ]

  -- ---- what is heard at a place of H, and what ended at that frame of F

  abbrev pub added : ℕ → List Entry
  added f = flat_map (λ item. entries_of groups (hearing_of_item F item)) (ending P X f)

  pub place_kept : (f h : ℕ) (o : Option Hearing) → Same X Y F H f h → HeardAt groups H h o → kept_to P (flat_map (entries_of groups) (or_none o)) ≡ added f
  place_kept f h None s k = sym (ap (flat_map (λ item. entries_of groups (hearing_of_item F item))) (none_ends f h s (λ n item e. k (hearing_of_item F item) (heard_from groups F H P X Y st h n item e))))
  place_kept f h (Some hr) s k = ap (kept_to P) (append-nil (entries_of groups hr)) ∙ elim (cases_Bool (is_publisher P hr.message.source)) [
    | inl a ↦
        let c = heard_only groups F H P X Y st h hr k a in
        kept_all groups P hr a ∙ (ap (entries_of groups) c.hearing_is ∙ (sym (append-nil (entries_of groups (hearing_of_item F c.item)))
        ∙ sym (ap (flat_map (λ item. entries_of groups (hearing_of_item F item))) (one_ends f h c.n c.item s c.ends))))
    | inr a ↦
        kept_none groups P hr a ∙ sym (ap (flat_map (λ item. entries_of groups (hearing_of_item F item))) (none_ends f h s (λ n item e.
        both_ways _ (ap (λ (x : Hearing). is_publisher P x.message.source) (heard_unique (is_reported_in groups) (reported_leaves groups) H h (hearing_of_item F item) hr (heard_from groups F H P X Y st h n item e) k) ∙ a)
        (item_address groups F P item (st.published.sent n item e.at_n)))))
  ]

  -- a copy brings nothing
  pub copy_kept : (h : ℕ) (o : Option Hearing) → Y h ≡ true → HeardAt groups H h o → kept_to P (flat_map (entries_of groups) (or_none o)) ≡ []
  copy_kept h None y k = refl
  copy_kept h (Some hr) y k = ap (kept_to P) (append-nil (entries_of groups hr)) ∙ elim (cases_Bool (is_publisher P hr.message.source)) [
    | inl a ↦ absurd (both_ways _ (heard_only groups F H P X Y st h hr k a).ends.same.h_kept y)
    | inr a ↦ kept_none groups P hr a
  ]
