-- An item's frames as they were heard: where its packets are missing, and where chains from its announcement go.
use Rattle.std.proofs.Common.{◌≡◌, ℕ, suc, ◌+◌, ◌<◌, ◌≤◌, Bool, true, false, not, List, [], ◌∷◌, ◌++◌, map, length, slice_index, take, drop, refl, sym, ap, ◌∙◌, ap₂, subst, inl, inr, arith, append-nil}
use Rattle.std.proofs.lemmas.Bool.{cases_lt, cases_order, both_ways, false_from_ne_true, not-true, not_from_false}
use Rattle.std.proofs.lemmas.List.{map-append, take_more}
use Rattle.std.proofs.lemmas.Grind.{flat_map-append}
use Rattle.j39_frame.specs.Frame.{FrameRecord}
use Rattle.j39_groups.specs.Row.{RowRecord}
use Rattle.j39_listen.proofs.Events.{ev_announces, ev_payload, event_numbered, numbered_event}
use Rattle.j39_listen.proofs.Items.{CutItem, nth, nth_inside, nth_le, nth_number, nth_packet, nth_rising, packet-announcement}
use Rattle.j39_listen.proofs.Masks.{Same, one_in_H, order_to_F, order_to_H, place_in_H}
use Rattle.j39_listen.proofs.Sent.{block_packet, no_announcement, none_between}
use Rattle.j39_listen.proofs.Story.{Story, at_H, heard_announcement, le_to_F, origin, same_frame, sent_announcement}
use Rattle.j39_listen.specs.Heard.{frame_at, frames_only}
use Rattle.j39_listen.specs.Published.{Item, Publishing, is_publisher, number_at}
use Rattle.j39_transport.proofs.Courses.{goes, reaches}
use Rattle.j39_transport.specs.Assembly as assembly
use Rattle.j39_transport.specs.Assembly.{IsFirstAfter, Links, last_of}
use Rattle.j39_transport.specs.Carries.{joined}
use Rattle.j39_transport.specs.Course.{Course, Undisturbed}
use Rattle.j39_transport.specs.Events.{at, payload}
use Rattle.j39_transport.specs.Frames.{is_announcement, is_packet}
use Rattle.j39_transport.specs.Key.{Key, sender}
use Rattle.j39_transport.specs.Key.Key.{Broadcast, Directed}

-- the item's announcement stands at c0 in H
module _ (groups : List RowRecord) (F H : List FrameRecord) (P : Publishing) (X Y : ℕ → Bool) (st : Story groups F H P X Y) (n : ℕ) (item : Item) (c : CutItem groups F P n item)
    (addressed : is_publisher P (sender item.key) ≡ true) (c0 : ℕ) (start_at : Same X Y F H c.start c0) where
  announced_H : is_announcement item.key (frame_at H c0) ≡ true
  announced_H = ap (is_announcement item.key) (same_frame groups F H P X Y st start_at) ∙ c.cut.announced

  -- the item's next packet, where it stands in H
  record NextKept (j r : ℕ) : Type 0 where
    pub at : ℕ
    pub same : Same X Y F H (nth c (suc j)) at
    pub not_later : at ≤ r

  -- a packet behind the next one with its number: that one isn't lost
  after_next : (j h f r : ℕ) → suc j ≤ length c.rest → Same X Y F H f h → h ≤ r → nth c (suc j) < f → is_packet item.key (frame_at F f) ≡ true
      → number_at F f ≡ suc j → ((t : ℕ) → c.start < t → t < f → is_announcement item.key (frame_at F t) ≡ false) → NextKept j r
  after_next j h f r l sf nl z ps nu quiet =
      let v = place_in_H X Y F H st.one_rest (nth c (suc j)) (nth_inside groups F P n item c (suc j) l) (false_from_ne_true _ (λ x. lost item.key refl x)) in
      record { at = v.0; same = v.1; not_later = (let y : v.0 < h = order_to_H X Y F H st.one_rest v.1 sf z in omega arith) }
    where
      from : c.start ≤ nth c (suc j)
      from = nth_le groups F P n item c 0 (suc j) (omega arith) l

      lost : (k : Key) → item.key ≡ k → X (nth c (suc j)) ≡ true → ⊥
      lost (Broadcast s) e x =
          let s0 = from in
          let k = block_packet groups F P st.published n item c addressed s e f (omega arith) ps quiet in
          let e1 : number_at F f ≡ suc k.0 = ap (number_at F) k.2 ∙ nth_number groups F P n item c k.0 k.1 in
          let z2 : f ≡ nth c (suc j) = k.2 ∙ ap (λ (i : ℕ). nth c (suc i)) (let i : k.0 ≡ j = omega arith in i) in
          omega arith
      lost (Directed s d) e x =
          let s0 = from in
          both_ways _ sf.f_kept
          (st.together (nth c (suc j)) f s d (ap (λ (t : Key). is_publisher P (sender t)) (sym e) ∙ addressed) x z
          (subst (λ (t : Key). is_packet t (frame_at F (nth c (suc j))) ≡ true) e (nth_packet groups F P n item c j l))
          (subst (λ (t : Key). is_packet t (frame_at F f) ≡ true) e ps)
          (nu ∙ sym (nth_number groups F P n item c j l))
          (λ q a b. subst (λ (t : Key). is_announcement t (frame_at F q) ≡ false) e (quiet q (omega arith) b)))

  -- a packet in H with the number that comes next, behind the item's j-th frame and before another announcement: the item's
  -- next packet isn't lost, and stands there or before
  next_kept : (j hq r : ℕ) → suc j ≤ length c.rest → Same X Y F H (nth c j) hq → hq < r → is_packet item.key (frame_at H r) ≡ true
      → number_at H r ≡ suc j → ((q : ℕ) → c0 < q → q < r → is_announcement item.key (frame_at H q) ≡ false) → NextKept j r
  next_kept j hq r l sq lr p u q =
      let o = origin groups F H P X Y st item.key r p in
      let nl : o.at_H ≤ r = o.not_later in
      let nu : number_at F o.at_F ≡ suc j = o.number_is ∙ u in
      let c_le : c0 ≤ hq = elim (cases_lt hq c0) [
        | inl z ↦ absurd (let y : nth c j < c.start = order_to_F X Y F H st.one_rest sq start_at z in let x : c.start ≤ nth c j = nth_le groups F P n item c 0 j (omega arith) (omega arith) in omega arith)
        | inr z ↦ z
      ] in
      let later_H : c0 < o.at_H = elim (cases_order c0 o.at_H) [
        | inl e ↦ absurd (packet-announcement _ _ _ o.is_sent (ap (is_announcement item.key) (sym (same_frame groups F H P X Y st o.same) ∙ ap (frame_at H) (sym e)) ∙ announced_H))
        | inr w ↦ elim w [ inl z ↦ z | inr z ↦ absurd (both_ways _ (o.none_between c0 z (omega arith)) announced_H) ]
      ] in
      let later_F : c.start < o.at_F = order_to_F X Y F H st.one_rest start_at o.same later_H in
      let quiet : (t : ℕ) → c.start < t → t < o.at_F → is_announcement item.key (frame_at F t) ≡ false = λ t x y. false_from_ne_true _ (λ a.
      let v = sent_announcement groups F H P X Y st item.key t a in
      let l2 : v.0 < o.at_H = order_to_H X Y F H st.one_rest v.1 o.same y in
      both_ways _ (q v.0 (order_to_H X Y F H st.one_rest start_at v.1 x) (omega arith)) v.2) in
      elim o.how [
        | inr b ↦
            (let k = block_packet groups F P st.published n item c addressed b.0 b.1 o.at_F later_F o.is_sent quiet in
            let e1 : number_at F o.at_F ≡ suc k.0 = ap (number_at F) k.2 ∙ nth_number groups F P n item c k.0 k.1 in
            let ix : k.0 ≡ j = omega arith in
            record { at = o.at_H; same = subst (λ (t : ℕ). Same X Y F H t o.at_H) (k.2 ∙ ap (λ (i : ℕ). nth c (suc i)) ix) o.same; not_later = nl })
        | inl b ↦
            (let lt : nth c j < o.at_F = order_to_F X Y F H st.one_rest sq o.same (let z : o.at_H ≡ r = b in omega arith) in
            elim (cases_order o.at_F (nth c (suc j))) [
              | inl e ↦ record { at = o.at_H; same = subst (λ (t : ℕ). Same X Y F H t o.at_H) e o.same; not_later = nl }
              | inr w ↦ elim w [
                | inl z ↦ absurd (none_between groups F P st.published n item c addressed o.at_F j l lt z o.is_sent nu)
                | inr z ↦ after_next j o.at_H o.at_F r l o.same nl z o.is_sent nu quiet
              ]
            ])
      ]

  -- ---- the course that assembly takes

  place : ℕ → ℕ
  place j = (at_H groups F H P X Y st (nth c j)).0

  kept : ℕ → Bool
  kept j = not (X (nth c j))

  place_same : (j : ℕ) → j ≤ length c.rest → X (nth c j) ≡ false → Same X Y F H (nth c j) (place j)
  unfolding place
  place_same j l k = (at_H groups F H P X Y st (nth c j)).1 (nth_inside groups F P n item c j l) k

  course : Course (frames_only H) item.key c0 (length c.rest) place kept
  unfolding kept
  course = record {
    starts = one_in_H X Y F H st.one_rest (place_same 0 (omega arith) start_at.f_kept) start_at;
    first_kept = not_from_false _ start_at.f_kept;
    stands = λ j l k.
        let fr = same_frame groups F H P X Y st (place_same (suc j) l (not-true _ k)) in
        numbered_event H item.key (suc j) (place (suc j)) (ap (is_packet item.key) fr ∙ nth_packet groups F P n item c j l)
        (ap (λ (f : FrameRecord). number_at (f ∷ []) 0) fr ∙ nth_number groups F P n item c j l);
    rises = λ j l a b. order_to_H X Y F H st.one_rest (place_same j (omega arith) (not-true _ a)) (place_same (suc j) l (not-true _ b)) (nth_rising groups F P n item c j (suc j) (omega arith) l);
    next = λ j r l k lr nr u.
        let p = event_numbered H item.key (suc j) r nr in
        let b = next_kept j (place j) r l (place_same j (omega arith) (not-true _ k)) lr p.0 p.1 (λ q x y. sym (ev_announces H item.key q) ∙ u q x y) in
        let e : place (suc j) ≡ b.at = one_in_H X Y F H st.one_rest (place_same (suc j) l b.same.f_kept) b.same in
        let nl : b.at ≤ r = b.not_later in
        (not_from_false _ b.same.f_kept, (omega arith));
  }

  -- ---- a chain from the announcement

  -- it ends at the item's frame of its length, none up to there is lost, and its data are the item's
  pub record Follows (ps : List ℕ) : Type 0 where
    pub same_last : Same X Y F H (nth c (length ps)) (last_of c0 ps)
    pub not_lost : (j : ℕ) → j ≤ length ps → X (nth c j) ≡ false
    pub joined_is : assembly.joined_at (frames_only H) ps ≡ joined (map (frame_at F) (take (length ps) c.rest))

  pub follows : (ps : List ℕ) → length ps ≤ length c.rest → Links (frames_only H) item.key c0 ps → Undisturbed (frames_only H) item.key c0 (last_of c0 ps) → Follows ps
  unfolding kept
  follows ps l k u = record { same_last = same_last ps l k u; not_lost = not_lost ps l k u; joined_is = bytes_are ps l k u }
    where
      more : (qs : List ℕ) (q : ℕ) {rs : List ℕ} → rs ≡ qs ++ q ∷ [] → joined (map (frame_at F) rs) ≡ joined (map (frame_at F) qs) ++ drop 1 (frame_at F q).bytes
      more qs q e =
          ap (λ (xs : List ℕ). joined (map (frame_at F) xs)) e
          ∙ (ap joined (map-append (frame_at F) qs (q ∷ []))
          ∙ (flat_map-append (λ f. drop 1 f.bytes) (map (frame_at F) qs) (frame_at F q ∷ [])
          ∙ ap (λ (bs : List ℕ). joined (map (frame_at F) qs) ++ bs) (append-nil (drop 1 (frame_at F q).bytes))))

      along : (ps : List ℕ) → length ps ≤ length c.rest → Links (frames_only H) item.key c0 ps → Undisturbed (frames_only H) item.key c0 (last_of c0 ps)
          → (last_of c0 ps ≡ place (length ps)) × ((j : ℕ) → j ≤ length ps → kept j ≡ true)
      along ps l k u = goes (frames_only H) item.key c0 (length c.rest) place kept course ps l k u

      not_lost : (ps : List ℕ) → length ps ≤ length c.rest → Links (frames_only H) item.key c0 ps → Undisturbed (frames_only H) item.key c0 (last_of c0 ps)
          → (j : ℕ) → j ≤ length ps → X (nth c j) ≡ false
      not_lost ps l k u j m = not-true _ ((along ps l k u).1 j m)

      same_last : (ps : List ℕ) → length ps ≤ length c.rest → Links (frames_only H) item.key c0 ps → Undisturbed (frames_only H) item.key c0 (last_of c0 ps)
          → Same X Y F H (nth c (length ps)) (last_of c0 ps)
      same_last ps l k u = subst (λ (t : ℕ). Same X Y F H (nth c (length ps)) t) (sym (along ps l k u).0) (place_same (length ps) l (not_lost ps l k u (length ps) (omega arith)))

      bytes_are : (ps : List ℕ) → length ps ≤ length c.rest → Links (frames_only H) item.key c0 ps → Undisturbed (frames_only H) item.key c0 (last_of c0 ps)
          → assembly.joined_at (frames_only H) ps ≡ joined (map (frame_at F) (take (length ps) c.rest))
      bytes_are [] l k u = refl
      bytes_are (p ∷ ps) l k u =
          let f : IsFirstAfter (frames_only H) item.key (last_of c0 ps) (suc (length ps)) p = k.0 in
          let b : last_of c0 ps < p = f.later in
          let i = bytes_are ps (omega arith) k.1 (λ r x y. u r x (omega arith)) in
          let s : Same X Y F H (nth c (suc (length ps))) p = same_last (p ∷ ps) l k u in
          let a : payload (at (frames_only H) p) ≡ drop 1 (frame_at F (nth c (suc (length ps)))).bytes =
          ev_payload H p s.h_below ∙ ap (λ (x : FrameRecord). drop 1 x.bytes) (same_frame groups F H P X Y st s) in
          let t : take (length ps + 1) c.rest ≡ take (length ps) c.rest ++ slice_index c.rest (length ps) ∷ [] = take_more c.rest (length ps) 0 l in
          ap₂ (λ (x y : List ℕ). x ++ y) i a ∙ sym (more (take (length ps) c.rest) (slice_index c.rest (length ps))
          (ap (λ (m : ℕ). take m c.rest) (let e : suc (length ps) ≡ length ps + 1 = omega arith in e) ∙ t))

  -- no other announcement of the key stands in H up to the item's last frame
  pub quiet_H : (hl q : ℕ) → Same X Y F H (nth c (length c.rest)) hl → c0 < q → q ≤ hl → is_announcement item.key (frame_at H q) ≡ false
  quiet_H hl q sl u v = false_from_ne_true _ (λ a.
      let r = heard_announcement groups F H P X Y st item.key q a in
      no_announcement groups F P st.published n item c addressed r.0 (order_to_F X Y F H st.one_rest start_at r.1 u) (le_to_F groups F H P X Y st r.1 sl v) r.2)

  -- where none of its packets is lost, there is a chain through all of them
  pub full_chain : (hl : ℕ) → Same X Y F H (nth c (length c.rest)) hl → ((j : ℕ) → j ≤ length c.rest → X (nth c j) ≡ false)
      → (ps : List ℕ) × Links (frames_only H) item.key c0 ps × (length ps ≡ length c.rest) × (last_of c0 ps ≡ hl)
  unfolding kept
  full_chain hl s not_lost =
      let e : place (length c.rest) ≡ hl = one_in_H X Y F H st.one_rest (place_same (length c.rest) (omega arith) (not_lost (length c.rest) (omega arith))) s in
      let r = reaches (frames_only H) item.key c0 (length c.rest) place kept course (λ j l. not_from_false _ (not_lost j l))
      (λ q u v. ev_announces H item.key q ∙ quiet_H hl q s u (omega arith)) in
      (r.0, r.1, r.2, r.3 ∙ e)
