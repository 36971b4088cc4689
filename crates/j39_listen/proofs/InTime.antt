-- An item none of whose packets is lost runs on, as it was heard, to its last frame.
use Rattle.std.proofs.Common.{◌≡◌, ℕ, zero, suc, ◌+◌, ◌<◌, ◌≤◌, Bool, true, false, if◌then◌else◌, ◌==◌, ◌||◌, List, length, Contains, refl, sym, ap, ap₂, ◌∙◌, subst, inl, inr, arith, eq-eqb, eqb-true}
use Rattle.std.proofs.lemmas.Bool.{cases_lt, cases_Bool, both_ways, cond-false, cond-true, false_from_ne_true, or_cases, or_left, or_right}
use Rattle.std.proofs.lemmas.List.{length-map}
use Rattle.std.proofs.lemmas.List.Folds.{Any-from_list_any, list_any-from_Any}
use Rattle.std.specs.List.{list_any}
use Rattle.j39_frame.specs.Frame.{FrameRecord}
use Rattle.j39_groups.specs.Row.{RowRecord}
use Rattle.j39_listen.proofs.Courses.{quiet_H}
use Rattle.j39_listen.proofs.Events.{ev_announces, ev_ends, ev_grants, ev_sends, ev_stamp}
use Rattle.j39_listen.proofs.Forgets.{count_rest}
use Rattle.j39_listen.proofs.Items.{CutItem, listed_nth, nth, nth_first, nth_last, nth_le, nth_listed, nth_packet, spans}
use Rattle.j39_listen.proofs.Masks.{Same, order_to_F, order_to_H, place_in_F, place_in_H, rank, rank_kept, rank_once, without-map}
use Rattle.j39_listen.proofs.Story.{Story, copy_packet, kept_in_F, kept_in_H, le_to_F, not_back, same_frame}
use Rattle.j39_listen.specs.Heard.{frame_at, frames_only}
use Rattle.j39_listen.specs.Published.{Item, Publishing, Spans, is_frame_of, is_publisher}
use Rattle.j39_transport.proofs.Courses.{runs}
use Rattle.j39_transport.proofs.FrameFacts.{allowing_facts, closing_facts, sends-others}
use Rattle.j39_transport.specs.Assembly.{Runs, count_below}
use Rattle.j39_transport.specs.Events.{Event, announces, at, belongs, ends, rivals, sends, stamp}
use Rattle.j39_transport.specs.Events.Event.{Frame}
use Rattle.j39_transport.specs.Frames.{is_clear_to_send, is_end, is_packet}
use Rattle.j39_transport.specs.Key.{Key, limit, sender}
use Rattle.j39_transport.specs.Key.Key.{Broadcast}

pub any_from : (test : ℕ → Bool) (ps : List ℕ) (p : ℕ) → Contains ps p → test p ≡ true → list_any test ps ≡ true
any_from test ps p h e = list_any-from_Any test ps (h.0, p, h.1, h.2, e)

pub any_found : (test : ℕ → Bool) (ps : List ℕ) → list_any test ps ≡ true → (p : ℕ) × Contains ps p × (test p ≡ true)
any_found test ps h = let a = Any-from_list_any test ps h in (a.1, (a.0, a.2, a.3), a.4)

-- a directed announcement is no packet: packets don't count
packet_quiet : (G : List FrameRecord) (k j : Key) (i : ℕ) → is_packet k (frame_at G i) ≡ true → rivals j (at (frames_only G) i) ≡ false
packet_quiet G k j i h = (sends-others k k j 0 (at (frames_only G) i) (ev_sends G k i ∙ h)).no_rival

module _ (groups : List RowRecord) (F H : List FrameRecord) (P : Publishing) (X Y : ℕ → Bool) (st : Story groups F H P X Y) (n : ℕ) (item : Item) (c : CutItem groups F P n item)
    (addressed : is_publisher P (sender item.key) ≡ true) (c0 : ℕ) (start_at : Same X Y F H c.start c0)
    (hl : ℕ) (end_at : Same X Y F H (nth c (length c.rest)) hl) (not_lost : (j : ℕ) → j ≤ length c.rest → X (nth c j) ≡ false) where
  -- a frame of the item, as it stands in H
  mark : ℕ → Bool
  mark h = if Y h then false else (list_any (λ p. rank X p == rank Y h) item.places || is_clear_to_send item.key item.message.pgn (frame_at H h))

  listed_kept : (p : ℕ) → Contains item.places p → X p ≡ false
  listed_kept p l = let j = listed_nth groups F P n item c p l in ap X j.2 ∙ not_lost j.0 j.1

  to_H : (f h : ℕ) → Same X Y F H f h → is_frame_of F item f ≡ true → mark h ≡ true
  unfolding mark
  to_H f h s m = cond-false _ _ _ s.h_kept ∙ elim (or_cases (list_any (λ p. p == f) item.places) (is_clear_to_send item.key item.message.pgn (frame_at F f)) m) [
    | inl a ↦
        (let p = any_found (λ p. p == f) item.places a in
        or_left _ _ (any_from (λ p. rank X p == rank Y h) item.places p.0 p.1 (eq-eqb _ _ (ap (rank X) (eqb-true _ _ p.2) ∙ s.ranks))))
    | inr a ↦ or_right (list_any (λ p. rank X p == rank Y h) item.places) _ (ap (is_clear_to_send item.key item.message.pgn) (same_frame groups F H P X Y st s) ∙ a)
  ]

  to_F : (f h : ℕ) → Same X Y F H f h → mark h ≡ true → is_frame_of F item f ≡ true
  unfolding mark
  to_F f h s m =
      elim (or_cases (list_any (λ p. rank X p == rank Y h) item.places) (is_clear_to_send item.key item.message.pgn (frame_at H h)) (sym (cond-false _ _ _ s.h_kept) ∙ m)) [
        | inl a ↦
            (let p = any_found (λ p. rank X p == rank Y h) item.places a in
            let e : p.0 ≡ f = rank_once X p.0 f (listed_kept p.0 p.1) s.f_kept (eqb-true _ _ p.2 ∙ sym s.ranks) in
            or_left _ _ (any_from (λ q. q == f) item.places p.0 p.1 (eq-eqb _ _ e)))
        | inr a ↦ or_right (list_any (λ p. p == f) item.places) _ (ap (is_clear_to_send item.key item.message.pgn) (sym (same_frame groups F H P X Y st s)) ∙ a)
      ]

  -- where a mark stood
  from : (h : ℕ) → h < length H → mark h ≡ true → (f : ℕ) × Same X Y F H f h × (is_frame_of F item f ≡ true)
  unfolding mark
  from h l m = elim (cases_Bool (Y h)) [
    | inl e ↦ absurd (both_ways _ (cond-true _ _ _ e) m)
    | inr e ↦ (let r = place_in_F X Y F H st.one_rest h l e in (r.0, r.1, to_F r.0 h r.1 m))
  ]

  frame_kept : (f : ℕ) → is_frame_of F item f ≡ true → X f ≡ false
  frame_kept f m = elim (or_cases (list_any (λ p. p == f) item.places) (is_clear_to_send item.key item.message.pgn (frame_at F f)) m) [
    | inl a ↦ (let p = any_found (λ p. p == f) item.places a in sym (ap X (eqb-true _ _ p.2)) ∙ listed_kept p.0 p.1)
    | inr a ↦ kept_in_F groups F H P X Y st f (allowing_facts item.key item.message.pgn (frame_at F f) a).0
  ]

  own : (j : ℕ) → j ≤ length c.rest → is_frame_of F item (nth c j) ≡ true
  own j l = or_left _ _ (any_from (λ p. p == nth c j) item.places (nth c j) (nth_listed groups F P n item c j l) (eq-eqb _ _ refl))

  spans_H : (f h : ℕ) → Same X Y F H f h → c0 ≤ h → h ≤ hl → Spans item f
  spans_H f h s a b = spans groups F P n item c f (le_to_F groups F H P X Y st start_at s a) (le_to_F groups F H P X Y st s end_at b)

  c0_le : c0 ≤ hl
  c0_le = elim (cases_lt hl c0) [
    | inl z ↦ absurd (let a : nth c (length c.rest) < c.start = order_to_F X Y F H st.one_rest end_at start_at z in let b : c.start ≤ nth c (length c.rest) = nth_le groups F P n item c 0 (length c.rest) (omega arith) (omega arith) in omega arith)
    | inr z ↦ z
  ]

  ours : (q : ℕ) → c0 < q → q ≤ hl → mark q ≡ true → belongs item.key item.message.pgn (at (frames_only H) q) ≡ true
  ours q u v m =
      let w : hl < length H = end_at.h_below in
      let r = from q (omega arith) m in
      let fr = same_frame groups F H P X Y st r.1 in
      elim (or_cases (list_any (λ p. p == r.0) item.places) (is_clear_to_send item.key item.message.pgn (frame_at F r.0)) r.2) [
        | inl a ↦
            (let p = any_found (λ p. p == r.0) item.places a in
            or_left _ _ (or_right (announces item.key (at (frames_only H) q)) _ (ev_sends H item.key q ∙ (ap (is_packet item.key) fr
            ∙ packet r.0 (order_to_F X Y F H st.one_rest start_at r.1 u) (subst (λ (t : ℕ). Contains item.places t) (eqb-true _ _ p.2) p.1)))))
        | inr a ↦ or_right (announces item.key (at (frames_only H) q) || sends item.key (at (frames_only H) q)) _
            (ev_grants H item.key item.message.pgn q (omega arith) ∙ (ap (is_clear_to_send item.key item.message.pgn) fr ∙ a))
      ]
    where
      packet : (f : ℕ) → c.start < f → Contains item.places f → is_packet item.key (frame_at F f) ≡ true
      packet f l h = go (listed_nth groups F P n item c f h)
        where
          go : (j : ℕ) × (j ≤ length c.rest) × (f ≡ nth c j) → is_packet item.key (frame_at F f) ≡ true
          go (zero, w, e) = absurd (omega arith)
          go (suc j, w, e) = ap (λ (t : ℕ). is_packet item.key (frame_at F t)) e ∙ nth_packet groups F P n item c j (omega arith)

  near : (a b : ℕ) → c0 ≤ a → a < b → b ≤ hl → mark a ≡ true → mark b ≡ true → ((q : ℕ) → a < q → q < b → mark q ≡ false)
      → stamp (at (frames_only H) b) ≤ stamp (at (frames_only H) a) + limit item.key
  near a b u l v ma mb none =
      let w : hl < length H = end_at.h_below in
      let x = from a (omega arith) ma in
      let y = from b (omega arith) mb in
      let t = c.sent.in_time x.0 y.0 (record {
        order = order_to_F X Y F H st.one_rest x.1 y.1 l;
        earlier = (spans_H x.0 a x.1 u (omega arith), x.2);
        later = (spans_H y.0 b y.1 (omega arith) v, y.2);
        none_between = λ q i j. false_from_ne_true _ (λ m.
            let ql : y.0 < length F = y.1.f_below in
            let r = place_in_H X Y F H st.one_rest q (omega arith) (frame_kept q m) in
            both_ways _ (none r.0 (order_to_H X Y F H st.one_rest x.1 r.1 i) (order_to_H X Y F H st.one_rest r.1 y.1 j)) (to_H q r.0 r.1 m));
      }) in
      let s1 : stamp (at (frames_only H) b) ≡ (frame_at F y.0).stamp = ev_stamp H b (omega arith) ∙ ap (λ (f : FrameRecord). f.stamp) (same_frame groups F H P X Y st y.1) in
      let s2 : stamp (at (frames_only H) a) ≡ (frame_at F x.0).stamp = ev_stamp H a (omega arith) ∙ ap (λ (f : FrameRecord). f.stamp) (same_frame groups F H P X Y st x.1) in
      omega arith

  unended : (q : ℕ) → c0 < q → q ≤ hl → ends item.key item.message.pgn (at (frames_only H) q) ≡ false
  unended q u v =
      let w : hl < length H = end_at.h_below in
      ev_ends H item.key item.message.pgn q (omega arith) ∙ false_from_ne_true _ (λ z.
      let r = place_in_F X Y F H st.one_rest q (omega arith) (kept_in_H groups F H P X Y st q (closing_facts item.key item.message.pgn (frame_at H q) z).0) in
      both_ways _ (c.sent.unended r.0 (spans_H r.0 q r.1 (omega arith) v)) (ap (is_end item.key item.message.pgn) (sym (same_frame groups F H P X Y st r.1)) ∙ z))

  -- as many directed announcements stand up to a frame in H as in F
  counts_agree : (f h : ℕ) → Same X Y F H f h → count_below (rivals item.key) (frames_only H) (suc h) ≡ count_below (rivals item.key) (frames_only F) (suc f)
  counts_agree f h s =
      count_rest (rivals item.key) Y (frames_only H) (λ i e. let r = copy_packet groups F H P X Y st i e in packet_quiet H (Broadcast r.0) item.key i r.1) (suc h) (let a = s.h_below in let b = length-map H (λ (g : FrameRecord). Frame g) in omega arith)
      ∙ (ap₂ (λ (E : List Event) (i : ℕ). count_below (rivals item.key) E i)
      (without-map Y (λ g. Frame g) H ∙ (ap frames_only (sym st.one_rest) ∙ sym (without-map X (λ g. Frame g) F)))
      (rank_kept Y h s.h_kept ∙ (ap suc (sym s.ranks) ∙ sym (rank_kept X f s.f_kept)))
      ∙ sym (count_rest (rivals item.key) X (frames_only F) (λ i e. let r = st.lost i e in packet_quiet F r.0 item.key i r.1) (suc f) (let a = s.f_below in let b = length-map F (λ (g : FrameRecord). Frame g) in omega arith)))

  young : count_below (rivals item.key) (frames_only H) (suc hl) < 16 + count_below (rivals item.key) (frames_only H) (suc c0)
  young =
      let a = counts_agree (nth c (length c.rest)) hl end_at in
      let b = counts_agree c.start c0 start_at in
      let e = ap (λ (t : ℕ). count_below (rivals item.key) (frames_only F) (suc t)) (nth_last groups F P n item c) in
      let d = ap (λ (t : ℕ). count_below (rivals item.key) (frames_only F) (suc t)) (nth_first groups F P n item c) in
      let y = c.sent.young in
      omega arith

  pub runs_H : Runs (frames_only H) item.key item.message.pgn c0 (suc hl)
  runs_H =
      runs (frames_only H) item.key item.message.pgn c0 hl mark
      (to_H c.start c0 start_at (own 0 (omega arith)))
      (to_H (nth c (length c.rest)) hl end_at (own (length c.rest) (omega arith)))
      c0_le ours near
      (λ a b u l v. let w : hl < length H = end_at.h_below in
      let s = not_back H st.never_back a b l (omega arith) in
      let x = ev_stamp H a (omega arith) in let y = ev_stamp H b (omega arith) in omega arith)
      (λ q u v. (ev_announces H item.key q ∙ quiet_H groups F H P X Y st n item c addressed c0 start_at hl q end_at u v, unended q u v))
      young
