-- What publishers sent, and what was heard of it: which frame is which. For the law `repeated`, by `Headline`.
use Rattle.std.proofs.Common.{◌≡◌, ◌⊎◌, ℕ, ◌<◌, ◌≤◌, Bool, true, false, List, [], ◌∷◌, length, slice_index, refl, sym, ap, ◌∙◌, subst, inl, inr, arith}
use Rattle.std.proofs.lemmas.Bool.{cases_lt, cases_eq, cases_Bool, both_ways, false_from_ne_true}
use Rattle.j39_frame.specs.Frame.{FrameRecord}
use Rattle.j39_groups.specs.Row.{RowRecord}
use Rattle.j39_listen.proofs.Events.{announcement_within, packet_within}
use Rattle.j39_listen.proofs.Items.{packet_key}
use Rattle.j39_listen.proofs.Masks.{Same, order_to_H, place_in_F, place_in_H, same_element}
use Rattle.j39_listen.specs.Heard.{frame_at}
use Rattle.j39_listen.specs.Loss.{IsCopy, LostTogether, without}
use Rattle.j39_listen.specs.Published.{NeverBack, Published, Publishing, number_at}
use Rattle.j39_transport.proofs.FrameFacts.{announcement_facts, packet_facts}
use Rattle.j39_transport.specs.Frames.{goes, group_of, is_announcement, is_packet}
use Rattle.j39_transport.specs.Key.{Key}
use Rattle.j39_transport.specs.Key.Key.{Broadcast}

-- F was sent, without what X names it is H without what Y names
pub record Story (groups : List RowRecord) (F H : List FrameRecord) (P : Publishing) (X Y : ℕ → Bool) : Type 0 where
  pub published : Published groups F P
  pub lost : (i : ℕ) → X i ≡ true → (k : Key) × (is_packet k (frame_at F i) ≡ true)
  pub together : LostTogether F P X
  pub one_rest : without X F ≡ without Y H
  pub copied : (c : ℕ) → Y c ≡ true → (s : ℕ) × (q : ℕ) × (Y q ≡ false) × IsCopy H s q c
  pub never_back : NeverBack H

-- what a packet is, identifier and data alone say
same_packet : (k : Key) (f g : FrameRecord) → f.id ≡ g.id → f.bytes ≡ g.bytes → is_packet k f ≡ is_packet k g
unfolding is_packet goes
same_packet k f g a b = cc

pub not_back : (G : List FrameRecord) → NeverBack G → (a b : ℕ) → a ≤ b → b < length G → (frame_at G a).stamp ≤ (frame_at G b).stamp
not_back G nb a b u v = elim (cases_eq a b) [
  | inl e ↦ (let z : (frame_at G a).stamp ≡ (frame_at G b).stamp = ap (λ (t : ℕ). (frame_at G t).stamp) e in omega arith)
  | inr e ↦ nb a b (omega arith) v
]

module _ (groups : List RowRecord) (F H : List FrameRecord) (P : Publishing) (X Y : ℕ → Bool) (st : Story groups F H P X Y) where
  pub same_frame : {f h : ℕ} → Same X Y F H f h → frame_at H h ≡ frame_at F f
  same_frame r = same_element X Y F H st.one_rest (record { stamp = 0; id = 0; bytes = [] }) r

  -- a copy is a packet
  pub copy_packet : (c : ℕ) → Y c ≡ true → (s : ℕ) × (is_packet (Broadcast s) (frame_at H c) ≡ true)
  copy_packet c k = let r = st.copied c k in (r.0, same_packet (Broadcast r.0) _ _ r.3.same_id r.3.same_bytes ∙ r.3.packet)

  -- a frame of the group of announcements is in both
  pub kept_in_F : (f : ℕ) → group_of (frame_at F f).id ≡ 60416 → X f ≡ false
  kept_in_F f a = false_from_ne_true _ (λ k. let r = st.lost f k in let b : group_of (frame_at F f).id ≡ 60160 = (packet_facts r.0 _ r.1).pgn in omega arith)

  pub kept_in_H : (h : ℕ) → group_of (frame_at H h).id ≡ 60416 → Y h ≡ false
  kept_in_H h a = false_from_ne_true _ (λ k. let r = copy_packet h k in let b : group_of (frame_at H h).id ≡ 60160 = (packet_facts (Broadcast r.0) _ r.1).pgn in omega arith)

  pub heard_announcement : (k : Key) (h : ℕ) → is_announcement k (frame_at H h) ≡ true → (f : ℕ) × Same X Y F H f h × (is_announcement k (frame_at F f) ≡ true)
  heard_announcement k h a =
      let r = place_in_F X Y F H st.one_rest h (announcement_within H k h a) (kept_in_H h (announcement_facts k _ a).pgn) in
      (r.0, r.1, ap (is_announcement k) (sym (same_frame r.1)) ∙ a)

  pub sent_announcement : (k : Key) (f : ℕ) → is_announcement k (frame_at F f) ≡ true → (h : ℕ) × Same X Y F H f h × (is_announcement k (frame_at H h) ≡ true)
  sent_announcement k f a =
      let r = place_in_H X Y F H st.one_rest f (announcement_within F k f a) (kept_in_F f (announcement_facts k _ a).pgn) in
      (r.0, r.1, ap (is_announcement k) (same_frame r.1) ∙ a)

  -- the place in H of a frame of F that isn't lost
  pub at_H : (f : ℕ) → (h : ℕ) × (f < length F → X f ≡ false → Same X Y F H f h)
  at_H f = elim (cases_lt f (length F)) [
    | inr m ↦ (0, λ l k. absurd (omega arith))
    | inl l ↦ elim (cases_Bool (X f)) [
      | inl e ↦ (0, λ m k. absurd (both_ways _ k e))
      | inr k ↦ (let r = place_in_H X Y F H st.one_rest f l k in (r.0, λ m o. r.1))
    ]
  ]

  pub le_to_F : {f h g i : ℕ} → Same X Y F H f h → Same X Y F H g i → h ≤ i → f ≤ g
  le_to_F {f = f} {h = h} {g = g} {i = i} a b l = elim (cases_lt g f) [
    | inl z ↦ absurd (let y : i < h = order_to_H X Y F H st.one_rest b a z in omega arith)
    | inr z ↦ z
  ]

  -- where a packet in H comes from: from F at that place, or, for a broadcast, at an earlier one with no announcement between
  pub record Origin (k : Key) (h : ℕ) : Type 0 where
    pub at_H : ℕ
    pub at_F : ℕ
    pub not_later : at_H ≤ h
    pub same : Same X Y F H at_F at_H
    pub is_sent : is_packet k (frame_at F at_F) ≡ true
    pub number_is : number_at F at_F ≡ number_at H h
    pub none_between : (r : ℕ) → at_H < r → r < h → is_announcement k (frame_at H r) ≡ false
    pub how : (at_H ≡ h) ⊎ ((s : ℕ) × (k ≡ Broadcast s))

  pub origin : (k : Key) (h : ℕ) → is_packet k (frame_at H h) ≡ true → Origin k h
  unfolding copy_packet
  origin k h p = elim (cases_Bool (Y h)) [
    | inr n ↦
        (let r = place_in_F X Y F H st.one_rest h (packet_within H k h p) n in
        record {
          at_H = h;
          at_F = r.0;
          not_later = omega arith;
          same = r.1;
          is_sent = ap (is_packet k) (sym (same_frame r.1)) ∙ p;
          number_is = ap (λ (f : FrameRecord). number_at (f ∷ []) 0) (sym (same_frame r.1));
          none_between = λ q u v. absurd (omega arith);
          how = inl refl;
        })
    | inl y ↦
        (let c = st.copied h y in
        let o = c.3 in
        let r = place_in_F X Y F H st.one_rest c.1 (packet_within H (Broadcast c.0) c.1 o.packet) c.2 in
        let e : Broadcast c.0 ≡ k = packet_key _ _ _ (copy_packet h y).1 p in
        record {
          at_H = c.1;
          at_F = r.0;
          not_later = (let b : c.1 < h = o.behind in omega arith);
          same = r.1;
          is_sent = ap (is_packet k) (sym (same_frame r.1)) ∙ subst (λ (t : Key). is_packet t (frame_at H c.1) ≡ true) e o.packet;
          number_is = ap (λ (f : FrameRecord). number_at (f ∷ []) 0) (sym (same_frame r.1)) ∙ ap (λ (bs : List ℕ). slice_index bs 0) (sym o.same_bytes);
          none_between = λ q u v. subst (λ (t : Key). is_announcement t (frame_at H q) ≡ false) e (o.no_announcement q u v);
          how = inr (c.0, sym e);
        })
  ]
