-- What is heard of an item: an item of one frame at that frame, and nothing else of that kind.
use Rattle.std.proofs.Common.{◌≡◌, ℕ, zero, suc, ◌≤◌, Bool, true, false, List, [], ◌∷◌, map, length, Some, Contains, ◌==◌, sym, ap, ◌∙◌, subst, inl, inr, arith, slice_get, slice_index, eq-eqb}
use Rattle.std.proofs.lemmas.Bool.{cases_Bool, both_ways, false_from_ne_true}
use Rattle.std.proofs.lemmas.List.Folds.{list_any-from_Any}
use Rattle.std.specs.List.{list_any}
use Rattle.j39_address.proofs.HolderLemmas.{same_holder}
use Rattle.j39_address.specs.Claim.{claims_of}
use Rattle.j39_address.specs.Holder.{IsHolder}
use Rattle.j39_frame.specs.Frame.{FrameRecord}
use Rattle.j39_frame.specs.Identifier.{pgn_of, source_of}
use Rattle.j39_groups.specs.Readings.{is_reported_in}
use Rattle.j39_groups.specs.Row.{RowRecord}
use Rattle.j39_listen.proofs.Holders.{holder_to_H}
use Rattle.j39_listen.proofs.InTime.{any_found}
use Rattle.j39_listen.proofs.Items.{AloneItem, CutItem, alone_last, alone_place, item_kinds, listed_nth, nth, nth_packet}
use Rattle.j39_listen.proofs.Masks.{Same, place_in_F}
use Rattle.j39_listen.proofs.Reported.{unreported_announcement, unreported_packet}
use Rattle.j39_listen.proofs.Unique.{hearing_same, message_same}
use Rattle.j39_listen.proofs.Story.{Story, copy_packet, same_frame}
use Rattle.j39_listen.specs.Heard.{Hearing, IsHeard, IsSingle, frame_at, sent_to}
use Rattle.j39_listen.specs.Published.{IsSent, Item, Publishing, first_place, is_publisher, last_place}
use Rattle.j39_listen.specs.Values.{hearing_of_item}
use Rattle.j39_transport.specs.Carries.{Carries}
use Rattle.j39_transport.specs.Frames.{is_announcement, is_packet}
use Rattle.j39_transport.specs.Message.{IsMessage}

-- ---- an item by itself

pub message_of : (groups : List RowRecord) (F : List FrameRecord) (P : Publishing) (item : Item) → IsSent groups F P item → IsMessage item.message
message_of groups F P item s = go (map (frame_at F) item.places) s.carried
  where
    go : (fs : List FrameRecord) → Carries item.key item.message fs → IsMessage item.message
    go [] h = absurd h
    go (f ∷ fs) h = h.0

pub item_address : (groups : List RowRecord) (F : List FrameRecord) (P : Publishing) (item : Item) → IsSent groups F P item → is_publisher P item.message.source ≡ true
item_address groups F P item s = list_any-from_Any (λ p. p.address == item.message.source) P.publishers
    (s.of_a_publisher.0, item.publisher, s.of_a_publisher.1, s.of_a_publisher.2, eq-eqb _ _ (sym s.source_is))

-- no frame of a cut item is of a reported group
pub cut_unreported : (groups : List RowRecord) (F : List FrameRecord) (P : Publishing) (n : ℕ) (item : Item) (c : CutItem groups F P n item) (f : ℕ) → Contains item.places f → is_reported_in groups (pgn_of (frame_at F f).id) ≡ false
cut_unreported groups F P n item c f l = go (listed_nth groups F P n item c f l)
  where
    go : (j : ℕ) × (j ≤ length c.rest) × (f ≡ nth c j) → is_reported_in groups (pgn_of (frame_at F f).id) ≡ false
    go (zero, w, e) = unreported_announcement groups item.key _ (ap (λ (t : ℕ). is_announcement item.key (frame_at F t)) e ∙ c.cut.announced)
    go (suc j, w, e) = unreported_packet groups item.key _ (ap (λ (t : ℕ). is_packet item.key (frame_at F t)) e ∙ nth_packet groups F P n item c j (omega arith))

module _ (groups : List RowRecord) (F H : List FrameRecord) (P : Publishing) (X Y : ℕ → Bool) (st : Story groups F H P X Y) where
  -- the item's last frame is at h in H, and none of its frames is lost
  pub record EndsAt (h n : ℕ) (item : Item) : Type 0 where
    pub at_n : slice_get P.items n ≡ Some item
    pub same : Same X Y F H (last_place item) h
    pub not_lost : list_any X item.places ≡ false

  -- this hearing at h is of an item that ends there
  pub record Comes (h : ℕ) (hr : Hearing) : Type 0 where
    pub n : ℕ
    pub item : Item
    pub ends : EndsAt h n item
    pub hearing_is : hr ≡ hearing_of_item F item

  -- ---- an item of one frame

  alone_holder : (n : ℕ) (item : Item) (c : AloneItem groups F P n item) (h : ℕ) → Same X Y F H c.place h → IsHolder (claims_of H) h item.message.source item.publisher.name
  alone_holder n item c h s =
      let first : first_place item ≡ c.place = ap (λ (ps : List ℕ). slice_index ps 0) c.places_are in
      let last : last_place item ≡ c.place = alone_last groups F P n item c in
      holder_to_H groups F H P X Y st c.place h item.message.source item.publisher.name (message_of groups F P item c.sent).source
      (let x = s.f_below in omega arith) (let x = s.h_below in omega arith) s.ranks
      (subst (λ (a : ℕ). IsHolder (claims_of F) c.place a item.publisher.name) (sym c.sent.source_is) (c.sent.held c.place ((omega arith), (omega arith))))

  pub alone_heard : (n : ℕ) (item : Item) (c : AloneItem groups F P n item) (h : ℕ) → EndsAt h n item → IsHeard groups H h (hearing_of_item F item)
  alone_heard n item c h e =
      let s : Same X Y F H c.place h = subst (λ (t : ℕ). Same X Y F H t h) (alone_last groups F P n item c) e.same in
      let fr = same_frame groups F H P X Y st s in
      let g : pgn_of (frame_at H h).id ≡ item.message.pgn = ap (λ (f : FrameRecord). pgn_of f.id) fr ∙ c.alone.pgn in
      record {
        carried = inl (record {
          inside = s.h_below;
          single = ap (is_reported_in groups) g ∙ c.sent.reported c.alone.short;
          address = (message_of groups F P item c.sent).source;
          source_is = ap (λ (f : FrameRecord). source_of f.id) fr ∙ c.alone.source;
          pgn_is = g;
          bytes_are = ap (λ (f : FrameRecord). f.bytes) fr ∙ c.alone.bytes;
        });
        held_by = alone_holder n item c h s;
        destination_is = ap (λ (f : FrameRecord). sent_to item.message.pgn f.id) (sym (same_frame groups F H P X Y st e.same));
        stamp_is = ap (λ (f : FrameRecord). f.stamp) (sym (same_frame groups F H P X Y st e.same));
      }

  pub alone_only : (h : ℕ) (hr : Hearing) → IsSingle groups H h hr.message → IsHolder (claims_of H) h hr.message.source hr.name
      → hr.destination ≡ sent_to hr.message.pgn (frame_at H h).id → hr.stamp ≡ (frame_at H h).stamp → is_publisher P hr.message.source ≡ true → Comes h hr
  alone_only h hr m hb dp sp adr = elim (cases_Bool (Y h)) [
    | inl y ↦ absurd (let r = copy_packet groups F H P X Y st h y in both_ways _ (unreported_packet groups _ _ r.1) m.single)
    | inr y ↦
        (let r = place_in_F X Y F H st.one_rest h m.inside y in
        let fr = same_frame groups F H P X Y st r.1 in
        let rep : is_reported_in groups (pgn_of (frame_at F r.0).id) ≡ true = ap (λ (f : FrameRecord). is_reported_in groups (pgn_of f.id)) (sym fr) ∙ m.single in
        let src : source_of (frame_at F r.0).id ≡ hr.message.source = ap (λ (f : FrameRecord). source_of f.id) (sym fr) ∙ m.source_is in
        let q = st.published.reported r.0 r.1.f_below (ap (is_publisher P) src ∙ adr) rep in
        elim (item_kinds groups F P q.0 q.1.0 st.published q.1.1) [
          | inr c ↦ absurd (both_ways _ (cut_unreported groups F P q.0 q.1.0 c r.0 q.1.2) rep)
          | inl c ↦ found r.0 r.1 q.0 q.1.0 c q.1.2
        ])
  ]
    where
      found : (f : ℕ) → Same X Y F H f h → (n : ℕ) (item : Item) → AloneItem groups F P n item → Contains item.places f → Comes h hr
      found f sf n item c l =
          let e : f ≡ c.place = alone_place groups F P n item c f l in
          let s : Same X Y F H c.place h = subst (λ (t : ℕ). Same X Y F H t h) e sf in
          let fr = same_frame groups F H P X Y st s in
          let se : Same X Y F H (last_place item) h = subst (λ (t : ℕ). Same X Y F H t h) (sym (alone_last groups F P n item c)) s in
          let src : hr.message.source ≡ item.message.source = sym m.source_is ∙ (ap (λ (g : FrameRecord). source_of g.id) fr ∙ c.alone.source) in
          let group : hr.message.pgn ≡ item.message.pgn = sym m.pgn_is ∙ (ap (λ (g : FrameRecord). pgn_of g.id) fr ∙ c.alone.pgn) in
          record {
            n = n;
            item = item;
            ends = record {
              at_n = c.at_n;
              same = se;
              not_lost = false_from_ne_true _ (λ t. let p = any_found X item.places t in both_ways _ s.f_kept (ap X (sym (alone_place groups F P n item c p.0 p.1)) ∙ p.2));
            };
            hearing_is = hearing_same hr (hearing_of_item F item)
                (message_same hr.message item.message src
                group
                (sym m.bytes_are ∙ (ap (λ (g : FrameRecord). g.bytes) fr ∙ c.alone.bytes)))
                (dp ∙ (ap (λ (p : ℕ). sent_to p (frame_at H h).id) group ∙ ap (λ (g : FrameRecord). sent_to item.message.pgn g.id) (same_frame groups F H P X Y st se)))
                (sp ∙ ap (λ (g : FrameRecord). g.stamp) (same_frame groups F H P X Y st se))
                (same_holder (claims_of H) h hr.message.source hr.name item.publisher.name hb
                (subst (λ (a : ℕ). IsHolder (claims_of H) h a item.publisher.name) (sym src) (alone_holder n item c h s)));
          }
