-- What is heard of publishers: each item that lost no packet, at its last frame, and nothing else.
use Rattle.std.proofs.Common.{◌≡◌, ℕ, suc, ◌<◌, ◌≤◌, Bool, true, false, List, ◌++◌, map, length, take, sym, ap, ◌∙◌, subst, inl, inr, arith}
use Rattle.std.proofs.lemmas.Bool.{cases_lt, both_ways, false_from_ne_true}
use Rattle.std.proofs.lemmas.List.{take_at, take_all}
use Rattle.j39_address.proofs.HolderLemmas.{same_holder}
use Rattle.j39_address.specs.Claim.{claims_of}
use Rattle.j39_address.specs.Holder.{IsHolder}
use Rattle.j39_frame.specs.Frame.{FrameRecord}
use Rattle.j39_groups.specs.Row.{RowRecord}
use Rattle.j39_listen.proofs.Courses.{Follows, follows, full_chain, quiet_H}
use Rattle.j39_listen.proofs.Events.{ev_announces, ev_group, ev_packets, ev_size}
use Rattle.j39_listen.proofs.HeardAlone.{Comes, EndsAt, alone_heard, alone_only, item_address, message_of}
use Rattle.j39_listen.proofs.Holders.{holder_to_H}
use Rattle.j39_listen.proofs.InTime.{any_found, any_from, runs_H}
use Rattle.j39_listen.proofs.Items.{CutItem, count_is, held_at, item_kinds, listed_nth, nth, nth_inside, nth_last, nth_listed}
use Rattle.j39_listen.proofs.Masks.{Same, Stood, kept_within, place_in_H, rank, rank_mono, rank_strict, stood}
use Rattle.j39_listen.proofs.Sent.{announced_item}
use Rattle.j39_listen.proofs.Story.{Story, heard_announcement, same_frame}
use Rattle.j39_listen.proofs.Unique.{hearing_same, message_same}
use Rattle.j39_listen.specs.Heard.{Hearing, IsAssembled, IsHeard, frame_at, frames_only, sent_to}
use Rattle.j39_listen.specs.Loss.{without}
use Rattle.j39_listen.specs.Published.{Item, Publishing, is_publisher, last_place}
use Rattle.j39_listen.specs.Values.{hearing_of_item}
use Rattle.j39_transport.proofs.Chains.{Links-from}
use Rattle.j39_transport.specs.Assembly as assembly
use Rattle.j39_transport.specs.Assembly.{Links, Runs, Whole, last_of}
use Rattle.j39_transport.specs.Carries.{joined}
use Rattle.j39_transport.specs.Events.{announces, at, group, packets, size}
use Rattle.j39_transport.specs.Frames.{is_announcement, packets_named, pgn_named, size_named}
use Rattle.j39_transport.specs.Key.{Key, sender}

module _ (groups : List RowRecord) (F H : List FrameRecord) (P : Publishing) (X Y : ℕ → Bool) (st : Story groups F H P X Y) where
  module _ (n : ℕ) (item : Item) (c : CutItem groups F P n item) where
    addressed : is_publisher P (sender item.key) ≡ true
    addressed = ap (is_publisher P) c.cut.source ∙ item_address groups F P item c.sent

    -- the holder at the places of H from the item's first frame to its last
    held_in_H : (c0 h j : ℕ) → Same X Y F H c.start c0 → Same X Y F H (nth c (length c.rest)) h → c0 ≤ j → j ≤ h → IsHolder (claims_of H) j item.message.source item.publisher.name
    held_in_H c0 h j sa sb u v =
        let ra : rank X c.start ≡ rank Y c0 = sa.ranks in
        let rb : rank X (nth c (length c.rest)) ≡ rank Y h = sb.ranks in
        let m1 : rank Y c0 ≤ rank Y j = rank_mono Y c0 j u in
        let m2 : rank Y j ≤ rank Y h = rank_mono Y j h v in
        let hb : h < length H = sb.h_below in
        let w : rank X (nth c (length c.rest)) < length (without X F) = kept_within X F (nth c (length c.rest)) sb.f_kept sb.f_below in
        let r : Stood X F (rank Y j) = stood X F (rank Y j) (omega arith) in
        let rr : rank X r.place ≡ rank Y j = r.rank_is in
        let rl : r.place < length F = r.below in
        let l1 : c.start ≤ r.place = elim (cases_lt r.place c.start) [
          | inl x ↦ absurd (let z : rank X r.place < rank X c.start = rank_strict X r.place c.start r.kept x in omega arith)
          | inr x ↦ x
        ] in
        let l2 : r.place ≤ nth c (length c.rest) = elim (cases_lt (nth c (length c.rest)) r.place) [
          | inl x ↦ absurd (let z : rank X (nth c (length c.rest)) < rank X r.place = rank_strict X (nth c (length c.rest)) r.place sb.f_kept x in omega arith)
          | inr x ↦ x
        ] in
        holder_to_H groups F H P X Y st r.place j item.message.source item.publisher.name (message_of groups F P item c.sent).source (omega arith) (omega arith) rr (held_at groups F P n item c r.place l1 l2)

    -- the data of all its packets
    all_joined : joined (map (frame_at F) (take (length c.rest) c.rest)) ≡ item.message.bytes ++ c.cut.padding
    all_joined = ap (λ (ps : List ℕ). joined (map (frame_at F) ps)) (take_all (length c.rest) c.rest (omega arith)) ∙ c.cut.joined_are

    -- what an announcement of the item in H names
    announced_count : (c0 : ℕ) → Same X Y F H c.start c0 → packets (at (frames_only H) c0) ≡ length c.rest
    announced_count c0 s = ev_packets H c0 s.h_below ∙ (ap packets_named (same_frame groups F H P X Y st s) ∙ sym (count_is groups F P n item c))

    announced_size : (c0 : ℕ) → Same X Y F H c.start c0 → size (at (frames_only H) c0) ≡ length item.message.bytes
    announced_size c0 s = ev_size H c0 s.h_below ∙ (ap size_named (same_frame groups F H P X Y st s) ∙ c.cut.size)

    announced_group : (c0 : ℕ) → Same X Y F H c.start c0 → group (at (frames_only H) c0) ≡ item.message.pgn
    announced_group c0 s = ev_group H c0 s.h_below ∙ (ap pgn_named (same_frame groups F H P X Y st s) ∙ c.cut.pgn)

    -- the bytes of a chain through all its packets
    bytes_are : (c0 : ℕ) (s : Same X Y F H c.start c0) (ps : List ℕ) → Follows groups F H P X Y st n item c addressed c0 s ps → length ps ≡ length c.rest
        → take (size (at (frames_only H) c0)) (assembly.joined_at (frames_only H) ps) ≡ item.message.bytes
    bytes_are c0 s ps f l =
        let j : assembly.joined_at (frames_only H) ps ≡ item.message.bytes ++ c.cut.padding =
        f.joined_is ∙ (ap (λ (m : ℕ). joined (map (frame_at F) (take m c.rest))) l ∙ all_joined) in
        ap (take (size (at (frames_only H) c0))) j ∙ take_at item.message.bytes c.cut.padding (size (at (frames_only H) c0)) (sym (announced_size c0 s))

    -- the item is heard at its last frame
    cut_heard : (h : ℕ) → EndsAt groups F H P X Y st h n item → IsHeard groups H h (hearing_of_item F item)
    cut_heard h e =
        let not_lost : (j : ℕ) → j ≤ length c.rest → X (nth c j) ≡ false = λ j l. false_from_ne_true _ (λ x. both_ways _ e.not_lost (any_from X item.places (nth c j) (nth_listed groups F P n item c j l) x)) in
        go not_lost (place_in_H X Y F H st.one_rest c.start (nth_inside groups F P n item c 0 (omega arith)) (not_lost 0 (omega arith)))
      where
        go : ((j : ℕ) → j ≤ length c.rest → X (nth c j) ≡ false) → (c0 : ℕ) × Same X Y F H c.start c0 → IsHeard groups H h (hearing_of_item F item)
        go not_lost (c0, s) =
            let sb : Same X Y F H (nth c (length c.rest)) h = subst (λ (t : ℕ). Same X Y F H t h) (nth_last groups F P n item c) e.same in
            let quiet : (r : ℕ) → c0 < r → r ≤ h → announces item.key (at (frames_only H) r) ≡ false = λ r u v. ev_announces H item.key r ∙ quiet_H groups F H P X Y st n item c addressed c0 s h r sb u v in
            let rc = full_chain groups F H P X Y st n item c addressed c0 s h sb not_lost in
            let la : last_of c0 rc.0 ≡ h = rc.3 in
            let ct : length rc.0 ≡ length c.rest = rc.2 in
            let from : c0 ≤ last_of c0 rc.0 = Links-from (frames_only H) item.key c0 rc.0 rc.1 in
            let fl = follows groups F H P X Y st n item c addressed c0 s rc.0 (omega arith) rc.1 (λ r u v. quiet r u (omega arith)) in
            let an = announced_count c0 s in
            record {
              carried = inr (record {
                key = item.key;
                source_is = c.cut.source;
                whole = record {
                  start = c0;
                  places = rc.0;
                  chain = record {
                    announced = ev_announces H item.key c0 ∙ (ap (is_announcement item.key) (same_frame groups F H P X Y st s) ∙ c.cut.announced);
                    group_is = sym (announced_group c0 s);
                    few = omega arith;
                    links = rc.1;
                    runs = subst (λ (t : ℕ). Runs (frames_only H) item.key item.message.pgn c0 (suc t)) (sym la) (runs_H groups F H P X Y st n item c addressed c0 s h sb not_lost);
                  };
                  full = ct ∙ sym an;
                  ends_at = la;
                  bytes_are = sym (bytes_are c0 s rc.0 fl ct);
                };
                same_holder = λ j u v. held_in_H c0 h j s sb u v;
              });
              held_by = held_in_H c0 h h s sb (omega arith) (omega arith);
              destination_is = ap (λ (f : FrameRecord). sent_to item.message.pgn f.id) (sym (same_frame groups F H P X Y st e.same));
              stamp_is = ap (λ (f : FrameRecord). f.stamp) (sym (same_frame groups F H P X Y st e.same));
            }

  -- what is assembled of the address is an item
  cut_only : (h : ℕ) (hr : Hearing) → IsAssembled H h hr.message hr.name → IsHolder (claims_of H) h hr.message.source hr.name
      → hr.destination ≡ sent_to hr.message.pgn (frame_at H h).id → hr.stamp ≡ (frame_at H h).stamp → is_publisher P hr.message.source ≡ true → Comes groups F H P X Y st h hr
  cut_only h hr b hb dp sp adr =
      let w = b.whole in
      let fa = heard_announcement groups F H P X Y st b.key w.start (sym (ev_announces H b.key w.start) ∙ w.chain.announced) in
      let it = announced_item groups F P st.published b.key (ap (is_publisher P) b.source_is ∙ adr) fa.0 fa.2 in
      go b.key b.source_is w fa.0 fa.1 it.index it.item it.cut it.key_is it.start_is
    where
      go : (k : Key) → sender k ≡ hr.message.source → (w : Whole (frames_only H) h k hr.message.pgn hr.message.bytes) (f : ℕ) → Same X Y F H f w.start
          → (n : ℕ) (item : Item) (c : CutItem groups F P n item) → item.key ≡ k → c.start ≡ f → Comes groups F H P X Y st h hr
      go k sk w f sf n item c key start =
          let src : item.message.source ≡ hr.message.source = sym c.cut.source ∙ (ap sender key ∙ sk) in
          let sa : Same X Y F H c.start w.start = subst (λ (t : ℕ). Same X Y F H t w.start) (sym start) sf in
          let full : length w.places ≡ length c.rest = w.full ∙ announced_count n item c w.start sa in
          let links : Links (frames_only H) item.key w.start w.places = subst (λ (s : Key). Links (frames_only H) s w.start w.places) (sym key) w.chain.links in
          let from : w.start ≤ last_of w.start w.places = Links-from (frames_only H) item.key w.start w.places links in
          let ends : last_of w.start w.places ≡ h = w.ends_at in
          let fl = follows groups F H P X Y st n item c (addressed n item c) w.start sa w.places (omega arith) links
          (λ r u v. ap (λ (s : Key). announces s (at (frames_only H) r)) key ∙ (w.chain.runs.quiet r u (omega arith)).0) in
          let sb : Same X Y F H (nth c (length c.rest)) h = subst (λ (t : ℕ). Same X Y F H (nth c (length c.rest)) t) ends
          (subst (λ (m : ℕ). Same X Y F H (nth c m) (last_of w.start w.places)) full fl.same_last) in
          let se : Same X Y F H (last_place item) h = subst (λ (t : ℕ). Same X Y F H t h) (sym (nth_last groups F P n item c)) sb in
          let group : hr.message.pgn ≡ item.message.pgn = w.chain.group_is ∙ announced_group n item c w.start sa in
          let hd : IsHolder (claims_of H) h hr.message.source item.publisher.name =
          subst (λ (s : ℕ). IsHolder (claims_of H) h s item.publisher.name) src (held_in_H n item c w.start h h sa sb (omega arith) (omega arith)) in
          record {
            n = n;
            item = item;
            ends = record {
              at_n = c.at_n;
              same = se;
              not_lost = false_from_ne_true _ (λ t.
                  let p = any_found X item.places t in
                  let j = listed_nth groups F P n item c p.0 p.1 in
                  both_ways _ (fl.not_lost j.0 (let l : j.0 ≤ length c.rest = j.1 in omega arith)) (ap X (sym j.2) ∙ p.2));
            };
            hearing_is = hearing_same hr (hearing_of_item F item)
                (message_same hr.message item.message (sym src) group
                (w.bytes_are ∙ bytes_are n item c w.start sa w.places fl full))
                (dp ∙ (ap (λ (p : ℕ). sent_to p (frame_at H h).id) group ∙ ap (λ (g : FrameRecord). sent_to item.message.pgn g.id) (same_frame groups F H P X Y st se)))
                (sp ∙ ap (λ (g : FrameRecord). g.stamp) (same_frame groups F H P X Y st se))
                (same_holder (claims_of H) h hr.message.source hr.name item.publisher.name hb hd);
          }

  -- ---- both kinds

  pub heard_from : (h n : ℕ) (item : Item) → EndsAt groups F H P X Y st h n item → IsHeard groups H h (hearing_of_item F item)
  heard_from h n item e = elim (item_kinds groups F P n item st.published e.at_n) [ inl c ↦ alone_heard groups F H P X Y st n item c h e | inr c ↦ cut_heard n item c h e ]

  pub heard_only : (h : ℕ) (hr : Hearing) → IsHeard groups H h hr → is_publisher P hr.message.source ≡ true → Comes groups F H P X Y st h hr
  heard_only h hr r adr = elim r.carried [
    | inl m ↦ alone_only groups F H P X Y st h hr m r.held_by r.destination_is r.stamp_is adr
    | inr m ↦ cut_only h hr m r.held_by r.destination_is r.stamp_is adr
  ]
