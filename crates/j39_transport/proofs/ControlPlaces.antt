-- How a CTS, an acknowledgment and an abort move a place.
use Rattle.std.proofs.Common.{◌≡◌, ◌≢◌, ℕ, Bool, true, false, if◌then◌else◌, ◌&&◌, ◌||◌, slice_index, Option, Some, None, refl, sym, ap, ◌∙◌, subst, inl, inr, arith, ◌==◌, eqb-true, eq-eqb}
use Rattle.std.proofs.lemmas.Bool.{cases_Bool, cond-true, cond-false, and_parts, and_from, and_right, or_left, or_right, or_cases, both_ways, false_from_ne_true, eqb-false}
use Rattle.j39_frame.specs.Frame.{FrameRecord}
use Rattle.j39_frame.specs.Network.{transport_control_group, transport_data_group}
use Rattle.j39_transport.specs.Key.{Key, opening}
use Rattle.j39_transport.specs.Frames.{goes, group_of, pgn_named, is_control, is_clear_to_send, is_end}
use Rattle.j39_transport.specs.Key.Key.{Broadcast, Directed}
use Rattle.j39_transport.specs.Events.{announces, sends, grants, ends, stamp}
use Rattle.j39_transport.specs.Events.Event.{Frame}
use Rattle.j39_transport.specs.OpenAtEvent.{pair_of, moved_place}
use Rattle.j39_transport.specs.Protocol.{clear_to_send, acknowledgment, connection_abort}
use Rattle.j39_transport.specs.Session.{SessionRecord}
use Rattle.j39_transport.specs.Sessions.{is_of}
use Rattle.j39_transport.specs.AssemblerStep.{granted, closed}
use Rattle.j39_transport.proofs.FrameFacts.{announcement_facts, packet_facts, closing_facts, allowing_facts, goes_parts}
use Rattle.j39_transport.proofs.ReadLemmas.{IsNoFrame, IsControl}
use Rattle.j39_transport.proofs.MoveLemmas.{moved_end, moved_grant}
use Rattle.j39_transport.proofs.PlaceLemmas.{on_pair}
use Rattle.j39_transport.proofs.FramePlaces.{ev_announces, ev_sends, ev_grants, ev_ends, place_moves, quiet_moves}
use Rattle.j39_transport.proofs.Tables.{is_pair, pair_is}

-- ---- a control frame

module _ (b s d g : ℕ) (f : FrameRecord) (c : IsControl b s d g f) where
  pub sent_pgn : group_of f.id ≡ transport_control_group
  sent_pgn = (goes_parts transport_control_group d s f c.goes_back).0

  pub no_pack : (k : Key) → sends k (Frame f) ≡ false
  no_pack k = ev_sends k f ∙ false_from_ne_true _ (λ t. (let p : group_of f.id ≡ transport_data_group = (packet_facts k f t).pgn in let q : group_of f.id ≡ transport_control_group = sent_pgn in let o : ⊥ = omega arith in o))

  pub no_opening : (k : Key) → announces k (Frame f) ≡ false
  no_opening k = ev_announces k f ∙ false_from_ne_true _ (λ t. go k (announcement_facts k f t).first)
    where
      go : (k : Key) → slice_index f.bytes 0 ≡ opening k → ⊥
      go (Broadcast s) e = c.no_bam (sym c.first ∙ e)
      go (Directed s d) e = c.no_rts (sym c.first ∙ e)

  no_leave : b ≢ clear_to_send → (k : Key) (g : ℕ) → grants k g (Frame f) ≡ false
  no_leave n k g = ev_grants k g f ∙ false_from_ne_true _ (λ t. n (sym c.first ∙ (allowing_facts k g f t).1))

  no_close : b ≢ acknowledgment → b ≢ connection_abort → (k : Key) (g : ℕ) → ends k g (Frame f) ≡ false
  no_close n m k g = ev_ends k g f ∙ false_from_ne_true _ (λ t. elim (closing_facts k g f t).1 [ inl e ↦ n (sym c.first ∙ e) | inr e ↦ m (sym c.first ∙ e) ])

  -- an answer to a pair and a group, exactly where they are those of the frame
  answer_from : (s' d' g' : ℕ) → s' ≡ s → d' ≡ d → g' ≡ g → is_control b d' s' g' f ≡ true
  unfolding is_control
  answer_from s' d' g' x y z =
      and_from _ _ (and_from _ _ (subst (λ n. goes transport_control_group d' n f ≡ true) (sym x) (subst (λ n. goes transport_control_group n s f ≡ true) (sym y) c.goes_back)) (eq-eqb _ _ c.first)) (eq-eqb _ _ (sym c.group_is ∙ sym z))

  answer_to : (a s' d' g' : ℕ) → is_control a d' s' g' f ≡ true → (a ≡ b) × (s' ≡ s) × (d' ≡ d) × (g' ≡ g)
  unfolding is_control
  answer_to a s' d' g' h =
      let p = and_parts (goes transport_control_group d' s' f && slice_index f.bytes 0 == a) (pgn_named f == g') h in
      let q = and_parts (goes transport_control_group d' s' f) (slice_index f.bytes 0 == a) p.0 in
      let x = goes_parts transport_control_group d' s' f q.0 in
      let y = goes_parts transport_control_group d s f c.goes_back in
      (sym (eqb-true _ _ q.1) ∙ c.first, sym x.2 ∙ y.2, sym x.1 ∙ y.1, sym (eqb-true _ _ p.1) ∙ sym c.group_is)

pub grants_place : (s d g : ℕ) (f : FrameRecord) → IsControl clear_to_send s d g f → (p : Option SessionRecord) → moved_place (Frame f) p ≡ on_pair s d (granted g f.stamp) p
unfolding stamp granted is_clear_to_send
grants_place s d g f c None = refl
grants_place s d g f c (Some x) =
    let a : announces (pair_of x) (Frame f) ≡ false = no_opening clear_to_send s d g f c (pair_of x) in
    let k : sends (pair_of x) (Frame f) ≡ false = no_pack clear_to_send s d g f c (pair_of x) in
    let n : ends (pair_of x) x.group (Frame f) ≡ false = no_close clear_to_send s d g f c (λ e. let o : ⊥ = omega arith in o) (λ e. let o : ⊥ = omega arith in o) (pair_of x) x.group in
    let quiet : grants (pair_of x) x.group (Frame f) ≡ false → moved_place (Frame f) (Some x) ≡ Some x = λ t. quiet_moves (Frame f) x (record { no_announcement = a; no_packet = k; no_grant = t; no_end = n }) in
    elim (cases_Bool (is_of s d (Some x))) [
      | inl y ↦ elim (cases_Bool (x.group == g)) [
        | inl z ↦
            (let w = pair_is s d x y in
            let t : grants (pair_of x) x.group (Frame f) ≡ true = ev_grants (pair_of x) x.group f ∙ answer_from clear_to_send s d g f c x.source x.destination x.group w.0 w.1 (eqb-true _ _ z) in
            place_moves (Frame f) x (granted g f.stamp (Some x)) a (moved_grant (pair_of x) (Frame f) x a k t n ∙ sym (cond-true (x.group == g) _ (Some x) z))
            ∙ sym (cond-true (is_of s d (Some x)) _ (Some x) y))
        | inr z ↦
            (quiet (ev_grants (pair_of x) x.group f ∙ false_from_ne_true _ (λ q. eqb-false _ _ z (answer_to clear_to_send s d g f c clear_to_send x.source x.destination x.group q).3))
            ∙ sym (cond-true (is_of s d (Some x)) _ (Some x) y ∙ cond-false (x.group == g) _ (Some x) z))
      ]
      | inr y ↦
          (quiet (ev_grants (pair_of x) x.group f ∙ false_from_ne_true _ (λ q. (let w = answer_to clear_to_send s d g f c clear_to_send x.source x.destination x.group q in both_ways _ y (is_pair s d x w.1 w.2))))
          ∙ sym (cond-false (is_of s d (Some x)) _ (Some x) y))
    ]

-- what ends is exactly what is closed
module _ (b s d g : ℕ) (f : FrameRecord) (c : IsControl b s d g f) (no_grant : b ≢ clear_to_send) where
  closing_moves : (x : SessionRecord) (h : Bool) → is_end (pair_of x) x.group f ≡ h → moved_place (Frame f) (Some x) ≡ (if h then None else Some x)
  closing_moves x true h =
      let a : announces (pair_of x) (Frame f) ≡ false = no_opening b s d g f c (pair_of x) in
      place_moves (Frame f) x None a (moved_end (pair_of x) (Frame f) x a (ev_ends (pair_of x) x.group f ∙ h))
  closing_moves x false h = quiet_moves (Frame f) x (record {
    no_announcement = no_opening b s d g f c (pair_of x);
    no_packet = no_pack b s d g f c (pair_of x);
    no_grant = no_leave b s d g f c no_grant (pair_of x) x.group;
    no_end = ev_ends (pair_of x) x.group f ∙ h;
  })

close_pair : (s d g : ℕ) (x : SessionRecord) → on_pair s d (closed g) (Some x) ≡ (if is_of s d (Some x) && x.group == g then None else Some x)
unfolding closed
close_pair s d g x = go (is_of s d (Some x)) (x.group == g)
  where
    go : (a b : Bool) → (if a then (if b then None else Some x) else Some x) ≡ (if a && b then None else Some x)
    go true b = refl
    go false b = refl

pub finishes_place : (s d g : ℕ) (f : FrameRecord) → IsControl acknowledgment s d g f → (p : Option SessionRecord) → moved_place (Frame f) p ≡ on_pair s d (closed g) p
unfolding is_end
finishes_place s d g f c None = refl
finishes_place s d g f c (Some x) =
    closing_moves acknowledgment s d g f c (λ e. let o : ⊥ = omega arith in o) x (is_of s d (Some x) && x.group == g) is
    ∙ sym (close_pair s d g x)
  where
    is : is_end (pair_of x) x.group f ≡ (is_of s d (Some x) && x.group == g)
    is = elim (cases_Bool (is_of s d (Some x) && x.group == g)) [
      | inl y ↦
          (let p = and_parts (is_of s d (Some x)) (x.group == g) y in
          let w = pair_is s d x p.0 in
          or_left _ _ (or_left _ _ (answer_from acknowledgment s d g f c x.source x.destination x.group w.0 w.1 (eqb-true _ _ p.1))) ∙ sym y)
      | inr y ↦ false_from_ne_true _ (λ q. elim (or_cases (is_control acknowledgment x.destination x.source x.group f || is_control connection_abort x.destination x.source x.group f) (is_control connection_abort x.source x.destination x.group f) q) [
        | inl u ↦ elim (or_cases (is_control acknowledgment x.destination x.source x.group f) (is_control connection_abort x.destination x.source x.group f) u) [
          | inl v ↦ (let w = answer_to acknowledgment s d g f c acknowledgment x.source x.destination x.group v in both_ways _ y (and_from _ _ (is_pair s d x w.1 w.2) (eq-eqb _ _ w.3)))
          | inr v ↦ (let w : connection_abort ≡ acknowledgment = (answer_to acknowledgment s d g f c connection_abort x.source x.destination x.group v).0 in let o : ⊥ = omega arith in o)
        ]
        | inr u ↦ (let w : connection_abort ≡ acknowledgment = (answer_to acknowledgment s d g f c connection_abort x.destination x.source x.group u).0 in let o : ⊥ = omega arith in o)
      ]) ∙ sym y
    ]

close_both : (s d g : ℕ) (x : SessionRecord) → on_pair d s (closed g) (on_pair s d (closed g) (Some x)) ≡ (if (is_of s d (Some x) || is_of d s (Some x)) && x.group == g then None else Some x)
unfolding closed
close_both s d g x = go (is_of s d (Some x)) (x.group == g) refl
  where
    other : (a c : Bool) → (if a then (if c then None else Some x) else Some x) ≡ (if a && c then None else Some x)
    other true c = refl
    other false c = refl

    same : (c : Bool) → (x.group == g) ≡ c → c ≡ false → (if is_of d s (Some x) then (if x.group == g then None else Some x) else Some x) ≡ Some x
    same c e n = other (is_of d s (Some x)) (x.group == g) ∙ cond-false (is_of d s (Some x) && x.group == g) None (Some x) (and_right (is_of d s (Some x)) (x.group == g) (e ∙ n))

    go : (a c : Bool) → (x.group == g) ≡ c → on_pair d s (closed g) (if a then (if c then None else Some x) else Some x) ≡ (if (a || is_of d s (Some x)) && c then None else Some x)
    go true true e = refl
    go true false e = same false e refl
    go false c e = other (is_of d s (Some x)) (x.group == g) ∙ ap (λ q. if is_of d s (Some x) && q then None else Some x) e

pub aborts_place : (s d g : ℕ) (f : FrameRecord) → IsControl connection_abort s d g f → (p : Option SessionRecord) → moved_place (Frame f) p ≡ on_pair d s (closed g) (on_pair s d (closed g) p)
unfolding is_end
aborts_place s d g f c None = refl
aborts_place s d g f c (Some x) =
    closing_moves connection_abort s d g f c (λ e. let o : ⊥ = omega arith in o) x ((is_of s d (Some x) || is_of d s (Some x)) && x.group == g) is
    ∙ sym (close_both s d g x)
  where
    is : is_end (pair_of x) x.group f ≡ ((is_of s d (Some x) || is_of d s (Some x)) && x.group == g)
    is = elim (cases_Bool ((is_of s d (Some x) || is_of d s (Some x)) && x.group == g)) [
      | inl y ↦
          (let p = and_parts (is_of s d (Some x) || is_of d s (Some x)) (x.group == g) y in
          elim (or_cases (is_of s d (Some x)) (is_of d s (Some x)) p.0) [
            | inl z ↦ (let w = pair_is s d x z in or_left _ _ (or_right _ _ (answer_from connection_abort s d g f c x.source x.destination x.group w.0 w.1 (eqb-true _ _ p.1))) ∙ sym y)
            | inr z ↦ (let w = pair_is d s x z in or_right _ _ (answer_from connection_abort s d g f c x.destination x.source x.group w.1 w.0 (eqb-true _ _ p.1)) ∙ sym y)
          ])
      | inr y ↦ false_from_ne_true _ (λ q. elim (or_cases (is_control acknowledgment x.destination x.source x.group f || is_control connection_abort x.destination x.source x.group f) (is_control connection_abort x.source x.destination x.group f) q) [
        | inl u ↦ elim (or_cases (is_control acknowledgment x.destination x.source x.group f) (is_control connection_abort x.destination x.source x.group f) u) [
          | inl v ↦ (let w : acknowledgment ≡ connection_abort = (answer_to connection_abort s d g f c acknowledgment x.source x.destination x.group v).0 in let o : ⊥ = omega arith in o)
          | inr v ↦ (let w = answer_to connection_abort s d g f c connection_abort x.source x.destination x.group v in both_ways _ y (and_from _ _ (or_left _ _ (is_pair s d x w.1 w.2)) (eq-eqb _ _ w.3)))
        ]
        | inr u ↦ (let w = answer_to connection_abort s d g f c connection_abort x.destination x.source x.group u in both_ways _ y (and_from _ _ (or_right _ _ (is_pair d s x w.2 w.1)) (eq-eqb _ _ w.3)))
      ]) ∙ sym y
    ]

pub other_place : (f : FrameRecord) → IsNoFrame f → (p : Option SessionRecord) → moved_place (Frame f) p ≡ p
other_place f h None = refl
other_place f h (Some x) = quiet_moves (Frame f) x (record {
  no_announcement = ev_announces (pair_of x) f ∙ h.no_announcement (pair_of x);
  no_packet = ev_sends (pair_of x) f ∙ h.no_packet (pair_of x);
  no_grant = ev_grants (pair_of x) x.group f ∙ h.no_grant (pair_of x) x.group;
  no_end = ev_ends (pair_of x) x.group f ∙ h.no_end (pair_of x) x.group;
})
