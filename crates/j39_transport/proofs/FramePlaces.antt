-- What a frame is as an event, and how a packet and an announcement move a place.
use Rattle.std.proofs.Common.{◌≡◌, ℕ, ◌<◌, true, false, drop, slice_index, Option, Some, None, refl, sym, ap, ◌∙◌, subst, inl, inr, arith, nat_lt, ltb-true}
use Rattle.std.proofs.lemmas.Bool.{cases_Bool, cond-true, cond-false, and_parts, both_ways, false_from_ne_true}
use Rattle.j39_frame.specs.Frame.{FrameRecord}
use Rattle.j39_frame.specs.Network.{transport_control_group, transport_data_group}
use Rattle.j39_transport.specs.Key.{Key, sender, goes_to, opening}
use Rattle.j39_transport.specs.Frames.{group_of, destination_of, is_announcement, is_packet, is_clear_to_send, is_end}
use Rattle.j39_transport.specs.Key.Key.{Broadcast, Directed}
use Rattle.j39_transport.specs.Events.{Event, announces, sends, grants, ends, number, payload, stamp}
use Rattle.j39_transport.specs.Events.Event.{Frame}
use Rattle.j39_transport.specs.OpenAtEvent.{moved, pair_of, moved_place}
use Rattle.j39_transport.specs.Protocol.{directed_limit, request_to_send, clear_to_send, broadcast_announce}
use Rattle.j39_transport.specs.Session.{SessionRecord}
use Rattle.j39_transport.specs.Sessions.{is_of}
use Rattle.j39_transport.specs.AssemblerStep.{packed}
use Rattle.j39_transport.proofs.FrameFacts.{announcement_facts, packet_facts, allowing_facts, one_key, sends-others, announces-ends}
use Rattle.j39_transport.proofs.MoveLemmas.{moved_none, moved_packet}
use Rattle.j39_transport.proofs.PlaceLemmas.{on_pair}
use Rattle.j39_transport.proofs.Tables.{is_pair, pair_is, same_pair}

-- ---- what a frame is as an event

pub ev_announces : (k : Key) (f : FrameRecord) → announces k (Frame f) ≡ is_announcement k f
unfolding announces
ev_announces k f = refl

pub ev_sends : (k : Key) (f : FrameRecord) → sends k (Frame f) ≡ is_packet k f
unfolding sends
ev_sends k f = refl

pub ev_grants : (k : Key) (g : ℕ) (f : FrameRecord) → grants k g (Frame f) ≡ is_clear_to_send k g f
unfolding grants
ev_grants k g f = refl

pub ev_ends : (k : Key) (g : ℕ) (f : FrameRecord) → ends k g (Frame f) ≡ is_end k g f
unfolding ends
ev_ends k g f = refl

pub ev_stamp : (f : FrameRecord) → stamp (Frame f) ≡ f.stamp
unfolding stamp
ev_stamp f = refl

-- ---- places

pub place_moves : (e : Event) (x : SessionRecord) (o : Option SessionRecord) → announces (pair_of x) e ≡ false → moved (pair_of x) e x ≡ o → moved_place e (Some x) ≡ o
place_moves e x o a m = cond-false _ _ _ a ∙ m

-- nothing to a session
pub record IsQuiet (e : Event) (x : SessionRecord) : Type 0 where
  pub no_announcement : announces (pair_of x) e ≡ false
  pub no_packet : sends (pair_of x) e ≡ false
  pub no_grant : grants (pair_of x) x.group e ≡ false
  pub no_end : ends (pair_of x) x.group e ≡ false

pub quiet_moves : (e : Event) (x : SessionRecord) → IsQuiet e x → moved_place e (Some x) ≡ Some x
quiet_moves e x q = place_moves e x (Some x) q.no_announcement (moved_none (pair_of x) e x q.no_announcement q.no_packet q.no_grant q.no_end)

-- ---- a packet

pub packet_key : (j k : Key) (f : FrameRecord) → is_packet j f ≡ true → is_packet k f ≡ true → j ≡ k
packet_key j k f a b = (let p = packet_facts j f a in let q = packet_facts k f b in one_key j k p.key q.key (sym p.source ∙ q.source) (sym p.destination ∙ q.destination))

quiet_packet : (k : Key) (f : FrameRecord) (x : SessionRecord) → is_packet k f ≡ true → (is_packet (pair_of x) f ≡ true → ⊥) → IsQuiet (Frame f) x
quiet_packet k f x h n =
    let o = sends-others k (pair_of x) (pair_of x) x.group (Frame f) (ev_sends k f ∙ h) in
    record { no_announcement = o.no_announcement; no_packet = ev_sends (pair_of x) f ∙ false_from_ne_true _ n; no_grant = o.no_grant; no_end = o.no_end }

directed_pair : (s d t u : ℕ) → Directed s d ≡ Directed t u → (s ≡ t) × (d ≡ u)
directed_pair s d t u e = (ap sender e, ap goes_to e)

pub packs_place : (s d : ℕ) (f : FrameRecord) → is_packet (Directed s d) f ≡ true → (p : Option SessionRecord)
    → moved_place (Frame f) p ≡ on_pair s d (packed directed_limit (slice_index f.bytes 0) (drop 1 f.bytes) f.stamp) p
unfolding number payload stamp
packs_place s d f h None = refl
packs_place s d f h (Some x) = elim (cases_Bool (is_of s d (Some x))) [
  | inl y ↦
      (let h' : is_packet (pair_of x) f ≡ true = subst (λ (k : Key). is_packet k f ≡ true) (sym (same_pair s d x (pair_is s d x y))) h in
      let o = sends-others (pair_of x) (pair_of x) (pair_of x) x.group (Frame f) (ev_sends (pair_of x) f ∙ h') in
      place_moves (Frame f) x _ o.no_announcement (moved_packet (pair_of x) (Frame f) x o.no_announcement (ev_sends (pair_of x) f ∙ h') o.no_grant o.no_end)
      ∙ sym (cond-true (is_of s d (Some x)) _ (Some x) y))
  | inr n ↦
      (quiet_moves (Frame f) x (quiet_packet (Directed s d) f x h (λ q.
      let e = directed_pair _ _ _ _ (packet_key (pair_of x) (Directed s d) f q h) in
      both_ways _ n (is_pair s d x e.0 e.1)))
      ∙ sym (cond-false (is_of s d (Some x)) _ (Some x) n))
]

pub packs_other : (s : ℕ) (f : FrameRecord) → is_packet (Broadcast s) f ≡ true → (p : Option SessionRecord) → moved_place (Frame f) p ≡ p
packs_other s f h None = refl
packs_other s f h (Some x) = quiet_moves (Frame f) x (quiet_packet (Broadcast s) f x h (λ q.
    let p = packet_facts (pair_of x) f q in
    let r = packet_facts (Broadcast s) f h in
    let l : x.destination < 254 = ltb-true _ _ (and_parts (nat_lt x.source 254) (nat_lt x.destination 254) p.key).1 in
    let a : destination_of f.id ≡ x.destination = p.destination in
    let b : destination_of f.id ≡ 255 = r.destination in
    let o : ⊥ = omega arith in o))

-- ---- an announcement

pub announced_no_packet : (j k : Key) (f : FrameRecord) → is_announcement j f ≡ true → sends k (Frame f) ≡ false
announced_no_packet j k f h = ev_sends k f ∙ false_from_ne_true _ (λ t. (let p : group_of f.id ≡ transport_data_group = (packet_facts k f t).pgn in let q : group_of f.id ≡ transport_control_group = (announcement_facts j f h).pgn in let o : ⊥ = omega arith in o))

pub announced_no_grant : (j k : Key) (g : ℕ) (f : FrameRecord) → is_announcement j f ≡ true → grants k g (Frame f) ≡ false
announced_no_grant j k g f h = ev_grants k g f ∙ false_from_ne_true _ (λ t. go j (announcement_facts j f h).first (allowing_facts k g f t).1)
  where
    go : (j : Key) → slice_index f.bytes 0 ≡ opening j → slice_index f.bytes 0 ≡ clear_to_send → ⊥
    go (Broadcast s) a b = omega arith
    go (Directed s d) a b = omega arith

pub broadcast_place : (s : ℕ) (f : FrameRecord) → is_announcement (Broadcast s) f ≡ true → (p : Option SessionRecord) → moved_place (Frame f) p ≡ p
broadcast_place s f h None = refl
broadcast_place s f h (Some x) =
    let b : slice_index f.bytes 0 ≡ broadcast_announce = (announcement_facts (Broadcast s) f h).first in
    quiet_moves (Frame f) x (record {
      no_announcement = ev_announces (pair_of x) f ∙ false_from_ne_true _ (λ t. (let c : slice_index f.bytes 0 ≡ request_to_send = (announcement_facts (pair_of x) f t).first in let o : ⊥ = omega arith in o));
      no_packet = announced_no_packet (Broadcast s) (pair_of x) f h;
      no_grant = announced_no_grant (Broadcast s) (pair_of x) x.group f h;
      no_end = announces-ends (Broadcast s) (pair_of x) x.group (Frame f) (ev_announces (Broadcast s) f ∙ h);
    })

pub rival_place : (s d : ℕ) (f : FrameRecord) → is_announcement (Directed s d) f ≡ true → (p : Option SessionRecord) → moved_place (Frame f) p ≡ on_pair s d (λ p. None) p
rival_place s d f h None = refl
rival_place s d f h (Some x) =
    let q = announcement_facts (Directed s d) f h in
    elim (cases_Bool (is_of s d (Some x))) [
      | inl y ↦
          (let a : announces (pair_of x) (Frame f) ≡ true = ev_announces (pair_of x) f ∙ subst (λ (k : Key). is_announcement k f ≡ true) (sym (same_pair s d x (pair_is s d x y))) h in
          cond-true _ _ _ a ∙ sym (cond-true (is_of s d (Some x)) None (Some x) y))
      | inr y ↦
          (quiet_moves (Frame f) x (record {
            no_announcement = ev_announces (pair_of x) f ∙ false_from_ne_true _ (λ t.
                (let p = announcement_facts (pair_of x) f t in both_ways _ y (is_pair s d x (sym p.source ∙ q.source) (sym p.destination ∙ q.destination))));
            no_packet = announced_no_packet (Directed s d) (pair_of x) f h;
            no_grant = announced_no_grant (Directed s d) (pair_of x) x.group f h;
            no_end = announces-ends (Directed s d) (pair_of x) x.group (Frame f) (ev_announces (Directed s d) f ∙ h);
          })
          ∙ sym (cond-false (is_of s d (Some x)) None (Some x) y))
    ]
