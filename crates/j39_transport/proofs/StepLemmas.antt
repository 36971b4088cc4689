-- The state of an assembler after an event is that of the definitions.
use Rattle.std.proofs.Common.{◌≡◌, ℕ, zero, suc, ◌<◌, Bool, true, false, if◌then◌else◌, List, [], ◌∷◌, ◌++◌, map, drop, take, set, get_or, slice_index, slice_set, Option, Some, None, refl, sym, ap, ◌∙◌, subst, inl, inr, arith, nat_lt, ◌==◌, eq-eqb, ltb-true, lt-ltb}
use Rattle.std.proofs.lemmas.Bool.{cases_Bool, cond-true, cond-false, and_parts, and_from, and_left, and_right, both_ways, false_from_ne_true}
use Rattle.std.proofs.lemmas.List.{set-get_or}
use Rattle.j39_frame.specs.Frame.{FrameRecord}
use Rattle.j39_transport.specs.Key.{Key, is_key}
use Rattle.j39_transport.specs.Frames.{source_of, destination_of, is_announcement, is_packet, is_clear_to_send, is_end}
use Rattle.j39_transport.specs.Key.Key.{Broadcast, Directed}
use Rattle.j39_transport.specs.Events.{Event, announces, sends, grants, ends, number, payload, size, packets, group, stamp}
use Rattle.j39_transport.specs.Events.Event.{Frame, Forget}
use Rattle.j39_transport.specs.OpenAtEvent.{pair_of, moved_place, is_request_to_send, directed_step, step, broadcast_step}
use Rattle.j39_transport.specs.Protocol.{clear_to_send, acknowledgment, connection_abort, broadcast_limit, directed_limit, request_to_send, broadcast_announce}
use Rattle.j39_transport.specs.Stands.{AreKept}
use Rattle.j39_transport.specs.Session.{SessionRecord}
use Rattle.j39_transport.specs.Sessions.{Sessions, at, is_of, find, forgotten, without}
use Rattle.j39_transport.specs.Signals.{Signal, BroadcastAnnounce, RequestToSend, ClearToSend, Acknowledgment, Abort, Packet, said_by}
use Rattle.j39_transport.specs.AssemblerStep.{OpenMessagesRecord, after_packet, key_of, packed, granted, closed, finished, with_place, state_after, state_without, without_broadcast, room}
use Rattle.j39_transport.specs.Session as sessions
use Rattle.j39_transport.proofs.FrameFacts.{announcement_facts, packet_facts, sends-others}
use Rattle.j39_transport.proofs.ReadLemmas.{IsControl, IsPacking, Facts, read_is}
use Rattle.j39_transport.proofs.MoveLemmas.{moved_end, moved_packet}
use Rattle.j39_transport.proofs.PlaceLemmas.{Change, on_pair, Once, with_once, room_once, once_of}
use Rattle.j39_transport.proofs.FramePlaces.{packs_place, packs_other, broadcast_place, rival_place, ev_announces, ev_sends, announced_no_packet, place_moves, quiet_moves}
use Rattle.j39_transport.proofs.ControlPlaces.{grants_place, finishes_place, aborts_place, other_place, no_pack, no_opening}
use Rattle.j39_transport.proofs.Sums.{Apart, apart_later, are_apart}
use Rattle.j39_transport.proofs.AllKeys.{quiet_step, table_more}

-- ---- the directed messages

not_rival : (f : FrameRecord) → is_announcement (Directed (source_of f.id) (destination_of f.id)) f ≡ false → is_request_to_send (Frame f) ≡ false
not_rival f h = ev_announces (Directed (source_of f.id) (destination_of f.id)) f ∙ h

moves_by : (e : Event) (g : Change) (t : Sessions) → ((p : Option SessionRecord) → moved_place e p ≡ g p) → map (moved_place e) t ≡ map g t
moves_by e g [] h = refl
moves_by e g (p ∷ t) h = (λ i. h p i ∷ moves_by e g t h i)

quietly : (f : FrameRecord) (g : Change) (t : Sessions) → is_announcement (Directed (source_of f.id) (destination_of f.id)) f ≡ false → ((p : Option SessionRecord) → moved_place (Frame f) p ≡ g p)
    → directed_step (Frame f) t ≡ map g t
quietly f g t n h = cond-false _ _ _ (not_rival f n) ∙ moves_by (Frame f) g t h

map_same : (t : Sessions) → map (λ p. p) t ≡ t
map_same [] = refl
map_same (p ∷ t) = ap (λ x. p ∷ x) (map_same t)

map_twice : (g h : Change) (t : Sessions) → map h (map g t) ≡ map (λ p. h (g p)) t
map_twice g h [] = refl
map_twice g h (p ∷ t) = ap (λ x. h (g p) ∷ x) (map_twice g h t)

unchanged : (f : FrameRecord) (t : Sessions) → is_announcement (Directed (source_of f.id) (destination_of f.id)) f ≡ false → ((p : Option SessionRecord) → moved_place (Frame f) p ≡ p)
    → t ≡ directed_step (Frame f) t
unchanged f t n h = sym (quietly f (λ p. p) t n h ∙ map_same t)

one_change : (f : FrameRecord) (s d : ℕ) (g : Change) (t : Sessions) → Apart t → is_announcement (Directed (source_of f.id) (destination_of f.id)) f ≡ false → ((p : Option SessionRecord) → moved_place (Frame f) p ≡ on_pair s d g p)
    → with_place (find s d t) g t ≡ directed_step (Frame f) t
one_change f s d g t u n h = sym (quietly f (on_pair s d g) t n h ∙ sym (with_once s d g t (once_of t u s d)))

pub control_no_announcement : (b s d g : ℕ) (f : FrameRecord) → IsControl b s d g f → is_announcement (Directed (source_of f.id) (destination_of f.id)) f ≡ false
control_no_announcement b s d g f c = sym (ev_announces (Directed (source_of f.id) (destination_of f.id)) f) ∙ no_opening b s d g f c (Directed (source_of f.id) (destination_of f.id))

pub packet_no_announcement : (j k : Key) (f : FrameRecord) → is_packet j f ≡ true → is_announcement k f ≡ false
packet_no_announcement j k f h = sym (ev_announces k f) ∙ (sends-others j k k 0 (Frame f) (ev_sends j f ∙ h)).no_announcement

-- the pair stands once where another was closed
kept_closed : (s d s' d' g : ℕ) (p : Option SessionRecord) → is_of s d (on_pair s' d' (closed g) p) ≡ true → is_of s d p ≡ true
unfolding closed
kept_closed s d s' d' g None h = h
kept_closed s d s' d' g (Some x) h = go (is_of s' d' (Some x)) (x.group == g) h
  where
    go : (a b : Bool) → is_of s d (if a then (if b then None else Some x) else Some x) ≡ true → is_of s d (Some x) ≡ true
    go true true h = absurd (both_ways false refl h)
    go true false h = h
    go false b h = h

was_closed : (s d s' d' g i : ℕ) (t : Sessions) → is_of s d (at (map (on_pair s' d' (closed g)) t) i) ≡ true → is_of s d (at t i) ≡ true
was_closed s d s' d' g zero [] h = h
was_closed s d s' d' g (suc i) [] h = h
was_closed s d s' d' g zero (p ∷ t) h = kept_closed s d s' d' g p h
was_closed s d s' d' g (suc i) (p ∷ t) h = was_closed s d s' d' g i t h

once_closed : (s d s' d' g : ℕ) (t : Sessions) → Once s d t → Once s d (map (on_pair s' d' (closed g)) t)
once_closed s d s' d' g t u = record { each = λ i j a b. u.each i j (was_closed s d s' d' g i t a) (was_closed s d s' d' g j t b) }

both_closed : (s d g : ℕ) (t : Sessions) → Apart t → finished d s g (finished s d g t) ≡ map (λ p. on_pair d s (closed g) (on_pair s d (closed g) p)) t
unfolding finished
both_closed s d g t u =
    let e : with_place (find s d t) (closed g) t ≡ map (on_pair s d (closed g)) t = with_once s d (closed g) t (once_of t u s d) in
    ap (λ (x : Sessions). with_place (find d s x) (closed g) x) e
    ∙ (with_once d s (closed g) (map (on_pair s d (closed g)) t) (once_closed d s s d g t (once_of t u d s)) ∙ map_twice (on_pair s d (closed g)) (on_pair d s (closed g)) t)

-- the directed messages after a packet
directed_packet : (f : FrameRecord) (k : Key) (n : ℕ) (bs : List ℕ) (a : OpenMessagesRecord) → IsPacking k n bs f → Apart a.directed → (after_packet a f.stamp k n bs).directed ≡ directed_step (Frame f) a.directed
directed_packet f (Broadcast s) n bs a h u = unchanged f a.directed (packet_no_announcement (Broadcast s) _ f h.packs_it) (packs_other s f h.packs_it)
directed_packet f (Directed s d) n bs a h u =
    (λ i. with_place (find s d a.directed) (packed directed_limit (h.number_is i) (h.data_are i) f.stamp) a.directed)
    ∙ one_change f s d (packed directed_limit (slice_index f.bytes 0) (drop 1 f.bytes) f.stamp) a.directed u (packet_no_announcement (Directed s d) _ f h.packs_it) (packs_place s d f h.packs_it)

-- the directed messages after a frame
pub directed_after : (f : FrameRecord) (r : Option Signal) (a : OpenMessagesRecord) → Facts f r → Apart a.directed → (state_after a f r).directed ≡ directed_step (Frame f) a.directed
unfolding state_after finished payload size packets group stamp
directed_after f None a h u = unchanged f a.directed (h.no_announcement (Directed (source_of f.id) (destination_of f.id))) (other_place f h)
directed_after f (Some (BroadcastAnnounce n p g)) a h u =
    unchanged f a.directed
    (false_from_ne_true _ (λ t. (let x : slice_index f.bytes 0 ≡ request_to_send = (announcement_facts (Directed (source_of f.id) (destination_of f.id)) f t).first in let y : slice_index f.bytes 0 ≡ broadcast_announce = (announcement_facts (Broadcast (source_of f.id)) f h.announces_it).first in let o : ⊥ = omega arith in o)))
    (broadcast_place (source_of f.id) f h.announces_it)
directed_after f (Some (RequestToSend n p most g)) a h u =
    let s : ℕ = source_of f.id in
    let d : ℕ = destination_of f.id in
    let rest : take 15 (slice_set a.directed (room (find s d a.directed)) None) ≡ take 15 (map (moved_place (Frame f)) a.directed) =
    room_once s d a.directed (once_of a.directed u s d) ∙ ap (take 15) (sym (moves_by (Frame f) (on_pair s d (λ p. None)) a.directed (rival_place s d f h.announces_it))) in
    (λ i. Some (sessions.opened (Directed s d) (h.group_is i) (h.size_is i) (h.packets_are i) f.stamp) ∷ rest i)
    ∙ sym (cond-true _ _ _ (ev_announces (Directed s d) f ∙ h.announces_it))
directed_after f (Some (ClearToSend count next g)) a h u = one_change f (destination_of f.id) (source_of f.id) (granted g f.stamp) a.directed u (control_no_announcement clear_to_send _ _ g f h) (grants_place _ _ g f h)
directed_after f (Some (Acknowledgment n p g)) a h u = one_change f (destination_of f.id) (source_of f.id) (closed g) a.directed u (control_no_announcement acknowledgment _ _ g f h) (finishes_place _ _ g f h)
directed_after f (Some (Abort reason g)) a h u =
    let s : ℕ = destination_of f.id in
    let d : ℕ = source_of f.id in
    sym (quietly f (λ p. on_pair d s (closed g) (on_pair s d (closed g) p)) a.directed (control_no_announcement connection_abort s d g f h) (aborts_place s d g f h)
    ∙ sym (both_closed s d g a.directed u))
directed_after f (Some (Packet n bs)) a h u = directed_packet f (key_of f) n bs a h u

-- ---- the broadcasts

frame_none : (s : ℕ) (f : FrameRecord) → ((g : ℕ) → grants (Broadcast s) g (Frame f) ≡ false) × ((g : ℕ) → ends (Broadcast s) g (Frame f) ≡ false)
unfolding grants ends is_clear_to_send is_end
frame_none s f = ((λ g. refl), (λ g. refl))

quiet_broadcasts : (f : FrameRecord) (T : Sessions) → is_announcement (Broadcast (source_of f.id)) f ≡ false → is_packet (Broadcast (source_of f.id)) f ≡ false → T ≡ broadcast_step (Frame f) T
quiet_broadcasts f T a b =
    let n = frame_none (source_of f.id) f in
    sym (ap (set T (source_of f.id)) (quiet_step (Frame f) (source_of f.id) (get_or T (source_of f.id) None) (ev_announces (Broadcast (source_of f.id)) f ∙ a) (ev_sends (Broadcast (source_of f.id)) f ∙ b) n.0 n.1) ∙ set-get_or T (source_of f.id) None)

packed_step : (s : ℕ) (f : FrameRecord) (o : Option SessionRecord) → is_packet (Broadcast s) f ≡ true → packed broadcast_limit (slice_index f.bytes 0) (drop 1 f.bytes) f.stamp o ≡ step (Broadcast s) (Frame f) o
unfolding number payload stamp
packed_step s f None h = sym (cond-false _ _ _ (ev_announces (Broadcast s) f ∙ packet_no_announcement (Broadcast s) (Broadcast s) f h))
packed_step s f (Some x) h =
    let a : announces (Broadcast s) (Frame f) ≡ false = ev_announces (Broadcast s) f ∙ packet_no_announcement (Broadcast s) (Broadcast s) f h in
    let n = frame_none s f in
    sym (cond-false _ _ _ a ∙ moved_packet (Broadcast s) (Frame f) x a (ev_sends (Broadcast s) f ∙ h) (n.0 x.group) (n.1 x.group))

control_broadcasts : (b s d g : ℕ) (f : FrameRecord) (a : OpenMessagesRecord) → IsControl b s d g f → a.broadcasts ≡ broadcast_step (Frame f) a.broadcasts
control_broadcasts b s d g f a c = quiet_broadcasts f a.broadcasts
    (sym (ev_announces (Broadcast (source_of f.id)) f) ∙ no_opening b s d g f c (Broadcast (source_of f.id)))
    (sym (ev_sends (Broadcast (source_of f.id)) f) ∙ no_pack b s d g f c (Broadcast (source_of f.id)))

-- the broadcasts after a packet
broadcasts_packet : (f : FrameRecord) (k : Key) (n : ℕ) (bs : List ℕ) (a : OpenMessagesRecord) → IsPacking k n bs f → (after_packet a f.stamp k n bs).broadcasts ≡ broadcast_step (Frame f) a.broadcasts
broadcasts_packet f (Broadcast s) n bs a h =
    let q = packet_facts (Broadcast s) f h.packs_it in
    (λ i. set a.broadcasts s (packed broadcast_limit (h.number_is i) (h.data_are i) f.stamp (at a.broadcasts s)))
    ∙ (ap (set a.broadcasts s) (packed_step s f (at a.broadcasts s) h.packs_it)
    ∙ ap (λ x. set a.broadcasts x (step (Broadcast x) (Frame f) (get_or a.broadcasts x None))) (sym q.source))
broadcasts_packet f (Directed s d) n bs a h = quiet_broadcasts f a.broadcasts
    (packet_no_announcement (Directed s d) _ f h.packs_it)
    (false_from_ne_true _ (λ t.
    let x : destination_of f.id ≡ 255 = (packet_facts (Broadcast (source_of f.id)) f t).destination in
    let q = packet_facts (Directed s d) f h.packs_it in
    let y : destination_of f.id ≡ d = q.destination in
    let l : d < 254 = ltb-true _ _ (and_parts (nat_lt s 254) (nat_lt d 254) q.key).1 in
    let o : ⊥ = omega arith in o))

-- the broadcasts after a frame
pub broadcasts_after : (f : FrameRecord) (r : Option Signal) (a : OpenMessagesRecord) → Facts f r → (state_after a f r).broadcasts ≡ broadcast_step (Frame f) a.broadcasts
unfolding state_after payload size packets group stamp
broadcasts_after f None a h = quiet_broadcasts f a.broadcasts (h.no_announcement (Broadcast (source_of f.id))) (h.no_packet (Broadcast (source_of f.id)))
broadcasts_after f (Some (BroadcastAnnounce n p g)) a h =
    (λ i. set a.broadcasts (source_of f.id) (Some (sessions.opened (Broadcast (source_of f.id)) (h.group_is i) (h.size_is i) (h.packets_are i) f.stamp)))
    ∙ ap (set a.broadcasts (source_of f.id)) (sym (cond-true _ _ _ (ev_announces (Broadcast (source_of f.id)) f ∙ h.announces_it)))
broadcasts_after f (Some (RequestToSend n p most g)) a h =
    let k : Key = Directed (source_of f.id) (destination_of f.id) in
    quiet_broadcasts f a.broadcasts
    (false_from_ne_true _ (λ t. (let x : slice_index f.bytes 0 ≡ broadcast_announce = (announcement_facts (Broadcast (source_of f.id)) f t).first in let y : slice_index f.bytes 0 ≡ request_to_send = (announcement_facts k f h.announces_it).first in let o : ⊥ = omega arith in o)))
    (sym (ev_sends (Broadcast (source_of f.id)) f) ∙ announced_no_packet k (Broadcast (source_of f.id)) f h.announces_it)
broadcasts_after f (Some (ClearToSend count next g)) a h = control_broadcasts clear_to_send _ _ g f a h
broadcasts_after f (Some (Acknowledgment n p g)) a h = control_broadcasts acknowledgment _ _ g f a h
broadcasts_after f (Some (Abort reason g)) a h = control_broadcasts connection_abort _ _ g f a h
broadcasts_after f (Some (Packet n bs)) a h = broadcasts_packet f (key_of f) n bs a h

-- ---- one event more

pub kept_after : (E : List Event) (f : FrameRecord) (a : OpenMessagesRecord) → AreKept E a → AreKept (E ++ Frame f ∷ []) (state_after a f (said_by f))
kept_after E f a h =
    let x = broadcasts_after f (said_by f) a (read_is f) in
    let y = directed_after f (said_by f) a (read_is f) (are_apart E a.directed h.directed) in
    subst (λ (t : OpenMessagesRecord). AreKept (E ++ Frame f ∷ []) t) (λ i. record { broadcasts = sym x i; directed = sym y i }) (table_more E (Frame f) a h)

-- ---- a source forgotten

forget_place : (t : ℕ) (x : SessionRecord) → x.source < 254 → x.destination < 254 → moved_place (Forget t) (Some x) ≡ without t (Some x)
unfolding announces sends grants ends
forget_place t x l m = elim (cases_Bool (x.source == t)) [
  | inl y ↦
      (place_moves (Forget t) x None refl (moved_end (pair_of x) (Forget t) x refl (and_from _ _ y (and_from _ _ (lt-ltb x.source 254 l) (lt-ltb x.destination 254 m))))
      ∙ sym (cond-true (x.source == t) None (Some x) y))
  | inr y ↦
      (quiet_moves (Forget t) x (record { no_announcement = refl; no_packet = refl; no_grant = refl; no_end = and_left (x.source == t) (is_key (pair_of x)) y })
      ∙ sym (cond-false (x.source == t) None (Some x) y))
]

directed_forgotten : (t : ℕ) (L : Sessions) → Apart L → forgotten t L ≡ directed_step (Forget t) L
unfolding announces forgotten
directed_forgotten t [] u = refl
directed_forgotten t (None ∷ L) u = ap (λ (r : Sessions). None ∷ r) (directed_forgotten t L (apart_later None L u))
directed_forgotten t (Some x ∷ L) u =
    let w = u.within 0 x refl in
    (λ i. sym (forget_place t x w.0 w.1) i ∷ directed_forgotten t L (apart_later (Some x) L u) i)

broadcasts_forgotten : (t : ℕ) (B : Sessions) → without_broadcast t B ≡ broadcast_step (Forget t) B
unfolding announces sends grants ends without_broadcast
broadcasts_forgotten t B = elim (cases_Bool (nat_lt t 254)) [
  | inl y ↦ cond-true (nat_lt t 254) _ B y ∙ ap (set B t) (sym (ended y (get_or B t None)))
  | inr y ↦
      (cond-false (nat_lt t 254) _ B y
      ∙ sym (ap (set B t) (quiet_step (Forget t) t (get_or B t None) refl refl (λ g. refl) (λ g. and_right (t == t) (nat_lt t 254) y)) ∙ set-get_or B t None))
]
  where
    ended : nat_lt t 254 ≡ true → (o : Option SessionRecord) → step (Broadcast t) (Forget t) o ≡ None
    ended y None = refl
    ended y (Some x) = moved_end (Broadcast t) (Forget t) x refl (and_from _ _ (eq-eqb t t refl) y)

pub kept_forgotten : (E : List Event) (t : ℕ) (a : OpenMessagesRecord) → AreKept E a → AreKept (E ++ Forget t ∷ []) (state_without a t)
kept_forgotten E t a h =
    let x = broadcasts_forgotten t a.broadcasts in
    let y = directed_forgotten t a.directed (are_apart E a.directed h.directed) in
    subst (λ (T : OpenMessagesRecord). AreKept (E ++ Forget t ∷ []) T) (λ i. record { broadcasts = sym x i; directed = sym y i }) (table_more E (Forget t) a h)
