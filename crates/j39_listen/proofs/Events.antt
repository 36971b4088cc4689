-- Frames as events.
use Rattle.std.proofs.Common.{◌≡◌, ℕ, ◌<◌, ◌≤◌, true, false, List, [], length, drop, refl, sym, ap, ◌∙◌, inl, inr, arith, slice_index, eqb-true, eq-eqb}
use Rattle.std.proofs.lemmas.Bool.{cases_lt, and_parts, and_from, both_ways, false_from_ne_true}
use Rattle.std.proofs.lemmas.List.{length-map, get_or_past}
use Rattle.j39_frame.specs.Frame.{FrameRecord}
use Rattle.j39_listen.specs.Heard.{frame_at, frames_only}
use Rattle.j39_listen.proofs.Causal.{event_at}
use Rattle.j39_transport.proofs.FrameFacts.{announcement_facts, packet_facts}
use Rattle.j39_transport.specs.Events.{announces, ends, grants, group, is_numbered, number, packets, payload, sends, size, stamp}
use Rattle.j39_transport.specs.Events.{at}
use Rattle.j39_transport.specs.Events.Event.{Frame, Forget}
use Rattle.j39_transport.specs.Frames.{group_of, is_announcement, is_clear_to_send, is_end, is_packet, packets_named, pgn_named, size_named}
use Rattle.j39_transport.specs.Key.{Key}

past_event : (H : List FrameRecord) (i : ℕ) → length H ≤ i → at (frames_only H) i ≡ Forget 255
past_event H i l = get_or_past (frames_only H) i (Forget 255) (let e = length-map H (λ (f : FrameRecord). Frame f) in omega arith)

past_frame : (H : List FrameRecord) (i : ℕ) → length H ≤ i → frame_at H i ≡ record { stamp = 0; id = 0; bytes = [] }
past_frame H i l = get_or_past H i (record { stamp = 0; id = 0; bytes = [] }) l

zero_pgn : (g : ℕ) → group_of 0 ≡ g → 0 < g → ⊥
unfolding group_of
zero_pgn g e l = omega arith

none_announced : (s : Key) → announces s (Forget 255) ≡ false
unfolding announces
none_announced s = refl

none_sent : (s : Key) → sends s (Forget 255) ≡ false
unfolding sends
none_sent s = refl

no_frame : (s : Key) → (is_announcement s (record { stamp = 0; id = 0; bytes = [] }) ≡ false) × (is_packet s (record { stamp = 0; id = 0; bytes = [] }) ≡ false)
no_frame s = (false_from_ne_true _ (λ k. zero_pgn _ (announcement_facts s _ k).pgn (omega arith)), false_from_ne_true _ (λ k. zero_pgn _ (packet_facts s _ k).pgn (omega arith)))

announces_frame : (s : Key) (f : FrameRecord) → announces s (Frame f) ≡ is_announcement s f
unfolding announces
announces_frame s f = refl

sends_frame : (s : Key) (f : FrameRecord) → sends s (Frame f) ≡ is_packet s f
unfolding sends
sends_frame s f = refl

frame_numbers : (f : FrameRecord) → (number (Frame f) ≡ slice_index f.bytes 0) × (payload (Frame f) ≡ drop 1 f.bytes) × (size (Frame f) ≡ size_named f)
    × (packets (Frame f) ≡ packets_named f) × (group (Frame f) ≡ pgn_named f) × (stamp (Frame f) ≡ f.stamp)
unfolding number payload size packets group stamp
frame_numbers f = (refl, refl, refl, refl, refl, refl)

pub ev_announces : (H : List FrameRecord) (s : Key) (i : ℕ) → announces s (at (frames_only H) i) ≡ is_announcement s (frame_at H i)
ev_announces H s i = elim (cases_lt i (length H)) [
  | inl l ↦ ap (announces s) (event_at H i l) ∙ announces_frame s (frame_at H i)
  | inr l ↦ ap (announces s) (past_event H i l) ∙ (none_announced s ∙ sym (ap (is_announcement s) (past_frame H i l) ∙ (no_frame s).0))
]

pub ev_sends : (H : List FrameRecord) (s : Key) (i : ℕ) → sends s (at (frames_only H) i) ≡ is_packet s (frame_at H i)
ev_sends H s i = elim (cases_lt i (length H)) [
  | inl l ↦ ap (sends s) (event_at H i l) ∙ sends_frame s (frame_at H i)
  | inr l ↦ ap (sends s) (past_event H i l) ∙ (none_sent s ∙ sym (ap (is_packet s) (past_frame H i l) ∙ (no_frame s).1))
]

ends_frame : (s : Key) (g : ℕ) (f : FrameRecord) → ends s g (Frame f) ≡ is_end s g f
unfolding ends
ends_frame s g f = refl

grants_frame : (s : Key) (g : ℕ) (f : FrameRecord) → grants s g (Frame f) ≡ is_clear_to_send s g f
unfolding grants
grants_frame s g f = refl

pub ev_ends : (H : List FrameRecord) (s : Key) (g i : ℕ) → i < length H → ends s g (at (frames_only H) i) ≡ is_end s g (frame_at H i)
ev_ends H s g i l = ap (ends s g) (event_at H i l) ∙ ends_frame s g (frame_at H i)

pub ev_grants : (H : List FrameRecord) (s : Key) (g i : ℕ) → i < length H → grants s g (at (frames_only H) i) ≡ is_clear_to_send s g (frame_at H i)
ev_grants H s g i l = ap (grants s g) (event_at H i l) ∙ grants_frame s g (frame_at H i)

pub packet_within : (H : List FrameRecord) (s : Key) (i : ℕ) → is_packet s (frame_at H i) ≡ true → i < length H
packet_within H s i h = elim (cases_lt i (length H)) [ inl l ↦ l | inr l ↦ absurd (both_ways _ (ap (is_packet s) (past_frame H i l) ∙ (no_frame s).1) h) ]

pub announcement_within : (H : List FrameRecord) (s : Key) (i : ℕ) → is_announcement s (frame_at H i) ≡ true → i < length H
announcement_within H s i h = elim (cases_lt i (length H)) [ inl l ↦ l | inr l ↦ absurd (both_ways _ (ap (is_announcement s) (past_frame H i l) ∙ (no_frame s).0) h) ]

-- a packet of s numbered j, as an event and as a frame
pub numbered_event : (H : List FrameRecord) (s : Key) (j i : ℕ) → is_packet s (frame_at H i) ≡ true → slice_index (frame_at H i).bytes 0 ≡ j → is_numbered s j (at (frames_only H) i) ≡ true
numbered_event H s j i h e = and_from _ _ (ev_sends H s i ∙ h)
    (eq-eqb _ _ (ap number (event_at H i (packet_within H s i h)) ∙ ((frame_numbers (frame_at H i)).0 ∙ e)))

pub event_numbered : (H : List FrameRecord) (s : Key) (j i : ℕ) → is_numbered s j (at (frames_only H) i) ≡ true → (is_packet s (frame_at H i) ≡ true) × (slice_index (frame_at H i).bytes 0 ≡ j)
event_numbered H s j i h =
    let a : is_packet s (frame_at H i) ≡ true = sym (ev_sends H s i) ∙ (and_parts _ _ h).0 in
    (a, sym (ap number (event_at H i (packet_within H s i a)) ∙ (frame_numbers (frame_at H i)).0) ∙ eqb-true _ _ (and_parts _ _ h).1)

pub ev_stamp : (H : List FrameRecord) (i : ℕ) → i < length H → stamp (at (frames_only H) i) ≡ (frame_at H i).stamp
ev_stamp H i l = ap stamp (event_at H i l) ∙ (frame_numbers (frame_at H i)).5

pub ev_payload : (H : List FrameRecord) (i : ℕ) → i < length H → payload (at (frames_only H) i) ≡ drop 1 (frame_at H i).bytes
ev_payload H i l = ap payload (event_at H i l) ∙ (frame_numbers (frame_at H i)).1

pub ev_size : (H : List FrameRecord) (i : ℕ) → i < length H → size (at (frames_only H) i) ≡ size_named (frame_at H i)
ev_size H i l = ap size (event_at H i l) ∙ (frame_numbers (frame_at H i)).2

pub ev_packets : (H : List FrameRecord) (i : ℕ) → i < length H → packets (at (frames_only H) i) ≡ packets_named (frame_at H i)
ev_packets H i l = ap packets (event_at H i l) ∙ (frame_numbers (frame_at H i)).3

pub ev_group : (H : List FrameRecord) (i : ℕ) → i < length H → group (at (frames_only H) i) ≡ pgn_named (frame_at H i)
ev_group H i l = ap group (event_at H i l) ∙ (frame_numbers (frame_at H i)).4
