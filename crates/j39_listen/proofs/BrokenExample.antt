-- A transfer that is refused, and a broadcast that breaks off, meet the premises of the law on losses.
use Rattle.std.proofs.Common.{◌&&◌, ◌<◌, ◌==◌, ◌||◌, ◌∙◌, ◌≡◌, arith, Bool, eq-eqb, eqb-true, inl, inr, refl, subst, sym, true, ℕ}
use Rattle.std.proofs.lemmas.Bool.{and_from, or_cases}
use Rattle.j39_groups.specs.Readings as readings
use Rattle.j39_groups.specs.Readings.{is_reported_in, readings_in}
use Rattle.j39_groups.specs.Table.{the_table}
use Rattle.j39_frame.specs.Identifier.{pgn_of, source_of}
use Rattle.j39_listen.proofs.Checked as checked
use Rattle.j39_listen.proofs.CheckedItems.{all_below, below_at, implied, implies}
use Rattle.j39_listen.proofs.Events.{packet_within}
use Rattle.j39_listen.proofs.NoTransferExamples.{eec1_carried, parts_carried}
use Rattle.j39_listen.proofs.Items.{packet_key}
use Rattle.j39_listen.proofs.Reported.{packet_group, packet_source}
use Rattle.j39_listen.proofs.TransferExample.{directed_carried}
use Rattle.j39_listen.specs.BrokenExample.{broken_frames, came_values, never_came, thought, thought_frames}
use Rattle.j39_listen.specs.Heard.{frame_at}
use Rattle.j39_listen.specs.NoTransferExamples.{eec1_bytes}
use Rattle.j39_listen.specs.Loss.{LostTogether, Thinned}
use Rattle.j39_listen.specs.Published.{Published}
use Rattle.j39_listen.specs.Values.{values}
use Rattle.j39_transport.specs.Frames as frames
use Rattle.j39_transport.specs.Frames.{destination_of, goes, group_of, is_control, is_end, is_packet}
use Rattle.j39_transport.specs.Key.{Key}
use Rattle.j39_transport.specs.Key.Key.{Broadcast, Directed}

pub is_published : Published the_table thought_frames thought
unfolding is_reported_in the_table is_end is_control goes group_of destination_of frames.source_of
is_published = checked.is_published thought_frames thought (checked.passes thought_frames thought
    (((0, omega arith, refl), directed_carried, refl), (((1, omega arith, refl), parts_carried 3000000 3050000 3100000, refl), (((0, omega arith, refl), eec1_carried 4000000 eec1_bytes refl, refl), tt))) refl)

pub are_left : values the_table thought_frames thought never_came ≡ came_values
unfolding readings_in the_table readings.raw_number readings.by_top_byte readings.values_at readings.text_meaning
are_left = refl

at_each : (T : ℕ → Type 0) → T 3 → T 4 → T 5 → T 9 → (i : ℕ) → never_came i ≡ true → T i
at_each T a b c d i h = elim (or_cases (i == 3 || i == 4) (i == 5 || i == 9) h) [
  | inl e ↦ elim (or_cases (i == 3) (i == 4) e) [ inl k ↦ subst T (sym (eqb-true _ _ k)) a | inr k ↦ subst T (sym (eqb-true _ _ k)) b ]
  | inr e ↦ elim (or_cases (i == 5) (i == 9) e) [ inl k ↦ subst T (sym (eqb-true _ _ k)) c | inr k ↦ subst T (sym (eqb-true _ _ k)) d ]
]

pub is_thinned : Thinned thought_frames broken_frames never_came
unfolding is_packet goes group_of destination_of frames.source_of
is_thinned = record {
  inside = at_each (λ i. i < 11) (omega arith) (omega arith) (omega arith) (omega arith);
  packets_only = at_each (λ i. (k : Key) × (is_packet k (frame_at thought_frames i) ≡ true)) (Directed 0 11, refl) (Directed 0 11, refl) (Directed 0 11, refl) (Broadcast 11, refl);
  rest_is = refl;
}

-- no packet of 00 came
is_its : ℕ → Bool
is_its j = pgn_of (frame_at thought_frames j).id == 60160 && source_of (frame_at thought_frames j).id == 0

none_came : all_below (λ j. implies (is_its j) (never_came j)) 11 ≡ true
unfolding is_its
none_came = refl

-- a directed packet that never came is one of 00
its_source : (s d i : ℕ) → never_came i ≡ true → is_packet (Directed s d) (frame_at thought_frames i) ≡ true → s ≡ 0
unfolding is_packet goes group_of destination_of frames.source_of
its_source s d =
    at_each (λ i. is_packet (Directed s d) (frame_at thought_frames i) ≡ true → s ≡ 0) (λ p. sym (packet_source (Directed s d) (frame_at thought_frames 3) p))
    (λ p. sym (packet_source (Directed s d) (frame_at thought_frames 4) p)) (λ p. sym (packet_source (Directed s d) (frame_at thought_frames 5) p))
    (λ p. absurd (let e = packet_key (Directed s d) (Broadcast 11) (frame_at thought_frames 9) p refl in cc))

pub are_lost_together : LostTogether thought_frames thought never_came
unfolding is_its
are_lost_together i j s d of_publisher gone behind packet_i packet_j same no_announcement =
    implied _ _ (below_at (λ q. implies (is_its q) (never_came q)) 11 j none_came (packet_within thought_frames (Directed s d) j packet_j))
    (and_from _ _ (eq-eqb _ _ (packet_group (Directed s d) (frame_at thought_frames j) packet_j))
    (eq-eqb _ _ (packet_source (Directed s d) (frame_at thought_frames j) packet_j ∙ its_source s d i gone packet_i)))
