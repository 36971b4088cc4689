-- The examples are published, with their values.
use Rattle.std.proofs.Common.{◌≡◌, ℕ, List, [], ◌∷◌, length, refl, inl, arith}
use Rattle.j39_groups.specs.Readings as readings
use Rattle.j39_groups.specs.Readings.{is_reported_in, readings_in}
use Rattle.j39_groups.specs.Table.{the_table}
use Rattle.j39_listen.proofs.Checked.{Passes, is_published, passes}
use Rattle.j39_listen.proofs.TransferExample.{in_packets}
use Rattle.j39_listen.specs.TransferExample.{padding}
use Rattle.j39_listen.specs.NoTransferExamples.{Publishes, early, early_frames, eec1, eec1_bytes, eec1_frame, eec1_frames, eec1_values, parts_announced, parts_first, parts_item, parts_second, speed_bytes, two, two_frames, two_values, vin, vin_announced, vin_first, vin_second, vin_third, vin_frames, vin_item, vin_values}
use Rattle.j39_transport.specs.Carries.{Carries}
use Rattle.j39_transport.specs.Frames as frames
use Rattle.j39_transport.specs.Frames.{destination_of, goes, group_of, is_announcement, is_end, is_packet, names_message}
use Rattle.j39_transport.specs.Key.Key.{Broadcast}

-- ---- what carries the messages

pub eec1_carried : (stamp : ℕ) (bytes : List ℕ) → length bytes ≡ 8
    → Carries (Broadcast 0) (record { source = 0; pgn = 61444; bytes = bytes }) (eec1_frame stamp bytes ∷ [])
eec1_carried stamp bytes e = (
  record { source = omega arith; pgn = omega arith; most = omega arith },
  inl (record { short = omega arith; alone = refl; source = refl; pgn = refl; bytes = refl }),
)

vin_carried : Carries (Broadcast 0) (vin_item []).message (vin_announced ∷ vin_first ∷ vin_second ∷ vin_third 2150000 ∷ [])
unfolding is_announcement is_packet goes group_of destination_of frames.source_of names_message
vin_carried = in_packets _ _ _ _ padding (record { source = omega arith; pgn = omega arith; most = omega arith }) (omega arith) (omega arith)
    (refl, refl, refl, refl, refl, refl) (refl, refl, (refl, refl, (refl, refl, tt)))

pub parts_carried : (a b c : ℕ) → Carries (Broadcast 11) (parts_item []).message (parts_announced a ∷ parts_first b ∷ parts_second c ∷ [])
unfolding is_announcement is_packet goes group_of destination_of frames.source_of names_message
parts_carried a b c = in_packets _ _ _ _ (0xFF ∷ 0xFF ∷ []) (record { source = omega arith; pgn = omega arith; most = omega arith }) (omega arith) (omega arith)
    (refl, refl, refl, refl, refl, refl) (refl, refl, (refl, refl, tt))

-- ---- the logs

eec1_passes : Passes eec1_frames eec1
unfolding is_reported_in the_table destination_of is_end
eec1_passes = passes eec1_frames eec1 (((0, omega arith, refl), eec1_carried 1010000 eec1_bytes refl, refl), tt) refl

pub eec1_without_a_claim : Publishes eec1_frames eec1 eec1_values
unfolding readings_in the_table readings.raw_number readings.by_top_byte readings.values_at
eec1_without_a_claim = (is_published eec1_frames eec1 eec1_passes, refl)

vin_passes : Passes vin_frames vin
unfolding is_reported_in the_table destination_of is_end
vin_passes = passes vin_frames vin (
  ((0, omega arith, refl), eec1_carried 2010000 (speed_bytes 0xE0) refl, refl),
  (
    ((0, omega arith, refl), eec1_carried 2060000 (speed_bytes 0xE8) refl, refl),
    (((0, omega arith, refl), vin_carried, refl), tt),
  ),
) refl

pub vin_by_broadcast : Publishes vin_frames vin vin_values
unfolding readings_in the_table readings.raw_number readings.by_top_byte readings.values_at readings.text_meaning
vin_by_broadcast = (is_published vin_frames vin vin_passes, refl)

two_passes : Passes two_frames two
unfolding is_reported_in the_table destination_of is_end
two_passes = passes two_frames two
    (((0, omega arith, refl), vin_carried, refl), (((1, omega arith, refl), parts_carried 2010000 2060000 2110000, refl), tt)) refl

pub two_broadcasts_at_once : Publishes two_frames two two_values
unfolding readings_in the_table readings.values_at readings.text_meaning
two_broadcasts_at_once = (is_published two_frames two two_passes, refl)

early_passes : Passes early_frames early
unfolding is_reported_in the_table destination_of is_end
early_passes = passes early_frames early
    (((0, omega arith, refl), vin_carried, refl), (((1, omega arith, refl), parts_carried 2010000 2060000 2110000, refl), tt)) refl

pub packet_before_any_announcement : Publishes early_frames early two_values
unfolding readings_in the_table readings.values_at readings.text_meaning
packet_before_any_announcement = (is_published early_frames early early_passes, refl)
