-- The example is published, with one value: so the premises of the laws can be met.
use Rattle.std.proofs.Common.{◌≡◌, ℕ, ◌<◌, ◌≤◌, List, [], ◌∷◌, ◌++◌, length, map, refl, inr, arith}
use Rattle.std.specs.Prelude.{IsTrue}
use Rattle.j39_groups.specs.Readings as readings
use Rattle.j39_groups.specs.Readings.{is_reported_in, readings_in}
use Rattle.j39_groups.specs.Table.{the_table}
use Rattle.j39_frame.specs.Frame.{FrameRecord}
use Rattle.j39_listen.proofs.Checked as checked
use Rattle.j39_listen.specs.TransferExample.{directed_item, example, example_frames, example_values, padding}
use Rattle.j39_listen.specs.Heard.{frame_at}
use Rattle.j39_listen.specs.Published.{Published}
use Rattle.j39_listen.specs.Values.{no_place, values}
use Rattle.j39_transport.specs.Carries.{AreNumbered, Carries, joined}
use Rattle.j39_transport.specs.Frames as frames
use Rattle.j39_transport.specs.Frames.{destination_of, goes, group_of, is_announcement, is_control, is_end, is_packet, names_message, packets_named, pgn_named, size_named}
use Rattle.j39_transport.specs.Key.{Key, sender}
use Rattle.j39_transport.specs.Key.Key.{Directed}
use Rattle.j39_transport.specs.Message.{MessageRecord, IsMessage}

-- an announcement and its packets, by what is computed of them
pub in_packets : (k : Key) (m : MessageRecord) (announcement : FrameRecord) (packets : List FrameRecord) (padding : List ℕ)
    → IsMessage m → 9 ≤ length m.bytes → length padding < 7
    → (sender k ≡ m.source) × IsTrue (is_announcement k announcement) × (size_named announcement ≡ length m.bytes)
    × (pgn_named announcement ≡ m.pgn) × (length packets ≡ packets_named announcement) × (joined packets ≡ m.bytes ++ padding)
    → AreNumbered k 1 packets → Carries k m (announcement ∷ packets)
in_packets k m announcement packets padding message long few (source, announced, size, pgn, count, joined_are) numbered = (
  message,
  inr (record {
    long = long;
    source = source;
    announced = announced;
    size = size;
    pgn = pgn;
    count = count;
    numbered = numbered;
    padding = padding;
    few = few;
    joined_are = joined_are;
  }),
)

pub directed_carried : Carries (Directed 0 11) (directed_item []).message (map (frame_at example_frames) (1 ∷ 3 ∷ 6 ∷ 7 ∷ []))
unfolding is_announcement is_packet goes group_of destination_of frames.source_of names_message
directed_carried = in_packets _ _ _ _ padding (record { source = omega arith; pgn = omega arith; most = omega arith }) (omega arith) (omega arith)
    (refl, refl, refl, refl, refl, refl) (refl, refl, (refl, refl, (refl, refl, tt)))

pub is_published : Published the_table example_frames example
unfolding is_reported_in the_table is_end is_control goes group_of destination_of frames.source_of
is_published = checked.is_published example_frames example
    (checked.passes example_frames example (((0, omega arith, refl), directed_carried, refl), tt) refl)

pub its_values : values the_table example_frames example no_place ≡ example_values
unfolding readings_in the_table readings.values_at readings.text_meaning
its_values = refl
