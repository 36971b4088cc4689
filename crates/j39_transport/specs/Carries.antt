-- A list of frames carries a message (J1939-21, 5.10).
use Rattle.std.specs.Prelude.{◌≡◌, ◌≤◌, ◌<◌, ◌⊎◌, ◌+◌, ℕ, List, [], ◌∷◌, ◌++◌, length, drop, slice_index, IsTrue}
use Rattle.std.specs.List.{flat_map}
use Rattle.j39_frame.specs.Frame.{FrameRecord}
use Rattle.j39_frame.specs.Identifier.{source_of, pgn_of}
use Rattle.j39_transport.specs.Key.{Key, sender}
use Rattle.j39_transport.specs.Frames.{size_named, packets_named, pgn_named, is_announcement, is_packet}
use Rattle.j39_transport.specs.Message.{MessageRecord, IsMessage}

-- packets of k, numbered from this number on
abbrev pub AreNumbered : Key → ℕ → List FrameRecord → Type 0
AreNumbered k number [] = Unit {0}
AreNumbered k number (f ∷ fs) = IsTrue (is_packet k f) × (slice_index f.bytes 0 ≡ number)
    × AreNumbered k (number + 1) fs

-- what packets have behind their numbers, joined
abbrev pub joined : List FrameRecord → List ℕ
joined packets = flat_map (λ f. drop 1 f.bytes) packets

-- at most 8 bytes: one frame of its source and group, whatever its priority
pub record CarriesAlone (m : MessageRecord) (f : FrameRecord) (others : List FrameRecord) : Type 0 where
  pub short : length m.bytes ≤ 8
  pub alone : others ≡ []
  pub source : source_of f.id ≡ m.source
  pub pgn : pgn_of f.id ≡ m.pgn
  pub bytes : f.bytes ≡ m.bytes

-- from 9 bytes on: an announcement of k that names the size and the group, then its packets numbered 1, 2, .. up to
-- the announced number, whose joined data are the bytes and fewer than seven more
pub record CarriesCut (k : Key) (m : MessageRecord) (announcement : FrameRecord)
    (packets : List FrameRecord) : Type 0 where
  pub long : 9 ≤ length m.bytes
  pub source : sender k ≡ m.source
  pub announced : IsTrue (is_announcement k announcement)
  pub size : size_named announcement ≡ length m.bytes
  pub pgn : pgn_named announcement ≡ m.pgn
  pub count : length packets ≡ packets_named announcement
  pub numbered : AreNumbered k 1 packets
  pub padding : List ℕ
  pub few : length padding < 7
  pub joined_are : joined packets ≡ m.bytes ++ padding

-- the frames carry the message, under k where it has more than 8 bytes
abbrev pub Carries : Key → MessageRecord → List FrameRecord → Type 0
Carries k m [] = ⊥
Carries k m (f ∷ fs) = IsMessage m × (CarriesAlone m f fs ⊎ CarriesCut k m f fs)
