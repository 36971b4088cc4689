-- What is heard in the frames of a bus, in order (J1939-21, 5.10; J1939-81, 4.2): messages in packets of every group, and in
-- one frame those of some groups, as those that a table of parameters reports.
use Rattle.std.specs.Prelude.{◌≡◌, ◌==◌, ◌⊎◌, ℕ, zero, suc, ◌/◌, ◌%◌, ◌<◌, ◌≤◌, nat_lt, if◌then◌else◌, Bool, true, false, List, [], ◌∷◌, ◌++◌, map, length, get_or, Option, Some, None}
use Rattle.j39_frame.specs.Address.{IsAddress, global_address}
use Rattle.j39_frame.specs.Frame.{FrameRecord}
use Rattle.j39_frame.specs.Identifier.{destination_of, source_of, pgn_of, ps_of}
use Rattle.j39_groups.specs.Readings.{is_network_group, is_reported_in}
use Rattle.j39_groups.specs.Row.{RowRecord}
use Rattle.j39_transport.specs.Events.{Event}
use Rattle.j39_transport.specs.Assembly.{Whole}
use Rattle.j39_transport.specs.Events.Event.{Frame}
use Rattle.j39_transport.specs.Key.{Key, sender}
use Rattle.j39_transport.specs.Message.{MessageRecord}
use Rattle.j39_address.specs.Claim.{claims_of}
use Rattle.j39_address.specs.Holder.{IsHolder}

-- a message, whom it was sent to, the stamp of the frame that it was heard at, and the NAME that held its source there, or none
pub record Hearing : Type 0 where
  pub message : MessageRecord
  pub destination : Option ℕ
  pub stamp : ℕ
  pub name : Option ℕ

-- what goes to one address has that destination
abbrev pub to_one : Option ℕ → Option ℕ
to_one None = None
to_one (Some a) = if a == global_address then None else Some a

-- the destination of a message of this group whose last frame has this identifier: its PS, an address or 255 for all, where the
-- group's PF is below 240; of other groups what came to one address, by RTS and CTS, has that one, and all else none (J1939-21,
-- 5.2.5, 5.10.3)
abbrev pub sent_to : ℕ → ℕ → Option ℕ
sent_to pgn id = if nat_lt (pgn / 256 % 256) 240 then Some (ps_of id) else to_one (destination_of id)

-- what stands past the end: a frame that means nothing
abbrev pub frame_at : List FrameRecord → ℕ → FrameRecord
frame_at F i = get_or F i (record { stamp = 0; id = 0; bytes = [] })

abbrev pub frames_only : List FrameRecord → List Event
frames_only F = map (λ f. Frame f) F

-- no group of the network's is heard in one frame: its frames are claims, announcements and packets
abbrev pub LeavesNetwork : (ℕ → Bool) → Type 0
LeavesNetwork singles = (pgn : ℕ) → is_network_group pgn ≡ true → singles pgn ≡ false

-- F[i] is of a group that is heard in one frame, from an address that a controller can hold, and its data is the message
pub record IsSingleWith (singles : ℕ → Bool) (F : List FrameRecord) (i : ℕ) (m : MessageRecord) : Type 0 where
  pub inside : i < length F
  pub single : singles (pgn_of (frame_at F i).id) ≡ true
  pub address : IsAddress m.source
  pub source_is : source_of (frame_at F i).id ≡ m.source
  pub pgn_is : pgn_of (frame_at F i).id ≡ m.pgn
  pub bytes_are : (frame_at F i).bytes ≡ m.bytes

-- at F[i] the message is whole, broadcast or directed, and its source had the same holder, or none, from its announcement on
pub record IsAssembled (F : List FrameRecord) (i : ℕ) (m : MessageRecord) (name : Option ℕ) : Type 0 where
  pub key : Key
  pub source_is : sender key ≡ m.source
  pub whole : Whole (frames_only F) i key m.pgn m.bytes
  pub same_holder : (j : ℕ) → whole.start ≤ j → j ≤ i → IsHolder (claims_of F) j m.source name

-- this is heard at F[i], where these groups are heard in one frame
pub record IsHeardWith (singles : ℕ → Bool) (F : List FrameRecord) (i : ℕ) (h : Hearing) : Type 0 where
  pub carried : IsSingleWith singles F i h.message ⊎ IsAssembled F i h.message h.name
  pub held_by : IsHolder (claims_of F) i h.message.source h.name
  pub destination_is : h.destination ≡ sent_to h.message.pgn (frame_at F i).id
  pub stamp_is : h.stamp ≡ (frame_at F i).stamp

-- what is heard at F[i], or nothing
abbrev pub HeardAtWith : (ℕ → Bool) → List FrameRecord → ℕ → Option Hearing → Type 0
HeardAtWith singles F i (Some h) = IsHeardWith singles F i h
HeardAtWith singles F i None = (h : Hearing) → IsHeardWith singles F i h → ⊥

abbrev pub or_none : Option Hearing → List Hearing
or_none None = []
or_none (Some h) = h ∷ []

-- what is heard at the first n places of F, in order
abbrev pub HeardBelowWith : (ℕ → Bool) → List FrameRecord → ℕ → List Hearing → Type 0
HeardBelowWith singles F zero hs = hs ≡ []
HeardBelowWith singles F (suc n) hs =
    (before : List Hearing) × (o : Option Hearing) × HeardBelowWith singles F n before × HeardAtWith singles F n o
    × (hs ≡ before ++ or_none o)

-- what is heard in F, in order
abbrev pub AreHeardWith : (ℕ → Bool) → List FrameRecord → List Hearing → Type 0
AreHeardWith singles F hs = HeardBelowWith singles F (length F) hs

-- ---- by a table of parameters: the groups that it reports are heard in one frame

abbrev pub IsSingle : List RowRecord → List FrameRecord → ℕ → MessageRecord → Type 0
IsSingle groups = IsSingleWith (is_reported_in groups)

abbrev pub IsHeard : List RowRecord → List FrameRecord → ℕ → Hearing → Type 0
IsHeard groups = IsHeardWith (is_reported_in groups)

abbrev pub HeardAt : List RowRecord → List FrameRecord → ℕ → Option Hearing → Type 0
HeardAt groups = HeardAtWith (is_reported_in groups)

abbrev pub AreHeard : List RowRecord → List FrameRecord → List Hearing → Type 0
AreHeard groups = AreHeardWith (is_reported_in groups)
