-- Laws on messages that are put together.
use Rattle.std.specs.Prelude.{◌≡◌, ◌⊎◌, ◌≤◌, ◌*◌, ℕ, true, List}
use Rattle.j39_frame.specs.Frame.{FrameRecord}
use Rattle.j39_transport.specs.Key.{Key, all_keys}
use Rattle.j39_transport.specs.Events.{Event, at, sends}
use Rattle.j39_transport.specs.Assembly.{Whole, Opens}
use Rattle.j39_transport.specs.Answers.{NoneWhole, WholeBy}
use Rattle.j39_transport.specs.Message.{MessageRecord}

-- at a place at most one message is whole
abbrev pub OneMessageLaw : Type 0
OneMessageLaw = (E : List Event) (i : ℕ) (k j : Key) (g h : ℕ) (b c : List ℕ)
    → Whole E i k g b → Whole E i j h c → (k ≡ j) × (g ≡ h) × (b ≡ c)

-- it is whole at a packet of its own
abbrev pub AtPacketLaw : Type 0
AtPacketLaw = (E : List Event) (i : ℕ) (k : Key) (g : ℕ) (b : List ℕ) → Whole E i k g b → sends k (at E i) ≡ true

-- with each frame, after whatever events, a message is whole or none is
abbrev pub WholeOrNoneLaw : Type 0
WholeOrNoneLaw = (E : List Event) (f : FrameRecord) → ((m : MessageRecord) × WholeBy E f m) ⊎ NoneWhole E f

-- how many messages are open, and with how many bytes, is determined: at most 270, with at most 1,785 bytes each
abbrev pub CountsLaw : Type 0
CountsLaw = (E : List Event) (n m held kept : ℕ) → Opens E all_keys n held → Opens E all_keys m kept
    → (n ≡ m) × (held ≡ kept) × (n ≤ 270) × (held ≤ 1785 * n)
