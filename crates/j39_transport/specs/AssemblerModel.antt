-- What packets make of sessions, and what is answered, as the code shows it.
use Rattle.std.specs.Prelude.{◌≡◌, ◌<◌, ℕ, take, Option, Some, None}
use Rattle.j39_frame.specs.Pgn.{pgn_raw}
use Rattle.j39_frame.specs.Stamp.{stamp_micros}
use Rattle.j39_memory.specs.Stored.{value_of}
use Rattle.j39_transport.specs.Session.{SessionRecord}
use Rattle.j39_transport.specs.AssemblerStep as steps
use Rattle.j39_transport.specs.Answers as answers
use Rattle.j39_transport.specs.declared.packet.Moved.{Moved}
use Rattle.j39_transport.specs.declared.packet.Moved.TheVariants.{Ends, Grows, Stays, Late}
use Rattle.j39_transport.specs.declared.packet.Accepted.{Accepted}
use Rattle.j39_transport.specs.declared.packet.Accepted.TheVariants as accept
use Rattle.j39_transport.specs.declared.message.Fed.{Fed}
use Rattle.j39_transport.specs.declared.message.Fed.TheVariants.{Whole, Taken, Ignored}

abbrev pub shown_move : Moved → steps.Moved
shown_move (Ends b) = steps.Ends (value_of b)
shown_move (Grows b) = steps.Grows (value_of b)
shown_move (Stays b) = steps.Stays (value_of b)
shown_move Late = steps.Late

-- a session that ends has all its packets, and one that stays lacks one
abbrev pub IsMove : Moved → Type 0
IsMove (Ends b) = (value_of b).count ≡ (value_of b).packets
IsMove (Grows b) = (value_of b).count < (value_of b).packets
IsMove (Stays b) = (value_of b).count < (value_of b).packets
IsMove Late = Unit {0}

-- ---- answers

-- the answer to a frame of this source and stamp, where the session to be lent is the last
abbrev pub outcome_by : Accepted → ℕ → ℕ → Option SessionRecord → answers.Outcome
outcome_by accept.Whole source stamp (Some s) = answers.Whole source s.group (take s.size s.bytes) stamp
outcome_by accept.Whole source stamp None = answers.Ignored
outcome_by accept.Taken source stamp lent = answers.Taken
outcome_by accept.Ignored source stamp lent = answers.Ignored

-- a whole message stands there where one is to be lent
abbrev pub CanLend : Accepted → Option SessionRecord → Type 0
CanLend accept.Whole (Some s) = s.count ≡ s.packets
CanLend accept.Whole None = ⊥
CanLend accept.Taken lent = Unit {0}
CanLend accept.Ignored lent = Unit {0}

abbrev pub outcome_of : Fed → answers.Outcome
outcome_of (Whole m) = answers.Whole m.source (pgn_raw m.pgn) m.payload.now (stamp_micros m.stamp)
outcome_of Taken = answers.Taken
outcome_of Ignored = answers.Ignored
