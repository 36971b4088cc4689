-- One frame more: what it carries, and what is heard at it.
use Rattle.std.specs.Prelude.{◌≡◌, ℕ, Bool, true, false, List, Option, Some, None, nat_lt, if◌then◌else◌}
use Rattle.j39_frame.specs.Address.{null_address}
use Rattle.j39_frame.specs.Frame.{FrameRecord}
use Rattle.j39_frame.specs.Identifier.{source_of, pgn_of}
use Rattle.j39_transport.specs.Answers.{NoneWhole, WholeBy}
use Rattle.j39_transport.specs.Events.{Event}
use Rattle.j39_transport.specs.Message.{MessageRecord}
use Rattle.j39_address.specs.Claim.{claim_of}
use Rattle.j39_listen.specs.Heard.{Hearing, sent_to}

-- the message that a frame is by itself
abbrev pub alone_of : FrameRecord → MessageRecord
alone_of f = record { source = source_of f.id; pgn = pgn_of f.id; bytes = f.bytes }

-- this message is whole with the frame f after E, or none is
abbrev pub Assembled : List Event → FrameRecord → Option MessageRecord → Type 0
Assembled E f (Some m) = WholeBy E f m
Assembled E f None = NoneWhole E f

abbrev pub NextBy : Bool → Bool → List Event → FrameRecord → Option MessageRecord → Type 0
NextBy true true E f c = c ≡ Some (alone_of f)
NextBy true false E f c = c ≡ None
NextBy false below E f c = Assembled E f c

-- the message that the frame f after E carries: it is of a group that is heard in one frame, or a message is whole
abbrev pub Next : (ℕ → Bool) → List Event → FrameRecord → Option MessageRecord → Type 0
Next singles E f c = NextBy (singles (pgn_of f.id)) (nat_lt (source_of f.id) null_address) E f c

abbrev pub heard_of : FrameRecord → Option ℕ → Option MessageRecord → Option Hearing
heard_of f name None = None
heard_of f name (Some m) = Some (record { message = m; destination = sent_to m.pgn f.id; stamp = f.stamp; name = name })

-- a frame of a group that is heard in one frame, as it is heard under this name
abbrev pub hearing_alone : FrameRecord → Option ℕ → Hearing
hearing_alone f name = record {
  message = alone_of f;
  destination = sent_to (pgn_of f.id) f.id;
  stamp = f.stamp;
  name = name;
}

-- the same, or nothing where its source is no address
abbrev pub heard_alone : FrameRecord → Option ℕ → Option Hearing
heard_alone f name = if nat_lt (source_of f.id) null_address then Some (hearing_alone f name) else None

-- the frame claims nothing, and is of no group that is heard in one frame: it may be one of many of a message
pub record IsMany (singles : ℕ → Bool) (f : FrameRecord) : Type 0 where
  pub no_claim : claim_of f ≡ None
  pub not_single : singles (pgn_of f.id) ≡ false
