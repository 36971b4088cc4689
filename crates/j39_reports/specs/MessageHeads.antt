-- What the readings of a message have in common, as the code keeps it.
use Rattle.std.specs.Prelude.{◌≡◌, ℕ}
use Rattle.j39_frame.specs.Stamp.{stamp_micros}
use Rattle.j39_frame.specs.declared.origin.Origin.{Origin}
use Rattle.j39_listen.specs.Heard.{Hearing}
use Rattle.j39_reports.specs.declared.summaries.message_head.MessageHead.{MessageHead}

-- it is that of this message
pub record IsHeadOf (head : MessageHead) (hearing : Hearing) : Type 0 where
  pub stamp_is : stamp_micros head.stamp ≡ hearing.stamp
  pub address_is : head.address ≡ hearing.message.source
  pub destination_is : head.destination ≡ hearing.destination
  pub name_is : head.name ≡ hearing.name
  pub pgn_is : head.pgn ≡ hearing.message.pgn

-- the origin of a parameter
abbrev pub origin_in : MessageHead → ℕ → Origin
origin_in head spn = record {
  address = head.address;
  destination = head.destination;
  name = head.name;
  pgn = head.pgn;
  spn = spn;
}
