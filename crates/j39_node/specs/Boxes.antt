-- What a box of the code holds.
use Rattle.std.specs.declared.boxed.Box.{Box}
use Rattle.std.specs.Global.{Global}
use Rattle.j39_node.specs.Common.{name_raw, None, Option, option_map, pgn_raw, Some, stamp_micros, ℕ}
use Rattle.j39_node.specs.Hearing.{OpenBroadcast}
use Rattle.j39_node.specs.declared.hearing.Assembly.{Assembly as Bytes}

abbrev pub broadcast_by : Bytes → OpenBroadcast
broadcast_by x = record {
  source = x.source;
  group = pgn_raw x.group;
  size = x.size;
  count = x.count;
  bytes = x.bytes.items;
  stamp = stamp_micros x.stamp;
  time = stamp_micros x.time;
  since = stamp_micros x.since;
  name = option_map name_raw x.name;
}

-- one, or none
abbrev pub how_many : {T : Type 0} → Option T → ℕ
how_many None = 0
how_many (Some x) = 1

abbrev pub in_box : Box Bytes Global → OpenBroadcast
in_box b = broadcast_by b.value
