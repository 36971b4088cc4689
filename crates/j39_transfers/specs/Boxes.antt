-- What a box of the code holds.
use Rattle.std.specs.declared.boxed.Box.{Box}
use Rattle.std.specs.Global.{Global}
use Rattle.j39_address.specs.Name.{name_raw}
use Rattle.j39_frame.specs.Pgn.{pgn_raw}
use Rattle.j39_frame.specs.Stamp.{stamp_micros}
use Rattle.j39_transfers.specs.Common.{option_map}
use Rattle.j39_transfers.specs.Transfers.{Order, Rest, Transfer}
use Rattle.j39_transfers.specs.declared.kinds.Outgoing.{Outgoing}
use Rattle.j39_transfers.specs.declared.running.Rest as declared
use Rattle.j39_transfers.specs.declared.running.Running.{Running}

abbrev pub order_of : Outgoing → Order
order_of x = record { token = x.token; to = x.destination; group = pgn_raw x.group; priority = x.priority; bytes = x.payload.now }

abbrev pub rest_by : declared.Rest → Rest
rest_by x = record { to = x.to; group = pgn_raw x.group; until = x.until }

abbrev pub transfer_in : Running → Transfer
transfer_in x = record {
  token = x.token;
  priority = x.priority;
  sender = x.sender;
  granted = x.granted;
  spent = x.spent;
  last = stamp_micros x.last;
  name = option_map name_raw x.name;
  broken = x.broken;
}

abbrev pub in_box : Box Running Global → Transfer
in_box b = transfer_in b.value
