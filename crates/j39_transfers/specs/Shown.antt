-- What the transfers of the code show.
use Rattle.j39_transfers.specs.Common.{map}
use Rattle.j39_transfers.specs.Boxes.{in_box, rest_by}
use Rattle.j39_transfers.specs.Transfers.{TransfersRecord}
use Rattle.j39_transfers.specs.declared.transfers.Transfers.{Transfers}

abbrev pub transfers_of : Transfers → TransfersRecord
transfers_of x = record {
  own = x.own;
  boxes = x.boxes;
  running = map in_box x.current.items;
  rests = map rest_by x.resting.items;
}
