-- What the book notes of what a controller received, and of how its transfers ended.
use Rattle.std.specs.Prelude.{◌≡◌, ◌++◌, ◌∷◌, ℕ, Bool, true, false, List, [], Option, None, Some, map}
use Rattle.std.specs.List.{slice_get}
use Rattle.j39_frame.specs.Frame.{FrameRecord}
use Rattle.j39_frame.specs.Pgn.{pgn_raw}
use Rattle.j39_frame.specs.Stamp.{stamp_micros}
use Rattle.j39_transport.specs.Message.{MessageRecord}
use Rattle.j39_node.specs.History.{Who, Call}
use Rattle.j39_node.specs.History.Call.{At}
use Rattle.j39_node.specs.History.Act.{Hear}
use Rattle.j39_node.specs.Hearing.{waiting}
use Rattle.j39_node.specs.Reception.{reception}
use Rattle.j39_node.specs.Transfers.{next_transfer_ended}
use Rattle.j39_transfers.specs.declared.kinds.Ending.{Ending as TransferEnding}
use Rattle.j39_transfers.specs.declared.kinds.Ending.TheVariants.{Done}
use Rattle.bus_demo.specs.declared.bus.book.Book.{Book}
use Rattle.bus_demo.specs.declared.bus.book.Delivery.{Delivery}

-- a delivery as what it says, with its moment
abbrev pub told_by : Delivery → ℕ × MessageRecord
told_by d = (stamp_micros d.stamp, record { source = d.source; pgn = pgn_raw d.pgn; bytes = d.payload.items })

abbrev pub delivered_in : Book → List (ℕ × MessageRecord)
delivered_in book = map told_by book.deliveries.items

abbrev pub listed : {T : Type 0} → Option T → List T
listed None = []
listed (Some x) = x ∷ []

-- the number of the message whose transfer is done
abbrev pub done_by : Option (ℕ × TransferEnding) → Option ℕ → List ℕ
done_by (Some (token, Done)) number = listed number
done_by ended number = []

-- what a display has received of what is broadcast in packets (J1939-21, 5.10.3.5)
abbrev pub shown_to : Bool → Option (ℕ × MessageRecord) → List (ℕ × MessageRecord)
shown_to true broadcast = listed broadcast
shown_to false broadcast = []

-- the messages in packets that lie there once the frame was heard are noted: to all, if it is a display, and to its address; and the
-- transfer that is then done
pub record IsNoted (w : Who) (H : List Call) (f : FrameRecord) (is_display : Bool) (number : Option ℕ) (old new : Book) : Type 0 where
  pub delivered : delivered_in new ≡ (delivered_in old ++ shown_to is_display (slice_get (waiting w (At f.stamp (Hear f) ∷ H)) 0))
      ++ listed (slice_get (reception w (At f.stamp (Hear f) ∷ H)).waits 0)
  pub done : new.done.items ≡ old.done.items ++ done_by (next_transfer_ended w (At f.stamp (Hear f) ∷ H)) number
