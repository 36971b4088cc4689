use Rattle.std.proofs.Common.{◌≤◌, length}
use Rattle.j39_transport.specs.ReceiverModel.{message_shown}
use Rattle.bus_demo.specs.Delivered.{IsNoneOf}
use Rattle.bus_demo.proofs.bus.book.last_of.Given as goal

-- none of the places that were looked at has it
abbrev pub invariant-places : goal.invariant-places
invariant-places l = (l.place ≤ length l.handed) × IsNoneOf (message_shown l.delivered) l.handed l.place

abbrev pub decreases-places : goal.decreases-places
decreases-places l = l.place
