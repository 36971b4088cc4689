use Rattle.std.proofs.Common.{◌≡◌, length, option_map}
use Rattle.j39_address.specs.Name.{name_raw}
use Rattle.j39_fault_reports.specs.LastMessages.{name_of, stored_in}
use Rattle.j39_fault_reports.specs.Places.{AreLeft, kept_below}
use Rattle.j39_fault_reports.proofs.fault_news.last_messages.LastMessages.leave.Given as goal

-- the NAME left the places so far, and what was kept of it there was found
abbrev pub invariant-loop-address : goal.invariant-loop-address
invariant-loop-address l = length l.initial.self ≡ 256
    → AreLeft name_of (option_map name_raw l.name) l.initial.self l.address l.self
    × (stored_in l.found ≡ kept_below name_of l.initial.self (option_map name_raw l.name) l.address)
