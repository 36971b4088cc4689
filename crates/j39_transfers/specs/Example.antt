-- Address 128 sends nine bytes to addresses 11 and 12.
use Rattle.std.specs.Prelude.{◌∷◌}
use Rattle.j39_transfers.specs.Common.{[], FrameRecord, List, None, ℕ}
use Rattle.j39_transfers.specs.Events.{Begins, Event, Hears, Sends}
use Rattle.j39_transfers.specs.Transfers.{Order}

abbrev pub order : ℕ → ℕ → Order
order token to = record { token = token; to = to; group = 65226; priority = 7; bytes = 1 ∷ 2 ∷ 3 ∷ 4 ∷ 5 ∷ 6 ∷ 7 ∷ 8 ∷ 9 ∷ [] }

-- both begin
abbrev pub beginning : List Event
beginning = Begins (order 2 12) None 0 ∷ Begins (order 1 11) None 0 ∷ []

-- a CTS of 0 packets, by which 11 holds
abbrev pub held : FrameRecord
held = record { stamp = 2000; id = 485261323; bytes = 17 ∷ 0 ∷ 255 ∷ 255 ∷ 255 ∷ 202 ∷ 254 ∷ 0 ∷ [] }

-- the request to send to 11 goes, who holds; the newest first
abbrev pub later : List Event
later = Hears held 2000 ∷ []

abbrev pub both : List Event
both = Hears held 2000 ∷ Sends 1000 ∷ Begins (order 2 12) None 0 ∷ []
