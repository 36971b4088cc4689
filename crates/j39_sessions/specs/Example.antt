-- Address 11 sends nine bytes to address 128, beside an RTS of address 12.
use Rattle.std.specs.Prelude.{◌+◌, ◌∷◌}
use Rattle.j39_sessions.specs.Common.{[], FrameRecord, List, None, ℕ}
use Rattle.j39_sessions.specs.Events.{Event, Hears, Releases}

abbrev control : ℕ → ℕ → FrameRecord
control stamp source = record { stamp = stamp; id = 485261312 + source; bytes = 16 ∷ 9 ∷ 0 ∷ 2 ∷ 255 ∷ 202 ∷ 254 ∷ 0 ∷ [] }

abbrev pub requested : FrameRecord
requested = control 1000 11

abbrev pub first_packet : FrameRecord
first_packet = record { stamp = 3000; id = 485195787; bytes = 1 ∷ 1 ∷ 2 ∷ 3 ∷ 4 ∷ 5 ∷ 6 ∷ 7 ∷ [] }

abbrev pub last_packet : FrameRecord
last_packet = record { stamp = 4000; id = 485195787; bytes = 2 ∷ 8 ∷ 9 ∷ 255 ∷ 255 ∷ 255 ∷ 255 ∷ 255 ∷ [] }

-- behind the first, the newest first
abbrev pub between : List Event
between = Hears 3000 None first_packet ∷ Hears 2000 None (control 2000 12) ∷ Releases ∷ []
