use Rattle.std.proofs.Common.{◌≡◌, ◌≤◌, ◌<◌, ℕ, None, slice_get}
use Rattle.j39_address.specs.Name.{name_raw}
use Rattle.j39_frame.specs.Stamp.{stamp_micros}
use Rattle.bus_demo.specs.Calls.{Calls, is_handing}
use Rattle.bus_demo.specs.Publishing.{AreNoted, group_due, rate_after}
use Rattle.bus_demo.proofs.bus.publisher.Publisher.measure.Given as goal

-- the groups so far were sent where they were due
abbrev pub invariant-loop-place : goal.invariant-loop-place
invariant-loop-place l =
    AreNoted (name_raw l.initial.self.name) l.initial.book.handed.items l.book.handed.items
    × ((k : ℕ) → k < l.place → slice_get l.self.rates k ≡ rate_after (stamp_micros l.now) (slice_get l.initial.self.rates k))
    × ((k : ℕ) → l.place ≤ k → slice_get l.self.rates k ≡ slice_get l.initial.self.rates k)
    × (((k : ℕ) → group_due (stamp_micros l.now) (slice_get l.initial.self.rates k) ≡ None)
    → (l.self ≡ l.initial.self) × (l.station ≡ l.initial.station) × (l.book ≡ l.initial.book))
    × (l.self ≡ record l.initial.self { gauges = l.self.gauges; rates = l.self.rates })
    × Calls (is_handing (stamp_micros l.now)) l.initial.station.controller l.station.controller
