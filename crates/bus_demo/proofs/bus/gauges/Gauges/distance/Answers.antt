-- Both distances are of the steps so far.
use Rattle.std.proofs.Common.{◌≡◌, ◌+◌, ◌*◌, ℕ, ℤ, Some, None, of_z, pos, rules, subst, to_z, w64}
use Rattle.j39_groups.specs.Slots.{IsRawOf}
use Rattle.bus_demo.specs.Payloads.{distance_bytes}
use Rattle.bus_demo.proofs.bus.gauges.Gauges.distance.Goals as goal

pub returns-clause-shows : goal.returns-clause-shows
returns-clause-shows c =
    let trip = to_z w64 (of_z w64 c.trip_distance.result) in
    let total = to_z w64 (of_z w64 c.total_distance.result) in
    let all = pos (1000000 + 125 * c.saturating_add-self.result) in
    let is_trip : trip ≡ pos (125 * c.saturating_add-self.result) = search rules in
    let is_total : total ≡ all = search rules in
    record {
      only = subst (λ (z : ℤ). (a b : ℕ) → IsRawOf 244 z a → IsRawOf 245 all b → c.distance_payload.result ≡ Some (distance_bytes a b)) is_trip
          (subst (λ (z : ℤ). (a b : ℕ) → IsRawOf 244 trip a → IsRawOf 245 z b → c.distance_payload.result ≡ Some (distance_bytes a b)) is_total c.distance_payload.ensures.only);
      none = subst (λ (z : ℤ). ((a b : ℕ) → IsRawOf 244 z a → IsRawOf 245 all b → ⊥) → c.distance_payload.result ≡ None) is_trip
          (subst (λ (z : ℤ). ((a b : ℕ) → IsRawOf 244 trip a → IsRawOf 245 z b → ⊥) → c.distance_payload.result ≡ None) is_total c.distance_payload.ensures.none);
    }
