-- Both temperatures are of the numbers that the gauge gave.
use Rattle.std.proofs.Common.{◌≡◌, ◌+◌, ◌*◌, ◌-ℤ◌, ℕ, ℤ, Some, None, of_z, pos, rules, subst, to_z, w64}
use Rattle.j39_groups.specs.Slots.{IsRawOf}
use Rattle.bus_demo.specs.Payloads.{temperature_bytes}
use Rattle.bus_demo.proofs.bus.gauges.Gauges.temperatures.Goals as goal

pub returns-clause-shows : goal.returns-clause-shows
returns-clause-shows c =
    let coolant = to_z w64 (of_z w64 c.coolant_temperature-coolant.result) in
    let oil = to_z w64 (of_z w64 c.oil_temperature-oil.result) in
    let hot = pos (8000000 + 3125 * c.below-2.result) in
    let is_coolant : coolant ≡ pos c.below.result -ℤ pos 20 = search rules in
    let is_oil : oil ≡ hot = search rules in
    record {
      coolant = c.below.result;
      coolant_fits = c.below.ensures.below;
      oil = c.below-2.result;
      oil_fits = c.below-2.ensures.below;
      only = subst (λ (z : ℤ). (a b : ℕ) → IsRawOf 110 z a → IsRawOf 175 hot b → c.temperature_payload.result ≡ Some (temperature_bytes a b)) is_coolant
          (subst (λ (z : ℤ). (a b : ℕ) → IsRawOf 110 coolant a → IsRawOf 175 z b → c.temperature_payload.result ≡ Some (temperature_bytes a b)) is_oil c.temperature_payload.ensures.only);
      none = subst (λ (z : ℤ). ((a b : ℕ) → IsRawOf 110 z a → IsRawOf 175 hot b → ⊥) → c.temperature_payload.result ≡ None) is_coolant
          (subst (λ (z : ℤ). ((a b : ℕ) → IsRawOf 110 coolant a → IsRawOf 175 z b → ⊥) → c.temperature_payload.result ≡ None) is_oil c.temperature_payload.ensures.none);
    }
