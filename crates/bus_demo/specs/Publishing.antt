-- What a player sends of its own accord in one turn: what is due, and what is noted of it.
use Rattle.std.specs.Prelude.{◌≡◌, ◌+◌, ◌-◌, ◌^◌, ◌≤◌, ℕ, List, [], ◌∷◌, Option, None, Some, false, if◌then◌else◌, length, min, nat_le, slice_get}
use Rattle.j39_address.specs.Name.{name_raw}
use Rattle.bus_demo.specs.Faults.{are_due}
use Rattle.bus_demo.specs.declared.bus.book.Handed.{Handed}
use Rattle.bus_demo.specs.declared.bus.gauges.Group.{Group}
use Rattle.bus_demo.specs.declared.bus.publisher.Publisher.{Publisher}
use Rattle.bus_demo.specs.declared.bus.role.Plan.{Plan}
use Rattle.bus_demo.specs.declared.bus.role.Rate.{Rate}

-- the group that is due at a moment
abbrev pub group_due : ℕ → Option Rate → Option Group
group_due micros None = None
group_due micros (Some rate) = if nat_le rate.due micros then Some rate.group else None

-- a group that was due is due again a period later
abbrev pub rate_after : ℕ → Option Rate → Option Rate
rate_after micros None = None
rate_after micros (Some rate) =
    Some (if nat_le rate.due micros then record rate { due = min (micros + rate.period) (2 ^ 64 - 1) } else rate)

-- so it is with each of them
abbrev pub AreDueAgain : ℕ → List Rate → List Rate → Type 0
AreDueAgain micros old new = (k : ℕ) → slice_get new k ≡ rate_after micros (slice_get old k)

-- the planned message whose moment has come
abbrev pub plan_due : ℕ → List Plan → Option Plan
plan_due micros [] = None
plan_due micros (plan ∷ plans) = if nat_le plan.at micros then Some plan else None

-- nothing is due
pub record IsQuiet (micros : ℕ) (publisher : Publisher) : Type 0 where
  pub groups : (k : ℕ) → group_due micros (slice_get publisher.rates k) ≡ None
  pub plan : plan_due micros publisher.plans.now ≡ None
  pub faults : are_due publisher.diagnostics.faults.now publisher.diagnostics.told micros ≡ false

-- what was noted stays as it was, and what is noted behind it was handed in by the controller of this NAME
pub record AreNoted (name : ℕ) (old new : List Handed) : Type 0 where
  pub grows : length old ≤ length new
  pub stays : (k : ℕ) (message : Handed) → slice_get old k ≡ Some message → slice_get new k ≡ Some message
  pub more : (k : ℕ) (message : Handed) → length old ≤ k → slice_get new k ≡ Some message → name_raw message.name ≡ name
