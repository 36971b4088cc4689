-- Rows that lead others: of the same sender, destination, NAME and group.
use Rattle.std.specs.Prelude.{◌≡◌, ◌<◌, ◌+◌, ◌*◌, ◌%◌, ◌++◌, ◌∷◌, [], ℕ, Bool, true, List, get_or, length, map}
use Rattle.std.specs.Map.{keys_of}
use Rattle.j39_frame.specs.Origin.{is_same}
use Rattle.j39_frame.specs.declared.origin.Origin.{Origin}
use Rattle.j39_reports.specs.MessageHeads.{origin_in}
use Rattle.j39_reports.specs.declared.summaries.message_head.MessageHead.{MessageHead}
use Rattle.j39_reports.specs.declared.summaries.statistics.Statistics.{Statistics}

-- the origin of another parameter
abbrev pub with_parameter : ℕ → Origin → Origin
with_parameter spn o = record { address = o.address; destination = o.destination; name = o.name; pgn = o.pgn; spn = spn }

-- both are of one sender, destination, NAME and group
abbrev pub are_alike : Origin → Origin → Bool
are_alike a b = is_same a (with_parameter a.spn b)

-- where each row's lead stands
abbrev pub leads_of : List (Origin × Statistics) → List ℕ
leads_of rows = map (λ row. row.1.lead) rows

-- an origin that is alike stands at this place
abbrev pub IsLedBy : List Origin → ℕ → Origin → Type 0
IsLedBy origins lead o = (lead < length origins) × ((d : Origin) → are_alike (get_or origins lead d) o ≡ true)

-- each is alike where its lead stands
abbrev pub AreLed : List Origin → List ℕ → Type 0
AreLed origins leads = (p : ℕ) → p < length origins → (d : Origin) → IsLedBy origins (get_or leads p 0) (get_or origins p d)

-- what stands at this place, if anything does, is of the messages of this head
abbrev pub LeadsHead : List Origin → ℕ → MessageHead → Type 0
LeadsHead origins lead head = lead < length origins → (d : Origin) → are_alike (get_or origins lead d) (origin_in head 0) ≡ true

-- the origins and where their leads stand stay
abbrev pub KeepsLeads : List (Origin × Statistics) → List (Origin × Statistics) → Type 0
KeepsLeads old new = (keys_of new ≡ keys_of old) × (leads_of new ≡ leads_of old)

-- an origin more, with where its lead stands
abbrev pub AddsLead : ℕ → Origin → List (Origin × Statistics) → List (Origin × Statistics) → Type 0
AddsLead lead k old new = (keys_of new ≡ keys_of old ++ k ∷ []) × (leads_of new ≡ leads_of old ++ lead ∷ [])

-- where a guess is kept of where what has this address and this number stands, of a parameter or of a group
abbrev pub guess_place : ℕ → ℕ → ℕ
guess_place address number = (address * 37 + number) % 1024
