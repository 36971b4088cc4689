-- What a held raw number is read as.
use Rattle.std.proofs.Common.{[], ◌∷◌, map, ◌≡◌, ◌-◌, ◌==◌, ℕ, List, refl, ap, ◌∙◌, subst}
use Rattle.std.specs.Prelude.{Some, ℤ, IsSomeAnd, filter}
use Rattle.std.specs.List.{Contains}
use Rattle.std.specs.Option.{option_and_then, option_to_list}
use Rattle.std.proofs.lemmas.Bool.{eq-eqb}
use Rattle.j39_groups.specs.Value.{number, ReadingRecord}
use Rattle.j39_groups.specs.Row.{FieldRecord, number_field, bits_field, full_field, switch_field, text_field, texts_field}
use Rattle.j39_groups.specs.Table.{the_table}
use Rattle.j39_groups.specs.Readings.{by_top_byte, number_meaning, values_at, readings_at, readings_in, readings_of}
use Rattle.j39_groups.specs.Slots.{SizedSlotRecord, slot_in, slot_at, sized_slot_of_spn, slot_of_spn, IsRawIn, IsRawOf, HoldsIn, Holds}
use Rattle.j39_groups.proofs.ListLemmas.{contains_filter, contains_flat_map, contains_head}
use Rattle.j39_groups.proofs.TableLemmas.{slot_only}

valid_meaning : (n : SizedSlotRecord) (value : ℤ) (raw : ℕ) → IsRawIn n value raw → number_meaning n.count n.slot raw ≡ Some (number value n.slot)
unfolding by_top_byte
valid_meaning n value raw is =
    let test = is.valid in
    rw test (ap (λ z. Some (number z n.slot)) is.at.at)

has_number : (field : FieldRecord) (bytes : List ℕ) (raw : ℕ) → HoldsIn field bytes raw
    → (n : SizedSlotRecord) × (slot_in field ≡ Some n) × ((value : ℤ) → IsRawIn n value raw → values_at bytes field ≡ number value n.slot ∷ [])
unfolding values_at
has_number (number_field first last slot) bytes raw held = (
  record { count = last - (first - 1); slot = slot },
  refl,
  λ value is. ap option_to_list (ap (option_and_then (number_meaning (last - (first - 1)) slot)) held
      ∙ valid_meaning (record { count = last - (first - 1); slot = slot }) value raw is),
)
has_number (bits_field byte low count slot) bytes raw held = absurd held
has_number (full_field byte low count is_signed slot) bytes raw held = absurd held
has_number (switch_field byte low high) bytes raw held = absurd held
has_number (text_field part) bytes raw held = absurd held
has_number (texts_field byte count) bytes raw held = absurd held

pub reads_back : (pgn spn raw : ℕ) (value : ℤ) (bytes : List ℕ) → Holds pgn spn bytes raw → IsRawOf spn value raw
    → IsSomeAnd (slot_of_spn spn) (λ slot. Contains (readings_of pgn bytes) (record { spn = spn; value = number value slot }))
unfolding sized_slot_of_spn readings_in
reads_back pgn spn raw value bytes holds is =
    let row = holds.row in
    let has = has_number row.field bytes raw holds.held in
    let here : slot_at row.spn row ≡ Some has.0 = rw (eq-eqb row.spn row.spn refl) has.1 in
    let only = slot_only row has.0 holds.listed here in
    let found : sized_slot_of_spn spn ≡ Some has.0 = subst (λ s. sized_slot_of_spn s ≡ Some has.0) holds.parameter only in
    let valid : IsRawIn has.0 value raw = subst (λ o. IsSomeAnd o (λ n. IsRawIn n value raw)) found is in
    let seen : readings_at bytes row ≡ (let r : ReadingRecord = record { spn = row.spn; value = number value has.0.slot } in r) ∷ [] =
    ap (map (λ v. let r : ReadingRecord = record { spn = row.spn; value = v } in r)) (has.2 value valid) in
    let kept = contains_filter (λ r. r.pgn == pgn) the_table row holds.listed (eq-eqb row.pgn pgn holds.group) in
    let got = contains_flat_map (readings_at bytes) (filter (λ r. r.pgn == pgn) the_table) row _ kept (rw seen (contains_head _ [])) in
    let named = subst (λ s. Contains (readings_of pgn bytes) (record { spn = s; value = number value has.0.slot })) holds.parameter got in
    rw found named
