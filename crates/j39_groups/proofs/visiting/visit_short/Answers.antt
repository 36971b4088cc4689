-- A number is handed on by a way of its own.
use Rattle.std.proofs.Common.{◌≡◌, ◌∷◌, [], of_z, rules, to_z, w64}
use Rattle.j39_io.proofs.DeviceLemmas.{on_err_from}
use Rattle.j39_groups.specs.Models.{row_record, scale_record, short_value}
use Rattle.j39_groups.specs.Readings.{values_at}
use Rattle.j39_groups.specs.Sightings.{told}
use Rattle.j39_groups.specs.Value.{number}
use Rattle.j39_groups.specs.Visits.{with_medium}
use Rattle.j39_groups.proofs.VisitLemmas.{sees_value, stops_at}
use Rattle.j39_groups.proofs.visiting.visit_short.Goals as goal

pub returns-in-Some-Number-clause-taken : goal.returns-in-Some-Number-clause-taken
returns-in-Some-Number-clause-taken g c =
    let n = c.in-Some-Number.number in
    let back : to_z w64 (of_z w64 n) ≡ n = search rules in
    let slot = scale_record c.args.scale.now in
    let same : short_value slot c.in-Some-Number.field-0 ≡ number n slot = search rules in
    let one : number n slot ∷ [] ≡ values_at c.args.bytes.now (row_record c.args.row.now).field = rw (c.in-Some-Number.is, same) at c.requires.read in
    rw (← sees_value c.args.bytes.now (row_record c.args.row.now) (number n slot) one) (rw back at c.visit.ensures.taken)

pub returns-in-Some-Number-clause-stopped : goal.returns-in-Some-Number-clause-stopped
returns-in-Some-Number-clause-stopped g c =
    let n = c.in-Some-Number.number in
    let back : to_z w64 (of_z w64 n) ≡ n = search rules in
    let slot = scale_record c.args.scale.now in
    let same : short_value slot c.in-Some-Number.field-0 ≡ number n slot = search rules in
    let one : number n slot ∷ [] ≡ values_at c.args.bytes.now (row_record c.args.row.now).field = rw (c.in-Some-Number.is, same) at c.requires.read in
    on_err_from c.visit.result _ _
    (λ wanted. rw (← sees_value c.args.bytes.now (row_record c.args.row.now) (number n slot) one)
    (stops_at (with_medium g.V.ReadingVisitor.has_taken) (λ s before at. g.V.ReadingVisitor.has_stopped s before at c.visit.new.self c.visit.new.medium)
    (c.args.visitor.now, c.args.medium.now) (told (record { spn = c.args.row.now.spn; value = number n slot })) (rw back at wanted))) c.visit.ensures.stopped

pub returns-in-Some-clause-taken : goal.returns-in-Some-clause-taken
returns-in-Some-clause-taken g c =
    rw (← sees_value c.args.bytes.now (row_record c.args.row.now) _ (rw c.in-Some.is at c.requires.read)) c.visit_word.ensures.taken

pub returns-in-Some-clause-stopped : goal.returns-in-Some-clause-stopped
returns-in-Some-clause-stopped g c =
    rw (← sees_value c.args.bytes.now (row_record c.args.row.now) _ (rw c.in-Some.is at c.requires.read)) c.visit_word.ensures.stopped
