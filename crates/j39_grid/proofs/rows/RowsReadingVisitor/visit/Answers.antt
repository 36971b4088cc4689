-- The value stands in no column, or in its own, or a fault came before that.
use Rattle.std.proofs.Common.{◌≡◌, ◌==◌, ◌&&◌, ◌∙◌, ◌∷◌, [], ap, Bool, false, not, sym, true, ℕ}
use Rattle.std.proofs.Math.Bool.{and-false}
use Rattle.std.specs.List.{list_any}
use Rattle.std.proofs.lemmas.List.Elements.{filter_map-append}
use Rattle.j39_frame.specs.Stamp.{stamp_micros}
use Rattle.j39_groups.specs.Models.{value_of}
use Rattle.j39_groups.specs.Sightings.{told_by, told_in}
use Rattle.j39_groups.specs.Value.{ReadingRecord}
use Rattle.j39_groups.specs.Visits.{visited}
use Rattle.j39_io.proofs.DeviceLemmas.{on_err}
use Rattle.j39_rows.specs.Row.{CellRecord}
use Rattle.j39_grid.specs.Grid.{Asked, is_text, moment_of}
use Rattle.j39_grid.specs.GridModels.{asked_of, rows_of}
use Rattle.j39_grid.specs.GridSoFar.{entered, placed}
use Rattle.j39_grid.proofs.MessageLemmas.{stops_one, takes_none, takes_one}
use Rattle.j39_grid.proofs.rows.RowsReadingVisitor.visit.Goals as goal

abbrev among : ℕ → Asked → Bool
among spn asked = list_any (λ column. column == spn) asked.spns

pub returns-in-None-clause-taken : goal.returns-in-None-clause-taken
returns-in-None-clause-taken g c = λ subject before has.
    let r : ReadingRecord = record { spn = c.args.spn; value = value_of c.args.value } in
    rw (filter_map-append told_by before (visited c.args.spn c.args.value ∷ []))
    (takes_none subject (told_in before) r c.args.self.now _ (ap (λ b. among c.args.spn subject.asked && not b) c.in-None.ensures ∙ and-false (among c.args.spn subject.asked)) has)

pub returns-then-not-is_among-clause-taken : goal.returns-then-not-is_among-clause-taken
returns-then-not-is_among-clause-taken g c = λ subject before has.
    let r : ReadingRecord = record { spn = c.args.spn; value = value_of c.args.value } in
    let none : among c.args.spn subject.asked ≡ false = ap (among c.args.spn) (sym has.asked_is) ∙ (sym c.is_among.ensures ∙ c.if-not-is_among.true) in
    rw (filter_map-append told_by before (visited c.args.spn c.args.value ∷ []))
    (takes_none subject (told_in before) r c.args.self.now _ (ap (λ b. b && not (is_text r.value)) none) has)

pub returns-in_err-take-in-Some-clause-stopped : goal.returns-in_err-take-in-Some-clause-stopped
returns-in_err-take-in-Some-clause-stopped g c = on_err c.from_residual.result _ (λ subject before has.
    let r : ReadingRecord = record { spn = c.args.spn; value = value_of c.args.value } in
    let some : among c.args.spn subject.asked ≡ true = ap (among c.args.spn) (sym has.asked_is) ∙ (sym c.is_among.ensures ∙ c.if-not-is_among.false) in
    rw (filter_map-append told_by before (visited c.args.spn c.args.value ∷ []))
    (stops_one subject (told_in before) r _ c.args.self.now _ _ (ap (λ b. b && not (is_text r.value)) some ∙ ap (λ b. true && not b) c.in-Some.ensures.0) has c.in_err-take-in-Some.ensures.puts))

pub returns-in_ok-take-in-Some-clause-taken : goal.returns-in_ok-take-in-Some-clause-taken
returns-in_ok-take-in-Some-clause-taken g c = λ subject before has.
    let r : ReadingRecord = record { spn = c.args.spn; value = value_of c.args.value } in
    let some : among c.args.spn subject.asked ≡ true = ap (among c.args.spn) (sym has.asked_is) ∙ (sym c.is_among.ensures ∙ c.if-not-is_among.false) in
    let self = c.args.self.now in
    rw (filter_map-append told_by before (visited c.args.spn c.args.value ∷ []))
    (takes_one subject (told_in before) r _ self c.take.new.self _ _ (ap (λ b. b && not (is_text r.value)) some ∙ ap (λ b. true && not b) c.in-Some.ensures.0) has
    (ap asked_of c.in_ok-take-in-Some.ensures.asked) (ap stamp_micros c.in_ok-take-in-Some.ensures.stamp)
    (c.in_ok-take-in-Some.ensures.rows ∙ ap (λ (cell : CellRecord). placed r.spn cell (entered (moment_of self.asked.every (stamp_micros self.stamp)) (rows_of self))) c.in-Some.ensures.1)
    c.in_ok-take-in-Some.ensures.puts)
