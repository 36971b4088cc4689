-- A row is kept or left out.
use Rattle.std.proofs.Common.{◌∙◌, Bool, ap, sym, arith, length, length-append}
use Rattle.j39_io.proofs.DeviceLemmas.{on_err}
use Rattle.j39_groups.specs.GivenRows.{rows_in}
use Rattle.j39_groups.specs.Models.{row_record}
use Rattle.j39_groups.specs.Readings.{is_among}
use Rattle.j39_groups.specs.Row.{RowRecord}
use Rattle.j39_groups.proofs.RestrictedLemmas.{onto, row_kept, row_left_out, some_kept}
use Rattle.j39_groups.proofs.restricted.restricted_rows.Goals as goal
use Rattle.j39_groups.proofs.restricted.restricted_rows.Goals.{then-is_among+in_ok-push, else-is_among}

pub loop-row-preserved : goal.loop-row-preserved
loop-row-preserved c =
    let rows = c.args.rows.now in
    let i = c.loop-row.row-index in
    let p : RowRecord → Bool = λ row. is_among c.args.spns.now row.spn in
    elim c.if-is_among.branch [
      | then-is_among+in_ok-push w ↦ (
        ap rows_in w.kept-is ∙ w.in_ok-push.ensures.ok ∙ onto _ _ _ c.loop-row.invariant.0
            ∙ sym (row_kept row_record p rows i _ c.loop-row-test.true (sym c.is_among.ensures ∙ w.if-is_among.true)),
        (let grown = ap length w.in_ok-push.ensures.ok ∙ length-append (rows_in c.loop-row.kept) _ in
            let before = c.loop-row.invariant.1 in
            let now = ap (λ kept. length (rows_in kept)) w.kept-is in
            omega (arith, grown, before, now)),
      )
      | else-is_among w ↦ (
        ap rows_in w.kept-is ∙ c.loop-row.invariant.0 ∙ sym (row_left_out row_record p rows i _ c.loop-row-test.true (sym c.is_among.ensures ∙ w.if-is_among.false)),
        (let before = c.loop-row.invariant.1 in let now = ap (λ kept. length (rows_in kept)) w.kept-is in omega (arith, before, now)),
      )
    ]

pub returns-in_err-push-clause-wanted : goal.returns-in_err-push-clause-wanted
returns-in_err-push-clause-wanted c =
    let p : RowRecord → Bool = λ row. is_among c.args.spns.now row.spn in
    on_err _ _ (some_kept row_record p c.args.rows.now c.loop-row.row-index _ c.loop-row-test.true (sym c.is_among.ensures ∙ c.if-is_among.true))
