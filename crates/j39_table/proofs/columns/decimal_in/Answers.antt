-- Digits as they are printed are read, and printed as they were.
use Rattle.std.proofs.Common.{◌≡◌, ◌∙◌, ap, sym, arith, decimal}
use Rattle.std.proofs.lemmas.Bool.{false≢true}
use Rattle.std.proofs.lemmas.Slice.Eq.{bytes_eq-Decides}
use Rattle.j39_table.proofs.ColumnLemmas.{decimal_number}
use Rattle.j39_table.proofs.columns.decimal_in.Goals as goal

pub returns-in_err-value-clause-only : goal.returns-in_err-value-clause-only
returns-in_err-value-clause-only c =
    rw c.from_residual.ensures (λ n fits is.
    let read = decimal_number c.args.text.now n (omega arith) is in
    absurd (c.in_err-value.ensures (read.0, (let value = read.1 in omega (arith, value)))))

pub returns-in_default-clause-only : goal.returns-in_default-clause-only
returns-in_default-clause-only c = λ n fits is.
    let read = (decimal_number c.args.text.now n (omega arith) is).1 in
    let value = c.in_ok-value.ensures.1 in
    c.in_default.ensures (omega (arith, read, value, fits))

pub returns-then-eq-clause-only : goal.returns-then-eq-clause-only
returns-then-eq-clause-only c = λ n fits is.
    let read = (decimal_number c.args.text.now n (omega arith) is).1 in
    let value = c.in_ok-value.ensures.1 in
    let same = c.in-Ok.ensures in
    omega (arith, read, value, same)

pub returns-else-eq-clause-only : goal.returns-else-eq-clause-only
returns-else-eq-clause-only c = λ n fits is.
    let read = (decimal_number c.args.text.now n (omega arith) is).1 in
    let value : c.in-Ok.value ≡ n = (let v = c.in_ok-value.ensures.1 in let same = c.in-Ok.ensures in omega (arith, read, v, same)) in
    let printed : c.as_slice.result.now ≡ c.args.text.now = c.as_slice.ensures.value ∙ c.decimal_of.ensures ∙ ap decimal value ∙ sym is in
    false≢true (c.if-eq.ensures ∙ (bytes_eq-Decides _ _).1 printed)
