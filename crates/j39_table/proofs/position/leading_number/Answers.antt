-- The digits in front of a text that begins with a number are that number's.
use Rattle.std.proofs.Common.{◌∙◌, ap, arith}
use Rattle.std.specs.Str.Parse.{digits_value}
use Rattle.j39_table.proofs.PlaceLemmas.{leading}
use Rattle.j39_table.proofs.position.leading_number.Goals as goal

pub returns-in_err-number : goal.returns-in_err-number
returns-in_err-number c =
    rw c.from_residual.ensures (λ n rest few after is.
    let found = leading c.args.text.now rest n c.digits_len.result few after is c.digits_len.ensures.value in
    absurd (c.in_err-number.ensures (rw c.split_at.ensures.front (found.digits, (let value = found.value in omega (arith, value, few))))))

pub returns-in-Ok : goal.returns-in-Ok
returns-in-Ok c = λ n rest few after is.
    let found = leading c.args.text.now rest n c.digits_len.result few after is c.digits_len.ensures.value in
    let value = c.in_ok-number.ensures.1 ∙ ap (digits_value 10) c.split_at.ensures.front ∙ found.value in
    let same = c.in-Ok.ensures in
    (omega (arith, value, same), c.split_at.ensures.back ∙ found.behind)

pub returns-in-Err : goal.returns-in-Err
returns-in-Err c = λ n rest few after is.
    let found = leading c.args.text.now rest n c.digits_len.result few after is c.digits_len.ensures.value in
    let value = c.in_ok-number.ensures.1 ∙ ap (digits_value 10) c.split_at.ensures.front ∙ found.value in
    c.in-Err.ensures (omega (arith, value, few))
