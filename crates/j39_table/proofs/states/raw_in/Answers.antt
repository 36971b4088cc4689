-- The digits behind the first byte are those of the number.
use Rattle.std.proofs.Common.{ap, arith, drop, sym}
use Rattle.j39_table.proofs.StateLemmas.{number_read, raw_digits, some_bytes}
use Rattle.j39_table.proofs.states.raw_in.Goals as goal

pub returns-in_err-rest : goal.returns-in_err-rest
returns-in_err-rest c = λ raw words few is.
    let some = some_bytes raw c.args.state.now words is in
    let none = c.in_err-rest.ensures.cases in absurd (omega (arith, some, none))

pub returns : goal.returns
returns c = λ raw words few is.
    let cut = c.in_ok-rest.ensures.cases in
    let lead = raw_digits raw c.args.state.now words c.in_ok-rest.rest.now c.digits_len.result few is (sym (ap (drop 1) cut.0)) c.digits_len.ensures.value in
    number_read c.number.result c.split_at.result.0.now c.in_ok-rest.rest.now _ raw c.digits_len.result few lead c.split_at.ensures.front c.number.ensures
