-- The digits before and behind the point are the magnitude's.
use Rattle.std.proofs.Common.{◌*◌, ◌^◌, ◌∙◌, ap, sym, arith, drop}
use Rattle.std.specs.Str.Parse.{digits_value}
use Rattle.j39_table.proofs.ColumnLemmas.{decimal_number, parts_of_text, whole_text}
use Rattle.j39_table.proofs.columns.magnitude_in.Goals as goal

pub returns-in_err-magnitude-clause-only : goal.returns-in_err-magnitude-clause-only
returns-in_err-magnitude-clause-only c =
    rw c.from_residual.ensures (λ m places few fits is.
    let whole = whole_text c.args.text.now c.whole_len-len.result m places c.whole_len-len.ensures.value (omega arith) fits is in
    let read = decimal_number c.args.text.now m fits whole.1 in
    absurd (c.in_err-magnitude.ensures (read.0, (let value = read.1 in omega (arith, value, fits)))))

pub returns-then-len-text-clause-only : goal.returns-then-len-text-clause-only
returns-then-len-text-clause-only c = λ m places few fits is.
    let whole = whole_text c.args.text.now c.whole_len-len.result m places c.whole_len-len.ensures.value (omega arith) fits is in
    let read = decimal_number c.args.text.now m fits whole.1 in
    (c.in_ok-magnitude.ensures.1 ∙ read.1, sym whole.0)

pub returns-then-part-gt15-clause-only : goal.returns-then-part-gt15-clause-only
returns-then-part-gt15-clause-only c = λ m places few fits is.
    let t = c.args.text.now in
    let part = c.split_at-2.ensures.back ∙ ap (drop 1) c.split_at.ensures.back in
    let parts = parts_of_text t c.split_at.result.0.now c.split_at-2.result.1.now c.whole_len-len.result m places c.whole_len-len.ensures.value (omega arith) c.split_at.ensures.front part fits is in
    let len = parts.len in
    let many = c.if-part-gt15.true in
    omega (arith, len, many, few)

pub returns-in_err-whole-clause-only : goal.returns-in_err-whole-clause-only
returns-in_err-whole-clause-only c =
    rw c.from_residual-in_err-whole.ensures (λ m places few fits is.
    let t = c.args.text.now in
    let part = c.split_at-2.ensures.back ∙ ap (drop 1) c.split_at.ensures.back in
    let parts = parts_of_text t c.split_at.result.0.now c.split_at-2.result.1.now c.whole_len-len.result m places c.whole_len-len.ensures.value (omega arith) c.split_at.ensures.front part fits is in
    absurd (c.in_err-whole.ensures (parts.whole_digits, parts.whole_fits)))

pub returns-in_err-last-clause-only : goal.returns-in_err-last-clause-only
returns-in_err-last-clause-only c =
    rw c.from_residual-in_err-last.ensures (λ m places few fits is.
    let t = c.args.text.now in
    let part = c.split_at-2.ensures.back ∙ ap (drop 1) c.split_at.ensures.back in
    let parts = parts_of_text t c.split_at.result.0.now c.split_at-2.result.1.now c.whole_len-len.result m places c.whole_len-len.ensures.value (omega arith) c.split_at.ensures.front part fits is in
    let sum = parts.sum in
    absurd (c.in_err-last.ensures (parts.part_digits, omega (arith, sum, fits))))

pub returns-in_err-shifted-clause-only : goal.returns-in_err-shifted-clause-only
returns-in_err-shifted-clause-only c =
    rw c.from_residual-in_err-shifted.ensures (λ m places few fits is.
    let t = c.args.text.now in
    let part = c.split_at-2.ensures.back ∙ ap (drop 1) c.split_at.ensures.back in
    let parts = parts_of_text t c.split_at.result.0.now c.split_at-2.result.1.now c.whole_len-len.result m places c.whole_len-len.ensures.value (omega arith) c.split_at.ensures.front part fits is in
    let w = c.in_ok-whole.ensures.1 in
    let power = c.power.ensures ∙ ap (λ k. 10 ^ k) parts.len in
    let product = ap (λ a. a * c.power.result) w ∙ ap (λ b. digits_value 10 c.split_at.result.0.now * b) power in
    let sum = parts.sum in
    absurd (c.in_err-shifted.ensures (omega (arith, product, sum, fits))))

pub returns-in_err-magnitude-2-clause-only : goal.returns-in_err-magnitude-2-clause-only
returns-in_err-magnitude-2-clause-only c =
    rw c.from_residual-in_err-magnitude-2.ensures (λ m places few fits is.
    let t = c.args.text.now in
    let part = c.split_at-2.ensures.back ∙ ap (drop 1) c.split_at.ensures.back in
    let parts = parts_of_text t c.split_at.result.0.now c.split_at-2.result.1.now c.whole_len-len.result m places c.whole_len-len.ensures.value (omega arith) c.split_at.ensures.front part fits is in
    let w = c.in_ok-whole.ensures.1 in
    let power = c.power.ensures ∙ ap (λ k. 10 ^ k) parts.len in
    let product = ap (λ a. a * c.power.result) w ∙ ap (λ b. digits_value 10 c.split_at.result.0.now * b) power in
    let sum = parts.sum in
    let last = c.in_ok-last.ensures.1 in
    let shifted = c.in_ok-shifted.ensures.1 in
    absurd (c.in_err-magnitude-2.ensures (omega (arith, product, sum, last, shifted, fits))))

pub returns-clause-only : goal.returns-clause-only
returns-clause-only c = λ m places few fits is.
    let t = c.args.text.now in
    let part = c.split_at-2.ensures.back ∙ ap (drop 1) c.split_at.ensures.back in
    let parts = parts_of_text t c.split_at.result.0.now c.split_at-2.result.1.now c.whole_len-len.result m places c.whole_len-len.ensures.value (omega arith) c.split_at.ensures.front part fits is in
    let w = c.in_ok-whole.ensures.1 in
    let power = c.power.ensures ∙ ap (λ k. 10 ^ k) parts.len in
    let product = ap (λ a. a * c.power.result) w ∙ ap (λ b. digits_value 10 c.split_at.result.0.now * b) power in
    let sum = parts.sum in
    let last = c.in_ok-last.ensures.1 in
    let shifted = c.in_ok-shifted.ensures.1 in
    let magnitude = c.in_ok-magnitude-2.ensures.1 in
    (omega (arith, product, sum, last, shifted, magnitude), parts.len)
