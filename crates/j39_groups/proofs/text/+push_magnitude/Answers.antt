-- Each further digit follows the digits before it, and the point the whole part.
use Rattle.std.proofs.Common.{◌≤◌, ◌++◌, ◌/◌, ap, sym, ◌∙◌, append_assoc, arith, rules, length}
use Rattle.std.specs.Fmt.{decimal}
use Rattle.j39_groups.proofs.TextLemmas.{decimal_short, magnitude_whole, magnitude_first, magnitude_more}
use Rattle.j39_groups.proofs.text.+push_magnitude.Goals as goal

pub push_number-requires : goal.push_number-requires
push_number-requires t c = let short : length (decimal c.args.magnitude) ≤ 20 = decimal_short c.args.magnitude (c.ranges.magnitude).fits in search rules

pub push_number-requires-then-places-eq1 : goal.push_number-requires-then-places-eq1
push_number-requires-then-places-eq1 t c =
    let short : length (decimal (c.args.magnitude / 10)) ≤ 20 = decimal_short (c.args.magnitude / 10) (let fits = (c.ranges.magnitude).fits in omega (arith, fits)) in
    search rules

pub push_bytes-requires : goal.push_bytes-requires
push_bytes-requires t c =
    let short : length (decimal (c.args.magnitude / 10)) ≤ 20 = decimal_short (c.args.magnitude / 10) (let fits = (c.ranges.magnitude).fits in omega (arith, fits)) in
    search rules

pub push_digit-requires-clause-room : goal.push_digit-requires-clause-room
push_digit-requires-clause-room t c =
    let short : length (decimal (c.args.magnitude / 10)) ≤ 20 = decimal_short (c.args.magnitude / 10) (let fits = (c.ranges.magnitude).fits in omega (arith, fits)) in
    omega (arith, short)

pub returns-then-places-eq0-clause-items : goal.returns-then-places-eq0-clause-items
returns-then-places-eq0-clause-items t c =
    c.push_number.ensures.items
    ∙ ap (λ xs. c.args.out.now.items ++ xs) (sym (magnitude_whole c.args.places c.args.magnitude c.if-places-eq0.true))

pub returns-then-places-eq0-clause-len : goal.returns-then-places-eq0-clause-len
returns-then-places-eq0-clause-len t c = let short = decimal_short c.args.magnitude (c.ranges.magnitude).fits in omega (arith, short)

pub returns-then-places-eq1-clause-items : goal.returns-then-places-eq1-clause-items
returns-then-places-eq1-clause-items t c =
    rw (c.push_digit.ensures.items, c.push_bytes.ensures.items, c.push_number-then-places-eq1.ensures.items, append_assoc, append_assoc)
    (ap (λ xs. c.args.out.now.items ++ xs) (sym (magnitude_first c.args.places c.args.magnitude c.if-places-eq1.true)))

pub returns-then-places-eq1-clause-len : goal.returns-then-places-eq1-clause-len
returns-then-places-eq1-clause-len t c =
    let short = decimal_short (c.args.magnitude / 10) (let fits = (c.ranges.magnitude).fits in omega (arith, fits)) in omega (arith, short)

pub returns-else-places-eq1-clause-items : goal.returns-else-places-eq1-clause-items
returns-else-places-eq1-clause-items t c =
    rw (c.push_digit-else-places-eq1.ensures.items, c.push_magnitude.ensures.items, append_assoc)
    (ap (λ xs. c.args.out.now.items ++ xs) (sym (magnitude_more c.args.places c.args.magnitude (omega arith))))
