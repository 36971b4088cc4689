-- Bits end in the same byte or in another.
use Rattle.std.proofs.Common.{◌≡◌, ◌∙◌, ◌+◌, ◌/◌, ◌%◌, ◌∷◌, [], inl, inr, refl, decimal, length, get_or, ap, arith}
use Rattle.j39_groups.specs.Printed.{bits_end}
use Rattle.j39_table.proofs.PlaceLemmas.{alone, end_cases, tail_is}
use Rattle.j39_table.proofs.position.bits_to.Goals as goal

pub returns-in_err-end : goal.returns-in_err-end
returns-in_err-end c = rw c.from_residual.ensures (λ count good is.
    elim (end_cases c.args.byte (bits_end c.args.low count)) [
      | inl same ↦ absurd (c.in_err-end.ensures (bits_end c.args.low count + 1) [] (let e = same.0 in omega (arith, e)) tt (is ∙ same.1))
      | inr other ↦ absurd (c.in_err-end.ensures (c.args.byte + bits_end c.args.low count / 8) (46 ∷ decimal (bits_end c.args.low count % 8 + 1)) good.byte_ends refl (is ∙ other))
    ])

pub returns-in_err-bit-in-46 : goal.returns-in_err-bit-in-46
returns-in_err-bit-in-46 c = rw c.from_residual-in_err-bit-in-46.ensures (λ count good is.
    let last = bits_end c.args.low count in
    elim (end_cases c.args.byte last) [
      | inl same ↦
          let end = c.in_ok-end.ensures (last + 1) [] (let e = same.0 in omega (arith, e)) tt (is ∙ same.1) in
          let none = ap length end.1 in
          absurd (omega (arith, none, c.in-46.len_at_least))
      | inr other ↦
          let end = c.in_ok-end.ensures (c.args.byte + last / 8) (46 ∷ decimal (last % 8 + 1)) good.byte_ends refl (is ∙ other) in
          absurd (c.in_err-bit-in-46.ensures (last % 8 + 1) [] (omega arith) tt (alone (last % 8 + 1) _ (tail_is c.in_ok-end.rest.now (decimal (last % 8 + 1)) 46 end.1)))
    ])

pub returns-in-empty : goal.returns-in-empty
returns-in-empty c = λ count good is.
    let last = bits_end c.args.low count in
    elim (end_cases c.args.byte last) [
      | inl same ↦
          let end = c.in_ok-end.ensures (last + 1) [] (let e = same.0 in omega (arith, e)) tt (is ∙ same.1) in
          let bit = end.0 in
          let inside = same.0 in
          c.bits_between.ensures count good (omega (arith, inside)) (omega (arith, bit, inside))
      | inr other ↦
          let end = c.in_ok-end.ensures (c.args.byte + last / 8) (46 ∷ decimal (last % 8 + 1)) good.byte_ends refl (is ∙ other) in
          let some = ap length end.1 in
          absurd (omega (arith, some, c.in-empty.len_below))
    ]

pub returns-in_ok-bit-in-46 : goal.returns-in_ok-bit-in-46
returns-in_ok-bit-in-46 c = λ count good is.
    let last = bits_end c.args.low count in
    elim (end_cases c.args.byte last) [
      | inl same ↦
          let end = c.in_ok-end.ensures (last + 1) [] (let e = same.0 in omega (arith, e)) tt (is ∙ same.1) in
          let none = ap length end.1 in
          absurd (omega (arith, none, c.in-46.len_at_least))
      | inr other ↦
          let end = c.in_ok-end.ensures (c.args.byte + last / 8) (46 ∷ decimal (last % 8 + 1)) good.byte_ends refl (is ∙ other) in
          let bit = c.in_ok-bit-in-46.ensures (last % 8 + 1) [] (omega arith) tt (alone (last % 8 + 1) _ (tail_is c.in_ok-end.rest.now (decimal (last % 8 + 1)) 46 end.1)) in
          c.bits_between-in-46.ensures count good end.0 bit.0
    ]

pub returns-in_default : goal.returns-in_default
returns-in_default c = λ count good is.
    let last = bits_end c.args.low count in
    elim (end_cases c.args.byte last) [
      | inl same ↦
          let end = c.in_ok-end.ensures (last + 1) [] (let e = same.0 in omega (arith, e)) tt (is ∙ same.1) in
          let none = ap length end.1 in
          absurd (omega (arith, none, c.in_default.len_at_least))
      | inr other ↦
          let end = c.in_ok-end.ensures (c.args.byte + last / 8) (46 ∷ decimal (last % 8 + 1)) good.byte_ends refl (is ∙ other) in
          let point : get_or c.in_ok-end.rest.now 0 0 ≡ 46 = ap (λ t. get_or t 0 0) end.1 in
          absurd (omega (arith, point))
    ]
