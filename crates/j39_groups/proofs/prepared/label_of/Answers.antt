-- The digits of both numbers, and the space behind each.
use Rattle.std.proofs.Common.{◌≡◌, ◌≤◌, length, ◌∙◌, ◌++◌, ◌∷◌, [], ap₂, arith, append_assoc, refl}
use Rattle.std.specs.Fmt.{decimal}
use Rattle.j39_io.proofs.BackwardsLemmas.{before_then}
use Rattle.j39_groups.proofs.ReadyLemmas.{is_label_from}
use Rattle.j39_groups.proofs.TextLemmas.{decimal_six}
use Rattle.j39_groups.proofs.prepared.label_of.Goals as goal

pub returns : goal.returns
returns c =
    let spn = decimal c.from.result in
    let pgn = decimal c.from-2.result in
    let before = before_then _ _ _ _ _ _ _ _ (before_then _ _ _ _ _ _ _ _ c.number_before-number.ensures c.byte_before-space.ensures) c.number_before-from.ensures in
    let joined : (pgn ++ ((32 ∷ []) ++ spn)) ++ (32 ∷ []) ≡ (pgn ++ (32 ∷ [])) ++ (spn ++ (32 ∷ [])) = simp append_assoc refl in
    let starts = before.starts in
    is_label_from (record { bytes = c.number_before-from.new.out; from = c.number_before-from.result }) c.args.pgn c.args.spn (omega (arith, starts))
    (before.written ∙ joined ∙ ap₂ (λ p s. (decimal p ++ (32 ∷ [])) ++ (decimal s ++ (32 ∷ []))) c.from-2.ensures c.from.ensures)

pub number_before-number-requires-clause-room : goal.number_before-number-requires-clause-room
number_before-number-requires-clause-room c =
    let short : length (decimal c.from.result) ≤ 6 = decimal_six c.from.result (omega arith) in
    omega (arith, short)

pub byte_before-space-requires-clause-room : goal.byte_before-space-requires-clause-room
byte_before-space-requires-clause-room c =
    let short : length (decimal c.from.result) ≤ 6 = decimal_six c.from.result (omega arith) in
    let starts = c.number_before-number.ensures.starts in
    omega (arith, short, starts)

pub number_before-from-requires-clause-room : goal.number_before-from-requires-clause-room
number_before-from-requires-clause-room c =
    let short : length (decimal c.from.result) ≤ 6 = decimal_six c.from.result (omega arith) in
    let few : length (decimal c.from-2.result) ≤ 6 = decimal_six c.from-2.result (omega arith) in
    let starts = c.number_before-number.ensures.starts in
    let next = c.byte_before-space.ensures.starts in
    omega (arith, short, few, starts, next)
