-- The seconds, a point, the tenth and the unit, the last first.
use Rattle.j39_watch.proofs.Common.{◌≡◌, ◌++◌, ◌/◌, ◌%◌, ◌∙◌, ◌-◌, ℕ, List, ap, append_assoc, codes, decimal, refl, take, before_then, stamp_micros}
use Rattle.j39_watch.specs.Watch.{age_text, column, tenths}
use Rattle.j39_watch.proofs.lines.push_age.Goals as goal

regroup : (n : ℕ) → decimal (n / 10) ++ (codes "." ++ (decimal (n % 10) ++ codes "s")) ≡ age_text n
regroup n = simp append_assoc refl

pub push_column-requires-clause-written : goal.push_column-requires-clause-written
push_column-requires-clause-written c = (
  _,
  before_then _ _ _ _ _ _ _ _ (before_then _ _ _ _ _ _ _ _ (before_then _ _ _ _ _ _ _ _ c.byte_before-second.ensures c.number_before-tenth.ensures)
      c.byte_before-point.ensures) c.number_before-start.ensures,
)

pub returns-clause-cut : goal.returns-clause-cut
returns-clause-cut c =
    let n : ℕ = c.saturating_sub-tenths.result / 100000 in
    let age : n ≡ tenths (stamp_micros c.args.now) (stamp_micros c.args.then) =
    ap (λ m. m / 100000) (c.saturating_sub-tenths.ensures ∙ (λ i. c.micros.ensures.value i - c.micros-2.ensures.value i)) in
    c.push_column.ensures.cut _ (before_then _ _ _ _ _ _ _ _ (before_then _ _ _ _ _ _ _ _ (before_then _ _ _ _ _ _ _ _ c.byte_before-second.ensures c.number_before-tenth.ensures)
    c.byte_before-point.ensures) c.number_before-start.ensures)
    ∙ ap (λ (t : List ℕ). take c.args.line.now.width (c.args.line.now.bytes.items ++ column c.args.width t)) (regroup n ∙ ap age_text age)
