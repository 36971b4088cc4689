-- The parts, one before the other.
use Rattle.j39_reports.proofs.Common.{◌≡◌, ◌++◌, ◌∷◌, [], ◌/◌, ◌%◌, ◌^◌, ℕ, List, subst, append_assoc, refl, WritesBefore, last_digits, before_then, stamp_micros, second_text}
use Rattle.j39_rows.specs.Utc.{utc_text}
use Rattle.j39_reports.proofs.second.Second.utc_before.Goals as goal

regroup : (fraction utc : List ℕ) → utc ++ ((46 ∷ []) ++ (fraction ++ (90 ∷ []))) ≡ utc ++ (46 ∷ []) ++ fraction ++ (90 ∷ [])
regroup fraction utc = simp append_assoc refl

parts : (micros told value : ℕ) (utc : List ℕ) → told ≡ micros → value ≡ told / 10 ^ 6 → utc ≡ second_text value
    → utc ++ ((46 ∷ []) ++ (last_digits 6 (told % 10 ^ 6) ++ (90 ∷ []))) ≡ utc_text micros
unfolding utc_text
parts micros told value utc m v u = rw (u, v, m) (regroup (last_digits 6 (micros % 10 ^ 6)) (second_text (micros / 10 ^ 6)))

pub returns-clause-written : goal.returns-clause-written
returns-clause-written c =
    let micros = c.micros-micros in
    subst (WritesBefore c.args.out.now c.bytes_before.new.out c.args.end c.bytes_before.result)
    (parts (stamp_micros c.args.stamp) micros.result c.turn_to.new.self.value c.turn_to.new.self.utc micros.ensures.value c.turn_to.ensures c.turn_to.new.self.utc_is)
    (before_then _ _ _ _ _ _ _ _ (before_then _ _ _ _ _ _ _ _ (before_then _ _ _ _ _ _ _ _
    c.byte_before-zone.ensures c.last_digits_before-places.ensures.digits) c.byte_before-point.ensures) c.bytes_before.ensures.written)
