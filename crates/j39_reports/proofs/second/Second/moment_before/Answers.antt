-- The parts, one before the other.
use Rattle.j39_reports.proofs.Common.{◌≡◌, ◌++◌, ◌∷◌, [], ◌/◌, ◌%◌, ◌^◌, ℕ, List, subst, append_assoc, refl, WritesBefore, last_digits, before_then, stamp_micros, second_text}
use Rattle.j39_reports.specs.Columns.{moment_fields}
use Rattle.j39_rows.specs.Utc.{utc_text}
use Rattle.j39_reports.proofs.second.Second.moment_before.Goals as goal

regroup : (digits fraction utc : List ℕ)
    → digits ++ ((46 ∷ []) ++ (fraction ++ ((44 ∷ []) ++ (utc ++ ((46 ∷ []) ++ (fraction ++ (90 ∷ [])))))))
    ≡ digits ++ (46 ∷ []) ++ fraction ++ (44 ∷ []) ++ (utc ++ (46 ∷ []) ++ fraction ++ (90 ∷ []))
regroup digits fraction utc = simp append_assoc refl

parts : (micros told value : ℕ) (digits fraction utc : List ℕ) → told ≡ micros → value ≡ told / 10 ^ 6
    → digits ≡ last_digits 10 value → fraction ≡ last_digits 6 (told % 10 ^ 6) → utc ≡ second_text value
    → digits ++ ((46 ∷ []) ++ (fraction ++ ((44 ∷ []) ++ (utc ++ ((46 ∷ []) ++ (fraction ++ (90 ∷ [])))))))
    ≡ moment_fields micros
unfolding utc_text
parts micros told value digits fraction utc m v d f u =
    rw (d, f, u, v, m) (regroup (last_digits 10 (micros / 10 ^ 6)) (last_digits 6 (micros % 10 ^ 6)) (second_text (micros / 10 ^ 6)))

pub returns : goal.returns
returns c =
    let micros = c.micros-micros in
    subst (WritesBefore c.args.out.now c.bytes_before.new.out c.args.end c.bytes_before.result)
    (parts (stamp_micros c.args.stamp) micros.result c.turn_to.new.self.value c.turn_to.new.self.digits c.fraction_of-fraction.result c.turn_to.new.self.utc micros.ensures.value c.turn_to.ensures
    c.turn_to.new.self.digits_are c.fraction_of-fraction.ensures c.turn_to.new.self.utc_is)
    (before_then _ _ _ _ _ _ _ _ (before_then _ _ _ _ _ _ _ _ (before_then _ _ _ _ _ _ _ _ (before_then _ _ _ _ _ _ _ _ (before_then _ _ _ _ _ _ _ _ (before_then _ _ _ _ _ _ _ _ (before_then _ _ _ _ _ _ _ _
    c.byte_before-zone.ensures c.bytes_before-places.ensures.written) c.byte_before-later.ensures) c.bytes_before-utc.ensures.written) c.byte_before-comma.ensures)
    c.bytes_before-decimals.ensures.written) c.byte_before-point.ensures) c.bytes_before.ensures.written)
