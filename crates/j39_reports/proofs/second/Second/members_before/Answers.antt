-- The parts, one before the other.
use Rattle.j39_reports.proofs.Common.{◌≡◌, ◌++◌, ◌∷◌, [], ◌/◌, ◌%◌, ◌^◌, ℕ, List, arith, codes, decimal, drop, subst, append_assoc, refl, ap, ◌∙◌, WritesBefore, magnitude_text, before_then, stamp_micros, second_text}
use Rattle.j39_io.specs.Printing.{last_digits}
use Rattle.j39_groups.proofs.TextLemmas.{magnitude_pointed}
use Rattle.j39_reports.specs.EntryObject.{moment_members}
use Rattle.j39_rows.specs.Utc.{utc_text}
use Rattle.j39_reports.proofs.second.Second.members_before.Goals as goal

-- the last six digits are those of what is left of millions
six : (n : ℕ) → last_digits 6 (n % 10 ^ 6) ≡ last_digits 6 n
unfolding last_digits
six n =
    let first : n % 10 ^ 6 % 10 ≡ n % 10 = omega arith in
    let second : n % 10 ^ 6 / 10 % 10 ≡ n / 10 % 10 = omega arith in
    let third : n % 10 ^ 6 / 10 / 10 % 10 ≡ n / 10 / 10 % 10 = omega arith in
    let fourth : n % 10 ^ 6 / 10 / 10 / 10 % 10 ≡ n / 10 / 10 / 10 % 10 = omega arith in
    let fifth : n % 10 ^ 6 / 10 / 10 / 10 / 10 % 10 ≡ n / 10 / 10 / 10 / 10 % 10 = omega arith in
    let sixth : n % 10 ^ 6 / 10 / 10 / 10 / 10 / 10 % 10 ≡ n / 10 / 10 / 10 / 10 / 10 % 10 = omega arith in
    rw (first, second, third, fourth, fifth, sixth) refl

regroup : (a b mark seconds fraction utc : List ℕ)
    → a ++ (seconds ++ ((46 ∷ []) ++ (fraction ++ ((b ++ mark) ++ (utc ++ ((46 ∷ []) ++ (fraction ++ ((90 ∷ []) ++ mark))))))))
    ≡ a ++ (seconds ++ ((46 ∷ []) ++ fraction)) ++ b ++ (mark ++ (utc ++ (46 ∷ []) ++ fraction ++ (90 ∷ [])) ++ mark)
regroup a b mark seconds fraction utc = simp append_assoc refl

pointed : (micros : ℕ) → decimal (micros / 10 ^ 6) ++ ((46 ∷ []) ++ last_digits 6 (micros % 10 ^ 6)) ≡ magnitude_text 6 micros
pointed micros = ap (λ ds. decimal (micros / 10 ^ 6) ++ ((46 ∷ []) ++ ds)) (six micros) ∙ magnitude_pointed 6 micros (omega arith)

parts : (micros told value : ℕ) (number fraction utc : List ℕ) → told ≡ micros → value ≡ told / 10 ^ 6
    → number ≡ decimal value → fraction ≡ last_digits 6 (told % 10 ^ 6) → utc ≡ second_text value
    → codes "{\"stamp\":" ++ (number ++ ((46 ∷ []) ++ (fraction ++ ((codes ",\"utc\":" ++ codes "\"") ++ (utc ++ ((46 ∷ []) ++ (fraction ++ ((90 ∷ []) ++ codes "\""))))))))
    ≡ moment_members micros
unfolding moment_members utc_text
parts micros told value number fraction utc m v d f u =
    let digits = last_digits 6 (micros % 10 ^ 6) in
    let day = second_text (micros / 10 ^ 6) in
    rw (d, f, u, v, m) (regroup (codes "{\"stamp\":") (codes ",\"utc\":") (codes "\"") (decimal (micros / 10 ^ 6)) digits day
    ∙ ap (λ (s : List ℕ). codes "{\"stamp\":" ++ s ++ codes ",\"utc\":" ++ (codes "\"" ++ (day ++ (46 ∷ []) ++ digits ++ (90 ∷ [])) ++ codes "\"")) (pointed micros))

pub returns : goal.returns
returns c =
    let micros = c.micros-micros in
    let second = c.turn_to.new.self in
    subst (WritesBefore c.args.out.now c.bytes_before.new.out c.args.end c.bytes_before.result)
    (parts (stamp_micros c.args.stamp) micros.result second.value (drop second.from second.number) c.fraction_of-fraction.result second.utc micros.ensures.value c.turn_to.ensures
    second.number_is c.fraction_of-fraction.ensures second.utc_is)
    (before_then _ _ _ _ _ _ _ _ (before_then _ _ _ _ _ _ _ _ (before_then _ _ _ _ _ _ _ _ (before_then _ _ _ _ _ _ _ _ (before_then _ _ _ _ _ _ _ _ (before_then _ _ _ _ _ _ _ _ (before_then _ _ _ _ _ _ _ _ (before_then _ _ _ _ _ _ _ _
    c.bytes_before-zone.ensures.written c.bytes_before-places.ensures.written) c.byte_before-later.ensures) c.bytes_before-utc.ensures.written) c.bytes_before-key.ensures.written)
    c.bytes_before-decimals.ensures.written) c.byte_before-point.ensures) c.tail_before-seconds.ensures.written) c.bytes_before.ensures.written)
