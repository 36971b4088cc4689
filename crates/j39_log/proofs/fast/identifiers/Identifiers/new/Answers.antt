-- Eight digits 0 write 0.
use Rattle.std.proofs.Common.{◌∷◌, [], ◌≡◌, ◌∙◌, ap, List, Ok, lit<, refl, subst, sym, ℕ, map, arith}
use Rattle.std.specs.Prelude.{IfSome}
use Rattle.std.proofs.lemmas.List.{get_or-replicate}
use Rattle.j39_log.proofs.FormLemmas.{below_at}
use Rattle.j39_frame.specs.Identifier.{id_raw}
use Rattle.j39_frame.specs.declared.identifier.Id.{Id}
use Rattle.j39_log.specs.Lanes.{hex_lane}
use Rattle.j39_log.specs.Identifiers.{IsWritten}
use Rattle.j39_log.specs.declared.fast.identifiers.Known.{Known}
use Rattle.std.specs.Int.{to_be_bytes, to_le_bytes, w32, w64}
use Rattle.j39_log.proofs.LaneLemmas.{decoded_8}
use Rattle.j39_log.proofs.fast.identifiers.Identifiers.new.Goals as goal

abbrev zeros : List ℕ
zeros = 48 ∷ 48 ∷ 48 ∷ 48 ∷ 48 ∷ 48 ∷ 48 ∷ 48 ∷ []

zero_written : (id : Id) → id_raw id ≡ 0 → IsWritten (to_le_bytes w64 3472328296227680304) id
zero_written id e = record {
  digits_are =
      decoded_8 zeros (map hex_lane zeros) refl (below_at zeros (lit< tt, (lit< tt, (lit< tt, (lit< tt, (lit< tt, (lit< tt, (lit< tt, (lit< tt, tt)))))))))
      refl (lit< tt, (lit< tt, (lit< tt, (lit< tt, (lit< tt, (lit< tt, (lit< tt, (lit< tt, tt))))))))
      ∙ ap (λ n. Ok (to_be_bytes w32 n)) (sym e);
  fits = omega (arith, e);
}

pub invariant_of-result : goal.invariant_of-result
invariant_of-result c =
    let id : Id = c.unwrap-id.result in
    let known : Known = record { digits = 3472328296227680304; id = id } in
    let zero : id_raw id ≡ 0 = subst (λ o. IfSome o (λ (i : Id). id_raw i ≡ 0)) c.unwrap-id.ensures c.new.ensures.value in
    record { sound = λ place d below. subst (λ (k : Known). IsWritten (to_le_bytes w64 k.digits) k.id) (sym (get_or-replicate 2048 place known d below)) (zero_written id zero) }
