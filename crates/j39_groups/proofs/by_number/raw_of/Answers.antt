-- A valid raw number fits 32 bits, so it is the slot's.
use Rattle.std.proofs.Common.{sym, subst, ◌≡◌, ◌∙◌, ap, true, w64}
use Rattle.std.proofs.lemmas.Bool.{false≢true}
use Rattle.j39_groups.specs.Ranges.{top_byte, is_valid}
use Rattle.std.specs.Prelude.{IsSomeAnd}
use Rattle.std.proofs.lemmas.Int.{to_z-of_z}
use Rattle.j39_groups.specs.Slots.{IsAt, IsRawIn}
use Rattle.j39_groups.specs.Models.{scale_record}
use Rattle.j39_groups.proofs.SlotLemmas.{valid_fits, some_same}
use Rattle.j39_groups.proofs.by_number.raw_of.Goals as goal

pub returns-in_err-raw-clause-only : goal.returns-in_err-raw-clause-only
returns-in_err-raw-clause-only c = λ raw is.
    let sized = c.in_ok-sized.sized in
    let here = subst (λ o. IsSomeAnd o (λ sized. IsRawIn sized c.args.value raw)) (sym c.in_ok-sized.ensures.value) is in
    let small = valid_fits sized.count raw c.in_ok-sized.ensures.sound.some c.in_ok-sized.ensures.sound.narrow here.valid in
    let value = to_z-of_z w64 c.args.value c.ranges.value in
    c.from_residual-in_err-raw.ensures ∙ c.in_err-raw.ensures.only raw small (subst (λ z. IsAt (scale_record sized.scale) z raw) (sym value) here.at)

pub returns-then-not-is_valid-clause-only : goal.returns-then-not-is_valid-clause-only
returns-then-not-is_valid-clause-only c = λ raw is.
    let sized = c.in_ok-sized.sized in
    let here = subst (λ o. IsSomeAnd o (λ sized. IsRawIn sized c.args.value raw)) (sym c.in_ok-sized.ensures.value) is in
    let small = valid_fits sized.count raw c.in_ok-sized.ensures.sound.some c.in_ok-sized.ensures.sound.narrow here.valid in
    let value = to_z-of_z w64 c.args.value c.ranges.value in
    let same = some_same _ _ (c.in_ok-raw.ensures.only raw small (subst (λ z. IsAt (scale_record sized.scale) z raw) (sym value) here.at)) in
    let is_one : c.is_valid.result ≡ true =
    c.is_valid.ensures ∙ ap is_valid (c.top_byte.ensures ∙ ap (top_byte sized.count) same) ∙ here.valid in
    absurd (false≢true (sym c.if-not-is_valid.true ∙ is_one))

pub returns-clause-only : goal.returns-clause-only
returns-clause-only c = λ raw is.
    let sized = c.in_ok-sized.sized in
    let here = subst (λ o. IsSomeAnd o (λ sized. IsRawIn sized c.args.value raw)) (sym c.in_ok-sized.ensures.value) is in
    let small = valid_fits sized.count raw c.in_ok-sized.ensures.sound.some c.in_ok-sized.ensures.sound.narrow here.valid in
    let value = to_z-of_z w64 c.args.value c.ranges.value in
    c.in_ok-raw.ensures.only raw small (subst (λ z. IsAt (scale_record sized.scale) z raw) (sym value) here.at)
