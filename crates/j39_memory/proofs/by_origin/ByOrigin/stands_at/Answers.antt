-- What stands at the place is the value of its origin.
use Rattle.std.proofs.Common.{◌≡◌, ◌∙◌, Some, ap, ltb-true, refl, sym}
use Rattle.std.proofs.lemmas.Option.{slice_get_read}
use Rattle.std.specs.Prelude.{slice_get}
use Rattle.j39_frame.specs.Origin.{is_same}
use Rattle.j39_frame.proofs.PlaceLemmas.{guessed, stands}
use Rattle.j39_memory.proofs.by_origin.ByOrigin.stands_at.Goals as goal

pub returns-in-Some : goal.returns-in-Some
returns-in-Some g c =
    let es = c.args.self.now.values.items in
    let entry = c.in-Some.field-0.now in
    let found = c.in-Some.ensures.lookup in
    let here : slice_get es c.args.place ≡ Some entry =
    ap (λ xs. slice_get xs c.args.place) (sym c.deref.ensures.value) ∙ slice_get_read c.deref.result.now _ c.args.place entry refl (ltb-true c.args.place _ (sym found.0)) found.1 in
    let test : c.eq.result ≡ is_same entry.0 c.args.origin = c.eq.ensures in (
      λ yes. guessed es c.args.place entry c.args.origin c.args.self.now.apart here (sym test ∙ yes),
      λ place. test ∙ stands es c.args.place entry c.args.origin here place,
    )
