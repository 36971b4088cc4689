-- The value at the place is the new one, and its origin stays.
use Rattle.std.proofs.Common.{◌≡◌, ◌∙◌, ap, List, Some, refl, rules, subst, sym}
use Rattle.std.proofs.lemmas.Option.{slice_get_read}
use Rattle.std.specs.List.{IsDistinct}
use Rattle.std.specs.Prelude.{position, slice_get}
use Rattle.j39_frame.specs.Origin.{is_same}
use Rattle.j39_frame.specs.declared.origin.Origin.{Origin}
use Rattle.j39_frame.proofs.PlaceLemmas.{keys_set}
use Rattle.j39_memory.proofs.by_origin.ByOrigin.change.Goals as goal

pub invariant_of-self : goal.invariant_of-self
invariant_of-self g c =
    let all = c.args.self.now in
    let here : slice_get all.values.items c.args.place ≡ Some c.index_mut.result.now = slice_get_read _ _ _ _ refl c.requires c.index_mut.ensures.value in
    let keys = keys_set all.values.items c.args.place c.index_mut.result.now.0 c.index_mut.result.now.1 c.make.new.value here in
    record {
      placed = λ q. all.placed q ∙ ap (λ (os : List Origin). position (is_same q) os) (sym keys);
      apart = subst (IsDistinct is_same) (sym keys) all.apart;
      few = search rules;
    }

pub returns : goal.returns
returns g c =
    (c.index_mut.result.now.0, c.index_mut.result.now.1, c.make.new.value, c.make.ensures, slice_get_read _ _ _ _ refl c.requires c.index_mut.ensures.value, refl)
