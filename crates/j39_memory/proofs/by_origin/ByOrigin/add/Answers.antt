-- One more place, and one more origin.
use Rattle.std.proofs.Common.{◌≡◌, ◌∷◌, ◌++◌, [], ◌∙◌, ap, length, rules}
use Rattle.j39_memory.proofs.TreeLemmas.{apart_more, placed_more}
use Rattle.j39_memory.proofs.by_origin.ByOrigin.add.Goals as goal

pub invariant_of-self-in-Ok : goal.invariant_of-self-in-Ok
invariant_of-self-in-Ok g c =
    let all = c.args.self.now in
    let items = c.push_reserved.ensures.items ∙ ap (λ xs. xs ++ (c.args.origin, c.args.value) ∷ []) c.try_reserve.ensures.items in
    let count : c.len-place.result ≡ length all.values.items = search rules in
    record {
      placed = placed_more all.places c.insert.new.self all.values.items c.push_reserved.new.self.items c.args.origin c.args.value c.len-place.result c.requires count items all.placed c.in-Ok.ensures.updates.0;
      apart = apart_more all.values.items c.push_reserved.new.self.items c.args.origin c.args.value c.requires items all.apart;
      few = search rules;
    }
