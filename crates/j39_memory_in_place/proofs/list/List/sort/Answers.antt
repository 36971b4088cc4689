-- The places in use are sorted, and those behind stay.
use Rattle.std.proofs.Common.{◌≡◌, ◌==◌, ◌∙◌, ap, drop, filter, length, rules}
use Rattle.j39_memory_in_place.proofs.SettlingLemmas.{in_front}
use Rattle.j39_memory_in_place.proofs.list.List.sort.Goals as goal

pub returns-clause-kept : goal.returns-clause-kept
returns-clause-kept g c = λ key.
    let list = c.args.self.now in
    let long : list.len ≡ length c.settle_all.new.items = search rules in
    ap (filter (λ item. g.T.Keyed.key_of item == key)) (in_front list.len c.settle_all.new.items (drop list.len list.places) long)
    ∙ c.settle_all.ensures.kept key
