-- Each group is untouched.
use Rattle.std.proofs.Common.{ap, length, subst, sym}
use Rattle.j39_memory.specs.Index.{IsIndex}
use Rattle.j39_memory.proofs.IndexLemmas.{index_start, shown_start}
use Rattle.j39_memory.proofs.by_group.ByGroup.new.Goals as goal

pub invariant_of-result-clause-sound : goal.invariant_of-result-clause-sound
invariant_of-result-clause-sound g c =
    let all = c.in_ok-index.ensures.items_if_clones_equal (λ y is. is) in
    subst (λ n. IsIndex c.in_ok-index.index.items n) (sym (ap length c.in_ok-values.ensures.items)) (index_start c.in_ok-index.index.items all)

pub returns : goal.returns
returns g c = λ same.
    shown_start c.in_ok-index.index.items c.in_ok-values.values.items c.args.value (c.in_ok-index.ensures.items_if_clones_equal (λ y is. is)) c.in_ok-values.ensures.items
