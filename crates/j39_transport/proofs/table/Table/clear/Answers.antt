use Rattle.std.proofs.Common.{◌≤◌, ◌+◌, ◌∙◌, None, arith, refl, subst, sym}
use Rattle.std.proofs.lemmas.Simd.{splat_is_map}
use Rattle.j39_transport.proofs.TableLemmas.{all_set, set_each}
use Rattle.j39_transport.proofs.table.Table.clear.Goals as goal

pub loop-i-init : goal.loop-i-init
loop-i-init g c = refl

pub loop-i-preserved : goal.loop-i-preserved
loop-i-preserved g c = c.take-dropped.ensures.after ∙ set_each (λ _. None) c.args.self.now c.loop-i.self c.loop-i.i (c.loop-i.i + 1) (omega arith) c.loop-i.invariant

pub returns : goal.returns
returns g c =
    c.loop-i.invariant ∙ all_set (λ _. None) c.args.self.now c.loop-i.i (subst (λ n. n ≤ c.loop-i.i) c.len-i-end.ensures.all c.loop-i-test.false)
    ∙ sym (splat_is_map c.args.self.now _ None (sym c.len-i-end.ensures.all ∙ c.len-i-end.ensures.number))
