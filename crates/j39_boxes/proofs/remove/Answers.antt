use Rattle.std.proofs.Common.{◌≡◌, ◌+◌, ◌-◌, ◌<◌, ◌∙◌, suc, length, ap, arith, get_or, refl, subst, sym, rules}
use Rattle.std.specs.List.{remove, SameBelow, ShiftedDown}
use Rattle.j39_boxes.proofs.remove.Given
use Rattle.j39_boxes.proofs.CarryLemmas.{carried, carried_next, nearer, none_carried, stays, taken}
use Rattle.j39_boxes.proofs.remove.Goals as goal

pub loop-behind-init : goal.loop-behind-init
loop-behind-init g c =
    let none : 0 ≡ c.args.place + 1 - (c.args.place + 1) = omega arith in
    record {
      carried = none_carried c.args.place c.args.boxes.now.items ∙ ap (λ k. carried c.args.place k c.args.boxes.now.items) none;
      begun = omega arith;
      length = refl;
      capacity = refl;
    }

pub loop-behind-preserved : goal.loop-behind-preserved
loop-behind-preserved g c =
    let i = c.loop-behind.behind in
    let p = c.args.place in
    let begun = c.loop-behind.invariant.begun in
    let below : i < length c.args.boxes.now.items = search rules in
    let one : suc (i - (p + 1)) ≡ i + 1 - (p + 1) = omega (arith, begun) in
    record {
      carried = carried_next p (i - (p + 1)) (i - 1) i c.args.boxes.now.items c.loop-behind.boxes.items c.swap.new.self.items c.loop-behind.invariant.carried
          (omega (arith, begun)) (omega (arith, begun)) below c.swap.ensures.by_index.3
          ∙ ap (λ k. carried p k c.args.boxes.now.items) one;
      begun = omega (arith, begun);
      length = search rules;
      capacity = search rules;
    }

module _ (g : Given.Over) (c : goal.After-take_last g) where
  others : (c.take_last.new.self.items ≡ remove c.args.boxes.now.items c.args.place) × (c.take_last.result ≡ get_or c.args.boxes.now.items c.args.place c.take_last.result)
  others =
      let begun = c.loop-behind.invariant.begun in
      let all : suc (c.args.place + (c.loop-behind.behind - (c.args.place + 1))) ≡ length c.args.boxes.now.items = search rules in
      taken c.args.place (c.loop-behind.behind - (c.args.place + 1)) c.take_last.result c.args.boxes.now.items c.take_last.new.self.items all
      (sym c.loop-behind.invariant.carried ∙ c.take_last.ensures.items)

pub returns-clause-value : goal.returns-clause-value
returns-clause-value g c = (others g c).1

pub returns-clause-items : goal.returns-clause-items
returns-clause-items g c = (others g c).0

pub returns-clause-by_index : goal.returns-clause-by_index
returns-clause-by_index g c =
    let xs = c.args.boxes.now.items in
    let same = sym (others g c).0 in
    (subst (λ ys. SameBelow xs ys c.args.place) same (stays xs c.args.place), subst (λ ys. ShiftedDown xs ys c.args.place) same (nearer xs c.args.place))
