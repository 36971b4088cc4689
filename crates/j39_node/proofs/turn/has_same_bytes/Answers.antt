use Rattle.j39_node.proofs.Common.{bytes_eq-Decides, length, sym, ◌∙◌, ◌≤◌}
use Rattle.std.proofs.Common.{rules, take_all}
use Rattle.j39_node.proofs.turn.has_same_bytes.Goals as goal

pub returns : goal.returns
returns c =
    let n = c.loop-place.place in
    let one : length c.args.one.now ≤ n = search rules in
    let other : length c.args.other.now ≤ n = search rules in
    sym ((bytes_eq-Decides c.args.one.now c.args.other.now).1
    (sym (take_all n c.args.one.now one) ∙ (c.loop-place.invariant ∙ take_all n c.args.other.now other)))
