use Rattle.j39_node.proofs.Common.{◌+◌, ◌≡◌, ap, arith, LaneRecord, Some}
use Rattle.j39_node.specs.Boxes.{how_many}
use Rattle.j39_node.proofs.lane.Lane.open.Goals as goal

pub returns-clause-opened : goal.returns-clause-opened
returns-clause-opened c = λ w i.
    let old = c.args.self.now in
    let none = ap how_many c.take.ensures.after in
    let free = ap how_many c.in_ok-kept.ensures.value in
    let boxes : 1 + how_many c.take.new.self ≡ how_many old.current + how_many old.free = let one = old.one in omega (arith, none, free, one) in
    (let l : LaneRecord = record { current = Some (c.new.ensures w i); count = 0; next_token = old.next_token + 1; boxes = boxes i } in l)
