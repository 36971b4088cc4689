-- Both halves, one behind the other.
use Rattle.j39_reports.proofs.Common.{◌+◌, arith, subst}
use Rattle.j39_reports.specs.Forwards.{WritesBehind}
use Rattle.j39_reports.proofs.ForwardLemmas.{behind_then, parts_joined}
use Rattle.j39_reports.proofs.head.Head.put_behind.Goals as goal

pub returns-clause-written : goal.returns-clause-written
returns-clause-written c =
    let head = c.args.self.now in
    subst (WritesBehind c.args.out.now c.part_behind-2.new.out c.args.at c.part_behind-2.result)
    (parts_joined head.block head.from (head.from + 96) 192 (omega arith) (omega (arith, c.if-self-ge-HALF.false)))
    (behind_then _ _ _ _ _ _ _ _ c.part_behind-middle.ensures.written c.part_behind-2.ensures.written)
