-- The bytes are copied, and those up to the end count.
use Rattle.j39_reports.proofs.Common.{◌≡◌, ◌-◌, ◌∙◌, ◌++◌, ap, arith, drop, length, take}
use Rattle.std.proofs.lemmas.List.{length-drop, length-take-le, take-take}
use Rattle.j39_reports.proofs.ForwardLemmas.{take_part}
use Rattle.j39_reports.proofs.forwards.part_behind.Goals as goal

pub returns-clause-written : goal.returns-clause-written
returns-clause-written g c =
    let whole = c.bytes_at-whole.result in
    let rest = drop c.args.from c.args.block.now in
    let count = c.args.until - c.args.from in
    let all : length rest ≡ length c.args.block.now - c.args.from = length-drop c.args.from c.args.block.now in
    let long : length whole ≡ g.row.N = ap length c.bytes_at-whole.ensures ∙ length-take-le g.row.N rest (let r = c.requires.block in omega (arith, all, r)) in
    rw c.put_bytes.ensures (record {
      ends = (let len = length-take-le count rest (let r = c.requires.block in let f = c.requires.few in let o = c.requires.order in omega (arith, all, r, f, o)) in omega (arith, len));
      written = take_part c.args.out.now whole _ c.args.at count (let r = c.requires.room in omega (arith, r)) (let f = c.requires.few in let o = c.requires.order in omega (arith, long, f, o))
          ∙ ap (λ xs. take c.args.at c.args.out.now ++ take count xs) c.bytes_at-whole.ensures
          ∙ ap (λ xs. take c.args.at c.args.out.now ++ xs) (take-take count g.row.N rest (let f = c.requires.few in let o = c.requires.order in omega (arith, f, o)));
    })
