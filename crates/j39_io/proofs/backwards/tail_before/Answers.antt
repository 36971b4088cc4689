-- The block is written, and its tail is what counts.
use Rattle.std.proofs.Common.{arith, length-drop}
use Rattle.j39_io.proofs.BackwardsLemmas.{drop_part}
use Rattle.j39_io.proofs.backwards.tail_before.Goals as goal

pub returns-clause-written : goal.returns-clause-written
returns-clause-written g c = rw c.put_block.ensures (record {
  starts = (let len = length-drop c.args.from c.args.block.now in omega (arith, len));
  written = drop_part c.args.out.now c.args.block.now c.args.end g.row.N c.args.from c.requires.room c.requires.within (omega arith) c.requires.from;
})
