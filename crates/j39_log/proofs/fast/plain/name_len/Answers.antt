use Rattle.std.proofs.Common.{arith}
use Rattle.j39_log.proofs.PlainLemmas.{run_in_block}
use Rattle.j39_log.proofs.fast.plain.name_len.Goals as goal

pub returns-in-Some : goal.returns-in-Some
returns-in-Some c =
    let cut = c.in-Some.ensures.cases in
    run_in_block c.args.text.now c.in-Some.block.now c.in-Some.field-0-1.now c.gaps_of.result cut.0 cut.1 (omega arith) c.gaps_of.ensures
