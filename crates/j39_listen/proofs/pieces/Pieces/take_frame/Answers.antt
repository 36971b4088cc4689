-- The line's frame is taken.
use Rattle.std.proofs.Common.{ap, inr}
use Rattle.std.specs.Prelude.{Err}
use Rattle.j39_log.specs.Spelled.{frame}
use Rattle.j39_listen.proofs.PieceLemmas.{same_fault}
use Rattle.j39_listen.proofs.pieces.Pieces.take_frame.Goals as goal

pub returns-in-Ok-clause-steps : goal.returns-in-Ok-clause-steps
returns-in-Ok-clause-steps g c = λ subject begun h.
    let found = c.requires.line begun h in
    inr (record {
      line = found.line;
      ends = found.ends;
      begins = found.begins;
      spelled = frame found.name c.in-Some.frame;
      spells = found.spells.spells c.in-Some.frame c.in-Some.ensures;
      reads = c.in-Ok.ensures.read subject found.name found.bus_is;
    })

pub returns-in-Err-clause-stops : goal.returns-in-Err-clause-stops
returns-in-Err-clause-stops g c = λ fails subject begun h.
    let found = c.requires.line begun h in
    record {
      line = found.line;
      n = c.args.n;
      ends = found.ends;
      spelled = frame found.name c.in-Some.frame;
      spells = found.spells.spells c.in-Some.frame c.in-Some.ensures;
      stops = c.in-Err.ensures.stops (ap Err (same_fault _ _ fails)) subject found.name found.bus_is;
    }

pub returns-in-Err-clause-asked : goal.returns-in-Err-clause-asked
returns-in-Err-clause-asked g c = λ fails subject begun h.
    let found = c.requires.line begun h in
    record {
      line = found.line;
      n = c.args.n;
      ends = found.ends;
      spelled = frame found.name c.in-Some.frame;
      spells = found.spells.spells c.in-Some.frame c.in-Some.ensures;
      line_asks = c.in-Err.ensures.asked (ap Err (same_fault _ _ fails)) subject found.name found.bus_is;
    }
