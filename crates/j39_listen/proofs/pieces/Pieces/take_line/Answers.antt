-- Most lines are those of a frame of the bus.
use Rattle.std.proofs.Common.{inr}
use Rattle.j39_log.specs.Spelled.{frame}
use Rattle.j39_listen.proofs.PassLemmas.{reads_one}
use Rattle.j39_listen.proofs.pieces.Pieces.take_line.Goals as goal

pub returns-then-passes_over-clause-steps : goal.returns-then-passes_over-clause-steps
returns-then-passes_over-clause-steps g c = λ subject begun h.
    let found = c.in-Some-line_on.ensures.line begun h in
    let its = found.spells in
    inr (record {
      line = found.line;
      ends = found.ends;
      begins = found.begins;
      spelled = frame found.name its.frame;
      spells = its.spells its.frame its.is_its;
      reads = reads_one (g.A.Account.has_met subject) found.name its.frame c.args.self.now.lines _ _ c.pass_over.ensures found.bus_is (c.passes_over.ensures c.if-passes_over.true subject found.name its.frame _ its.is_its.id_is);
    })
