use Rattle.j39_log.specs.LineRead.{spelled_of}
use Rattle.j39_listen.proofs.PieceLemmas.{each_reads}
use Rattle.j39_listen.proofs.lines.Lines.read_raw.Goals as goal

pub returns-clause-read : goal.returns-clause-read
returns-clause-read g c =
    each_reads g.A.Account.has_met c.args.raw (spelled_of c.read.result) c.args.self.now c.read-2.new.self _ _ _ c.read.ensures.spelled c.read-2.ensures.read

pub returns-clause-stops : goal.returns-clause-stops
returns-clause-stops g c = λ fails subject line cut.
    let spells = c.read.ensures.spelled line cut in
    (spelled_of c.read.result, spells, c.read-2.ensures.stops fails subject (line, spells))

pub returns-clause-asked : goal.returns-clause-asked
returns-clause-asked g c = λ fails subject line cut.
    let spells = c.read.ensures.spelled line cut in
    (spelled_of c.read.result, spells, c.read-2.ensures.asked fails subject (line, spells))
