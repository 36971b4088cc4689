use Rattle.j39_listen.proofs.AskLemmas.{asks_last_line}
use Rattle.j39_listen.proofs.PieceLemmas.{each_reads_last, stops_last_line}
use Rattle.j39_listen.proofs.pieces.Pieces.take_last.Goals as goal

pub returns-in-Some-clause-reads : goal.returns-in-Some-clause-reads
returns-in-Some-clause-reads g c =
    each_reads_last g.A.Account.has_met c.args.self.now.splitter _ c.args.self.now.lines c.read_raw.new.self _ _ _ c.in-Some.ensures.line c.read_raw.ensures.read

pub returns-in-Some-clause-stops : goal.returns-in-Some-clause-stops
returns-in-Some-clause-stops g c = λ fails subject.
    stops_last_line (g.A.Account.has_met subject) (g.A.Account.makes subject) c.args.self.now.splitter _ c.args.self.now.lines _ _ c.in-Some.ensures.line (c.read_raw.ensures.stops fails subject)

pub returns-in-Some-clause-asked : goal.returns-in-Some-clause-asked
returns-in-Some-clause-asked g c = λ fails subject.
    asks_last_line (g.A.Account.has_met subject) (g.A.Account.asks subject) c.args.self.now.splitter _ c.args.self.now.lines c.in-Some.ensures.line (c.read_raw.ensures.asked fails subject)
