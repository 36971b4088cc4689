-- What a line counts for goes to the tally.
use Rattle.j39_listen.specs.LinesSoFar.{met_tally}
use Rattle.j39_listen.proofs.lines.Lines.read.Goals as goal

pub returns-clause-read : goal.returns-clause-read
returns-clause-read g c = λ subject spelling. record {
  met = met_tally c.in-Ok.met;
  meets = c.in-Ok.ensures.met subject spelling;
  tally_is = c.with-self.ensures;
}
