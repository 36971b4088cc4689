use Rattle.std.proofs.Common.{ap}
use Rattle.std.specs.Prelude.{Err}
use Rattle.j39_listen.proofs.AskLemmas.{asks_frame}
use Rattle.j39_listen.proofs.LineLemmas.{is_own, meets_own, tally}
use Rattle.j39_listen.proofs.PieceLemmas.{same_fault}
use Rattle.j39_listen.proofs.lines.Lines.read_frame.Goals as goal

pub returns-clause-read : goal.returns-clause-read
returns-clause-read g c = λ subject name named. record {
  met = tally 1 0 0;
  meets = meets_own (g.A.Account.has_met subject) name c.args.frame.now _ c.in-Some.bus c.args.self.now.account c.feed.new.self _ _ c.in-Some.is named
      (λ F before met. c.in-Ok.ensures.met subject F before (c.note_stamp.ensures subject _ F before met));
  tally_is = c.with-self.ensures;
}

pub returns-in-Err-clause-asked : goal.returns-in-Err-clause-asked
returns-in-Err-clause-asked g c = λ fails subject name named.
    let own = is_own c.args.self.now.bus c.in-Some.bus name c.in-Some.is named in
    asks_frame (g.A.Account.has_met subject) (g.A.Account.asks subject) name c.args.frame.now _ c.in-Some.bus c.args.self.now.account own.0 own.1
    (λ F output met. c.in-Err.ensures.asked (ap Err (same_fault _ _ fails)) subject F output (c.note_stamp.ensures subject _ F output met))
