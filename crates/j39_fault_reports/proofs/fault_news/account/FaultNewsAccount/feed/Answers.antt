use Rattle.j39_fault_reports.proofs.Common.{ap, refl, Err, same_fault}
use Rattle.j39_fault_reports.specs.declared.fault_news.account.FaultNews.{FaultNews}
use Rattle.j39_fault_reports.proofs.FaultAccountLemmas.{news_asks, news_meets, news_stops}
use Rattle.j39_fault_reports.proofs.fault_news.account.FaultNewsAccount.feed.Goals as goal

pub returns-in-Ok-clause-met : goal.returns-in-Ok-clause-met
returns-in-Ok-clause-met g c =
    let news : FaultNews = record {
      alloc = c.args.self.now.alloc;
      writing = c.args.self.now.writing;
      choice = c.args.self.now.choice;
      chooser = c.note.new.self;
      listener = c.put_frame.new.listener;
      last = c.put_frame.new.last;
      made = c.and-self.result;
      announced = c.put_frame.new.announced;
    } in
    λ (form, subject). news_meets form subject c.args.self.now news refl refl c.args.frame.now c.in-Ok.made _ _ c.note.ensures c.in-Ok.ensures.met c.and-self.ensures

pub returns-in-Err-clause-stops : goal.returns-in-Err-clause-stops
returns-in-Err-clause-stops g c = λ fails (form, subject).
    news_stops form subject c.args.self.now c.note.new.self c.args.frame.now _ _ c.note.ensures (c.in-Err.ensures.stops (ap Err (same_fault _ _ fails))) c.args.arg2.now

pub returns-in-Err-clause-asked : goal.returns-in-Err-clause-asked
returns-in-Err-clause-asked g c = λ fails (form, subject) F output has.
    news_asks form subject c.args.self.now c.note.new.self c.args.frame.now c.note.ensures (c.in-Err.ensures.asked (ap Err (same_fault _ _ fails))) F output has
