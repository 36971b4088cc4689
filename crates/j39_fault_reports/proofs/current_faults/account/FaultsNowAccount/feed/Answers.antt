use Rattle.std.proofs.Common.{refl}
use Rattle.j39_fault_reports.specs.declared.current_faults.account.FaultsNow.{FaultsNow}
use Rattle.j39_fault_reports.proofs.CurrentAccountLemmas.{now_asks, now_meets}
use Rattle.j39_fault_reports.proofs.current_faults.account.FaultsNowAccount.feed.Goals as goal

pub returns-in-Ok-clause-met : goal.returns-in-Ok-clause-met
returns-in-Ok-clause-met g c =
    let after : FaultsNow = record {
      alloc = c.args.self.now.alloc;
      writing = c.args.self.now.writing;
      conversions = c.args.self.now.conversions;
      chooser = c.note.new.self;
      listener = c.take_frame.new.listener;
      places = c.take_frame.new.places;
      messages = c.saturating_add-self.result;
      announced = c.take_frame.new.announced;
      last = c.last_with-self.result;
    } in
    λ (form, subject). now_meets form subject c.args.self.now after refl refl c.args.frame.now c.in-Ok.messages _ c.note.ensures c.in-Ok.ensures.taken c.last_with-self.ensures c.saturating_add-self.ensures

pub returns-in-Err-clause-asked : goal.returns-in-Err-clause-asked
returns-in-Err-clause-asked g c = λ fails (form, subject) F output has.
    now_asks form subject c.args.self.now c.note.new.self F c.args.frame.now output c.note.ensures c.in-Err.ensures.asked has
