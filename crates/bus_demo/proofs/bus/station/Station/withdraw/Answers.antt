-- One message after another.
use Rattle.std.proofs.Common.{◌∙◌, ap}
use Rattle.bus_demo.specs.Calls.{is_taking}
use Rattle.bus_demo.specs.declared.bus.book.Book.{Book}
use Rattle.bus_demo.proofs.CallLemmas.{calls_then}
use Rattle.bus_demo.proofs.bus.station.Station.withdraw.Goals as goal

pub loop-message-preserved : goal.loop-message-preserved
loop-message-preserved c =
    let inv = c.loop-message.invariant in
    let one = c.withdraw_next.ensures in (
      calls_then is_taking c.args.self.now.controller c.loop-message.self.controller c.withdraw_next.new.self.controller inv.0 one.calls,
      one.fates ∙ ap (λ (b : Book). record b { handed = c.withdraw_next.new.book.handed }) inv.1,
      one.count ∙ inv.2,
    )
