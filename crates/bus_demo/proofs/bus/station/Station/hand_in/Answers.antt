-- One call hands it in.
use Rattle.std.proofs.Common.{ap, subst, sym}
use Rattle.std.specs.Result.{is_ok}
use Rattle.j39_frame.specs.Stamp.{stamp_micros}
use Rattle.j39_node.specs.History.Call.{At}
use Rattle.j39_node.specs.declared.controller.Controller.{Controller}
use Rattle.j39_application.specs.Sending.{draft_of, numbers, sent_as}
use Rattle.bus_demo.specs.Calls.{Calls, Continues, is_handing}
use Rattle.bus_demo.proofs.CallLemmas.{handed}
use Rattle.bus_demo.proofs.bus.station.Station.hand_in.Goals as goal

pub returns-in-Ok-clause-goes : goal.returns-in-Ok-clause-goes
returns-in-Ok-clause-goes c =
    let call = At (stamp_micros c.args.now) (sent_as (draft_of c.args.message.now) (numbers c.send.result)) in
    record {
      answer = numbers c.send.result;
      accepts = sym (ap (λ r. is_ok (numbers r)) c.in-Ok.is);
      goes = subst (λ (new : Controller). Continues call c.args.self.now.controller new) (sym c.number.ensures) c.send.ensures.goes;
    }

pub returns-in-Err-clause-goes : goal.returns-in-Err-clause-goes
returns-in-Err-clause-goes c = record {
  answer = numbers c.send.result;
  accepts = sym (ap (λ r. is_ok (numbers r)) c.in-Err.is);
  goes = c.send.ensures.goes;
}

pub returns-in-Ok-clause-calls : goal.returns-in-Ok-clause-calls
returns-in-Ok-clause-calls c =
    let now = stamp_micros c.args.now in
    let old = c.args.self.now.controller in
    subst (λ (new : Controller). Calls (is_handing now) old new) (sym c.number.ensures)
    (handed now (draft_of c.args.message.now) (numbers c.send.result) old c.send.new.controller c.send.ensures.goes)

pub returns-in-Err-clause-calls : goal.returns-in-Err-clause-calls
returns-in-Err-clause-calls c =
    handed (stamp_micros c.args.now) (draft_of c.args.message.now) (numbers c.send.result) c.args.self.now.controller c.send.new.controller c.send.ensures.goes
