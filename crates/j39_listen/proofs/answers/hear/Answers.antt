-- Time passes, and then the frame is heard.
use Rattle.std.proofs.Common.{None, [], ◌∷◌}
use Rattle.std.specs.Option.{option_to_list}
use Rattle.j39_address.specs.Call.{call_of}
use Rattle.j39_address.specs.Call.Call.{Tick}
use Rattle.j39_frame.specs.Stamp.{stamp_micros}
use Rattle.j39_listen.proofs.AnswerAccount.{obeys-append, obeys_one}
use Rattle.j39_listen.proofs.answers.hear.Goals as goal

pub returns : goal.returns
returns c =
    let now = stamp_micros c.args.now in
    let call = call_of c.args.frame.now in
    obeys-append c.args.claimer.now c.tick.new.self c.on.new.self (Tick ∷ []) (call ∷ []) now [] (option_to_list c.on.result)
    (obeys_one c.args.claimer.now c.tick.new.self Tick now None c.tick.ensures) (obeys_one c.tick.new.self c.on.new.self call now c.on.result c.on.ensures)
