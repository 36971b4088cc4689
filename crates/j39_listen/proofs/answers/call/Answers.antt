-- Time passes and the frame is heard, at the first one behind the start.
use Rattle.std.specs.Option.{option_to_list}
use Rattle.std.proofs.Common.{◌++◌, ℕ, ap, subst}
use Rattle.j39_frame.specs.Frame.{FrameRecord}
use Rattle.j39_frame.specs.Stamp.{stamp_micros}
use Rattle.j39_listen.specs.AnswersSoFar.{Obeys, hears, starts}
use Rattle.j39_listen.proofs.AnswerAccount.{obeys-append}
use Rattle.j39_listen.proofs.answers.call.Goals as goal

pub returns : goal.returns
returns c =
    let now = stamp_micros c.frame.inside.stamp in
    let f = c.args.frame.now in
    let sent = option_to_list c.start-started.result ++ option_to_list c.hear.result in
    subst (λ (t : ℕ). Obeys c.args.claimer.now (starts c.args.is_idle ++ hears f) t sent c.hear.new.claimer) (ap (λ (g : FrameRecord). g.stamp) c.frame.view_is)
    (obeys-append c.args.claimer.now c.start-started.new.claimer c.hear.new.claimer (starts c.args.is_idle) (hears f) now (option_to_list c.start-started.result)
    (option_to_list c.hear.result) c.start-started.ensures c.hear.ensures)
