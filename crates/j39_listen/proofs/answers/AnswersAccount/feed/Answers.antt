use Rattle.std.proofs.Common.{◌≡◌, ap, false, refl}
use Rattle.std.specs.Option.{option_map}
use Rattle.j39_address.specs.Command.{command_by}
use Rattle.j39_frame.specs.Frame.{FrameRecord}
use Rattle.j39_frame.specs.Stamp.{stamp_micros}
use Rattle.j39_listen.specs.declared.answers.Answers.{Answers}
use Rattle.j39_listen.specs.declared.answers.Sent.{Sent}
use Rattle.j39_listen.proofs.AnswerAccount.{answers_meet, answers_stop, obeys_all}
use Rattle.j39_listen.proofs.answers.AnswersAccount.feed.Goals as goal

pub returns-in-Ok-put_sent-clause-met : goal.returns-in-Ok-put_sent-clause-met
returns-in-Ok-put_sent-clause-met g c =
    let now : stamp_micros c.frame.inside.stamp ≡ c.args.frame.now.stamp = ap (λ (f : FrameRecord). f.stamp) c.frame.view_is in
    let sent : Sent = record { started = c.call-started.result.0; answered = c.call-started.result.1; obeyed = c.obey-obeyed.result } in
    let answers : Answers = record { claimer = c.obey-obeyed.new.claimer; listener = c.notice.new.listener; is_idle = false; made = c.and-self.result } in
    let obeys = obeys_all c.args.self.now.claimer c.call-started.new.claimer c.obey-obeyed.new.claimer c.args.self.now.is_idle c.args.frame.now (option_map command_by c.in-Ok.noticed.command)
    sent _ now c.call-started.ensures c.obey-obeyed.ensures in
    answers_meet c.args.self.now answers c.args.bus.now c.args.frame.now c.in-Ok.noticed sent c.in-Ok-put_sent.lines _ _
    c.in-Ok.ensures.notices c.in-Ok.ensures.hears obeys refl c.in-Ok-put_sent.ensures.lines c.and-self.ensures c.in-Ok-put_sent.ensures.puts.written

pub returns-in-Err-put_sent-clause-stops : goal.returns-in-Err-put_sent-clause-stops
returns-in-Err-put_sent-clause-stops g c = λ fails.
    let now : stamp_micros c.frame.inside.stamp ≡ c.args.frame.now.stamp = ap (λ (f : FrameRecord). f.stamp) c.frame.view_is in
    let sent : Sent = record { started = c.call-started.result.0; answered = c.call-started.result.1; obeyed = c.obey-obeyed.result } in
    let obeys = obeys_all c.args.self.now.claimer c.call-started.new.claimer c.obey-obeyed.new.claimer c.args.self.now.is_idle c.args.frame.now (option_map command_by c.in-Ok.noticed.command)
    sent _ now c.call-started.ensures c.obey-obeyed.ensures in
    answers_stop c.args.self.now c.obey-obeyed.new.claimer c.args.bus.now c.args.frame.now c.in-Ok.noticed sent _ _
    c.in-Ok.ensures.notices obeys c.in-Err-put_sent.ensures.puts.front

pub returns-in-Err-clause-asked : goal.returns-in-Err-clause-asked
returns-in-Err-clause-asked g c = λ fails subject F output met. c.in-Err.ensures.asked F met.hears
