use Rattle.j39_sessions.proofs.Common.{◌∙◌, ap, arith, bytes_of, is_over, option_map, RecvResult, refl, session_in, stamp_micros, sym, to_send, false, ◌≡◌}
use Rattle.j39_transport.specs.Receiving.{ReceiverAnswer}
use Rattle.j39_sessions.proofs.StepLemmas.{tick_is}
use Rattle.j39_sessions.proofs.seat.Seat.tick.Goals as goal

pub returns-in-Some-clause-says : goal.returns-in-Some-clause-says
returns-in-Some-clause-says c =
    let v = c.latest.ensures.value in
    let m = c.micros.ensures.value in
    let l = c.if-latest-micros.false in
    let over : is_over (stamp_micros c.args.now) (session_in c.args.self.now) ≡ false = grind (arith, v, m, l) in
    let s = tick_is c.args.self.now.receiver.state (session_in c.args.self.now) (stamp_micros c.args.now) c.tick.ensures.step.found c.requires refl over in
    sym (ap (λ o. bytes_of (option_map to_send o)) c.in-Some.is) ∙ (ap (λ (a : ReceiverAnswer). bytes_of a.sends) c.tick.ensures.step.answers ∙ sym (ap (λ (x : RecvResult). bytes_of x.sends) s))

pub returns-in-Some-clause-state : goal.returns-in-Some-clause-state
returns-in-Some-clause-state c =
    let v = c.latest.ensures.value in
    let m = c.micros.ensures.value in
    let l = c.if-latest-micros.false in
    let over : is_over (stamp_micros c.args.now) (session_in c.args.self.now) ≡ false = grind (arith, v, m, l) in
    c.tick.ensures.step.after ∙ sym (ap (λ (x : RecvResult). x.after) (tick_is c.args.self.now.receiver.state (session_in c.args.self.now) (stamp_micros c.args.now) c.tick.ensures.step.found c.requires refl over))

pub returns-in-None-clause-says : goal.returns-in-None-clause-says
returns-in-None-clause-says c =
    let v = c.latest.ensures.value in
    let m = c.micros.ensures.value in
    let l = c.if-latest-micros.false in
    let over : is_over (stamp_micros c.args.now) (session_in c.args.self.now) ≡ false = grind (arith, v, m, l) in
    let s = tick_is c.args.self.now.receiver.state (session_in c.args.self.now) (stamp_micros c.args.now) c.tick.ensures.step.found c.requires refl over in
    sym (ap (λ o. bytes_of (option_map to_send o)) c.in-None.is) ∙ (ap (λ (a : ReceiverAnswer). bytes_of a.sends) c.tick.ensures.step.answers ∙ sym (ap (λ (x : RecvResult). bytes_of x.sends) s))

pub returns-in-None-clause-state : goal.returns-in-None-clause-state
returns-in-None-clause-state c =
    let v = c.latest.ensures.value in
    let m = c.micros.ensures.value in
    let l = c.if-latest-micros.false in
    let over : is_over (stamp_micros c.args.now) (session_in c.args.self.now) ≡ false = grind (arith, v, m, l) in
    c.tick.ensures.step.after ∙ sym (ap (λ (x : RecvResult). x.after) (tick_is c.args.self.now.receiver.state (session_in c.args.self.now) (stamp_micros c.args.now) c.tick.ensures.step.found c.requires refl over))
