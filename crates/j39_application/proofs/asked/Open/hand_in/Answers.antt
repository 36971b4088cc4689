use Rattle.std.proofs.Common.{[], ◌∙◌, ◌≡◌, ap, Err, Some}
use Rattle.std.specs.Option.{option_map}
use Rattle.j39_node.specs.declared.kinds.Refused.{Refused}
use Rattle.j39_node.specs.declared.kinds.Refused.TheVariants.{NoAddress, BadValue}
use Rattle.j39_application.specs.Answers.IsVain.{unanswered}
use Rattle.j39_application.specs.Boxes.{open_in}
use Rattle.j39_application.specs.Sending.{numbers}
use Rattle.j39_application.proofs.AnswerLemmas.{finds_no_room, goes_in, never_goes}
use Rattle.j39_application.proofs.asked.Open.hand_in.Goals as goal

pub returns-in-None-clause-leaves : goal.returns-in-None-clause-leaves
returns-in-None-clause-leaves c = λ _. record { calls = []; vain = unanswered (ap (option_map (λ v. v.items)) c.in-None.is); leads = λ w H h. h }

pub returns-in-Ok-clause-meets : goal.returns-in-Ok-clause-meets
returns-in-Ok-clause-meets c =
    let a : (open_in c.args.self.now).answer ≡ Some c.in-Some.bytes.items = ap (option_map (λ v. v.items)) c.in-Some.is in
    λ _. goes_in _ _ _ _ _ _ _ _ a c.reply-message.ensures c.as_slice.ensures.value c.send.ensures.goes c.in-Ok.field-0.number (ap numbers c.in-Ok.is)

pub returns-in-Err-NoAddress-clause-meets : goal.returns-in-Err-NoAddress-clause-meets
returns-in-Err-NoAddress-clause-meets c =
    let a : (open_in c.args.self.now).answer ≡ Some c.in-Some.bytes.items = ap (option_map (λ v. v.items)) c.in-Some.is in
    λ _. never_goes _ _ _ _ _ _ _ _ a c.reply-message.ensures c.as_slice.ensures.value c.send.ensures.goes NoAddress
    (ap numbers (c.in-Err-NoAddress.is ∙ ap (λ (r : Refused). Err r) c.in-Err-NoAddress.field-0-is)) (λ e. cc)

pub returns-in-Err-BadValue-clause-meets : goal.returns-in-Err-BadValue-clause-meets
returns-in-Err-BadValue-clause-meets c =
    let a : (open_in c.args.self.now).answer ≡ Some c.in-Some.bytes.items = ap (option_map (λ v. v.items)) c.in-Some.is in
    λ _. never_goes _ _ _ _ _ _ _ _ a c.reply-message.ensures c.as_slice.ensures.value c.send.ensures.goes BadValue
    (ap numbers (c.in-Err-BadValue.is ∙ ap (λ (r : Refused). Err r) c.in-Err-BadValue.field-0-is)) (λ e. cc)

pub returns-in-Err-Full-clause-leaves : goal.returns-in-Err-Full-clause-leaves
returns-in-Err-Full-clause-leaves c =
    let a : (open_in c.args.self.now).answer ≡ Some c.in-Some.bytes.items = ap (option_map (λ v. v.items)) c.in-Some.is in
    λ _. finds_no_room _ _ _ _ _ _ _ _ a c.reply-message.ensures c.as_slice.ensures.value c.send.ensures.goes
    (ap numbers (c.in-Err-Full.is ∙ ap (λ (r : Refused). Err r) c.in-Err-Full.field-0-is))
