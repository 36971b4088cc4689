use Rattle.std.proofs.Common.{◌∙◌, ap, Err}
use Rattle.j39_node.specs.declared.kinds.Refused.{Refused}
use Rattle.j39_node.specs.declared.kinds.Refused.TheVariants.{NoAddress, BadValue}
use Rattle.j39_application.proofs.AnswerLemmas.{is_never_told, is_not_told_yet, is_told, is_too_late}
use Rattle.j39_application.proofs.asked.Open.refuse.Goals as goal

pub returns-then-self : goal.returns-then-self
returns-then-self c = record { meets = λ first h z. is_too_late _ _ first _ h z c.if-self.true }

pub returns-in-Ok : goal.returns-in-Ok
returns-in-Ok c = record { meets = λ first h z. is_told _ _ _ _ first _ _ h z c.if-self.false c.request.ensures c.acknowledge.ensures c.in-Ok.is }

pub returns-in-Err-NoAddress : goal.returns-in-Err-NoAddress
returns-in-Err-NoAddress c = record {
  meets = λ first h z. is_never_told _ _ _ _ first _ _ h z c.if-self.false c.request.ensures c.acknowledge.ensures NoAddress
      (c.in-Err-NoAddress.is ∙ ap (λ (r : Refused). Err r) c.in-Err-NoAddress.field-0-is) (λ e. cc);
}

pub returns-in-Err-BadValue : goal.returns-in-Err-BadValue
returns-in-Err-BadValue c = record {
  meets = λ first h z. is_never_told _ _ _ _ first _ _ h z c.if-self.false c.request.ensures c.acknowledge.ensures BadValue
      (c.in-Err-BadValue.is ∙ ap (λ (r : Refused). Err r) c.in-Err-BadValue.field-0-is) (λ e. cc);
}

pub returns-in-Err-Full : goal.returns-in-Err-Full
returns-in-Err-Full c = record {
  meets = λ first h z. is_not_told_yet _ _ _ _ first _ _ h z c.if-self.false c.request.ensures c.acknowledge.ensures
      (c.in-Err-Full.is ∙ ap (λ (r : Refused). Err r) c.in-Err-Full.field-0-is);
}
