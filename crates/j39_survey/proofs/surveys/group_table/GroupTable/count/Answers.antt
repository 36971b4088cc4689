-- What stands at the group's place was counted of it.
use Rattle.j39_survey.proofs.Common.{◌∙◌, ap, get_or, subst, sym, values_of}
use Rattle.j39_survey.specs.SurveyModels.{HasCounted}
use Rattle.j39_survey.specs.declared.surveys.group_table.GroupCount.{GroupCount}
use Rattle.j39_survey.proofs.surveys.group_table.GroupTable.count.Goals as goal

pub returns : goal.returns
returns c = λ came h.
    let count = c.get.result.now in
    subst (λ (x : GroupCount). HasCounted x (came c.args.pgn.raw))
    (sym (c.get.ensures count ∙ ap (λ at. get_or (values_of c.args.self.now.counts) at count) c.place.ensures.value))
    (h.each c.args.pgn.raw count c.requires)
