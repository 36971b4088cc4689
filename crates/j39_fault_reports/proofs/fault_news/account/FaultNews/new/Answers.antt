use Rattle.j39_fault_reports.proofs.Common.{◌∙◌, [], refl, same_made}
use Rattle.j39_fault_reports.specs.News.{chosen_of}
use Rattle.j39_fault_reports.proofs.FaultAccountLemmas.{none_made, same_announced}
use Rattle.j39_fault_reports.specs.FaultsSoFar.{manner_of}
use Rattle.j39_fault_reports.proofs.fault_news.account.FaultNews.new.Goals as goal

pub returns : goal.returns
returns c = record {
  form_is = refl;
  by = refl;
  chosen_is = refl;
  chooses = c.new.ensures;
  heard = [];
  are_heard = refl;
  output_is = refl;
  hears = c.new-2.ensures;
  remembers = c.new-3.ensures c.args.choice.telling;
  made_is = same_made _ _ c.default.ensures.0 c.default.ensures.1 ∙ none_made c.args.writing.form (manner_of c.args.writing) (chosen_of c.args.choice);
  announced_is = same_announced _ _ c.default-2.ensures.0 c.default-2.ensures.1;
}
