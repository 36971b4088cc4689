use Rattle.std.proofs.Common.{[], refl}
use Rattle.j39_survey.proofs.SurveyLemmas.{no_frames, no_lines}
use Rattle.j39_survey.proofs.surveys.log_survey.Survey.new.Goals as goal

pub returns : goal.returns
returns c = λ none. record {
  lines_are = refl;
  interfaces_are = c.new.ensures.met;
  bus_is = no_lines c.args.bus;
  placed = c.new.ensures.placed c.args.bus;
  heard = [];
  met = rw (no_frames c.args.bus) (c.new-2.ensures none);
  others_are = c.new-3.ensures;
  unread_are = c.new-4.ensures;
  has_form = refl;
}
