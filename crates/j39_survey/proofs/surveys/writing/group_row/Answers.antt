-- Each cell is that of what came of the group.
use Rattle.j39_survey.proofs.Common.{◌∙◌, ◌/◌, ap, codes, option_map, text}
use Rattle.j39_survey.specs.GroupCounts.{group_of}
use Rattle.j39_survey.specs.SurveyText.{apart, no_row}
use Rattle.j39_rows.specs.Row.{number_cell, or_nothing, plain, word}
use Rattle.j39_survey.proofs.surveys.writing.group_row.Goals as goal

pub returns : goal.returns
unfolding group_of
returns c = λ came h i. record no_row {
  kind = codes "group";
  pgn = (c.number.ensures ∙ ap number_cell (c.from.ensures ∙ c.raw.ensures.value)) i;
  frames = (c.number-2.ensures ∙ ap number_cell h.frames_is) i;
  announced = (c.number-3.ensures ∙ ap number_cell h.announced_is) i;
  whole = (c.number-4.ensures ∙ ap number_cell h.whole_is) i;
  addresses = (c.number-5.ensures ∙ ap number_cell h.arrived.senders_are.count_is) i;
  least = (c.spread_cells.ensures.least ∙ ap (apart (λ s. s.least)) h.arrived.distances_are.spread_is) i;
  mean = (c.spread_cells.ensures.mean ∙ ap (apart (λ s. s.sum / s.count)) h.arrived.distances_are.spread_is) i;
  most = (c.spread_cells.ensures.most ∙ ap (apart (λ s. s.longest.length)) h.arrived.distances_are.spread_is) i;
  since = (c.silent_since.ensures ∙ ap (option_map (λ s. s.longest.since)) h.arrived.distances_are.spread_is) i;
  class = plain (word (c.class_of.ensures i));
  name = (c.optional.ensures ∙ ap (or_nothing text) c.group_name.ensures) i;
}
