-- Nothing came of each group.
use Rattle.j39_survey.proofs.Common.{values_of, place_of_group, place_below}
use Rattle.j39_survey.proofs.GroupLemmas.{counted_start, length_start}
use Rattle.j39_survey.proofs.surveys.group_table.GroupTable.new.Goals as goal

pub returns : goal.returns
returns c =
    let same = c.in_ok-counts.ensures (λ y is. is) in
    record {
      all = length_start (values_of c.in_ok-counts.counts) 17344 c.new.result same;
      each = λ pgn d heard. counted_start (values_of c.in_ok-counts.counts) 17344 (place_of_group pgn) c.new.result d same c.new.ensures (place_below pgn heard);
    }
