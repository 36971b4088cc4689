-- No row passes, so none gives a reading.
use Rattle.std.proofs.Common.{◌==◌, ap, ◌∙◌}
use Rattle.std.specs.List.{flat_map}
use Rattle.j39_groups.specs.Table.{the_table}
use Rattle.j39_groups.specs.Readings.{readings_in, readings_at}
use Rattle.j39_groups.proofs.TableLemmas.{filter_unlisted, listed_is_reported_built_in}
use Rattle.j39_groups.proofs.laws.other_groups_are_silent.Goals as goal

pub returns : goal.returns
unfolding readings_in
returns c = λ pgn bytes unlisted.
    ap (flat_map (readings_at bytes)) (filter_unlisted (λ row. row.pgn == pgn) the_table (listed_is_reported_built_in pgn ∙ unlisted))
