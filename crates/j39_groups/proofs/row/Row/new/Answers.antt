-- What is asked of the group and the field, and what was prepared.
use Rattle.std.proofs.Common.{◌≡◌, ◌^◌, true, ap, arith}
use Rattle.std.specs.Prelude.{◌&&◌, nat_lt, not}
use Rattle.std.proofs.lemmas.Bool.{and_from, lt-ltb}
use Rattle.j39_frame.specs.Pgn.{pgn_raw}
use Rattle.j39_groups.specs.Readings.{is_heard_group, is_network_group}
use Rattle.j39_groups.specs.Rows.{is_listed_group}
use Rattle.j39_groups.proofs.RowLemmas.{is_row_from}
use Rattle.j39_groups.proofs.row.Row.new.Goals as goal

pub returns-clause-row : goal.returns-clause-row
returns-clause-row c =
    let pgn = pgn_raw c.args.pgn in
    let small : nat_lt pgn (2 ^ 18) ≡ true = lt-ltb pgn (2 ^ 18) (omega arith) in
    let free : not (is_network_group pgn) ≡ true = ap not c.requires.free in
    let listed : is_listed_group pgn ≡ true =
    and_from (nat_lt pgn (2 ^ 18)) (not (is_network_group pgn) && is_heard_group pgn) small (and_from (not (is_network_group pgn)) (is_heard_group pgn) free c.requires.heard) in
    is_row_from _ (record {
      sound = c.requires.sound;
      listed = rw (← c.raw-pgn.ensures.value) at listed;
      prepared = c.prepare-prepared.ensures;
    })
