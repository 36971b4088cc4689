-- Parameter group numbers.
use Rattle.std.specs.Prelude.{ℕ}
use Rattle.j39_frame.specs.declared.pgn.Pgn.{Pgn}

-- the 18 bits of a parameter group number
abbrev pub pgn_raw : Pgn → ℕ
pgn_raw pgn = pgn.raw
