-- Moments of a log.
use Rattle.std.specs.Prelude.{ℕ}
use Rattle.j39_frame.specs.declared.stamp.Stamp.{Stamp}

-- the microseconds of a stamp
abbrev pub stamp_micros : Stamp → ℕ
stamp_micros stamp = stamp.micros
