-- A text that is told on a stream, whose faults are passed over.
use Rattle.std.specs.Prelude.{ℕ, List}
use Rattle.j39_io.specs.Device.{AppendsFront}
use Rattle.j39_io.specs.Turn.{Turn, Writes}

-- all of it, or a front of it and then came a fault
pub record Tells (stream : Turn) (text : List ℕ) : Type 0 where
  pub whole : Writes stream text
  pub front : AppendsFront stream.old.bytes stream.new.bytes text
