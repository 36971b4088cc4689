-- What a call that writes a text leaves of the writer.
use Rattle.std.specs.Prelude.{ℕ, List, OnErr, OnOk, Result}
use Rattle.std.specs.Io.KnownBytes.{Appends}
use Rattle.j39_io.specs.Device.{AppendsFront, Marks}
use Rattle.j39_io.specs.Turn.{Turn}

-- the text was written after the bytes of before, or a front of it and then came a fault
pub record Puts {T E : Type 0} (text : List ℕ) (result : Result T E) (sink : Turn) : Type 0 where
  -- all of it
  pub written : OnOk result (Appends sink.old.bytes sink.new.bytes text)
  -- a front of it
  pub front : OnErr result (AppendsFront sink.old.bytes sink.new.bytes text)
  -- a fault sets the mark, and nothing else changes it
  pub mark : Marks result sink.old.has_failed sink.new.has_failed
