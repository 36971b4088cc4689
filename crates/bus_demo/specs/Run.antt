-- What a run of the bus is.
use Rattle.std.specs.Prelude.{◌≡◌, ◌≢◌, ◌+◌, ◌-◌, ◌^◌, ◌<◌, ℕ, Result, Err, length, min, true}
use Rattle.std.specs.Io.KnownBytes.{Keeps}
use Rattle.j39_frame.specs.Frame.{FrameRecord}
use Rattle.j39_frame.specs.Stamp.{stamp_micros}
use Rattle.j39_io.specs.Turn.{Device, IsUnmarked, Turn}
use Rattle.bus_demo.specs.Sending.{IsSeen, Steps, seen_at}
use Rattle.bus_demo.specs.declared.bus.Bus.{Bus}
use Rattle.bus_demo.specs.declared.bus.BusFault.{BusFault}
use Rattle.bus_demo.specs.declared.bus.BusFault.TheVariants.{Write}

-- the bus made steps, one after another, each of them before the end
pub data Plays (end : ℕ) : Bus → Device → Bus → Device → Type 0 where
  nothing : {bus : Bus} {log : Device} → Plays end bus log bus log
  further : {start mid last : Bus} {before between behind : Device} → Plays end start before mid between
      → stamp_micros mid.now < end → Steps mid last (record { old = between; new = behind })
      → Plays end start before last behind

-- and then passed on the log, which adds nothing to it
pub record PlaysTo (end : ℕ) (old new : Bus) (log : Turn) : Type 0 where
  pub last : Device
  pub plays : Plays end old log.old new last
  pub passed_on : Keeps last.bytes log.new.bytes

-- the bus was played to the moment of a frame from outside, which all of it then heard, none of whom sent it
pub record Admits (f : FrameRecord) (old new : Bus) (log : Turn) : Type 0 where
  pub before : Bus
  pub between : Device
  pub plays : PlaysTo f.stamp old before (record { old = log.old; new = between })
  pub count : new.frames ≡ min (before.frames + 1) (2 ^ 64 - 1)
  pub seen : IsSeen (length before.controllers.items) (seen_at (stamp_micros before.now) f) before.interface
      before.controllers.items new.controllers.items before.book new.book (record { old = between; new = log.new })

-- a fault of the log's writer is told as what it is, and nothing else sets its mark
pub record TellsFault {T : Type 0} (result : Result T BusFault) (log : Turn) : Type 0 where
  pub write : result ≡ Err Write → log.new.has_failed ≡ true
  pub unmarked : result ≢ Err Write → IsUnmarked log
