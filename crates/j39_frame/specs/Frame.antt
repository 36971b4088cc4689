-- Frames as contracts see them.
use Rattle.std.specs.Prelude.{◌≤◌, ◌<◌, ◌^◌, ℕ, List, length, All}

-- the microseconds of the stamp, the raw identifier and the data
pub record FrameRecord : Type 0 where
  pub stamp : ℕ
  pub id : ℕ
  pub bytes : List ℕ

-- the ranges of a frame
pub record IsFrame (f : FrameRecord) : Type 0 where
  pub stamp : f.stamp < 10 ^ 16
  pub id : f.id < 2 ^ 29
  pub len : length f.bytes ≤ 8
  pub bytes : All (λ b. b < 256) f.bytes
