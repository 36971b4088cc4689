-- For how long a controller's last message lies behind the last frame of its bus (own).
use Rattle.std.specs.Prelude.{◌-◌, ℕ, List, Option, Some, None, filter, if◌then◌else◌, nat_lt, option_map}
use Rattle.std.specs.List.{last_or}
use Rattle.j39_frame.specs.Frame.{FrameRecord}
use Rattle.j39_listen.specs.Filter.{FilterRecord, first_stamp, is_in_time}

-- the stamp of the last frame between the moments
unfoldable pub last_stamp : FilterRecord → List FrameRecord → Option ℕ
last_stamp which F = option_map (λ f. f.stamp) (last_or None (filter (λ f. is_in_time which (first_stamp F) f.stamp) F))

-- the least silence that is told: five seconds
abbrev pub long_silence : ℕ
long_silence = 5000000

-- from a message on until then, where that is told
abbrev pub silent_since : ℕ → Option ℕ → Option ℕ
silent_since last None = None
silent_since last (Some till) = if nat_lt (till - last) long_silence then None else Some (till - last)
