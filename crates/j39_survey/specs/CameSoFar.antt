-- The code's steps: what came of the groups, with a frame or a message more.
use Rattle.std.specs.Prelude.{◌==◌, ◌+◌, ◌++◌, ◌∷◌, [], ℕ, Option, Some, None, option_map, if◌then◌else◌}
use Rattle.j39_frame.specs.Frame.{FrameRecord}
use Rattle.j39_listen.specs.Heard.{Hearing}
use Rattle.j39_survey.specs.GroupCounts.{Came, group_named}

-- the group of what is heard, as it is named
abbrev pub group_heard : Option Hearing → Option ℕ
group_heard o = option_map (λ h. h.message.pgn) o

-- with a frame of its own more, with one that announces it, with a message that came whole
abbrev pub with_own : FrameRecord → Came → Came
with_own f c = record c { frames = c.frames ++ f ∷ []; own = c.own + 1 }

abbrev pub with_announced : FrameRecord → Came → Came
with_announced f c = record c { frames = c.frames ++ f ∷ []; announced = c.announced + 1 }

abbrev pub with_whole : Came → Came
with_whole c = record c { whole = c.whole + 1 }

-- so of one group
abbrev pub at_group : ℕ → (Came → Came) → (ℕ → Came) → ℕ → Came
at_group group change came pgn = if pgn == group then change (came pgn) else came pgn

-- of the group that a number names, where there is one
abbrev pub at_named : Option ℕ → (Came → Came) → (ℕ → Came) → ℕ → Came
at_named None change came = came
at_named (Some n) change came = at_group (group_named n) change came
