-- A room, and how much of it is written.
use Rattle.std.specs.Prelude.{◌≡◌, ◌≢◌, ℕ, length, Result, MatchResult}
use Rattle.j39_listen.specs.declared.counts.Counts.{Counts}
use Rattle.j39_listen.specs.declared.running.RunFault.{RunFault}
use Rattle.j39_listen.specs.declared.running.RunFault.TheVariants.{Memory}
use Rattle.j39_web.specs.declared.room.Room.{Room}

abbrev pub written_in : Room → ℕ
written_in room = room.len

abbrev pub room_in : Room → ℕ
room_in room = length room.room.now

-- no byte of the room is left, or a fault other than want of memory stopped the run
abbrev pub HasNoRoom : Result Counts RunFault → Room → Type 0
HasNoRoom ran room = MatchResult ran (λ _. room.len ≡ length room.room.now) (λ fault. fault ≢ Memory)
