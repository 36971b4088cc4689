-- The first moment at which a tick does something but let time pass; and a driver that ticks in time, by its calls alone.
use Rattle.std.specs.Prelude.{◌++◌, ◌+◌, ◌∷◌, ◌≡◌, ◌≤◌}
use Rattle.j39_node.specs.Common.{[], List, None, Option, packets_for, Some, ℕ}
use Rattle.j39_node.specs.History.{Who, Call, moment, step}
use Rattle.j39_node.specs.History.Call.{At}
use Rattle.j39_node.specs.History.Act.{Tick}
use Rattle.j39_node.specs.Asking.{request_tick}
use Rattle.j39_node.specs.Hearing.{OpenBroadcast, hearing, hearing_tick, of, over_by}
use Rattle.j39_node.specs.Reception.{session, session_tick}
use Rattle.j39_sessions.specs.Sessions.{Session}
use Rattle.j39_node.specs.Transfers.{sooner}

-- of the session, of a broadcast that is heard, or of the open request
abbrev pub next_tick : Who → List Call → Option ℕ
next_tick w H = sooner (session_tick w H) (sooner (hearing_tick w H) (request_tick w H))

-- the sum of the forward steps since a tick, or since the earlier calls
abbrev pub unticked_in : List Call → List Call → ℕ
unticked_in [] earlier = 0
unticked_in (At now Tick ∷ later) earlier = 0
unticked_in (call ∷ later) earlier = unticked_in later earlier + step (later ++ earlier) (moment (call ∷ later ++ earlier))

-- from the earlier calls to the first tick, and from each tick to the next, at most g microseconds pass
abbrev pub TicksWithin : ℕ → List Call → List Call → Type 0
TicksWithin g [] earlier = Unit {0}
TicksWithin g (call ∷ later) earlier =
    TicksWithin g later earlier × (unticked_in later earlier + step (later ++ earlier) (moment (call ∷ later ++ earlier)) ≤ g)

-- a session of the source is open after each of these calls, each of a message of at most n packets
abbrev pub IsOpenOf : ℕ → Option Session → Type 0
IsOpenOf n None = ⊥
IsOpenOf n (Some x) = x.reception.message.packets ≤ n

abbrev pub StaysOpen : Who → ℕ → ℕ → List Call → List Call → Type 0
StaysOpen w source n [] earlier = IsOpenOf n (session w earlier source)
StaysOpen w source n (call ∷ later) earlier = StaysOpen w source n later earlier × IsOpenOf n (session w (call ∷ later ++ earlier) source)

-- a broadcast of the source is open after each of these calls, on one account, each of at most n packets
abbrev pub IsHeardOf : ℕ → Option OpenBroadcast → Type 0
IsHeardOf n None = ⊥
IsHeardOf n (Some x) = packets_for x.size ≤ n

abbrev pub StaysHeard : Who → ℕ → ℕ → List Call → List Call → Type 0
StaysHeard w source n [] earlier = IsHeardOf n (hearing w earlier source)
StaysHeard w source n (call ∷ later) earlier =
    StaysHeard w source n later earlier × (of source (over_by w (later ++ earlier) call) ≡ None)
    × IsHeardOf n (hearing w (call ∷ later ++ earlier) source)
