-- How the open messages move with each event: steps that follow the definitions, and that the code follows.
use Rattle.std.specs.Prelude.{ℕ, suc, ◌+◌, Bool, if◌then◌else◌, ◌&&◌, ◌||◌, ◌∷◌, map, get_or, set, take, Option, Some, None, nat_lt, ◌==◌}
use Rattle.j39_transport.specs.Key.{Key, limit}
use Rattle.j39_transport.specs.Key.Key.{Broadcast, Directed}
use Rattle.j39_transport.specs.Frames.{source_of, destination_of}
use Rattle.j39_transport.specs.Events.{Event, announces, ends, payload, size, packets, group, stamp, belongs, is_numbered}
use Rattle.j39_transport.specs.Events.Event.{Frame, Forget}
use Rattle.j39_transport.specs.Sessions.{Sessions}
use Rattle.j39_transport.specs.Session as sessions
use Rattle.j39_transport.specs.Session.{SessionRecord}
use Rattle.j39_transport.specs.AssemblerStep.{OpenMessagesRecord}

-- ---- one key

abbrev pub opened : Key → Event → SessionRecord
opened k e = sessions.opened k (group e) (size e) (packets e) (stamp e)

-- what an event leaves of the last stamp
abbrev pub last_after : Key → Event → SessionRecord → ℕ
last_after k e x = if belongs k x.group e then stamp e else x.last

abbrev pub touched : Key → Event → SessionRecord → SessionRecord
touched k e x = sessions.touched (last_after k e x) x

abbrev pub grown : Key → Event → SessionRecord → SessionRecord
grown k e x = sessions.grown (last_after k e x) (payload e) x

-- what is out of time
unfoldable pub is_late : Key → Event → SessionRecord → Bool
is_late k e x = belongs k x.group e && nat_lt (x.last + limit k) (stamp e)

-- an event ends an open session
abbrev pub is_over : Key → Event → SessionRecord → Bool
is_over k e x = ends k x.group e || is_late k e x

-- how an event that is no announcement moves an open session
abbrev pub moved : Key → Event → SessionRecord → Option SessionRecord
moved k e x =
    if is_over k e x then None
    else if is_numbered k (suc x.count) e
    then (if suc x.count == x.packets then None else Some (grown k e x))
    else Some (touched k e x)

abbrev pub on_other : Key → Event → Option SessionRecord → Option SessionRecord
on_other k e None = None
on_other k e (Some x) = moved k e x

abbrev pub step : Key → Event → Option SessionRecord → Option SessionRecord
step k e o = if announces k e then Some (opened k e) else on_other k e o

-- ---- all keys

-- the pair of a directed message
abbrev pub pair_of : SessionRecord → Key
pair_of x = Directed x.source x.destination

-- how an event moves a place; one that announces the place's message again leaves it empty
abbrev pub moved_place : Event → Option SessionRecord → Option SessionRecord
moved_place e None = None
moved_place e (Some x) = if announces (pair_of x) e then None else moved (pair_of x) e x

-- where the event comes from and goes to
abbrev pub from_of : Event → ℕ
from_of (Frame f) = source_of f.id
from_of (Forget t) = t

abbrev pub to_of : Event → ℕ
to_of (Frame f) = destination_of f.id
to_of (Forget t) = t

-- a directed announcement, of whatever pair
abbrev pub is_request_to_send : Event → Bool
is_request_to_send e = announces (Directed (from_of e) (to_of e)) e

-- each directed announcement moves the places on by one, and the last falls out
abbrev pub directed_step : Event → Sessions → Sessions
directed_step e L =
    if is_request_to_send e
    then Some (opened (Directed (from_of e) (to_of e)) e) ∷ take 15 (map (moved_place e) L)
    else map (moved_place e) L

abbrev pub broadcast_step : Event → Sessions → Sessions
broadcast_step e T = set T (from_of e) (step (Broadcast (from_of e)) e (get_or T (from_of e) None))

abbrev pub table_step : Event → OpenMessagesRecord → OpenMessagesRecord
table_step e a = record { broadcasts = broadcast_step e a.broadcasts; directed = directed_step e a.directed }
