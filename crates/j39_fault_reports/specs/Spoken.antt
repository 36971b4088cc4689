-- Which messages of active codes a controller sent, one behind the other (own).
use Rattle.std.specs.Prelude.{◌==◌, ◌&&◌, ◌∷◌, [], ℕ, zero, suc, Bool, true, false, List, Option, Some, None, if◌then◌else◌, filter, length, nat_le}
use Rattle.j39_faults.specs.FaultGroups.{kind_of}
use Rattle.j39_faults.specs.declared.kind.Kind.{Kind}
use Rattle.j39_faults.specs.declared.kind.Kind.TheVariants.{Active}
use Rattle.j39_listen.specs.Heard.{Hearing}
use Rattle.j39_fault_reports.specs.News.{goes_on}

-- ---- the messages of DM1

abbrev pub is_active : Kind → Bool
is_active Active = true
is_active kind = false

abbrev pub is_of_active : Option Kind → Bool
is_of_active None = false
is_of_active (Some kind) = is_active kind

-- it has the two bytes of the lamps (J1939-73, 5.7.1)
abbrev pub is_active_message : Hearing → Bool
is_active_message m = is_of_active (kind_of m.message.pgn) && nat_le 2 (length m.message.bytes)

abbrev pub active_among : List Hearing → List Hearing
active_among hs = filter is_active_message hs

-- ---- those of a controller

abbrev pub is_same_name : Option ℕ → Option ℕ → Bool
is_same_name None name = false
is_same_name (Some one) None = false
is_same_name (Some one) (Some name) = one == name

-- of each address the messages of the controller that spoke there last, its last first; none if it spoke elsewhere since
abbrev pub Spoken : Type 0
Spoken = ℕ → List Hearing

abbrev pub is_under : Option ℕ → List Hearing → Bool
is_under name [] = false
is_under name (m ∷ ms) = is_same_name m.name name

-- those under a NAME, at whichever address below n
unfoldable pub under_below : Spoken → Option ℕ → ℕ → List Hearing
under_below spoken name zero = []
under_below spoken name (suc n) = if is_under name (spoken n) then spoken n else under_below spoken name n

-- these, if they may be of who speaks now under this NAME
abbrev pub continued_by : Option ℕ → List Hearing → List Hearing
continued_by name [] = []
continued_by name (m ∷ ms) = if goes_on m.name name then m ∷ ms else []

abbrev pub or_else : List Hearing → List Hearing → List Hearing
or_else [] others = others
or_else (m ∷ ms) others = m ∷ ms

-- under a NAME from this address; or else under the NAME from another, or from this one under any or none
abbrev pub nearest : Spoken → Option ℕ → ℕ → List Hearing
nearest spoken name a =
    if is_under name (spoken a) then spoken a else or_else (under_below spoken name 256) (spoken a)

-- those of the controller of a message before it: under its NAME, or from its address before a claim told any NAME
abbrev pub sent_before : Spoken → Hearing → List Hearing
sent_before spoken m = continued_by m.name (nearest spoken m.name m.message.source)

-- behind this message too: where its NAME didn't speak from its address, it leaves the other
unfoldable pub with_message : Spoken → Hearing → Spoken
with_message spoken m a =
    if a == m.message.source then m ∷ sent_before spoken m
    else (if is_under m.name (spoken m.message.source) then spoken a else (if is_under m.name (spoken a) then [] else spoken a))

unfoldable pub spoken_behind : Spoken → List Hearing → Spoken
spoken_behind spoken [] = spoken
spoken_behind spoken (m ∷ ms) = spoken_behind (with_message spoken m) ms

-- in these messages
abbrev pub spoken_in : List Hearing → Spoken
spoken_in ms = spoken_behind (λ a. []) ms
