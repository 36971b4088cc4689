-- What the transfers of an address went through, the newest first.
use Rattle.std.specs.Prelude.{if◌then◌else◌, ◌++◌, ◌+◌, ◌<◌, ◌∷◌, ◌≡◌, ◌≢◌, ◌≤◌}
use Rattle.j39_transfers.specs.Common.{[], Bool, Err, false, find, FrameRecord, is_there, List, map, nat_eq, None, Ok, Option, option_map, Result, Some, true, ℕ}
use Rattle.j39_transfers.specs.declared.kinds.Refused.{Refused}
use Rattle.j39_transfers.specs.Transfers.{answer, awake, begins, end_by, hears, is_over, leaves, listed, loses, moves, none_of, of, Order, rest_time, rests, sends, tells, to, Transfer, TransfersRecord, turn}

-- a message is to be sent to an address that a NAME holds, at a time; a frame was heard; the frame that goes first was sent; an end was
-- told; who left by who holds which address; the address was lost; another one sends
pub data Event : Type 0 where
  Begins : Order → Option ℕ → ℕ → Event
  Hears : FrameRecord → ℕ → Event
  Sends : ℕ → Event
  Tells : Event
  Leaves : Option ℕ → (ℕ → Option ℕ) → ℕ → Event
  Loses : ℕ → Event
  Moves : ℕ → Event

abbrev pub step : Event → TransfersRecord → TransfersRecord
step (Begins o name now) s = begins o name now s
step (Hears f now) s = hears f now s
step (Sends now) s = sends now s
step Tells s = tells s
step (Leaves gone holder now) s = leaves gone holder now s
step (Loses now) s = loses now s
step (Moves own) s = moves own s

abbrev pub after : ℕ → ℕ → List Event → TransfersRecord
after own boxes [] = none_of own boxes
after own boxes (event ∷ E) = step event (after own boxes E)

-- no two go to one address
abbrev pub AreApart : List Transfer → Type 0
AreApart [] = Unit {0}
AreApart (x ∷ xs) = (of (to x) xs ≡ None) × AreApart xs

-- ---- tokens

-- that of an order, where it begins
abbrev pub token_if : Result Unit Refused → ℕ → Option ℕ
token_if (Ok u) token = Some token
token_if (Err e) token = None

abbrev pub begun_by : Event → TransfersRecord → Option ℕ
begun_by (Begins o name now) s = token_if (answer o (awake now s)) o.token
begun_by event s = None

abbrev pub told_by : Event → TransfersRecord → Option ℕ
told_by Tells s = option_map (λ e. e.0) (end_by (find is_over s.running))
told_by event s = None

-- those of the transfers that began, and of those whose end was told
abbrev pub begun_tokens : ℕ → ℕ → List Event → List ℕ
begun_tokens own boxes [] = []
begun_tokens own boxes (event ∷ E) = begun_tokens own boxes E ++ listed (begun_by event (after own boxes E))

abbrev pub told_tokens : ℕ → ℕ → List Event → List ℕ
told_tokens own boxes [] = []
told_tokens own boxes (event ∷ E) = told_tokens own boxes E ++ listed (told_by event (after own boxes E))

abbrev pub tokens : List Transfer → List ℕ
tokens xs = map (λ x. x.token) xs

-- how often a token is among them
abbrev pub times : ℕ → List ℕ → ℕ
times k [] = 0
times k (n ∷ ns) = (if nat_eq k n then 1 else 0) + times k ns

-- ---- turns

-- the transfer to a stands before that to b
abbrev pub is_before : ℕ → ℕ → List Transfer → Bool
is_before a b [] = false
is_before a b (x ∷ xs) = if nat_eq a (to x) then is_there (of b xs) else if nat_eq b (to x) then false else is_before a b xs

-- to whom the frame goes that goes first
abbrev pub goes_to : ℕ → TransfersRecord → Option ℕ
goes_to now s = option_map to (turn now s.running)

-- to whom the transfer went whose end is told
abbrev pub ends_to : TransfersRecord → Option ℕ
ends_to s = option_map to (find is_over s.running)

-- no frame of the transfer to an address goes, and its end isn't told
abbrev pub Passes : ℕ → Event → TransfersRecord → Type 0
Passes a (Sends now) s = goes_to now s ≢ Some a
Passes a Tells s = ends_to s ≢ Some a
Passes a event s = Unit {0}

abbrev pub PassesBy : ℕ → ℕ → ℕ → List Event → List Event → Type 0
PassesBy own boxes a [] E = Unit {0}
PassesBy own boxes a (event ∷ later) E = Passes a event (after own boxes (later ++ E)) × PassesBy own boxes a later E

-- ---- what rests

-- a message is to be sent at this time at the latest
abbrev pub IsBy : ℕ → Event → Type 0
IsBy now (Begins o name moment) = moment ≤ now
IsBy now event = Unit {0}

abbrev pub AreBy : ℕ → List Event → Type 0
AreBy now [] = Unit {0}
AreBy now (event ∷ later) = IsBy now event × AreBy now later

-- the end was told of one to this address, of this group, that rests by it, less than 4 seconds ago
pub data WasTold (own boxes now a group : ℕ) : List Event → Type 0 where
  here : (x : Transfer) (E : List Event) → find is_over (after own boxes E).running ≡ Some x → rests x ≡ true → to x ≡ a
      → x.sender.message.pgn ≡ group → now < x.last + rest_time → WasTold own boxes now a group (Tells ∷ E)
  later : (event : Event) (E : List Event) → WasTold own boxes now a group E → WasTold own boxes now a group (event ∷ E)
