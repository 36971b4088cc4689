-- A driver that is prompt, by its calls alone.
use Rattle.std.specs.Prelude.{if◌then◌else◌, ◌&&◌, ◌++◌, ◌+◌, ◌||◌, ◌∷◌, ◌≡◌, ◌≤◌}
use Rattle.j39_node.specs.Common.{[], Bool, destination_of, false, FrameRecord, is_there, List, nat_eq, None, not, Option, slice_get, Some, suc, true, ℕ}
use Rattle.j39_node.specs.Reception.{is_reply, replies}
use Rattle.j39_node.specs.Transfers.{open_to}
use Rattle.j39_node.specs.History.{is_packet, is_acknowledgment, is_claim, Call, moment, step, Message, Who}
use Rattle.j39_node.specs.History.Call.{At, TakeBroadcastEnded, TakeTransferEnded}
use Rattle.j39_node.specs.History.Act.{Again, TakeFrame}

-- the sum of the forward steps since a take answered none, or since the earlier calls
abbrev pub waited_in : List Call → List Call → ℕ
waited_in [] earlier = 0
waited_in (At now (TakeFrame None) ∷ later) earlier = 0
waited_in (call ∷ later) earlier = waited_in later earlier + step (later ++ earlier) (moment (call ∷ later ++ earlier))

-- the address is to be claimed anew
abbrev pub claims_anew : Call → Bool
claims_anew (At now Again) = true
claims_anew call = false

-- no sum of this kind gets above g microseconds; and the driver doesn't claim the address anew
abbrev pub IsPaced : (List Call → List Call → ℕ) → ℕ → List Call → List Call → Type 0
IsPaced since g [] earlier = Unit {0}
IsPaced since g (call ∷ later) earlier =
    IsPaced since g later earlier × ((since later earlier + step (later ++ earlier) (moment (call ∷ later ++ earlier)) ≤ g) × (claims_anew call ≡ false))

-- from the earlier calls to the first take that answers none, and from each such take to the next, at most g microseconds pass:
-- the driver comes back in time, and then takes frames until there is none
abbrev pub IsPrompt : ℕ → List Call → List Call → Type 0
IsPrompt g later earlier = IsPaced waited_in g later earlier

-- no end of a broadcast is told
abbrev pub tells_broadcast : Call → Bool
tells_broadcast (TakeBroadcastEnded (Some x)) = true
tells_broadcast call = false

abbrev pub NoneTold : (Call → Bool) → List Call → Type 0
NoneTold tells [] = Unit {0}
NoneTold tells (call ∷ later) = (tells call ≡ false) × NoneTold tells later

-- that of the transfer of this token
abbrev pub tells_transfer : ℕ → Call → Bool
tells_transfer k (TakeTransferEnded (Some x)) = nat_eq x.0 k
tells_transfer k call = false

-- a frame is taken that is neither a claim nor an acknowledgment
abbrev pub takes_other : Call → Bool
takes_other (At now (TakeFrame (Some f))) = not (is_claim f || is_acknowledgment f)
takes_other call = false

-- the sum of the forward steps since the driver came for a frame, whether it got one or none was due, or since the earlier calls
abbrev pub since_take : List Call → List Call → ℕ
since_take [] earlier = 0
since_take (At now (TakeFrame answer) ∷ later) earlier = 0
since_take (call ∷ later) earlier = since_take later earlier + step (later ++ earlier) (moment (call ∷ later ++ earlier))

-- from the earlier calls to the first take, and from each take to the next, at most g microseconds pass: the driver takes one frame at
-- least in each g, if one is due
abbrev pub IsSteady : ℕ → List Call → List Call → Type 0
IsSteady g later earlier = IsPaced since_take g later earlier

-- how many frames of broadcasts are taken
abbrev pub packets_taken : List Call → ℕ
packets_taken [] = 0
packets_taken (At now (TakeFrame (Some f)) ∷ later) = if is_packet f then suc (packets_taken later) else packets_taken later
packets_taken (call ∷ later) = packets_taken later

-- a transfer to this address is open
abbrev pub is_open_to : Who → List Call → Option ℕ → Bool
is_open_to w H None = false
is_open_to w H (Some a) = is_there (open_to w a H)

-- the frame counts for the transfers: it is neither a claim nor an acknowledgment, nor a reply to an address to which none is open
abbrev pub counts_for : Who → List Call → FrameRecord → Bool
counts_for w H f = not (is_claim f || is_acknowledgment f) && not (is_reply (replies w H) f && not (is_open_to w H (destination_of f.id)))

-- how many such frames are taken
abbrev pub taken_for : Who → List Call → List Call → ℕ
taken_for w [] earlier = 0
taken_for w (At now (TakeFrame (Some f)) ∷ later) earlier =
    if counts_for w (later ++ earlier) f then suc (taken_for w later earlier) else taken_for w later earlier
taken_for w (call ∷ later) earlier = taken_for w later earlier

-- this reply is the first that waits, before each of these calls and behind them, and none is taken
abbrev pub takes_reply : Who → List Call → Call → Bool
takes_reply w H (At now (TakeFrame (Some f))) = is_reply (replies w H) f
takes_reply w H call = false

abbrev pub StaysFirst : Who → Message → List Call → List Call → Type 0
StaysFirst w m [] earlier = slice_get (replies w earlier) 0 ≡ Some m
StaysFirst w m (call ∷ later) earlier =
    StaysFirst w m later earlier × (takes_reply w (later ++ earlier) call ≡ false) × (slice_get (replies w (call ∷ later ++ earlier)) 0 ≡ Some m)
