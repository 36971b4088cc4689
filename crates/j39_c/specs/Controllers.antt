-- What a controller answers to C, by the histories of its calls.
use Rattle.std.specs.Prelude.{◌≡◌, ◌<◌, ◌≤◌, ◌^◌, ◌+◌, ◌%◌, ◌/◌, min, ◌∷◌, ◌++◌, [], ℕ, zero, suc, ℤ, pos, negsuc, ◌==◌, nat_eq, nat_lt, Bool, true, false, Option, Some, None, IfSome, Result, Ok, Err, List, length, if◌then◌else◌, slice_get}
use Rattle.std.specs.Option.{option_map}
use Rattle.std.specs.List.{list_all}
use Rattle.j39_address.specs.Claim.{claims_of}
use Rattle.j39_address.specs.Holder.{IsHolderAfter}
use Rattle.j39_address.specs.Node.{IsLeastFree, NoneFree}
use Rattle.j39_frame.specs.Address.{IsAddress}
use Rattle.j39_transport.specs.Message.{MessageRecord}
use Rattle.j39_node.specs.History.{Act, Asked, Call, Draft, Message, Who, got, handed, nothing, missed, told_claims}
use Rattle.j39_node.specs.History.Call.{At, ReleaseBroadcast, ReleaseTransfer, TakeReceived, Withdraw}
use Rattle.j39_node.specs.Hearing.{broadcast_senders, unheard, waiting}
use Rattle.j39_node.specs.Is.{Is}
use Rattle.j39_node.specs.Moving.{HasMoved, IsSettled}
use Rattle.j39_node.specs.Reception.{askers, reception, senders, transfer_sender}
use Rattle.j39_node.specs.declared.controller.Controller.{Controller}
use Rattle.j39_node.specs.declared.kinds.Answer.{Answer}
use Rattle.j39_node.specs.declared.kinds.Answer.TheVariants.{Ack, Nack, Denied, Busy}
use Rattle.j39_node.specs.declared.kinds.AskEnding.{AskEnding}
use Rattle.j39_node.specs.declared.kinds.AskEnding.TheVariants as request
use Rattle.j39_node.specs.declared.kinds.Ending.{Ending}
use Rattle.j39_node.specs.declared.kinds.Ending.TheVariants as message
use Rattle.j39_node.specs.declared.kinds.News.{News}
use Rattle.j39_node.specs.declared.kinds.News.TheVariants.{AddressLost, AnotherAtAddress, MessagesMissed, NameDoubled}
use Rattle.j39_node.specs.declared.kinds.Refused.{Refused}
use Rattle.j39_node.specs.declared.kinds.Refused.TheVariants.{NoAddress, BadValue, Full}
use Rattle.j39_transfers.specs.declared.kinds.Ending.{Ending as TransferEnding}
use Rattle.j39_transfers.specs.declared.kinds.Ending.TheVariants as transfer
use Rattle.j39_application.specs.Sending.{coded, ended_by, sent_as, way_of, way_told}
use Rattle.j39_application.specs.declared.sending.End.{End}
use Rattle.j39_application.specs.declared.sending.End.TheVariants as end
use Rattle.j39_application.specs.declared.sending.Token.{Token}
use Rattle.j39_application.specs.declared.sending.Way.{Way}
use Rattle.j39_c.specs.Calls.{Tries}
use Rattle.j39_c.specs.declared.controller.PlainSetup.{PlainSetup}
use Rattle.j39_c.specs.Codes.{bad_value, full, no_address}
use Rattle.j39_c.specs.Messages.{hearing_in, marked}
use Rattle.j39_c.specs.Parts.{controller_in}
use Rattle.j39_c.specs.declared.handed_out.PlainEnded.{PlainEnded}
use Rattle.j39_c.specs.declared.handed_out.PlainRequest.{PlainRequest}
use Rattle.j39_c.specs.declared.message.WholeMessage.{WholeMessage}
use Rattle.j39_c.specs.declared.part.Part.{Part}
use Rattle.j39_c.specs.declared.refusal.Refusal.{Refusal}
use Rattle.j39_c.specs.declared.refusal.Refusal.TheVariants as refusal

-- each history that leads to `old` leads on to `new` by these calls, the newest first
abbrev pub Goes : List Call → Controller → Controller → Type 0
Goes calls old new = (w : Who) (H : List Call) → Is w H old → Is w (calls ++ H) new

-- the same of one call
abbrev pub Continues : Call → Controller → Controller → Type 0
Continues call old new = Goes (call ∷ []) old new

-- each history that leads here says so
abbrev pub Says : (Who → List Call → Type 0) → Controller → Type 0
Says fact c = (w : Who) (H : List Call) → Is w H c → fact w H

-- ---- opened

-- groups, so many at most
pub record CanRead (room : ℕ) (numbers : List ℕ) : Type 0 where
  pub most : length numbers ≤ room
  pub groups : list_all (λ group. nat_lt group 262144) numbers ≡ true

-- all are subscribed, or 64 at most
abbrev pub CanSubscribe : Option (List ℕ) → Type 0
CanSubscribe None = Unit {0}
CanSubscribe (Some groups) = CanRead 64 groups

-- an address, the groups that the program serves, 16 at most, and those that it subscribes
pub record CanServe (address : ℕ) (served : List ℕ) (subscribed : Option (List ℕ)) : Type 0 where
  pub is_address : IsAddress address
  pub can_read : CanRead 16 served
  pub can_subscribe : CanSubscribe subscribed

-- the groups that are subscribed, if not all are
abbrev pub chosen_of : PlainSetup → List ℕ → Option (List ℕ)
chosen_of setup groups = if setup.is_subscribed == 0 then None else Some groups

-- a controller that begins so
abbrev pub IsNew : PlainSetup → List ℕ → Option (List ℕ) → Controller → Type 0
IsNew s served subscribed c = Is (record {
  name = s.name;
  address = s.address;
  delay = s.delay;
  served = served;
  subscribed = subscribed;
  boxes = s.broadcasts;
  sessions = s.sessions;
  transfers = s.transfers;
  window = s.window;
  brought = nothing;
}) [] c

-- why there is no controller of them
abbrev pub IsMakeRefusal : ℕ → List ℕ → Option (List ℕ) → Refusal → Type 0
IsMakeRefusal address served subscribed refusal.BadValue = CanServe address served subscribed → ⊥
IsMakeRefusal address served subscribed refusal.NoMemory = CanServe address served subscribed
IsMakeRefusal address served subscribed other = ⊥

-- ---- what its history says

-- the address that a NAME holds, or that it holds none
abbrev pub IsAddressOf : Who → List Call → ℕ → Option ℕ → Type 0
IsAddressOf w H name (Some a) = IsHolderAfter (claims_of (told_claims w H)) a (Some name)
IsAddressOf w H name None = (a : ℕ) → a < 254 → IsHolderAfter (claims_of (told_claims w H)) a (Some name) → ⊥

-- the least address of 128 to 247 that nobody holds, or that there is none
abbrev pub IsFree : Who → List Call → Option ℕ → Type 0
IsFree w H (Some a) = IsLeastFree (claims_of (told_claims w H)) a
IsFree w H None = NoneFree (claims_of (told_claims w H))

-- how many messages were missed, as far as the count goes
abbrev pub count_missed : Who → List Call → ℕ
count_missed w H = min (missed w H + unheard w H) 18446744073709551615

-- ---- it moves: 1 where it may, and begins anew there, else 0, and it stays as it was
abbrev pub Moves : ℕ → ℤ → Controller → Controller → Type 0
Moves address (pos zero) old new = (new ≡ old) × Says (λ w H. IsAddress address × IsSettled w H → ⊥) old
Moves address (pos (suc n)) old new =
    (w : Who) (H : List Call) → Is w H old → IsAddress address × IsSettled w H × HasMoved w H address new
Moves address (negsuc n) old new = ⊥

-- a message is withdrawn: 1, or 0, also where the token is of none that goes in one frame
abbrev pub Withdraws : ℕ → ℤ → Controller → Controller → Type 0
Withdraws token (pos zero) old new =
    (token % 4 ≡ 0 → Continues (Withdraw (token / 4) false) old new) × ((token % 4 ≡ 0 → ⊥) → new ≡ old)
Withdraws token (pos (suc n)) old new = (token % 4 ≡ 0) × Continues (Withdraw (token / 4) true) old new
Withdraws token (negsuc n) old new = ⊥

-- ---- messages are handed in

-- a group, at a moment
pub record IsAt (pgn micros : ℕ) : Type 0 where
  pub group : pgn < 2 ^ 18
  pub moment : micros < 10 ^ 16

-- why nothing is accepted
abbrev pub IsRefusal : Refused → ℤ → Type 0
IsRefusal NoAddress code = code ≡ no_address
IsRefusal BadValue code = code ≡ bad_value
IsRefusal Full code = code ≡ full

-- what goes this way is accepted, and this is its token
abbrev pub IsAccepted : Way → ℤ → ℕ → Result ℕ Refused → Type 0
IsAccepted way code token (Ok number) = (code ≡ pos 1) × (token ≡ coded way number)
IsAccepted way code token (Err why) = IsRefusal why code

-- a message is handed in so
pub record HandsIn (micros : ℕ) (d : Draft) (code : ℤ) (token : ℕ) (old new : Controller) : Type 0 where
  pub answer : Result ℕ Refused
  pub accepted : IsAccepted (way_of d) code token answer
  pub goes : Continues (At micros (sent_as d answer)) old new

-- an acknowledgment is accepted
abbrev pub IsTaken : ℤ → Result (Unit {0}) Refused → Type 0
IsTaken code (Ok t) = code ≡ pos 0
IsTaken code (Err why) = IsRefusal why code

-- a call that hands something to the controller of a handle, which holds `old` before it and `new` after it: the history goes on by the
-- call with its answer; `fits` says that the values it is given are in range, `is_told` which answer of the controller it tells
abbrev pub Offers : {A : Type 0} → Type 0 → Option Part → ℤ → Option Part → ℕ → (Result A Refused → Act)
    → (Result A Refused → Type 0) → Type 0
Offers {A = A} fits old code new micros act is_told = Tries controller_in fits old code new
    (λ o n. (answer : Result A Refused) × is_told answer × Continues (At micros (act answer)) o n)

-- ---- requests

-- the request that is written out
abbrev pub request_in : PlainRequest → Asked
request_in r = record { source = r.source; destination = r.destination; group = r.pgn }

-- the NAME that it tells: of who held its source when it was heard
abbrev pub IsAsked : ℤ → PlainRequest → Who → List Call → Type 0
IsAsked (pos zero) x w H = Unit {0}
IsAsked (pos (suc n)) x w H = slice_get (askers w H) (length (handed H)) ≡ Some (marked x.is_named x.name)
IsAsked (negsuc n) x w H = Unit {0}

-- how a request is acknowledged, by its number (J1939-21, 5.4.4)
abbrev pub answer_in : ℕ → Option Answer
answer_in n =
    if nat_eq n 0 then Some Ack else if nat_eq n 1 then Some Nack else if nat_eq n 2 then Some Denied
    else if nat_eq n 3 then Some Busy else None

-- ---- what ended, by what a call answered and wrote out

-- what has no reason and no acknowledgment has 0 for one
abbrev pub plain : {E : Type 0} → ℕ → E → Option E
plain zero ending = Some ending
plain (suc detail) ending = None

-- 1 done, 2 withdrawn
abbrev pub ending_in : ℕ → ℕ → Option Ending
ending_in n detail =
    if nat_eq n 1 then plain detail message.Done else if nat_eq n 2 then plain detail message.Withdrawn else None

-- the same; 3 failed for a reason, 4 its destination is gone
abbrev pub transfer_ending_in : ℕ → ℕ → Option TransferEnding
transfer_ending_in n detail =
    if nat_eq n 1 then plain detail transfer.Done else if nat_eq n 2 then plain detail transfer.Withdrawn
    else if nat_eq n 3 then Some (transfer.Failed detail) else if nat_eq n 4 then plain detail transfer.Gone else None

-- 1 answered by its group, 2 withdrawn, 5 acknowledged, 6 it timed out
abbrev pub ask_ending_in : ℕ → ℕ → Option AskEnding
ask_ending_in n detail =
    if nat_eq n 1 then plain detail request.Answered else if nat_eq n 2 then plain detail request.Withdrawn
    else if nat_eq n 5 then option_map request.Acknowledged (answer_in detail)
    else if nat_eq n 6 then plain detail request.TimedOut else None

-- what ended, by its kind: 1 a message of one frame, 2 a broadcast, 3 a transfer, 4 a request
abbrev pub end_in : ℤ → PlainEnded → Option End
end_in (pos zero) x = None
end_in (pos (suc zero)) x = option_map end.Frame (ending_in x.ending x.detail)
end_in (pos (suc (suc zero))) x = option_map end.Broadcast (ending_in x.ending x.detail)
end_in (pos (suc (suc (suc zero)))) x = option_map end.Transfer (transfer_ending_in x.ending x.detail)
end_in (pos (suc (suc (suc (suc n))))) x = option_map end.Request (ask_ending_in x.ending x.detail)
end_in (negsuc n) x = None

-- what was told is in x, with its token
abbrev pub IsEnded : ℤ → PlainEnded → Option (Token × End) → Type 0
IsEnded code x None = code ≡ pos 0
IsEnded code x (Some (token, ending)) = (end_in code x ≡ Some ending) × (x.token ≡ coded (way_told ending) token.number)

-- the controller tells this
abbrev pub Ends : ℤ → PlainEnded → Controller → Controller → Type 0
Ends code x old new = (told : Option (Token × End)) × IsEnded code x told × Goes (ended_by told) old new

-- ---- what was received, by what a call answered and wrote out

-- a message of one frame, and its moment
abbrev pub short_in : WholeMessage → ℕ → ℕ × Message
short_in m priority = (
  m.micros,
  record {
    source = m.source;
    destination = (hearing_in m).destination;
    priority = priority;
    group = m.pgn;
    bytes = (hearing_in m).message.bytes;
  },
)

-- a message in packets, and the moment of its last one
abbrev pub long_in : WholeMessage → ℕ × MessageRecord
long_in m = (m.micros, (hearing_in m).message)

abbrev pub long_if : Bool → WholeMessage → Option (ℕ × MessageRecord)
long_if true m = Some (long_in m)
long_if false m = None

-- 0 none; 1 a message of one frame; 2 one in packets to its address, 3 one to all: its place is free again
abbrev pub received_by : ℤ → WholeMessage → ℕ → List Call
received_by (pos zero) m priority = TakeReceived None ∷ []
received_by (pos (suc zero)) m priority = TakeReceived (Some (short_in m priority)) ∷ []
received_by (pos (suc (suc zero))) m priority = ReleaseTransfer true ∷ TakeReceived None ∷ []
received_by (pos (suc (suc (suc n)))) m priority = ReleaseBroadcast true ∷ TakeReceived None ∷ []
received_by (negsuc n) m priority = []

-- the NAME that it tells: of who held its source when it was heard, or was whole
abbrev pub IsNamed : ℤ → WholeMessage → Who → List Call → Type 0
IsNamed (pos zero) m w H = Unit {0}
IsNamed (pos (suc zero)) m w H = slice_get (senders w H) (length (got H)) ≡ Some (hearing_in m).name
IsNamed (pos (suc (suc zero))) m w H = (hearing_in m).name ≡ transfer_sender w H
IsNamed (pos (suc (suc (suc n)))) m w H = IfSome (slice_get (broadcast_senders w H) 0) (λ name. (hearing_in m).name ≡ name)
IsNamed (negsuc n) m w H = Unit {0}

-- what waited in packets, at its address and to all
abbrev pub Waited : ℤ → WholeMessage → Who → List Call → Type 0
Waited (pos zero) m w H = (slice_get (reception w H).waits 0 ≡ None) × (slice_get (waiting w H) 0 ≡ None)
Waited (pos (suc zero)) m w H = Unit {0}
Waited (pos (suc (suc zero))) m w H =
    (slice_get (reception w H).waits 0 ≡ Some (long_in m)) × ((hearing_in m).destination ≡ Some w.address)
Waited (pos (suc (suc (suc n)))) m w H =
    (slice_get (reception w H).waits 0 ≡ None) × (slice_get (waiting w H) 0 ≡ Some (long_in m))
    × ((hearing_in m).destination ≡ None)
Waited (negsuc n) m w H = Unit {0}

-- ---- news: 1 the address was lost, 2 another sends from it, 3 messages were missed, 4 and more that another of its NAME claims an
-- address, so much more than 4
abbrev pub news_in : ℤ → Option News
news_in (pos zero) = None
news_in (pos (suc zero)) = Some AddressLost
news_in (pos (suc (suc zero))) = Some AnotherAtAddress
news_in (pos (suc (suc (suc zero)))) = Some MessagesMissed
news_in (pos (suc (suc (suc (suc n))))) = Some (NameDoubled n)
news_in (negsuc n) = None
