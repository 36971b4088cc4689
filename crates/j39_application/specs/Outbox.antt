-- Messages, and requests (J1939-21, 5.4.2), to NAMEs (J1939-81, 4.1.1): each is kept till its NAME holds an address and there is room.
use Rattle.std.specs.Prelude.{◌≡◌, ◌<◌, ◌^◌, ◌+◌, ◌-◌, ◌++◌, ◌∷◌, ◌&&◌, [], ℕ, Bool, true, nat_eq, nat_le, nat_lt, Option, Some, None, List, Result, Ok, Err, IfOk, length, map, drop, if◌then◌else◌}
use Rattle.std.specs.Option.{option_map}
use Rattle.j39_address.specs.Claim.{claims_of}
use Rattle.j39_address.specs.Holder.{IsHolderAfter}
use Rattle.j39_frame.specs.Frame.{FrameRecord}
use Rattle.j39_node.specs.History.{Call, Draft, request_for, told_claims, Who}
use Rattle.j39_node.specs.History.Act.{Ask, TakeFrame}
use Rattle.j39_node.specs.History.Call.{At}
use Rattle.j39_node.specs.Is.{Is}
use Rattle.j39_node.specs.declared.controller.Controller.{Controller}
use Rattle.j39_node.specs.declared.kinds.Refused.{Refused}
use Rattle.j39_node.specs.declared.kinds.Refused.TheVariants as why
use Rattle.j39_transfers.specs.Transfers.{listed}
use Rattle.j39_application.specs.Answers.{LeadsOn}
use Rattle.j39_application.specs.Kept.{soonest as soonest_of, stays}
use Rattle.j39_application.specs.Sending.{numbers, sent_as, way_of}
use Rattle.j39_application.specs.declared.letter.Settled.{Settled}
use Rattle.j39_application.specs.declared.letter.Settled.TheVariants as settled
use Rattle.j39_application.specs.declared.sending.Token.{Token}
use Rattle.j39_application.specs.declared.sending.Way.{Way}

-- what goes to a NAME: a message of this priority, group and bytes, or a request for this group
pub data Errand : Type 0 where
  Message : ℕ → ℕ → List ℕ → Errand
  Request : ℕ → Errand

-- one that is kept: how many were accepted before it, for which NAME, what, and what is left of the 1,250 ms that the NAME, or the
-- controller itself, may hold no address (own), in microseconds
pub record Letter : Type 0 where
  pub number : ℕ
  pub name : ℕ
  pub errand : Errand
  pub left : ℕ

-- in so many boxes those that are kept, the oldest first, and those that were settled and aren't told yet, in that order; the moment that
-- was told last; and how many were accepted
pub record OutboxRecord : Type 0 where
  pub boxes : ℕ
  pub accepted : ℕ
  pub moment : ℕ
  pub letters : List Letter
  pub settled : List (ℕ × Settled)

abbrev pub none_out : ℕ → OutboxRecord
none_out boxes = record { boxes = boxes; accepted = 0; moment = 0; letters = []; settled = [] }

-- at a moment the time since the last is over; time that goes back is no time
abbrev pub aged : ℕ → Letter → Letter
aged time o = record o { left = o.left - time }

abbrev pub older : ℕ → OutboxRecord → List Letter
older now s = map (aged (now - s.moment)) s.letters

-- ---- one is accepted

abbrev pub patience : ℕ
patience = 1250000

abbrev pub kept_anew : ℕ → ℕ → Errand → Letter
kept_anew number name e = record { number = number; name = name; errand = e; left = patience }

-- what can be sent: a priority of 0 to 7, 0 to 1,785 bytes
abbrev pub can_go : Errand → Bool
can_go (Message priority group bytes) = nat_lt priority 8 && nat_le (length bytes) 1785
can_go (Request group) = true

abbrev pub has_room : OutboxRecord → Bool
has_room s = nat_lt (length s.letters + length s.settled) s.boxes && nat_lt s.accepted (2 ^ 64 - 1)

-- its number, or why not
abbrev pub number_of : OutboxRecord → Result ℕ Refused
number_of s = if has_room s then Ok s.accepted else Err why.Full

abbrev pub answer : Errand → OutboxRecord → Result ℕ Refused
answer e s = if can_go e then number_of s else Err why.BadValue

-- it is kept behind the others, or nothing changes
abbrev pub put : ℕ → ℕ → Errand → OutboxRecord → OutboxRecord
put now name e s =
    if has_room s
    then record s { accepted = s.accepted + 1; moment = now; letters = older now s ++ kept_anew s.accepted name e ∷ [] }
    else s

abbrev pub keeps : ℕ → ℕ → Errand → OutboxRecord → OutboxRecord
keeps now name e s = if can_go e then put now name e s else s

-- the oldest that was settled is told, if there is one
abbrev pub tells : OutboxRecord → OutboxRecord
tells s = record s { settled = drop 1 s.settled }

-- how long the first still has
abbrev pub soonest : List Letter → Option ℕ
soonest os = soonest_of (λ o. o.left) os

-- ---- a frame is taken

-- by the claims that were told to a controller a NAME holds this address, or none (J1939-81, 4.2.2)
abbrev pub Stands : Who → List Call → ℕ → ℕ → Type 0
Stands w H name a = IsHolderAfter (claims_of (told_claims w H)) a (Some name)

abbrev pub StandsNowhere : Who → List Call → ℕ → Type 0
StandsNowhere w H name = (a : ℕ) → a < 254 → Stands w H name a → ⊥

-- what goes to an address then, the call that hands it in, and its way
abbrev pub draft_to : ℕ → Errand → Draft
draft_to a (Message priority group bytes) = record { priority = priority; group = group; to = a; bytes = bytes }
draft_to a (Request group) = request_for group a

abbrev pub hands_in : ℕ → Errand → ℕ → Result ℕ Refused → Call
hands_in now (Message priority group bytes) a answer = At now (sent_as (draft_to a (Message priority group bytes)) answer)
hands_in now (Request group) a answer = At now (Ask group a answer)

abbrev pub goes_by : Errand → ℕ → Way
goes_by e a = way_of (draft_to a e)

-- how one with so much of its time left is settled by what the controller answers: not at all where there is no room, nor where that
-- holds no address itself (J1939-81, 4.2.2), unless nothing is left
abbrev pub settled_by : ℕ → Result Token Refused → Option Settled
settled_by left (Ok token) = Some (settled.HandedIn token)
settled_by left (Err why.NoAddress) = if nat_eq left 0 then Some (settled.Refused why.NoAddress) else None
settled_by left (Err why.BadValue) = Some (settled.Refused why.BadValue)
settled_by left (Err why.Full) = None

-- what is left of its time then: that goes on where the controller holds no address itself, else it counts anew
abbrev pub left_by : ℕ → Result Token Refused → ℕ
left_by left (Err why.NoAddress) = left
left_by left _ = patience

-- what a take does about one, behind this history: its calls, what it is afterwards, and how it is settled, if it is. Where its NAME holds
-- an address it is handed in to that, and what the controller answers says the rest
pub data Does (w : Who) (H : List Call) (now : ℕ) (o : Letter) : List Call → Letter → Option Settled → Type 0 where
  handed_in : (a : ℕ) (answer : Result Token Refused) → Stands w H o.name a → IfOk answer (λ token. token.way ≡ goes_by o.errand a)
      → Does w H now o (hands_in now o.errand a (numbers answer) ∷ []) (record o { left = left_by o.left answer }) (settled_by o.left answer)
  waits : StandsNowhere w H o.name → 0 < o.left → Does w H now o [] o None
  gone : StandsNowhere w H o.name → o.left ≡ 0 → Does w H now o [] o (Some settled.Gone)

pub record IsMet (now : ℕ) (o after : Letter) (settled : Option Settled) (old new : Controller) : Type 0 where
  pub calls : List Call
  pub does : (w : Who) (H : List Call) → Is w H old → Does w H now o calls after settled
  pub leads : LeadsOn calls old new

-- what a take did about one, and the frame that it took then
pub record Deed : Type 0 where
  pub letter : Letter
  pub calls : List Call
  pub after : Letter
  pub settled : Option Settled
  pub frame : Option FrameRecord

abbrev pub numbered : ℕ → Option Settled → Option (ℕ × Settled)
numbered number how = option_map (λ s. (number, s)) how

abbrev pub ends : Option Settled → ℕ → List (ℕ × Settled)
ends how number = listed (numbered number how)

-- of deeds, the newest first: whose they are, who stays, how the others were settled, the frame that was taken last, if one was; and all
-- calls, the newest first: none was due before
abbrev pub letters_of : List Deed → List Letter
letters_of [] = []
letters_of (d ∷ ds) = letters_of ds ++ d.letter ∷ []

abbrev pub kept : List Deed → List Letter
kept [] = []
kept (d ∷ ds) = kept ds ++ stays d.settled d.after

abbrev pub settled_of : List Deed → List (ℕ × Settled)
settled_of [] = []
settled_of (d ∷ ds) = settled_of ds ++ ends d.settled d.letter.number

abbrev pub last_frame : List Deed → Option FrameRecord
last_frame [] = None
last_frame (d ∷ ds) = d.frame

abbrev pub calls : ℕ → List Deed → List Call
calls now [] = At now (TakeFrame None) ∷ []
calls now (d ∷ ds) = At now (TakeFrame d.frame) ∷ d.calls ++ calls now ds

-- each was done behind the calls of those before it, where these took no frame
abbrev pub AreDone : Who → List Call → ℕ → List Deed → Type 0
AreDone w H now [] = Unit {0}
AreDone w H now (d ∷ ds) = Does w (calls now ds ++ H) now d.letter d.calls d.after d.settled × (last_frame ds ≡ None) × AreDone w H now ds

-- one deed for each that is kept, the oldest first, but for the rest, which there is only where a frame was taken
pub record IsTurn (w : Who) (H : List Call) (now : ℕ) (s : OutboxRecord) (ds : List Deed) (rest : List Letter) : Type 0 where
  pub each : letters_of ds ++ rest ≡ older now s
  pub does : AreDone w H now ds
  pub all : last_frame ds ≡ None → rest ≡ []

abbrev pub turned : ℕ → List Deed → List Letter → OutboxRecord → OutboxRecord
turned now ds rest s = record s { moment = now; letters = rest ++ kept ds; settled = s.settled ++ settled_of ds }

-- the frame that a take answers, and the outbox afterwards: what the controller has due goes first, and nothing else is done; where that
-- has none, the letters have their turns till a frame is taken
pub data IsTake (now : ℕ) (s : OutboxRecord) (old new : Controller) : Option FrameRecord → OutboxRecord → Type 0 where
  due : (f : FrameRecord) → LeadsOn (At now (TakeFrame (Some f)) ∷ []) old new → IsTake now s old new (Some f) s
  turns : (ds : List Deed) (rest : List Letter) → ((w : Who) (H : List Call) → Is w H old → IsTurn w H now s ds rest)
      → LeadsOn (calls now ds) old new → IsTake now s old new (last_frame ds) (turned now ds rest s)
