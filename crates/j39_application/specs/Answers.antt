-- Requests that a program serves (J1939-21, 5.4.2), each kept till it is answered, refused or dropped.
use Rattle.std.specs.Prelude.{◌≡◌, ◌≢◌, ◌<◌, ◌-◌, ◌++◌, ◌∷◌, ◌&&◌, [], ℕ, Bool, true, false, not, nat_eq, nat_le, Option, Some, None, List, Result, Ok, Err, length, map, if◌then◌else◌}
use Rattle.std.specs.List.{All, list_any}
use Rattle.std.specs.Option.{is_some as is_there, option_map}
use Rattle.j39_frame.specs.Address.{global_address}
use Rattle.j39_node.specs.History.{Asked, Call, Draft, repeats, Who}
use Rattle.j39_node.specs.History.Act.{Acknowledge}
use Rattle.j39_node.specs.History.Call.{At}
use Rattle.j39_node.specs.Is.{Is}
use Rattle.j39_node.specs.declared.controller.Controller.{Controller}
use Rattle.j39_node.specs.declared.kinds.Answer.TheVariants.{Busy}
use Rattle.j39_node.specs.declared.kinds.Refused.{Refused}
use Rattle.j39_node.specs.declared.kinds.Refused.TheVariants.{Full}
use Rattle.j39_transfers.specs.Transfers.{listed}
use Rattle.j39_application.specs.Kept.{soonest as soonest_of}
use Rattle.j39_application.specs.Sending.{sent_as}

-- a request that is open: who asked whom for what, its answer, if it has one, and what is left of its 200 ms (own), in microseconds
pub record Open : Type 0 where
  pub asked : Asked
  pub answer : Option (List ℕ)
  pub left : ℕ

-- those that are open, the oldest first, in so many boxes, and the moment that was told last
pub record AnswersRecord : Type 0 where
  pub boxes : ℕ
  pub moment : ℕ
  pub requests : List Open

abbrev pub none_in : ℕ → AnswersRecord
none_in boxes = record { boxes = boxes; moment = 0; requests = [] }

-- at a moment the time since the last is over; time that goes back is no time
abbrev pub aged : ℕ → Open → Open
aged time o = record o { left = o.left - time }

abbrev pub older : ℕ → AnswersRecord → List Open
older now s = map (aged (now - s.moment)) s.requests

-- a request is taken, if one waits
abbrev pub opened : Asked → Open
opened r = record { asked = r; answer = None; left = 200000 }

abbrev pub takes : ℕ → Option Asked → AnswersRecord → AnswersRecord
takes now r s = record s { moment = now; requests = older now s ++ listed (option_map opened r) }

-- the oldest one like it that has no answer gets this one
abbrev pub lacks : Asked → Open → Bool
lacks r o = repeats o.asked r && not (is_there o.answer)

abbrev pub answered : Asked → List ℕ → List Open → List Open
answered r bytes [] = []
answered r bytes (o ∷ os) = if lacks r o then record o { answer = Some bytes } ∷ os else o ∷ answered r bytes os

abbrev pub can_answer : Asked → List ℕ → AnswersRecord → Bool
can_answer r bytes s = nat_le (length bytes) 1785 && list_any (lacks r) s.requests

abbrev pub answers : Asked → List ℕ → AnswersRecord → AnswersRecord
answers r bytes s = if nat_le (length bytes) 1785 then record s { requests = answered r bytes s.requests } else s

-- how long the first still has
abbrev pub soonest : List Open → Option ℕ
soonest os = soonest_of (λ o. o.left) os

-- ---- a turn

-- its message: priority 6, to all where all were asked, else to who asked
abbrev pub reply : Asked → List ℕ → Draft
reply r bytes = record { priority = 6; group = r.group; to = if nat_eq r.destination global_address then global_address else r.source; bytes = bytes }

abbrev pub hands_in : ℕ → Open → List ℕ → Result ℕ Refused → Call
hands_in now o bytes answer = At now (sent_as (reply o.asked bytes) answer)

abbrev pub refuses : ℕ → Open → Result (Unit {0}) Refused → Call
refuses now o answer = At now (Acknowledge o.asked Busy answer)

-- by these calls, the newest first, it isn't handed in: it has no answer, or there is no room
pub data IsVain (now : ℕ) (o : Open) : List Call → Type 0 where
  unanswered : o.answer ≡ None → IsVain now o []
  full : (bytes : List ℕ) → o.answer ≡ Some bytes → IsVain now o (hands_in now o bytes (Err Full) ∷ [])

-- what becomes of it
pub data Fate : Type 0 where
  Stays : Fate
  HandedIn : Fate
  ToldBusy : Fate
  Dropped : Fate

-- what a turn does about one that is open: its calls, the newest first, and what becomes of it. It is dropped if it can't be sent, is
-- too late where all were asked, or can't be refused
pub data Does (now : ℕ) (o : Open) : List Call → Fate → Type 0 where
  accepted : (bytes : List ℕ) (token : ℕ) → o.answer ≡ Some bytes → Does now o (hands_in now o bytes (Ok token) ∷ []) HandedIn
  unsendable : (bytes : List ℕ) (why : Refused) → o.answer ≡ Some bytes → why ≢ Full → Does now o (hands_in now o bytes (Err why) ∷ []) Dropped
  waits : (C : List Call) → IsVain now o C → 0 < o.left → Does now o C Stays
  too_late : (C : List Call) → IsVain now o C → o.left ≡ 0 → o.asked.destination ≡ global_address → Does now o C Dropped
  refused : (C : List Call) → IsVain now o C → o.left ≡ 0 → o.asked.destination ≢ global_address → Does now o (refuses now o (Ok tt) ∷ C) ToldBusy
  unrefused : (C : List Call) → IsVain now o C → o.left ≡ 0 → o.asked.destination ≢ global_address → Does now o (refuses now o (Err Full) ∷ C) Stays
  unrefusable : (C : List Call) (why : Refused) → IsVain now o C → o.left ≡ 0 → o.asked.destination ≢ global_address → why ≢ Full
      → Does now o (refuses now o (Err why) ∷ C) Dropped

abbrev pub is_fate : Fate → Fate → Bool
is_fate Stays Stays = true
is_fate HandedIn HandedIn = true
is_fate ToldBusy ToldBusy = true
is_fate Dropped Dropped = true
is_fate f g = false

-- calls lead a controller on
abbrev pub LeadsOn : List Call → Controller → Controller → Type 0
LeadsOn C old new = (w : Who) (H : List Call) → Is w H old → Is w (C ++ H) new

-- by such calls it isn't handed in; by such it is settled, or stays
pub record IsLeft (now : ℕ) (o : Open) (old new : Controller) : Type 0 where
  pub calls : List Call
  pub vain : IsVain now o calls
  pub leads : LeadsOn calls old new

pub record IsMet (now : ℕ) (o : Open) (settled : Bool) (old new : Controller) : Type 0 where
  pub calls : List Call
  pub fate : Fate
  pub does : Does now o calls fate
  pub ends : settled ≡ not (is_fate Stays fate)
  pub leads : LeadsOn calls old new

-- what a turn did about a request
pub record Deed : Type 0 where
  pub request : Open
  pub calls : List Call
  pub fate : Fate

-- of deeds, the newest first: whose they are, who stays, and all calls, the newest first
abbrev pub requests_of : List Deed → List Open
requests_of [] = []
requests_of (d ∷ ds) = requests_of ds ++ d.request ∷ []

abbrev pub kept : List Deed → List Open
kept [] = []
kept (d ∷ ds) = kept ds ++ (if is_fate Stays d.fate then d.request ∷ [] else [])

abbrev pub calls : List Deed → List Call
calls [] = []
calls (d ∷ ds) = d.calls ++ calls ds

-- one deed for each that is open, the oldest first
pub record IsTurn (now : ℕ) (s : AnswersRecord) (ds : List Deed) : Type 0 where
  pub each : requests_of ds ≡ older now s
  pub does : All (λ d. Does now d.request d.calls d.fate) ds

abbrev pub turned : ℕ → List Deed → AnswersRecord → AnswersRecord
turned now ds s = record s { moment = now; requests = kept ds }
