-- When a controller may move to another address, and what it is then.
use Rattle.std.specs.Prelude.{◌&&◌, ◌-◌, ◌||◌, ◌∷◌, ◌≡◌}
use Rattle.j39_node.specs.Common.{[], Bool, is_some, length, List, nat_eq, None, not, ℕ}
use Rattle.j39_node.specs.declared.controller.Controller.{Controller}
use Rattle.j39_node.specs.History.{Who, Call, accepted, got, handed, kept, moment, open_broadcast, requests, told, told_claims}
use Rattle.j39_node.specs.Reception.{reception}
use Rattle.j39_node.specs.Hearing.{waiting}
use Rattle.j39_node.specs.Transfers.{age, transfer_events, transfers_at}
use Rattle.j39_node.specs.Asking.{open_ask}
use Rattle.j39_node.specs.History.Call.{At}
use Rattle.j39_node.specs.History.Act.{Tick}
use Rattle.j39_node.specs.Is.{Is, incoming_of, next_news}

-- all that was accepted is told to have ended, all that was received is taken, and so is all news
pub record IsSettled (w : Who) (H : List Call) : Type 0 where
  pub messages : length (told H) ≡ length (accepted w H)
  pub broadcast : open_broadcast w H ≡ None
  pub transfer : (transfers_at w H).running ≡ []
  pub request : open_ask H ≡ None
  pub received : length (got H) ≡ length (kept w H)
  pub requests_taken : length (handed H) ≡ length (requests w H)
  pub received_transfer : (reception w H).waits ≡ []
  pub received_broadcast : waiting w H ≡ []
  pub news : next_news w H ≡ None

-- the same controller at another address: it knows the claims told so far, and what rests goes on to rest
abbrev pub moved : Who → List Call → ℕ → Who
moved w H address = record {
  name = w.name;
  address = address;
  delay = w.delay;
  served = w.served;
  subscribed = w.subscribed;
  boxes = w.boxes;
  sessions = w.sessions;
  transfers = w.transfers;
  window = w.window;
  brought = record {
    known = told_claims w H;
    events = transfer_events w H;
    age = age w H - moment H;
  };
}

-- and its history begins with a tick at the moment of the last call
abbrev pub begun : List Call → List Call
begun H = At (moment H) Tick ∷ []

abbrev pub HasMoved : Who → List Call → ℕ → Controller → Type 0
HasMoved w H address c = Is (moved w H address) (begun H) c

-- ---- by what the code has, but for transfers

abbrev pub has_told : Controller → Bool
has_told c =
    nat_eq (length c.outgoing.items) 0
    && (not (is_some c.lane.current) && not (is_some c.asking.current))

abbrev pub has_given : Controller → Bool
has_given c =
    nat_eq (length c.inbox.unread.items) 0
    && (nat_eq (length c.desk.waiting.items) 0
    && (nat_eq (length (incoming_of c.incoming).reception.waits) 0
    && (nat_eq (length c.hearing.whole.items) 0 && not (c.news.lost || (c.news.another || (is_some c.news.doubled || c.news.missed))))))
