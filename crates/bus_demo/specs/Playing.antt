-- What the players of a bus make of time and of frames.
use Rattle.std.specs.Prelude.{◌≡◌, ◌≢◌, ◌+◌, ◌-◌, ◌^◌, ◌<◌, ◌≤◌, ◌⊎◌, ℕ, zero, suc, IsSome, List, None, Option, Some, length, min, nat_lt, slice_get, if◌then◌else◌}
use Rattle.j39_frame.specs.Address.{null_address}
use Rattle.j39_frame.specs.Frame.{FrameRecord}
use Rattle.j39_address.specs.Name.{name_raw}
use Rattle.j39_node.specs.declared.controller.Controller.{Controller}
use Rattle.j39_node.specs.Hearing.{waiting}
use Rattle.j39_node.specs.History.{Who, Call}
use Rattle.j39_node.specs.Is.{Is}
use Rattle.bus_demo.specs.Calls.{Calls, Heard, Ticked, command_to, held_after, is_handing, is_taking}
use Rattle.bus_demo.specs.Moving.{Moves}
use Rattle.bus_demo.specs.Noted.{IsNoted}
use Rattle.bus_demo.specs.Publishing.{AreDueAgain}
use Rattle.bus_demo.specs.declared.bus.book.Book.{Book}
use Rattle.bus_demo.specs.declared.bus.player.Player.{Player}

abbrev pub controller_of : Player → Controller
controller_of player = player.station.controller

-- the address that a player is to claim, by a command that it hears, or by the last one
abbrev pub target : Option ℕ → Option ℕ → Option ℕ
target None last = last
target (Some address) last = if nat_lt address null_address then Some address else last

-- the player's controller heard the frame, and what came of it was taken; where a broadcast commands its NAME it moves
pub record IsHeard (old : Player) (f : FrameRecord) (new : Player) : Type 0 where
  pub heard : Controller
  pub hears : Heard f (controller_of old) heard
  pub obeyed : Controller
  pub obeys : Calls is_taking heard obeyed
  pub aim : Option ℕ
  pub commanded : (w : Who) (H : List Call) → Is w H heard → aim ≡ target (command_to (name_raw old.name) (slice_get (waiting w H) 0)) old.commanded
  pub moves : Moves aim obeyed new.commanded (controller_of new)
  pub rest : new ≡ record old { station = new.station; commanded = new.commanded }

-- the player's loop turned at this moment: time passed, it moved where it had to, and it handed in what was due where it held
-- an address and had to claim no other. It turns again 10 ms later
pub record IsTurned (old : Player) (micros : ℕ) (new : Player) : Type 0 where
  pub own : (new.name ≡ old.name) × (new.is_display ≡ old.is_display) × (new.starts ≡ old.starts)
  pub due : new.due ≡ min (old.due + 10000) (2 ^ 64 - 1)
  pub ticked : Controller
  pub ticks : Ticked micros (controller_of old) ticked
  pub moved : Controller
  pub moves : Moves old.commanded ticked new.commanded moved
  pub silent : (w : Who) (H : List Call) → Is w H moved → (held_after w H ≡ None) ⊎ IsSome new.commanded
      → (controller_of new ≡ moved) × (new.publisher ≡ old.publisher)
  pub measures : (w : Who) (H : List Call) → Is w H moved → IsSome (held_after w H) → new.commanded ≡ None
      → AreDueAgain micros old.publisher.rates new.publisher.rates
  pub hands_in : Calls (is_handing micros) moved (controller_of new)

-- the player had its turn at this moment: its loop turned where it was due, and else nothing happened
pub record HadTurn (micros : ℕ) (old new : Player) : Type 0 where
  pub waits : micros < old.due → new ≡ old
  pub turns : old.due ≤ micros → IsTurned old micros new

-- the player at a place was told the frame: it heard it, and its sender is as it was
abbrev pub IsToldAt : ℕ → ℕ → FrameRecord → Player → Player → Type 0
IsToldAt place sender f old new = (place ≡ sender → new ≡ old) × (place ≢ sender → IsHeard old f new)

-- this happened to the first n players, once to each, and the others are as they were
pub record HappenedBelow (happens : ℕ → Player → Player → Type 0) (n : ℕ) (old new : List Player) : Type 0 where
  pub count : length new ≡ length old
  pub each : (k : ℕ) (player : Player) → k < n → slice_get old k ≡ Some player
      → (after : Player) × (slice_get new k ≡ Some after) × happens k player after
  pub others : (k : ℕ) → n ≤ k → slice_get new k ≡ slice_get old k

-- all were told the frame
abbrev pub AreTold : ℕ → FrameRecord → List Player → List Player → Type 0
AreTold sender f old new = HappenedBelow (λ k. IsToldAt k sender f) (length old) old new

-- all had their turns at this moment
abbrev pub HaveTurned : ℕ → List Player → List Player → Type 0
HaveTurned micros old new = HappenedBelow (λ _. HadTurn micros) (length old) old new

-- what a player heard of a frame was noted
abbrev pub IsHeardNoted : Player → FrameRecord → Book → Book → Type 0
IsHeardNoted player f old new =
    (w : Who) (H : List Call) → Is w H (controller_of player) → IsNoted w H f player.is_display player.station.transfer old new

-- so it is with the player at a place, where it isn't the sender
abbrev pub IsNotedAt : ℕ → ℕ → FrameRecord → List Player → Book → Book → Type 0
IsNotedAt place sender f players old new =
    (place ≡ sender → new ≡ old)
    × (place ≢ sender → (player : Player) → slice_get players place ≡ Some player → IsHeardNoted player f old new)

-- what the first n players heard was noted, of one after another
abbrev pub AreNotedBelow : ℕ → ℕ → FrameRecord → List Player → Book → Book → Type 0
AreNotedBelow zero sender f players old new = new ≡ old
AreNotedBelow (suc n) sender f players old new =
    (between : Book) × AreNotedBelow n sender f players old between × IsNotedAt n sender f players between new

-- what all heard was
abbrev pub AreAllNoted : ℕ → FrameRecord → List Player → Book → Book → Type 0
AreAllNoted sender f players old new = AreNotedBelow (length players) sender f players old new
