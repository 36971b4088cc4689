-- What the players of a bus wish to send, once each had its turn.
use Rattle.std.specs.Prelude.{◌≡◌, ◌<◌, ◌≤◌, ◌++◌, ◌∷◌, [], ℕ, List, None, Option, Some, slice_get, slice_set}
use Rattle.std.specs.Option.{option_map}
use Rattle.j39_frame.specs.Identifier.{id_raw}
use Rattle.j39_frame.specs.declared.identifier.Id.{Id}
use Rattle.j39_frame.specs.Frame.{FrameRecord}
use Rattle.j39_node.specs.declared.controller.Controller.{Controller}
use Rattle.j39_node.specs.History.{Who, Call}
use Rattle.j39_node.specs.Is.{Is, next_frame, stamped}
use Rattle.bus_demo.specs.Playing.{HadTurn, controller_of}
use Rattle.bus_demo.specs.declared.bus.Bus.{Bus}
use Rattle.bus_demo.specs.declared.bus.player.Player.{Player}

-- this is the identifier of the frame that the controller would give at this moment
pub record WouldGive (micros : ℕ) (controller : Controller) (wish : Option Id) : Type 0 where
  pub frame : Option FrameRecord
  pub wishes : option_map id_raw wish ≡ option_map (λ f. f.id) frame
  pub gives : (w : Who) (H : List Call) → Is w H controller → option_map stamped frame ≡ next_frame w H micros

-- the wish of a player at this moment: none before its loop turned first
pub record IsWish (micros : ℕ) (player : Player) (wish : Option Id) : Type 0 where
  pub silent : micros < player.starts → wish ≡ None
  pub gives : player.starts ≤ micros → WouldGive micros (controller_of player) wish

-- each player was asked at this moment, and these are their wishes, in their order
abbrev pub AreAsked : ℕ → List Player → List (Option Id) → Type 0
AreAsked micros [] [] = Unit {0}
AreAsked micros (player ∷ players) (wish ∷ wishes) = IsWish micros player wish × AreAsked micros players wishes
AreAsked micros [] (wish ∷ wishes) = ⊥
AreAsked micros (player ∷ players) [] = ⊥

-- players had turns and were asked, and all else is as it was
abbrev pub KeepsButTurned : Bus → Bus → Type 0
KeepsButTurned old new = new ≡ record old { controllers = new.controllers; wishes = new.wishes; book = new.book }

-- the player at a place had its turn and was asked, and the others are as they were
pub record TurnsAt (place micros : ℕ) (old new : Bus) : Type 0 where
  pub player : Player
  pub after : Player
  pub stands : slice_get old.controllers.items place ≡ Some player
  pub turned : HadTurn micros player after
  pub players : new.controllers.items ≡ slice_set old.controllers.items place after
  pub wish : Option Id
  pub wish_is : IsWish micros after wish
  pub wishes : new.wishes.items ≡ old.wishes.items ++ (wish ∷ [])
