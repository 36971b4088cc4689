-- Frames that others exchange.
use Rattle.std.specs.Prelude.{◌≡◌, ◌≢◌}
use Rattle.j39_node.specs.Common.{claim_of, destination_of, false, FrameRecord, global_address, None, Some, source_of, ℕ}
use Rattle.j39_node.specs.History.{Who}
use Rattle.j39_node.specs.Reception.{asks_claims}

-- the frame goes from another's address to another's, claims none, and asks for no claims
pub record IsAside (w : Who) (f : FrameRecord) : Type 0 where
  pub to : ℕ
  pub goes : destination_of f.id ≡ Some to
  pub not_here : to ≢ w.address
  pub not_all : to ≢ global_address
  pub source : source_of f.id ≢ w.address
  pub claims : claim_of f ≡ None
  pub asks : asks_claims f ≡ false
