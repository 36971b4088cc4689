-- Who holds which address after the frames of a bus (J1939-81, 4.2), and its row.
use Rattle.std.specs.Prelude.{◌≡◌, ℕ, Bool, List, [], ◌∷◌, Option, Some, None, codes}
use Rattle.j39_frame.specs.Frame.{FrameRecord}
use Rattle.j39_listen.specs.Filter.{is_sender}
use Rattle.j39_listen.specs.Output.{Making}
use Rattle.j39_listen.specs.declared.filter.Sender.{Sender}
use Rattle.j39_listen.specs.declared.format.Clock.TheVariants.{Seconds}
use Rattle.j39_listen.specs.declared.format.Format.TheVariants.{Line}
use Rattle.j39_survey.specs.ByAddress.{AreShown, lines_of, shown_from}
use Rattle.j39_rows.specs.Row.{name_column}
use Rattle.j39_rows.specs.Row.{HeadRecord, address_word, row_text}

-- a node: an address, and the NAME that holds it
pub record Holding : Type 0 where
  pub address : ℕ
  pub name : ℕ

-- the node at an address with this holder; none where nobody holds it
abbrev pub node_at : ℕ → Option ℕ → List Holding
node_at a None = []
node_at a (Some name) = record { address = a; name = name } ∷ []

-- all nodes that hold an address after F, by rising address
abbrev pub AreNodes : List FrameRecord → List Holding → Type 0
AreNodes F nodes = AreShown (λ a holder here. here ≡ node_at a holder) F nodes

-- its row begins with the address
abbrev pub node_head : ℕ → HeadRecord
node_head address = record { name = codes "address"; first = address_word address; columns = [] }

-- the line of a node: the address, and the NAME
abbrev pub node_text : Holding → List ℕ
node_text node = row_text (Line Seconds) (node_head node.address) (name_column (Some node.name) ∷ [])

-- it is meant by its address or by its NAME
abbrev pub is_node : Holding → Sender → Bool
is_node node asked = is_sender node.address (Some node.name) asked

-- a line for each node that is asked for, whatever the bus is called
abbrev pub MakesNodesOf : Option (List Sender) → Making
MakesNodesOf from bus F output =
    (nodes : List Holding) × AreNodes F nodes × (output ≡ lines_of node_text (shown_from is_node from nodes))

-- a line for each node
abbrev pub MakesNodes : Making
MakesNodes = MakesNodesOf None
