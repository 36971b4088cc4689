-- The nodes that hold an address, as an account writes them.
use Rattle.std.proofs.Common.{◌≡◌, ◌<◌, ◌^◌, ℕ, List, Option, length, map, refl, sym, ap, ◌∙◌, arith}
use Rattle.std.specs.Io.KnownBytes.{Appends}
use Rattle.std.specs.List.{concat}
use Rattle.j39_io.specs.Device.{AppendsFront}
use Rattle.j39_address.specs.Claims.{holder_in}
use Rattle.j39_listen.specs.AccountCalls.{Begins, Closes, MakesOne, StopsAtEnd}
use Rattle.j39_survey.specs.ByAddress.{lines_of, shown_from}
use Rattle.j39_survey.specs.Nodes.{Holding, MakesNodesOf, is_node, node_at, node_text}
use Rattle.j39_survey.specs.NodesSoFar.{HasNoted, all_below, asked_in, node_lines}
use Rattle.j39_listen.specs.Output.{Output}
use Rattle.j39_listen.specs.declared.filter.Sender.{Sender}
use Rattle.j39_survey.specs.declared.node_lists.held.HeldList.{HeldList}
use Rattle.j39_survey.proofs.ByAddressLemmas.{Makes, begins_empty, closes_lines, lines_are, one_text, shown_is, stops_lines}

-- one text is made of some frames
pub nodes_one : (from : Option (List Sender)) → MakesOne (MakesNodesOf from)
nodes_one from = one_text (λ F a holder here. here ≡ node_at a holder) node_text (shown_from is_node from) (λ F a holder x y is_x is_y. is_x ∙ sym is_y)

-- who holds an address by the table
nodes_in : HeldList → ℕ → List Holding
nodes_in list a = node_at a (holder_in list.claims a)

asked : HeldList → List Holding
asked list = shown_from is_node (asked_in list) (all_below (nodes_in list) 254)

lines_asked : (list : HeldList) → all_below (node_lines list) 254 ≡ map node_text (asked list)
unfolding asked nodes_in
lines_asked list = lines_are node_text is_node (asked_in list) (λ a. node_at a (holder_in list.claims a)) 254

makes_asked : (from : Option (List Sender)) (list : HeldList) → Makes (λ bus. HasNoted from) (MakesNodesOf from) list node_text (asked list)
unfolding asked nodes_in
makes_asked from list = λ bus F before has. (
  ap (λ (o : Output). o.text) has.nothing,
  (
    all_below (nodes_in list) 254,
    shown_is (λ a holder here. here ≡ node_at a holder) F (nodes_in list) (holder_in list.claims) 254 (omega arith) has.knows (λ a below. refl),
    ap (λ (f : Option (List Sender)). lines_of node_text (shown_from is_node f (all_below (nodes_in list) 254))) has.from_is,
  ),
)

pub nodes_begin : (from : Option (List Sender)) → Begins (λ bus. HasNoted from) (MakesNodesOf from)
nodes_begin from = begins_empty (λ bus. HasNoted from) (MakesNodesOf from) (λ bus a F before has. ap (λ (o : Output). o.text) has.nothing)

pub nodes_close : (from : Option (List Sender)) (a : HeldList) (lines : ℕ) (old new : Option (List ℕ)) → lines < 2 ^ 64
    → lines ≡ length (all_below (node_lines a) 254) → Appends old new (concat (all_below (node_lines a) 254))
    → Closes (λ bus. HasNoted from) (MakesNodesOf from) a (record { messages = 0; lines = lines }) old new
nodes_close from a lines old new fits count written =
    closes_lines (λ bus. HasNoted from) (MakesNodesOf from) a node_text (asked a) _ lines old new (lines_asked a) fits count written (makes_asked from a)

pub nodes_stop : (from : Option (List Sender)) (a : HeldList) (old new : Option (List ℕ)) → AppendsFront old new (concat (all_below (node_lines a) 254))
    → StopsAtEnd (λ bus. HasNoted from) (MakesNodesOf from) a old new
nodes_stop from a old new front =
    stops_lines (λ bus. HasNoted from) (MakesNodesOf from) a node_text (asked a) _ old new (lines_asked a) (nodes_one from) front (makes_asked from a)
