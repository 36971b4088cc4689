-- The steps of lists of nodes: nothing is written before the end, and there a line for each address that has one.
use Rattle.std.specs.Prelude.{◌≡◌, ◌++◌, ℕ, zero, suc, List, [], Option, map}
use Rattle.std.specs.Option.{option_map}
use Rattle.j39_address.specs.Claims.{Knows, holder_in}
use Rattle.j39_frame.specs.Frame.{FrameRecord}
use Rattle.j39_survey.specs.ByAddress.{shown_from}
use Rattle.j39_survey.specs.Nodes.{is_node, node_at, node_text}
use Rattle.j39_listen.specs.Output.{Output, nothing}
use Rattle.j39_listen.specs.declared.filter.Sender.{Sender}
use Rattle.j39_survey.specs.declared.node_lists.held.HeldList.{HeldList}

-- what stands at the addresses below n, rising
unfoldable pub all_below : {T : Type 0} → (ℕ → List T) → ℕ → List T
all_below at zero = []
all_below at (suc n) = all_below at n ++ at n

-- who is asked for
abbrev pub asked_in : HeldList → Option (List Sender)
asked_in list = option_map (λ senders. senders.now) list.from

-- the claims of the frames F were noted, to be written of these senders
pub record HasNoted (from : Option (List Sender)) (list : HeldList) (F : List FrameRecord) (output : Output) : Type 0 where
  pub knows : Knows list.claims F
  pub from_is : asked_in list ≡ from
  pub nothing : output ≡ nothing

-- the line of an address, if its holder is asked for
abbrev pub node_lines : HeldList → ℕ → List (List ℕ)
node_lines list a = map node_text (shown_from is_node (asked_in list) (node_at a (holder_in list.claims a)))
