-- The steps of a node on a bus, frame by frame.
use Rattle.std.specs.Prelude.{◌≡◌, ◌++◌, ◌∷◌, [], ℕ, Bool, true, false, List, Option, length}
use Rattle.std.specs.Option.{option_map, option_to_list}
use Rattle.j39_frame.specs.Frame.{FrameRecord}
use Rattle.j39_groups.specs.Table.{the_table}
use Rattle.j39_address.specs.Call.{Call, call_of}
use Rattle.j39_address.specs.Call.Call.{Start, Tick}
use Rattle.j39_address.specs.Claimer.{IsNode}
use Rattle.j39_address.specs.Command.{command_by}
use Rattle.j39_address.specs.Node.{Node}
use Rattle.j39_address.specs.declared.claimer.Claimer.{Claimer}
use Rattle.j39_listen.specs.Answers.{AnsweredBelow, Called, CommandedAt}
use Rattle.j39_listen.specs.Heard.{AreHeard, Hearing, HeardAt, or_none}
use Rattle.j39_listen.specs.Listening.{Hears}
use Rattle.j39_listen.specs.Output.{Output, answers_of}
use Rattle.j39_listen.specs.ReportSoFar.{made_of}
use Rattle.j39_listen.specs.declared.answers.Answers.{Answers}
use Rattle.j39_listen.specs.declared.answers.Noticed.{Noticed}
use Rattle.j39_listen.specs.declared.answers.Sent.{Sent}

abbrev pub is_empty : List FrameRecord → Bool
is_empty [] = true
is_empty (f ∷ F) = false

-- the first frame starts the node
abbrev pub starts : Bool → List Call
starts true = Start ∷ []
starts false = []

-- then time passes, and it hears the frame
abbrev pub hears : FrameRecord → List Call
hears f = Tick ∷ call_of f ∷ []

-- what is sent at a frame, in order
abbrev pub all_sent : Sent → List FrameRecord
all_sent sent = option_to_list sent.started ++ (option_to_list sent.answered ++ option_to_list sent.obeyed)

-- called with these the node sends these frames, and is the claimer afterwards
pub record Calls (node : Node) (calls : List Call) (now : ℕ) (sent : List FrameRecord)
    (claimer : Claimer) : Type 0 where
  pub after : Node
  pub called : Called node calls now sent after
  pub is_node : IsNode claimer after

-- so does each node that the claimer was
abbrev pub Obeys : Claimer → List Call → ℕ → List FrameRecord → Claimer → Type 0
Obeys old calls now sent new = (node : Node) → IsNode old node → Calls node calls now sent new

-- behind the frames F so many messages are heard at the frame f, and it commands this
pub record Notices (F : List FrameRecord) (f : FrameRecord) (noticed : Noticed) : Type 0 where
  pub heard : Option Hearing
  pub heard_at : HeardAt the_table (F ++ f ∷ []) (length F) heard
  pub messages_are : noticed.messages ≡ length (or_none heard)
  pub commanded : CommandedAt (F ++ f ∷ []) (length F) (option_map command_by noticed.command)

-- the node was given F, and has sent so much on a bus of this name
pub record HasAnswered (start : Node) (bus : List ℕ) (answers : Answers) (F : List FrameRecord)
    (output : Output) : Type 0 where
  pub heard : List Hearing
  pub are_heard : AreHeard the_table F heard
  pub sent : List FrameRecord
  pub node : Node
  pub answered : AnsweredBelow start F (length F) sent node
  pub output_is : output ≡ answers_of bus heard sent
  pub hears : Hears answers.listener F
  pub is_node : IsNode answers.claimer node
  pub is_idle : answers.is_idle ≡ is_empty F
  pub made_is : answers.made ≡ made_of output
