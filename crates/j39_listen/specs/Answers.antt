-- What a node sends on a bus, frame by frame (J1939-81, 4.2 and 4.5), and its text.
use Rattle.std.specs.Prelude.{◌≡◌, ℕ, zero, suc, List, [], ◌∷◌, ◌++◌, Option, Some, None, length}
use Rattle.std.specs.List.{flat_map}
use Rattle.j39_frame.specs.Address.{global_address}
use Rattle.j39_log.specs.Canonical.{line_text}
use Rattle.j39_io.specs.Chars.{newline}
use Rattle.j39_frame.specs.Frame.{FrameRecord}
use Rattle.j39_frame.specs.Identifier.{destination_of}
use Rattle.j39_groups.specs.Table.{the_table}
use Rattle.j39_address.specs.Call.{Call, call_of}
use Rattle.j39_address.specs.Call.Call.{Start, Tick, Commanded}
use Rattle.j39_address.specs.Claim.{claim_frame}
use Rattle.j39_address.specs.Command.{Command, commanded_of}
use Rattle.j39_address.specs.Node.{Node}
use Rattle.j39_address.specs.NodeStep.{NodeStep}
use Rattle.j39_listen.specs.Heard.{Hearing, IsHeard, frame_at}

-- the message that is heard at F[i] is this commanded address, and it was broadcast
pub record IsCommanded (F : List FrameRecord) (i : ℕ) (c : Command) : Type 0 where
  pub heard : Hearing
  pub is_heard : IsHeard the_table F i heard
  pub command_is : commanded_of heard.message.pgn heard.message.bytes ≡ Some c
  pub to_all : destination_of (frame_at F i).id ≡ Some global_address

-- what F[i] commands, or nothing
abbrev pub CommandedAt : List FrameRecord → ℕ → Option Command → Type 0
CommandedAt F i (Some c) = IsCommanded F i c
CommandedAt F i None = (c : Command) → IsCommanded F i c → ⊥

abbrev pub commands : Option Command → List Call
commands None = []
commands (Some c) = Commanded c ∷ []

-- what a node is called with at a frame: time passes, it hears the frame, and it may be commanded
abbrev pub calls_with : FrameRecord → Option Command → List Call
calls_with f command = Tick ∷ call_of f ∷ commands command

-- at the first frame it is started before
abbrev pub calls_at : ℕ → FrameRecord → Option Command → List Call
calls_at zero f command = Start ∷ calls_with f command
calls_at (suc i) f command = calls_with f command

-- the frame that a node sends, of its NAME and the address of its answer
abbrev pub sent_by : ℕ → ℕ → Option ℕ → List FrameRecord
sent_by now name None = []
sent_by now name (Some a) = claim_frame now name a ∷ []

-- called with these in turn at one moment the node sends these frames, and is that node afterwards
abbrev pub Called : Node → List Call → ℕ → List FrameRecord → Node → Type 0
Called node [] now sent node' = (sent ≡ []) × (node' ≡ node)
Called node (call ∷ calls) now sent node' =
    (answer : Option ℕ) × (mid : Node) × (rest : List FrameRecord)
    × NodeStep node call now answer mid × Called mid calls now rest node'
    × (sent ≡ sent_by now node.name answer ++ rest)

-- with the first n frames of F, each at its stamp, the node sends these frames, and is that node afterwards
abbrev pub AnsweredBelow : Node → List FrameRecord → ℕ → List FrameRecord → Node → Type 0
AnsweredBelow node F zero sent node' = (sent ≡ []) × (node' ≡ node)
AnsweredBelow node F (suc n) sent node' =
    (before : List FrameRecord) × (mid : Node) × (command : Option Command) × (here : List FrameRecord)
    × AnsweredBelow node F n before mid × CommandedAt F n command
    × Called mid (calls_at n (frame_at F n) command) (frame_at F n).stamp here node' × (sent ≡ before ++ here)

-- with all frames of F the node sends these
abbrev pub AreAnswers : Node → List FrameRecord → List FrameRecord → Type 0
AreAnswers node F sent = (node' : Node) × AnsweredBelow node F (length F) sent node'

-- the canonical line of a frame on a bus, with its newline
abbrev pub sent_line : List ℕ → FrameRecord → List ℕ
sent_line bus f = line_text f bus ++ (newline ∷ [])

unfoldable pub sent_text : List ℕ → List FrameRecord → List ℕ
sent_text bus sent = flat_map (sent_line bus) sent
