-- At each frame a node is commanded or not, and it sends some frames with each list of them.
use Rattle.std.proofs.Common.{◌≡◌, ◌≢◌, ◌<◌, ◌≤◌, ℕ, zero, suc, List, [], ◌∷◌, ◌++◌, length, Option, Some, None, refl, sym, ap, ◌∙◌, inl, inr, arith}
use Rattle.std.proofs.lemmas.Bool.{cases_eq}
use Rattle.j39_frame.specs.Address.{global_address}
use Rattle.j39_frame.specs.Frame.{FrameRecord}
use Rattle.j39_frame.specs.Identifier.{destination_of}
use Rattle.j39_groups.specs.Table.{the_table}
use Rattle.j39_address.proofs.SomeStepLemmas.{some_step}
use Rattle.j39_address.specs.Call.{Call}
use Rattle.j39_address.specs.Command.{Command, commanded_of}
use Rattle.j39_address.specs.Node.{Node}
use Rattle.j39_listen.proofs.AnswerLemmas.{answered_unique, heard_command, silent_command}
use Rattle.j39_groups.specs.Readings.{is_reported_in}
use Rattle.j39_listen.proofs.Reported.{reported_leaves}
use Rattle.j39_listen.proofs.Existing.{heard_exists}
use Rattle.j39_listen.specs.Answers.{AnsweredBelow, AreAnswers, Called, CommandedAt, calls_at, sent_by}
use Rattle.j39_listen.specs.Heard.{HeardAt, Hearing, IsHeard, frame_at}

-- ---- a command

other_destination : (d : ℕ) → d ≢ global_address → (let o : Option ℕ = Some d in o) ≢ Some global_address
other_destination d differ e = differ cc

-- by where the frame goes to
command_by_destination : (F : List FrameRecord) (i : ℕ) (h : Hearing) → IsHeard the_table F i h → (to : Option ℕ) → destination_of (frame_at F i).id ≡ to
    → (x : Option Command) × CommandedAt F i x
command_by_destination F i h heard None to =
    (None, heard_command F i h (frame_at F i) None heard refl (λ c e. cc) (λ all. let none : None ≡ Some global_address = sym to ∙ all in cc))
command_by_destination F i h heard (Some d) to = elim (cases_eq d global_address) [
  | inl e ↦ (
    commanded_of h.message.pgn h.message.bytes,
    heard_command F i h (frame_at F i) _ heard refl (λ c is. to ∙ ap (λ (n : ℕ). Some n) e) (λ all. refl),
  )
  | inr differ ↦ (None, heard_command F i h (frame_at F i) None heard refl (λ c e. cc) (λ all. absurd (other_destination d differ (sym to ∙ all))))
]

command_of_heard : (F : List FrameRecord) (i : ℕ) (o : Option Hearing) → HeardAt the_table F i o → (x : Option Command) × CommandedAt F i x
command_of_heard F i None silent = (None, silent_command F i silent)
command_of_heard F i (Some h) heard = command_by_destination F i h heard (destination_of (frame_at F i).id) refl

pub command_exists : (F : List FrameRecord) (i : ℕ) → i < length F → (x : Option Command) × CommandedAt F i x
command_exists F i l = let h = heard_exists (is_reported_in the_table) (reported_leaves the_table) F i l in command_of_heard F i h.0 h.1

-- ---- the calls of a node

called_exists : (node : Node) (calls : List Call) (now : ℕ) → (sent : List FrameRecord) × (after : Node) × Called node calls now sent after
called_exists node [] now = ([], node, (refl, refl))
called_exists node (call ∷ calls) now =
    let step = some_step node call now in
    let later = called_exists step.1 calls now in
    (sent_by now node.name step.0 ++ later.0, later.1, (step.0, step.1, later.0, step.2, later.2, refl))

-- ---- the whole list

answered_exists : (node : Node) (F : List FrameRecord) (n : ℕ) → n ≤ length F → (sent : List FrameRecord) × (after : Node) × AnsweredBelow node F n sent after
answered_exists node F zero l = ([], node, (refl, refl))
answered_exists node F (suc n) l =
    let before = answered_exists node F n (omega arith) in
    let command = command_exists F n l in
    let here = called_exists before.1 (calls_at n (frame_at F n) command.0) (frame_at F n).stamp in
    (before.0 ++ here.0, here.1, (before.0, before.1, command.0, here.0, before.2, command.1, here.2, refl))

pub answers_exist : (node : Node) (F : List FrameRecord) → (sent : List FrameRecord) × AreAnswers node F sent
answers_exist node F = let all = answered_exists node F (length F) (omega arith) in (all.0, (all.1, all.2))

pub one_list_of_answers : (node : Node) (F : List FrameRecord) (xs ys : List FrameRecord) → AreAnswers node F xs → AreAnswers node F ys → xs ≡ ys
one_list_of_answers node F xs ys (m, x) (n, y) = (answered_unique node F (length F) xs ys m n x y).0
