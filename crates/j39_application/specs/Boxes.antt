-- What a box of the code holds.
use Rattle.std.specs.Option.{option_map}
use Rattle.std.specs.declared.boxed.Box.{Box}
use Rattle.std.specs.Global.{Global}
use Rattle.j39_address.specs.Name.{name_raw}
use Rattle.j39_frame.specs.Pgn.{pgn_raw}
use Rattle.j39_node.specs.History.{Asked}
use Rattle.j39_application.specs.Answers.{Open}
use Rattle.j39_application.specs.Outbox.{Errand, kept_anew, Letter, Message, Request}
use Rattle.j39_application.specs.declared.asked.Asked as asked
use Rattle.j39_application.specs.declared.asked.Open as boxed
use Rattle.j39_application.specs.declared.letter.Errand as errand
use Rattle.j39_application.specs.declared.letter.Errand.TheVariants as goes
use Rattle.j39_application.specs.declared.letter.Letter as letter
use Rattle.j39_application.specs.declared.letter.Posted as posted

abbrev pub asked_of : asked.Asked → Asked
asked_of r = record { source = r.source; destination = r.destination; group = pgn_raw r.group }

abbrev pub open_in : boxed.Open → Open
open_in o = record { asked = asked_of o.asked; answer = option_map (λ bytes. bytes.items) o.answer; left = o.left }

abbrev pub in_box : Box boxed.Open Global → Open
in_box b = open_in b.value

abbrev pub errand_of : errand.Errand → Errand
errand_of (goes.Message priority group bytes) = Message priority (pgn_raw group) bytes.items
errand_of (goes.Request group) = Request (pgn_raw group)

abbrev pub letter_by : letter.Letter → Letter
letter_by o = kept_anew o.number (name_raw o.name) (errand_of o.errand)

abbrev pub letter_in : posted.Posted → Letter
letter_in o = record (letter_by o.letter) { left = o.left }

abbrev pub letter_box : Box posted.Posted Global → Letter
letter_box b = letter_in b.value
