-- What the answers and the outbox of the code show.
use Rattle.std.specs.Prelude.{map}
use Rattle.j39_application.specs.Answers.{AnswersRecord}
use Rattle.j39_application.specs.Boxes.{in_box, letter_box}
use Rattle.j39_application.specs.Outbox.{OutboxRecord}
use Rattle.j39_application.specs.declared.answers.Answers.{Answers}
use Rattle.j39_application.specs.declared.outbox.Outbox.{Outbox}

abbrev pub answers_of : Answers → AnswersRecord
answers_of x = record { boxes = x.kept.boxes; moment = x.kept.moment; requests = map in_box x.kept.current.items }

abbrev pub outbox_of : Outbox → OutboxRecord
outbox_of x = record {
  boxes = x.kept.boxes;
  accepted = x.accepted;
  moment = x.kept.moment;
  letters = map letter_box x.kept.current.items;
  settled = x.settled.items;
}
