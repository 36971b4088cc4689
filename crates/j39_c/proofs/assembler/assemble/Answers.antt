-- No message is whole with the frame.
use Rattle.j39_listen.proofs.ListenerLemmas.{on_ok}
use Rattle.j39_transport.specs.Answers.{AnswersAt, Taken, Ignored}
use Rattle.j39_c.proofs.assembler.assemble.Goals as goal

pub returns-in-Ok-Taken-clause-whole : goal.returns-in-Ok-Taken-clause-whole
returns-in-Ok-Taken-clause-whole c = λ done. record {
  stands = (on_ok _ _ _ _ c.in-Ok-Taken.is c.feed.follows.holds-at-none).0;
  whole = λ E h.
      let answered : AnswersAt E c.args.frame.now Taken = rw c.in-Ok-Taken.field-0-is at (c.in-Ok-Taken.ensures.answer E h) in
      answered.1;
}

pub returns-in-Ok-Ignored-clause-whole : goal.returns-in-Ok-Ignored-clause-whole
returns-in-Ok-Ignored-clause-whole c = λ done. record {
  stands = (on_ok _ _ _ _ c.in-Ok-Ignored.is c.feed.follows.holds-at-none).0;
  whole = λ E h.
      let answered : AnswersAt E c.args.frame.now Ignored = rw c.in-Ok-Ignored.field-0-is at (c.in-Ok-Ignored.ensures.answer E h) in
      answered.1;
}
