use Rattle.std.proofs.Common.{[], append-nil, sym}
use Rattle.std.proofs.KnownBytes.{Appends-nil}
use Rattle.j39_survey.proofs.node_lists.held.HeldListAccount.feed.Goals as goal

pub returns-clause-met : goal.returns-clause-met
returns-clause-met g c = λ from F before has. record {
  after = before;
  met = record { knows = c.note.ensures.knows F has.knows; from_is = has.from_is; nothing = has.nothing };
  more = [];
  text_is = sym (append-nil before.text);
  written = Appends-nil _;
}
