use Rattle.j39_listen.specs.Filter.{takes}
use Rattle.j39_listen.proofs.FilterLemmas.{among, both, either_order, no_message, of_messages, whole}
use Rattle.j39_listen.proofs.laws.filters.Goals as goal

pub returns : goal.returns
returns c = record {
  among = λ f first entries. among (takes f first) entries;
  meet = λ f g first entries. both (takes f first) (takes g first) entries;
  either_order = λ f g first entries. either_order (takes f first) (takes g first) entries;
  none = whole;
  no_message = no_message;
  messages = of_messages;
}
