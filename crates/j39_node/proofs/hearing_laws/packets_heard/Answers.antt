use Rattle.j39_node.proofs.Common.{ap, HearingRecord, sym}
use Rattle.j39_node.proofs.HearingLemmas.{hearing_same}
use Rattle.j39_node.proofs.HearingLaws as law
use Rattle.j39_node.proofs.hearing_laws.packets_heard.Goals as goal

pub returns : goal.returns
returns c = record {
  next = law.next_appended;
  whole = law.whole_made;
  repeats = law.repeat_ignored;
  gap = law.gap_ends;
  found = law.found_means;
  none_found = law.none_found;
  others = law.others_leave;
  strangers = law.strangers;
  own = λ who H now f e. sym (ap (λ (r : HearingRecord). r.listening) (hearing_same who H now f e));
  released = law.released_leaves;
}
