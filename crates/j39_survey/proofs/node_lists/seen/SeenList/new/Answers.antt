use Rattle.std.proofs.Common.{refl}
use Rattle.j39_survey.specs.SeenNodes.{last_stamp}
use Rattle.j39_survey.proofs.SeenLemmas.{seen_none_at}
use Rattle.j39_survey.proofs.node_lists.seen.SeenList.new.Goals as goal

pub returns : goal.returns
unfolding last_stamp
returns c = record { knows = c.new.ensures; sees = seen_none_at; last_is = refl; asked_is = refl; nothing = refl }
