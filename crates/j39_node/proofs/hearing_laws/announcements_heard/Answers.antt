use Rattle.j39_node.proofs.HearingLaws as law
use Rattle.j39_node.proofs.hearing_laws.announcements_heard.Goals as goal

pub returns : goal.returns
returns c = record {
  heard = law.heard_or_counted;
  full = law.full;
  boxes = law.boxes;
  exact = law.exact;
  subscribed = law.wanted_whole;
  news = law.some_unheard;
  told = law.is_told;
}
