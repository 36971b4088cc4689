use Rattle.j39_node.proofs.HearingLaws as hearing
use Rattle.j39_node.proofs.ReceptionLaws as law
use Rattle.j39_node.proofs.TickLemmas.{none_ends, request_ends}
use Rattle.j39_node.proofs.laws.ticks_wait.Goals as goal

pub returns : goal.returns
returns c = record {
  waits = law.tick_waits;
  says = law.some_tick;
  told = law.told_by_tick;
  keeps = hearing.tick_keeps;
  ends = hearing.tick_ends;
  none_ends = none_ends;
  times_out = request_ends;
}
