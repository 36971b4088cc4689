use Rattle.j39_node.proofs.Common.{events}
use Rattle.j39_sessions.proofs.LawLemmas.{all_fit}
use Rattle.j39_sessions.proofs.SourceLemmas.{paired}
use Rattle.j39_node.proofs.ReceptionLemmas.{apart}
use Rattle.j39_node.proofs.ReceptionLaws as law
use Rattle.j39_node.proofs.laws.transfers_received.Goals as goal

pub returns : goal.returns
returns c = record {
  in_order = law.in_order;
  got = law.released;
  of_one = law.came;
  begins = law.session_begins;
  sender = law.sender_kept;
  paired = λ w H. paired w.address w.window w.sessions (events w H);
  boxes = λ w H. (apart w H, all_fit w.address w.window w.sessions (events w H));
}
