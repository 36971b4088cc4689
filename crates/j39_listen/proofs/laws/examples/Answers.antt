use Rattle.j39_listen.proofs.NoTransferExamples as examples
use Rattle.j39_listen.proofs.laws.examples.Goals as goal

pub returns : goal.returns
returns c = record { eec1_without_a_claim = examples.eec1_without_a_claim; vin_by_broadcast = examples.vin_by_broadcast; two_broadcasts_at_once = examples.two_broadcasts_at_once; packet_before_any_announcement = examples.packet_before_any_announcement }
