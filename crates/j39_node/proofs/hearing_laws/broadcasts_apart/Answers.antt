use Rattle.j39_node.proofs.ApartLaws.{apart}
use Rattle.j39_node.proofs.HearingLaws as law
use Rattle.j39_node.proofs.PacketsAnswer.{made_by_packet}
use Rattle.j39_node.proofs.hearing_laws.broadcasts_apart.Goals as goal

pub returns : goal.returns
returns c = record { alike = apart; heard = law.as_ticked; whole = λ who H when f p e. (made_by_packet who H when f p e).1; begins = law.begins_there }
