use Rattle.j39_node.proofs.SoundLemmas.{sound, past_end}
use Rattle.j39_node.proofs.LawLemmas.{whole}
use Rattle.j39_node.proofs.Common.{got, kept, length, sym}
use Rattle.j39_node.proofs.LawLemmas as law
use Rattle.j39_node.proofs.laws.received.Goals as goal

pub returns : goal.returns
returns c = record { in_order = λ w H c is. (sound w H is.answered).reads; all = λ w H c is. whole (got H) (kept w H) (sound w H is.answered.0).reads (past_end (kept w H) (length (got H)) (sym is.answered.1)); counted = law.counted; room = law.missed_full; subscribed = law.not_subscribed }
