use Rattle.j39_net.proofs.DoneLemmas.{received}
use Rattle.j39_net.proofs.laws.done_is_received.Goals as goal

pub returns : goal.returns
returns c = λ delay now i j k at priority group bytes L members m n later earlier net hm hn apart o q anew fits is late.
    received delay now i j k at priority group bytes L members m n later earlier net hm hn apart o q anew fits is late
