use Rattle.j39_address.proofs.OrderLemmas.{same_rising}
use Rattle.j39_address.proofs.laws.one_list_of_changes.Goals as goal

pub returns : goal.returns
returns c = λ earlier later xs ys h k. same_rising xs ys h.rising k.rising (λ a m. k.all a (h.changed a m)) (λ a m. h.all a (k.changed a m))
