use Rattle.std.proofs.Common.{◌+◌, ◌*◌, arith}
use Rattle.j39_node.proofs.SoundLemmas.{holding_not_lost}
use Rattle.j39_net.proofs.DefenceLemmas.{defends}
use Rattle.j39_net.proofs.ShareLemmas.{at_rest, never}
use Rattle.j39_net.proofs.laws.none_share.Goals as goal

pub returns-clause-at_rest : goal.returns-clause-at_rest
returns-clause-at_rest c = at_rest

pub returns-clause-never : goal.returns-clause-never
returns-clause-never c = never

pub returns-clause-driven : goal.returns-clause-driven
returns-clause-driven c delay g now i j L members m n net hm hn comes_m comes_n short same held_m held_n =
    never delay (2 * g + 1) now i j L members m n net hm hn
    (defends m.who m.history g (2 * g + 1) m.since now (net.answered i m hm) (net.in_time i m hm) comes_m (holding_not_lost m.who m.history now held_m) (omega arith))
    (defends n.who n.history g (2 * g + 1) n.since now (net.answered j n hn) (net.in_time j n hn) comes_n (holding_not_lost n.who n.history now held_n) (omega arith))
    (omega (arith, short)) same held_m held_n
