use Rattle.j39_listen.proofs.ListenerLemmas.{open_after}
use Rattle.j39_listen.proofs.listener.Listener.open.Goals as goal

pub returns-clause-after : goal.returns-clause-after
returns-clause-after c = λ F h E w. open_after c.args.self.now F h E w _ c.open.ensures.after
