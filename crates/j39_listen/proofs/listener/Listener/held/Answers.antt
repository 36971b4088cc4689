use Rattle.j39_listen.proofs.ListenerLemmas.{held_after}
use Rattle.j39_listen.proofs.listener.Listener.held.Goals as goal

pub returns : goal.returns
returns c = record { bounded = c.held.ensures.bounded; after = λ F h E w. held_after c.args.self.now F h E w _ c.held.ensures.after }
