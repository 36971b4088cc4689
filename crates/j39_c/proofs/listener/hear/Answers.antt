-- Nothing is heard at the frame.
use Rattle.j39_listen.proofs.ListenerLemmas.{on_ok}
use Rattle.j39_c.proofs.listener.hear.Goals as goal

pub returns-in-Ok-None-clause-heard : goal.returns-in-Ok-None-clause-heard
returns-in-Ok-None-clause-heard c = λ done. record {
  hears = on_ok _ _ _ _ c.in-Ok-None.is c.feed.follows.holds-at-none;
  heard = λ F h. rw c.in-Ok-None.field-0-is at (c.in-Ok-None.ensures.heard F h);
}
