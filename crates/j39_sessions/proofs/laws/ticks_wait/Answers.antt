use Rattle.j39_sessions.proofs.Common.{after, ap, tick_of, ◌∙◌}
use Rattle.j39_sessions.proofs.LawLemmas.{each_apart, own_is}
use Rattle.j39_sessions.proofs.SourceLemmas.{tick_says, tick_told, tick_waits}
use Rattle.j39_sessions.proofs.laws.ticks_wait.Goals as goal

pub returns : goal.returns
returns c = record {
  waits = λ own most boxes now E. tick_waits now (after own most boxes E);
  says = tick_says;
  told = λ own most boxes now a E x y e s l.
      let at = (own_is own most boxes E).0 in
      tick_told (after own most boxes E).own now a (after own most boxes E).sessions (after own most boxes E).replies x y (each_apart own most boxes E) e
      (ap (λ n. (tick_of n now x).sends) at ∙ s) l;
}
