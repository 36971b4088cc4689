use Rattle.j39_node.proofs.RestartLaws.{none_restarts}
use Rattle.j39_node.proofs.ReceptionLaws as law_of
use Rattle.j39_node.proofs.Common.{arith, At, called, calls_whom, claim_of, Hear, heard_at, holder, is_claim, is_message, Some, TakeFrame, taken_whom, waned, ◌+◌, ◌-◌, ◌∷◌}
use Rattle.j39_node.proofs.HearingLaws.{none_known}
use Rattle.j39_node.proofs.RestartLaws as law
use Rattle.j39_node.proofs.session_laws.restarts_are_met.Goals as goal

pub returns : goal.returns
returns c = record {
  means = law.means;
  session = law_of.ended_by;
  broadcast = λ w H now f a g. none_known w H now a f (law.differs w H now a f g);
  heard = λ w later H when now a b f g t n q.
      let k = waned (when - heard_at H) (called w H) in
      let o = law.named a b 1250000 k (calls_whom (holder w H) f (claim_of f)) t n in
      none_restarts w a later (At when (Hear f) ∷ H) now g (let e = o.1 in omega (arith, e)) o.0 q;
  taken = λ w later H when now a b f g t n q.
      let o = law.named a b (1250000 + (when - heard_at H)) (called w H) (taken_whom (is_claim f) (is_message f) f) t n in
      none_restarts w a later (At when (TakeFrame (Some f)) ∷ H) now g (let e = o.1 in omega (arith, e)) o.0 q;
  alone = λ w H when a b f t l n m. law.alone a b (when - heard_at H) (called w H) (calls_whom (holder w H) f (claim_of f)) t l n m;
  between = law.between;
}
