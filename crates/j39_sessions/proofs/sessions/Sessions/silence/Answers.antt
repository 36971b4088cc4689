use Rattle.j39_sessions.proofs.Common.{◌∙◌, ap, List, map, nat_eq, not, Reply, rules, said_by, sessions_of, SessionsRecord}
use Rattle.arrayvec.proofs.ArrayVecLemmas.{filter-from_retain}
use Rattle.j39_sessions.specs.declared.sessions.Said.{Said}
use Rattle.j39_sessions.proofs.StepLemmas.{without_is}
use Rattle.j39_sessions.proofs.sessions.Sessions.silence.Goals as goal

pub returns-clause-without : goal.returns-clause-without
returns-clause-without c = ap (λ (xs : List Reply). (let s : SessionsRecord = record (sessions_of c.args.self.now) { replies = xs } in s))
    (ap (map said_by) (filter-from_retain _ (λ (x : Said). not (nat_eq c.args.address x.to)) _ (λ x b f' y k. search rules) _ _ c.retain.ensures.filtered)
    ∙ without_is c.args.address c.args.self.now.replies.items)
