use Rattle.j39_sessions.proofs.Common.{◌∙◌, ap, List, Reply, Some, sessions_of, SessionsRecord, sym}
use Rattle.j39_sessions.proofs.StepLemmas.{same_replied}
use Rattle.j39_sessions.proofs.sessions.Sessions.reply.Goals as goal

pub returns-in-Some-clause-replied : goal.returns-in-Some-clause-replied
returns-in-Some-clause-replied c = λ sends e.
    c.say.ensures.replied 0
    ∙ ap (λ (xs : List Reply). (let s : SessionsRecord = record (sessions_of c.args.self.now) { replies = xs } in s)) (same_replied c.args.address (Some (record { id = 0; bytes = c.in-Some.bytes })) sends _ (sym c.in-Some.is ∙ e))
