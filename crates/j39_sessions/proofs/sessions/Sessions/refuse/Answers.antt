use Rattle.j39_sessions.proofs.Common.{◌∙◌, ap, bytes_of, FrameRecord, List, map, Option, option_map, ReceiverRecord, RecvResult, replied, Reply, said_by, sessions_of, SessionsRecord, Some, source_of, sym, to_send, ToSend}
use Rattle.j39_sessions.proofs.StepLemmas.{refused, same_replied}
use Rattle.j39_sessions.proofs.sessions.Sessions.refuse.Goals as goal

pub returns-in-Some : goal.returns-in-Some
returns-in-Some c = λ now.
    let rs = map said_by c.args.self.now.replies.items in
    let s = refused c.args.self.now.own c.args.self.now.most c.args.self.now.refuser.state c.args.frame.now now _ c.args.self.now.refuses (c.refuse.ensures (ap (λ (r : ReceiverRecord). r.session) c.args.self.now.refuses) now) in
    c.say.ensures.replied 0
    ∙ ap (λ (xs : List Reply). (let x : SessionsRecord = record (sessions_of c.args.self.now) { replies = xs } in x))
    ((λ i. replied ((c.source.ensures ∙ ap (λ (g : FrameRecord). source_of g.id) c.frame.view_is) i) (Some (record { id = 0; bytes = c.in-Some.reply.1 })) rs)
    ∙ same_replied (source_of c.args.frame.now.id) (Some (record { id = 0; bytes = c.in-Some.reply.1 })) _ rs (sym (ap (λ o. bytes_of (option_map to_send o)) c.in-Some.is) ∙ sym (ap (λ (x : RecvResult). bytes_of x.sends) s)))

pub returns-in_default : goal.returns-in_default
returns-in_default c = λ now.
    let rs = map said_by c.args.self.now.replies.items in
    let s = refused c.args.self.now.own c.args.self.now.most c.args.self.now.refuser.state c.args.frame.now now _ c.args.self.now.refuses (c.refuse.ensures (ap (λ (r : ReceiverRecord). r.session) c.args.self.now.refuses) now) in
    ap (λ (o : Option ToSend). (let x : SessionsRecord = record (sessions_of c.args.self.now) { replies = replied (source_of c.args.frame.now.id) o rs } in x))
    (sym (ap (λ (x : RecvResult). x.sends) s ∙ ap (option_map to_send) c.in_default.is))
