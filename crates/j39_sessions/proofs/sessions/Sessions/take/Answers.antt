use Rattle.j39_sessions.proofs.Common.{[], ◌+◌, ◌++◌, ◌∙◌, ◌∷◌, ◌≡◌, ap, arith, FrameRecord, has_some, Heard, IfSome, in_box, kept_in, length, length-append, listed, map, map-append, name_raw, Option, option_map, ReceiverRecord, recv_step, RecvResult, replied, said_by, sender_in, session_by, session_with, SessionsRecord, sessions_of, shown, source_of, stamp_micros, step_at, subst, sym, true, ℕ}
use Rattle.std.specs.declared.boxed.Box.{Box}
use Rattle.std.specs.Global.{Global}
use Rattle.j39_sessions.specs.declared.seat.Seat.{Seat}
use Rattle.j39_sessions.specs.declared.sessions.Sessions.{Sessions}
use Rattle.j39_sessions.proofs.StepLemmas.{is_kept, is_made, none_there, own_after, put_open, put_whole, step_is, whole_closes}
use Rattle.j39_sessions.proofs.sessions.Sessions.take.Goals as goal

pub returns-then-is_some-clause-taken : goal.returns-then-is_some-clause-taken
returns-then-is_some-clause-taken c = λ o e.
    let f = c.args.frame.now in
    let now = stamp_micros c.args.now in
    let old = c.args.self.now in
    let seat = c.args.seat.value in
    let y = c.deref_mut.result.now in
    let v = c.deref_mut.ensures.value in
    let heard = c.hear-outcome.ensures.heard in
    let is = step_is old.own old.most f now y o (ap (λ (s : Seat). s.receiver.state.own) v ∙ c.requires.at) (e ∙ ap (λ (s : Seat). option_map (session_with s) s.receiver.state.session) (sym v)) in
    let there = sym (is_made _ _ heard.made) ∙ (sym c.is_some.ensures ∙ c.if-is_some.true) in
    let stays = c.reply.ensures.stays in
    let said = c.reply.ensures.replied (recv_step y.receiver.state (Heard (shown y.receiver.state.own old.most y.receiver.state.session f)) now true).sends heard.says in
    let a = c.source.ensures ∙ ap (λ (g : FrameRecord). source_of g.id) c.frame.view_is in
    let b : Box Seat Global = record { ptr = c.args.seat.ptr; alloc = c.args.seat.alloc; value = c.hear-outcome.new.self } in
    let name = ap (option_map name_raw) (c.hear-outcome.ensures.stays.1 ∙ ap (λ (s : Seat). s.name) v) in
    let whole = c.push_reserved.ensures.items ∙ ap (λ (s : Sessions). s.whole.items ++ b ∷ []) stays in
    let n = ap length whole ∙ length-append old.whole.items (b ∷ []) in
    let k = ap (λ (s : Sessions). length s.current.items) stays in
    let m = ap (λ (s : Sessions). length s.free.items) stays in
    (λ i. (let z : SessionsRecord = record {
      own = (ap (λ (s : Sessions). s.own) stays) i;
      most = (ap (λ (s : Sessions). s.most) stays) i;
      boxes = (let q : length c.reply.new.self.current.items + length c.push_reserved.new.self.items + length c.reply.new.self.free.items
          ≡ length old.current.items + length old.whole.items + length old.free.items + 1 = omega (arith, n, k, m) in q) i;
      sessions = map in_box (ap (λ (s : Sessions). s.current.items) stays i);
      waits = (ap (map kept_in) whole ∙ map-append kept_in old.whole.items (b ∷ [])) i;
      senders = (ap (map sender_in) whole ∙ (map-append sender_in old.whole.items (b ∷ []) ∙ ap (λ (x : Option ℕ). map sender_in old.whole.items ++ x ∷ []) name)) i;
      replies = (ap (λ (s : SessionsRecord). s.replies) said ∙ (λ j. replied (a j) (sym is j).sends (map said_by old.replies.items))) i;
    } in z))
    ∙ put_whole (sessions_of old) (source_of f.id) (stamp_micros seat.since) (option_map name_raw seat.name) f (step_at old.own old.most true f now o) (kept_in b)
    (ap (λ (x : RecvResult). has_some x.delivers) is ∙ there)
    (ap (λ (x : RecvResult). x.after.session) is ∙ whole_closes y.receiver.state _ now true there)
    (subst (λ (x : RecvResult). IfSome x.delivers (λ m. kept_in b ≡ (f.stamp, m))) (sym is) (is_kept b f now _ c.hear-outcome.ensures.stamp heard.lends))

pub settle-requires-clause-at : goal.settle-requires-clause-at
settle-requires-clause-at c =
    let y = c.deref_mut.result.now in
    ap (λ (s : ReceiverRecord). s.own) c.hear-outcome.ensures.heard.state
    ∙ (own_after y.receiver.state (shown y.receiver.state.own c.args.self.now.most y.receiver.state.session c.args.frame.now) (stamp_micros c.args.now) true
    ∙ (ap (λ (s : Seat). s.receiver.state.own) c.deref_mut.ensures.value ∙ (c.requires.at ∙ sym (ap (λ (s : Sessions). s.own) c.reply.ensures.stays))))

pub returns-clause-taken : goal.returns-clause-taken
returns-clause-taken c = λ o e.
    let f = c.args.frame.now in
    let now = stamp_micros c.args.now in
    let old = c.args.self.now in
    let seat = c.args.seat.value in
    let y = c.deref_mut.result.now in
    let v = c.deref_mut.ensures.value in
    let heard = c.hear-outcome.ensures.heard in
    let is = step_is old.own old.most f now y o (ap (λ (s : Seat). s.receiver.state.own) v ∙ c.requires.at) (e ∙ ap (λ (s : Seat). option_map (session_with s) s.receiver.state.session) (sym v)) in
    let x = recv_step y.receiver.state (Heard (shown y.receiver.state.own old.most y.receiver.state.session f)) now true in
    let said = c.reply.ensures.replied x.sends heard.says in
    let a = c.source.ensures ∙ ap (λ (g : FrameRecord). source_of g.id) c.frame.view_is in
    let since = ap stamp_micros (c.hear-outcome.ensures.stays.0 ∙ ap (λ (s : Seat). s.since) v) in
    let name = ap (option_map name_raw) (c.hear-outcome.ensures.stays.1 ∙ ap (λ (s : Seat). s.name) v) in
    c.settle.ensures.settled
    ∙ ((λ i. (let z : SessionsRecord = record (said i) {
      boxes = (said i).boxes + 1;
      sessions = (said i).sessions ++ listed (option_map (session_by (since i) (name i)) ((heard.state ∙ ap (λ (w : RecvResult). w.after) (sym is)) i).session);
      replies = (ap (λ (s : SessionsRecord). s.replies) said ∙ (λ j. replied (a j) (sym is j).sends (map said_by old.replies.items))) i;
    } in z))
    ∙ put_open (sessions_of old) (source_of f.id) (stamp_micros seat.since) (option_map name_raw seat.name) f (step_at old.own old.most true f now o)
    (ap (λ (w : RecvResult). w.delivers) is ∙ none_there x.delivers (has_some c.hear-outcome.result.made) (is_made _ _ heard.made) (sym c.is_some.ensures ∙ c.if-is_some.false)))
