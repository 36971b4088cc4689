use Rattle.j39_sessions.proofs.Common.{rules, ◌+◌, ◌∙◌, ◌≡◌, ap, arith, false, FrameRecord, in_box, kept_in, length, length-append, length-map, map, MessageRecord, name_raw, nat_lt, None, of, option_map, replied, said_by, sender_in, SessionsRecord, sessions_of, source_of, stamp_micros, step_at, sym, ℕ}
use Rattle.j39_sessions.specs.declared.sessions.Sessions.{Sessions}
use Rattle.j39_sessions.proofs.StepLemmas.{refusing}
use Rattle.j39_sessions.proofs.sessions.Sessions.hear.Goals as goal

pub returns-in-None-pop-clause-made : goal.returns-in-None-pop-clause-made
returns-in-None-pop-clause-made c =
    let s = c.args.self.now in
    let a = c.source.ensures ∙ ap (λ (g : FrameRecord). source_of g.id) c.frame.view_is in
    let none : of (source_of c.args.frame.now.id) (map in_box s.current.items) ≡ None =
    ap (λ (n : ℕ). of n (map in_box s.current.items)) (sym a) ∙ (sym c.take_out.ensures.value ∙ ap (option_map in_box) c.in-None.is) in
    let empty : length c.take_out.new.self.free.items ≡ 0 = (let v = c.pop.ensures.variant.1 in let i = c.in-None-pop.is in search rules) in
    let z = ap (λ (x : Sessions). length x.free.items) (sym (c.take_out.ensures.none c.in-None.is)) ∙ empty in
    let m = length-map s.current.items in_box in
    let k = length-map s.whole.items kept_in in
    let full : nat_lt (length (map in_box s.current.items) + length (sessions_of s).waits) (sessions_of s).boxes ≡ false = grind (arith, z, m, k) in
    sym (ap (option_map (λ (m : MessageRecord). (m.source, m.pgn))) (refusing (sessions_of s) (stamp_micros c.args.now) (option_map name_raw c.args.name) c.args.frame.now (sym c.is_of_session.ensures ∙ c.if-not-is_of_session.false) none full).0)

pub returns-in-None-pop-clause-heard : goal.returns-in-None-pop-clause-heard
returns-in-None-pop-clause-heard c =
    let s = c.args.self.now in
    let f = c.args.frame.now in
    let now = stamp_micros c.args.now in
    let a = c.source.ensures ∙ ap (λ (g : FrameRecord). source_of g.id) c.frame.view_is in
    let none : of (source_of f.id) (map in_box s.current.items) ≡ None =
    ap (λ (n : ℕ). of n (map in_box s.current.items)) (sym a) ∙ (sym c.take_out.ensures.value ∙ ap (option_map in_box) c.in-None.is) in
    let same = c.take_out.ensures.none c.in-None.is in
    let empty : length c.take_out.new.self.free.items ≡ 0 = (let v = c.pop.ensures.variant.1 in let i = c.in-None-pop.is in search rules) in
    let z = ap (λ (x : Sessions). length x.free.items) (sym same) ∙ empty in
    let m = length-map s.current.items in_box in
    let k = length-map s.whole.items kept_in in
    let full : nat_lt (length (map in_box s.current.items) + length (sessions_of s).waits) (sessions_of s).boxes ≡ false = grind (arith, z, m, k) in
    let p = ap length c.pop.ensures.items ∙ length-append c.pop.new.self.items _ in
    let g = ap (λ (x : Sessions). length x.free.items) same in
    let boxes = ap (λ (x : Sessions). length x.current.items + length x.whole.items) same in
    c.refuse.ensures now
    ∙ ((λ i. (let x : SessionsRecord = record {
      own = (same i).own;
      most = (same i).most;
      boxes = (let q : length c.take_out.new.self.current.items + length c.take_out.new.self.whole.items + length c.pop.new.self.items
          ≡ length s.current.items + length s.whole.items + length s.free.items = omega (arith, boxes, p, g, z) in q) i;
      sessions = map in_box (same i).current.items;
      waits = map kept_in (same i).whole.items;
      senders = map sender_in (same i).whole.items;
      replies = replied (source_of f.id) (step_at (same i).own (same i).most false f now None).sends (map said_by (same i).replies.items);
    } in x))
    ∙ sym (refusing (sessions_of s) now (option_map name_raw c.args.name) f (sym c.is_of_session.ensures ∙ c.if-not-is_of_session.false) none full).1)
