use Rattle.j39_sessions.proofs.Common.{[], ◌+◌, ◌++◌, ◌∙◌, ◌∷◌, ◌≡◌, ap, arith, filter, from, holder_in, in_box, is_left, kept_in, length, length-append, List, map, not, said_by, sender_in, Session, session_in, SessionsRecord, sym, unsaid, without, ℕ}
use Rattle.std.proofs.lemmas.List.Edits.{length-remove}
use Rattle.std.proofs.lemmas.List.Quantifiers.{position-Some}
use Rattle.j39_sessions.specs.declared.seat.Seat.{Seat}
use Rattle.j39_sessions.specs.declared.sessions.Sessions.{Sessions}
use Rattle.j39_sessions.proofs.BoxLemmas.{all_stay, passed_first, stay_without}
use Rattle.j39_sessions.proofs.sessions.Sessions.leave.Goals as goal

pub loop-place-preserved : goal.loop-place-preserved
loop-place-preserved c =
    let p = is_left c.args.gone (holder_in c.args.holders.now) in
    let xs = c.loop-place.self.current.items in
    let k = c.in-Some.place in
    let b = c.remove-seat.result in
    let some = sym c.in-Some.is ∙ c.left.ensures in
    let at = position-Some (λ b. p (in_box b)) xs k b (sym some) in
    let stays = c.silence.ensures.stays in
    let items = ap (λ (s : Sessions). s.current.items) stays ∙ c.remove-seat.ensures.items in
    let source = c.source.ensures ∙ (ap (λ (h : Seat). from (session_in h)) c.deref.ensures ∙ ap (λ h. from (in_box h)) c.remove-seat.ensures.value) in
    let said = ap (λ (s : SessionsRecord). s.replies) c.silence.ensures.without ∙ ap (λ (a : ℕ). without a (map said_by c.loop-place.self.replies.items)) source in
    let current = ap length items in
    let less = length-remove xs k at.0 in
    let free = ap length (c.push_reserved.ensures.items ∙ ap (λ (s : Sessions). s.free.items ++ b ∷ []) stays) ∙ length-append c.loop-place.self.free.items (b ∷ []) in
    let all = c.loop-place.invariant.2 in (
      ap (λ ys. filter (λ x. not (p x)) (map in_box ys)) items ∙ (stay_without p in_box xs k b at.0 at.1 ∙ c.loop-place.invariant.0),
      (λ i. unsaid (filter p (map in_box (items i))) (said i))
          ∙ (ap (λ (zs : List Session). unsaid zs (map said_by c.loop-place.self.replies.items)) (sym (passed_first p in_box xs k b some)) ∙ c.loop-place.invariant.1),
      omega (arith, current, less, free, all),
      ap (λ (s : Sessions). s.whole) stays ∙ c.loop-place.invariant.3,
      ap (λ (s : Sessions). s.own) stays ∙ c.loop-place.invariant.4,
      ap (λ (s : Sessions). s.most) stays ∙ c.loop-place.invariant.5,
    )

pub returns : goal.returns
returns c =
    let p = is_left c.args.gone (holder_in c.args.holders.now) in
    let s = c.loop-place.self in
    let none = all_stay p in_box s.current.items (sym c.in_default.is ∙ c.left.ensures) in
    let whole = c.loop-place.invariant.3 in
    let n = ap (λ v. length v.items) whole in
    let all = c.loop-place.invariant.2 in
    let boxes : length s.current.items + length s.whole.items + length s.free.items
    ≡ length c.args.self.now.current.items + length c.args.self.now.whole.items + length c.args.self.now.free.items = omega (arith, n, all) in
    λ i. (let x : SessionsRecord = record {
      own = c.loop-place.invariant.4 i;
      most = c.loop-place.invariant.5 i;
      boxes = boxes i;
      sessions = (sym none.0 ∙ c.loop-place.invariant.0) i;
      waits = map kept_in (whole i).items;
      senders = map sender_in (whole i).items;
      replies = (sym (ap (λ (zs : List Session). unsaid zs (map said_by s.replies.items)) none.1) ∙ c.loop-place.invariant.1) i;
    } in x)
