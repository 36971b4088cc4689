use Rattle.j39_node.proofs.SoundLemmas.{sound, past_end}
use Rattle.j39_node.proofs.KnownLemmas.{served_not}
use Rattle.j39_node.proofs.LawLemmas.{asked_adds, asked_case, counts, counts_one, has_room, off, unrefused, whole, has_none}
use Rattle.j39_node.proofs.Common.{Asked, Bool, Busy, None, Option, Some, [], acknowledged, acknowledgment, and_from, ap, drop, due, eq-eqb, false, false_from_ne_true, fresh, handed, if◌then◌else◌, inl, inr, is_served, length, nat_eq, nat_lt, not, refl, refusal_waits, requests, sym, true, waits_already, ◌&&◌, ◌++◌, ◌-◌, ◌∙◌, ◌∷◌, ◌≡◌}
use Rattle.j39_node.proofs.laws.requests.Goals as goal

pub returns : goal.returns
returns c = record {
  handed = λ w H when f r e served new l.
      let at = nat_eq r.destination w.address in
      let place = nat_lt (length (due w H) - length (acknowledged H)) 16 && not (refusal_waits w H r) in
      let x = asked_adds w H when f r true true at place (counts_one w H when f r e (inr new)) served (has_room _ _ l) refl refl in
      (x.0, x.1 ∙ ap (λ (b : Bool). if b then due w H ++ acknowledgment w Busy r ∷ [] else due w H) (off (at && place) true));
  again = λ w H when f r e served waits.
      let k : counts w H when f ≡ None = ap (fresh w (drop (length (handed H)) (requests w H))) e
      ∙ ap (λ (b : Bool). (let o : Option Asked = if b then None else Some r in o)) (and_from (is_served w r.group) (waits_already w H r) served waits) in
      asked_case w H when f None k;
  refused = λ w H when f r e at n once l.
      let s = false_from_ne_true _ n in
      asked_adds w H when f r false _ true true (counts_one w H when f r e (inl s)) s refl (eq-eqb _ _ at) (λ i. has_room _ _ l i && not (once i));
  no_room = λ w H when f r e at served new once u l.
      asked_adds w H when f r true false true true (counts_one w H when f r e (inr new)) served (has_none _ _ u) (eq-eqb _ _ at) (λ i. has_room _ _ l i && not (once i));
  refused_once = λ w H when f r e once. unrefused w H when f r e (inr (served_not _ _ (inr (ap not once))));
  to_all = λ w H when f r e n. unrefused w H when f r e (inl n);
  no_request = λ w H when f e. asked_case w H when f None (ap (fresh w (drop (length (handed H)) (requests w H))) e);
  in_order = λ w H c is. (sound w H is.answered).desk.2;
  all = λ w H c is. whole (handed H) (requests w H) (sound w H is.answered.0).desk.2 (past_end (requests w H) (length (handed H)) (sym is.answered.1));
}
