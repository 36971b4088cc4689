use Rattle.j39_node.proofs.LawLemmas.{in_turn, mark_at, sent_within, told_is}
use Rattle.j39_node.proofs.SoundLemmas.{front_length, none_next, sound, past_end}
use Rattle.j39_node.proofs.Common.{Bool, Option, Some, accepted, acknowledged, ap, arith, due, false, inl, inr, is_blank, length, reached, sym, ◌∙◌, ◌≡◌}
use Rattle.j39_node.proofs.laws.done_means.Goals as goal

pub returns : goal.returns
returns c = record {
  in_order = λ w H c is. let s = sound w H is.answered in (s.in_order, s.passed, s.marked);
  done = λ w H c k e is.
      let t = told_is w H c k e is in
      let a = (in_turn w H c k e is).0 in
      let m = mark_at w H k t.message (sound w H is.answered.0) t.at a in (
        λ z. (let b = t.done.0 z in let l = b.0 in (omega (arith, a, l), m ∙ ap (λ (y : Bool). (let o : Option Bool = Some y in o)) b.1)),
        λ z. t.done.1 ((let l = z.0 in omega (arith, a, l)), (let y : Some (is_blank (k, t.message)) ≡ Some false = sym m ∙ z.1 in cc)),
      );
  withdrawn = λ w H c k e is z.
      let t = told_is w H c k e is in
      let m = mark_at w H k t.message (sound w H is.answered.0) t.at (in_turn w H c k e is).0 in
      elim (t.withdrawn z) [ inl x ↦ inl x | inr x ↦ inr (m ∙ ap (λ (y : Bool). (let o : Option Bool = Some y in o)) x.1) ];
  none_waits = λ w H c now is held.
      let n = none_next w H now held is.answered.1 in
      let s = sound w H is.answered.0 in
      let x = past_end (accepted w H) (reached H) n.rest.message in
      let y = sent_within w H s in
      let u = past_end (due w H) (length (acknowledged H)) n.acknowledgment in
      let v = front_length (acknowledged H) (due w H) s.desk.1 in
      (omega (arith, x, y), omega (arith, u, v));
}
