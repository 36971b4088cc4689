use Rattle.j39_node.proofs.LawLemmas.{all_acknowledged, sent_within}
use Rattle.j39_node.proofs.LaneLaws.{overdue_goes_by, packed}
use Rattle.j39_node.proofs.Common.{open_broadcast, accepted, arith, inl, inr, reached}
use Rattle.j39_node.proofs.LaneLemmas.{laned, opened_by}
use Rattle.j39_node.proofs.SoundLemmas.{frame_case, none_at, sound, past_end}
use Rattle.j39_node.proofs.LaneLaws as law
use Rattle.j39_node.proofs.laws.packets_mean.Goals as goal

pub returns : goal.returns
returns c = record {
  in_order = λ w H c k m is e. let o = opened_by w _ _ _ (open_broadcast w H) (k, m) (laned w H is.answered) e in (o.last, o.frames);
  only = λ w H c now f is p. let x = packed w H c now f is p in (x.token, x.message, x.current, x.is, x.within);
  behind = λ w H c now f is p.
      let x = packed w H c now f is p in
      let s = sound w H is.answered.0 in
      let b = sent_within w H s in (
        x.held,
        elim x.none_waits [
          | inl o ↦ inl o
          | inr n ↦ inr (let a = past_end (accepted w H) (reached H) (none_at (accepted w H) (reached H) n) in omega (arith, a, b))
        ],
        all_acknowledged w H now is.answered.0 x.none_due,
      );
  overdue = λ w H c now f is late k a. overdue_goes_by w H now f is.answered.0 (frame_case w H now f is.answered.1) late k a;
  spaced = law.spaced;
  waits = law.waits;
}
