use Rattle.j39_node.proofs.SoundLemmas.{renew_case, sound}
use Rattle.j39_node.proofs.RenewLemmas.{none_past, set_here, set_other}
use Rattle.j39_node.proofs.Common.{Bool, Message, None, Option, Some, accepted, ap, arith, if◌then◌else◌, latest, length, max, message_from, reached, slice_get, sym, told, ℕ, ◌-◌, ◌∙◌, ◌≡◌}
use Rattle.j39_node.proofs.LawLemmas as law
use Rattle.j39_node.proofs.laws.renew_means.Goals as goal

pub returns : goal.returns
returns c = record {
  renewed = λ w H c d k is.
      let at = (renew_case w H d k is.answered.1).at in
      let e : slice_get (accepted w H) k ≡ Some at.entry = ap (slice_get (accepted w H)) (let y : k ≡ k - 0 = omega arith in y) ∙ at.is in
      let n : at.entry.0 ≡ k = (sound w H is.answered.0).numbered k at.entry e in
      let l = at.from in (
        at.entry.1,
        e ∙ ap (λ (i : ℕ). (let z : Option (ℕ × Message) = Some (i, at.entry.1) in z)) n,
        at.alike,
        omega (arith, l),
        omega (arith, l),
        set_here (accepted w H) k at.entry (k, message_from w d) e,
      );
  newest = law.newest;
  others = λ w H d k j n. set_other (accepted w H) k j (k, message_from w d) n;
  none = λ w H c d j m is can s t e.
      none_past (message_from w d) _ j (accepted w H) None (j, m)
      (sym (is.answered.1 ∙ ap (λ (b : Bool). if b then latest (message_from w d) (max (reached H) (length (told H))) 0 (accepted w H) None else None) can))
      e (omega (arith, s, t)) (λ i z. absurd (cc));
}
