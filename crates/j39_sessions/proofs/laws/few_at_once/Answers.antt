use Rattle.j39_sessions.proofs.Common.{after, All, ap, Bool, None, of, Option, option_map, ReceptionRecord, refl, Session, session_by, Some, source_of, step_at, subst, sym, ℕ, ◌∙◌, ◌≡◌, ◌≤◌}
use Rattle.j39_sessions.proofs.BringLemmas.{session_said}
use Rattle.j39_sessions.proofs.HandedLemmas.{all_few, Fewer}
use Rattle.j39_sessions.proofs.LawLemmas.{of_from, of_its, own_is}
use Rattle.j39_sessions.proofs.SourceLemmas.{asked_step, grants_few}
use Rattle.j39_sessions.proofs.laws.few_at_once.Goals as goal

of_some : (since : ℕ) (name : Option ℕ) (r : Option ReceptionRecord) (x : Session) → option_map (session_by since name) r ≡ Some x → r ≡ Some x.reception
of_some since name None x e = absurd (cc)
of_some since name (Some r) x e = let z : session_by since name r ≡ x = cc in ap (λ (y : Session). Some y.reception) z

pub returns : goal.returns
returns c = record {
  most = all_few;
  asked = λ own most boxes now size packets asked pgn name f E x says l room e.
      let o = of (source_of f.id) (after own most boxes E).sessions in
      asked_step own most f now o size packets asked pgn x.reception says l (of_from (source_of f.id) (after own most boxes E).sessions)
      (ap (λ (b : Bool). (step_at own most b f now o).after.session) (sym room) ∙ of_some _ _ _ x (sym (of_its own most boxes now name f E o (session_said own f _ says) refl) ∙ e));
  grants = λ own most boxes now n f E y l e b d.
      let m = (own_is own most boxes E).2 in
      subst (λ k. n ≤ k) m (grants_few (after own most boxes E) f now n y (subst (λ k. 1 ≤ k) (sym m) l) (subst (λ k. All (Fewer k) (after own most boxes E).sessions) (sym m) (all_few own most boxes E l)) e b d);
}
