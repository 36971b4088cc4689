use Rattle.j39_node.proofs.LawLemmas.{double_is, news_case, no_news}
use Rattle.j39_node.proofs.Common.{Bool, Claim, Option, [], ap, double, doubled_news, eq-eqb, if◌then◌else◌, is_double, option_or, refl, told_claims, ℕ, ◌++◌, ◌∙◌, ◌∷◌}
use Rattle.j39_node.proofs.LawLemmas as law
use Rattle.j39_node.proofs.laws.news.Goals as goal

pub returns : goal.returns
returns c = record {
  none = λ w H c is. no_news _ _ _ _ is.answered.1;
  told = λ w H c n is. news_case _ _ _ _ n is.answered.1;
  doubled = λ w H now f a e.
      let c : Claim = record {
        name = w.name;
        address = a;
      } in
      let d = double_is w c (eq-eqb w.name w.name refl) in (
        (λ i. option_or (double w (e i)) (doubled_news w H)) ∙ ap (λ (o : Option ℕ). option_or o (doubled_news w H)) d.0,
        (λ i. if is_double w (e i) then told_claims w H else told_claims w H ++ f ∷ []) ∙ ap (λ (b : Bool). if b then told_claims w H else told_claims w H ++ f ∷ []) d.1,
      );
  claimed = law.double_claimed;
  lost = law.lost_is_lost;
  missed = law.some_missed;
}
