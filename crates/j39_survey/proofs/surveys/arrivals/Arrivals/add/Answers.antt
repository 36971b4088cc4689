-- Its source and its stamp are one more.
use Rattle.j39_survey.proofs.Common.{◌≡◌, ◌+◌, ◌++◌, ◌∷◌, ◌∙◌, [], ℕ, ap, sym, subst, map, length, arith, map-append, FrameRecord, capped}
use Rattle.j39_frame.specs.Identifier.{source_of}
use Rattle.j39_survey.specs.SurveyModels.{HaveMeasured, HaveSent}
use Rattle.std.proofs.lemmas.List.{length_push}
use Rattle.j39_listen.proofs.CountLemmas.{capped_more}
use Rattle.j39_survey.proofs.surveys.arrivals.Arrivals.add.Goals as goal

pub returns : goal.returns
returns c = λ frames f id moment h.
    let more : c.saturating_add-self.result ≡ capped (c.args.self.now.count + 1) = omega arith in
    let source : c.source.result ≡ source_of f.id = c.source.ensures ∙ ap source_of (sym id) in
    let stamp = sym moment in
    record {
      count_is = more ∙ capped_more c.args.self.now.count (length frames) h.count_is ∙ ap capped (sym (length_push frames f));
      senders_are = subst (HaveSent c.add.new.self) (ap (λ (x : ℕ). map (λ (g : FrameRecord). source_of g.id) frames ++ x ∷ []) source ∙ sym (map-append (λ (g : FrameRecord). source_of g.id) frames (f ∷ [])))
          (c.add.ensures (map (λ (g : FrameRecord). source_of g.id) frames) h.senders_are);
      distances_are = subst (HaveMeasured c.add-2.new.self) (ap (λ (x : ℕ). map (λ (g : FrameRecord). g.stamp) frames ++ x ∷ []) stamp ∙ sym (map-append (λ (g : FrameRecord). g.stamp) frames (f ∷ [])))
          (c.add-2.ensures (map (λ (g : FrameRecord). g.stamp) frames) h.distances_are);
    }
