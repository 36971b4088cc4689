-- Behind a moment there is one silence more, and behind none there is none.
use Rattle.std.proofs.Common.{◌≡◌, ◌∙◌, ◌++◌, ◌-◌, ◌∷◌, [], ℕ, List, ap, arith, sym}
use Rattle.std.specs.Prelude.{option_map}
use Rattle.j39_frame.specs.Stamp.{stamp_micros}
use Rattle.j39_survey.specs.GroupCounts.{silences_in, spread_of}
use Rattle.j39_survey.specs.SurveyModels.{spread_record}
use Rattle.j39_survey.specs.declared.surveys.distances.Distances.{Distances}
use Rattle.j39_survey.proofs.GroupLemmas.{last-more, silences-first, silences-more}
use Rattle.j39_survey.proofs.surveys.distances.Distances.add.Goals.{in-Some, in_default}
use Rattle.j39_survey.proofs.surveys.distances.Distances.add.Goals as goal

pub returns : goal.returns
returns c = λ moments h.
    let moment = stamp_micros c.args.moment in
    let spread : option_map spread_record c.match-self.self.spread ≡ spread_of (silences_in (moments ++ moment ∷ [])) =
    elim c.match-self.branch [
      | in-Some w ↦
          let since = stamp_micros w.in-Some.since in
          let length : w.saturating_sub-length.result ≡ moment - since = omega (arith, w.micros.ensures.value, w.micros-in-Some.ensures.value) in
          ap (λ (d : Distances). option_map spread_record d.spread) w.self-is
          ∙ w.grow.ensures (silences_in moments) h.spread_is
          ∙ ap (λ n. spread_of (silences_in moments ++ record { since = since; length = n } ∷ [])) length
          ∙ ap spread_of (sym (silences-more moments since moment (ap (option_map stamp_micros) (sym w.in-Some.is) ∙ h.last_is)))
      | in_default w ↦
          let first = silences-first moments moment (ap (option_map stamp_micros) (sym w.in_default.is) ∙ h.last_is) in
          ap (λ (d : Distances). option_map spread_record d.spread) w.self-is
          ∙ h.spread_is ∙ ap (λ (xs : List ℕ). spread_of (silences_in xs)) first.0 ∙ ap spread_of (sym first.1)
    ] in
    record { last_is = sym (last-more moments moment); spread_is = spread }
