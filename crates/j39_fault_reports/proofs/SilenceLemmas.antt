-- The stamp of the last frame between the moments.
use Rattle.j39_fault_reports.proofs.Common.{◌≡◌, ◌∙◌, ◌++◌, ◌∷◌, [], Bool, true, false, List, Some, None, ap, append-nil, filter, refl, sym, cond-true, cond-false, filter-append, last_or, FrameRecord, FilterRecord, first_stamp, is_in_time}
use Rattle.std.specs.Option.{option_map}
use Rattle.j39_fault_reports.specs.Silence.{last_stamp}
use Rattle.j39_fault_reports.proofs.TellLemmas.{last_or-push}

pub no_frames : (which : FilterRecord) → None ≡ last_stamp which []
unfolding last_stamp
no_frames which = refl

module _ (which : FilterRecord) (F : List FrameRecord) (f : FrameRecord) where
  abbrev is_timely : FrameRecord → Bool
  is_timely g = is_in_time which (first_stamp (F ++ f ∷ [])) g.stamp

  -- with a frame more the first is the same
  same : (G : List FrameRecord) → filter (λ (g : FrameRecord). is_in_time which (first_stamp G) g.stamp) G ≡ filter (λ (g : FrameRecord). is_in_time which (first_stamp (G ++ f ∷ [])) g.stamp) G
  same [] = refl
  same (x ∷ G) = refl

  pub last_now : is_timely f ≡ true → Some f.stamp ≡ last_stamp which (F ++ f ∷ [])
  unfolding last_stamp
  last_now is = sym (ap (λ xs. option_map (λ (g : FrameRecord). g.stamp) (last_or None xs)) (filter-append is_timely F (f ∷ []) ∙ ap (λ xs. filter is_timely F ++ xs) (cond-true _ _ _ is))
      ∙ ap (option_map (λ (g : FrameRecord). g.stamp)) (last_or-push None (filter is_timely F) f))

  pub last_before : is_timely f ≡ false → last_stamp which F ≡ last_stamp which (F ++ f ∷ [])
  unfolding last_stamp
  last_before isnt = ap (λ xs. option_map (λ (g : FrameRecord). g.stamp) (last_or None xs))
      (same F ∙ sym (filter-append is_timely F (f ∷ []) ∙ ap (λ xs. filter is_timely F ++ xs) (cond-false _ _ _ isnt) ∙ append-nil (filter is_timely F)))
