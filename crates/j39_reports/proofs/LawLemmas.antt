-- The least and the most of a row.
use Rattle.j39_reports.proofs.Common.{◌∷◌, List, refl, IfSome, fold, int_max, int_min, fold-int_max_bounds, fold-int_max_reached, fold-int_min_bounds, fold-int_min_reached}
use Rattle.j39_reports.specs.Bounds.{IsLeast, IsMost}
use Rattle.j39_reports.specs.Summary.{Number, comparable_with, range_of}

pub least_bounds : (n : Number) (ms : List Number) → IfSome (range_of (n ∷ ms)) (λ range. IsLeast n.value (comparable_with n ms) range.least)
unfolding range_of
least_bounds n ms =
    let b = fold-int_min_bounds n.value (comparable_with n ms) (fold int_min n.value (comparable_with n ms)) refl in
    record { below_first = b.0; below = b.1; among = fold-int_min_reached n.value (comparable_with n ms) (fold int_min n.value (comparable_with n ms)) refl }

pub most_bounds : (n : Number) (ms : List Number) → IfSome (range_of (n ∷ ms)) (λ range. IsMost n.value (comparable_with n ms) range.most)
unfolding range_of
most_bounds n ms =
    let b = fold-int_max_bounds n.value (comparable_with n ms) (fold int_max n.value (comparable_with n ms)) refl in
    record { above_first = b.0; above = b.1; among = fold-int_max_reached n.value (comparable_with n ms) (fold int_max n.value (comparable_with n ms)) refl }
