-- The first row of a parameter, row by row.
use Rattle.std.proofs.Common.{◌≡◌, ◌≢◌, ◌∙◌, ◌==◌, ◌+◌, ◌<◌, ◌≤◌, ℕ, suc, List, ◌∷◌, Some, None, ap, arith, drop, drop-cons, length, map, option_map, slice_index_or}
use Rattle.std.proofs.lemmas.Bool.{cond-true, cond-false, eq-eqb, ne_eqb}
use Rattle.std.specs.List.{find}
use Rattle.std.proofs.Math.ListN.{drop_of_length-le}
use Rattle.j39_groups.specs.Names.{parameter_name}
use Rattle.j39_groups.specs.Row.{RowRecord}
use Rattle.j39_groups.specs.States.{called}

module _ {X : Type 0} (f : X → RowRecord) (rows : List X) (spn i : ℕ) where
  -- no row before place i is the parameter's
  abbrev pub IsNamedFrom : Type 0
  IsNamedFrom = parameter_name (map f rows) spn ≡ parameter_name (map f (drop i rows)) spn

  pub named_here : (d r : X) → i < length rows → slice_index_or rows i d ≡ r → IsNamedFrom → (f r).spn ≡ spn
      → parameter_name (map f rows) spn ≡ Some (called (f r).name)
  unfolding parameter_name
  named_here d r l at from is = from
      ∙ ap (λ xs. option_map (λ (row : RowRecord). called row.name) (find (λ (row : RowRecord). row.spn == spn) (map f xs))) (drop-cons rows i d l)
      ∙ ap (λ x. option_map (λ (row : RowRecord). called row.name) (find (λ (row : RowRecord). row.spn == spn) (f x ∷ map f (drop (suc i) rows)))) at
      ∙ ap (option_map (λ (row : RowRecord). called row.name)) (cond-true _ _ _ (eq-eqb (f r).spn spn is))

  pub named_later : (d r : X) → i < length rows → slice_index_or rows i d ≡ r → IsNamedFrom → (f r).spn ≢ spn
      → parameter_name (map f rows) spn ≡ parameter_name (map f (drop (i + 1) rows)) spn
  unfolding parameter_name
  named_later d r l at from other =
      let next : suc i ≡ i + 1 = omega arith in
      from
      ∙ ap (λ xs. option_map (λ (row : RowRecord). called row.name) (find (λ (row : RowRecord). row.spn == spn) (map f xs))) (drop-cons rows i d l)
      ∙ ap (λ x. option_map (λ (row : RowRecord). called row.name) (find (λ (row : RowRecord). row.spn == spn) (f x ∷ map f (drop (suc i) rows)))) at
      ∙ ap (option_map (λ (row : RowRecord). called row.name)) (cond-false _ _ _ (ne_eqb (f r).spn spn other)) ∙ ap (λ n. parameter_name (map f (drop n rows)) spn) next

  pub named_nowhere : length rows ≤ i → IsNamedFrom → parameter_name (map f rows) spn ≡ None
  unfolding parameter_name
  named_nowhere l from = from ∙ ap (λ xs. parameter_name (map f xs) spn) (drop_of_length-le rows l)
