-- What stands behind the unit of the sides.
use Rattle.j39_reports.proofs.Common.{◌∙◌, Bor, List, Option, Some, arith, between_to_end, option_map, subst, sym, ℕ}
use Rattle.std.proofs.lemmas.Slice.Eq.{bytes_eq-Decides}
use Rattle.j39_reports.specs.SidesSoFar.{IsBehind}
use Rattle.j39_reports.proofs.sides.KnownSides.behind_of.Goals as goal

pub returns-then-eq : goal.returns-then-eq
returns-then-eq g c =
    subst (λ (unit : Option (Bor (List ℕ))). IsBehind g.F.SideForm.behind (option_map (λ text. text.now) unit) c.args.sides.now.behind) (sym c.in-Some.is)
    (subst (λ (unit : List ℕ). IsBehind g.F.SideForm.behind (Some unit) c.args.sides.now.behind)
    (sym ((bytes_eq-Decides c.in-Some.unit.now _).0 (sym c.if-eq.ensures) ∙ between_to_end c.args.sides.now.unit c.args.sides.now.unit_from 16 (omega arith)))
    c.requires.is_behind)
