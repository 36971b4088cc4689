-- None is here.
use Rattle.j39_reports.proofs.Common.{◌∙◌, ap, sym, true≢false}
use Rattle.std.proofs.lemmas.List.{get_or-replicate}
use Rattle.j39_reports.specs.declared.sides.GroupSide.{GroupSide}
use Rattle.j39_reports.specs.declared.sides.Sides.{Sides}
use Rattle.j39_reports.proofs.sides.KnownSides.new.Goals as goal

pub invariant_of-result : goal.invariant_of-result
invariant_of-result g c = record {
  sound = λ place d below ready.
      absurd (true≢false (sym ready ∙ ap (λ (s : Sides). s.is_ready) (get_or-replicate 256 place c.none.result d below) ∙ c.none.ensures));
  unitless_sound = c.of.ensures;
  groups_sound = λ place d below ready.
      absurd (true≢false (sym ready ∙ ap (λ (s : GroupSide). s.is_ready) (get_or-replicate 64 place c.none-2.result d below) ∙ c.none-2.ensures));
}
