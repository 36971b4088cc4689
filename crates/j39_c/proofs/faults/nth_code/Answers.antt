use Rattle.std.proofs.Common.{◌≡◌, ◌∙◌, Option, Some, None, option_map, refl, sym}
use Rattle.std.proofs.lemmas.Iterator.Consumers.{nth_from_yields_List, YieldsList-from_first}
use Rattle.j39_faults.specs.CodesLeft.{codes_left}
use Rattle.j39_c.proofs.faults.nth_code.Goals as goal

as_it_is : {A : Type 0} (found : Option A) → option_map (λ x. x) found ≡ found
as_it_is None = refl
as_it_is (Some x) = refl

pub returns : goal.returns
returns c =
    sym (as_it_is c.nth.result)
    ∙ nth_from_yields_List _ _ _ c.nth.ensures.ran (YieldsList-from_first (λ x. x) codes_left _ c.codes_of.ensures)
