use Rattle.j39_survey.proofs.Common.{◌≤◌, ◌∙◌, ap, length, arith, bytes_eq}
use Rattle.std.specs.List.{position}
use Rattle.j39_survey.specs.declared.surveys.interfaces.InterfaceCounts.{InterfaceCounts}
use Rattle.j39_survey.proofs.InterfaceLemmas.{placed_at}
use Rattle.j39_survey.proofs.surveys.interfaces.Interfaces.place_and_add.Goals as goal

pub returns-clause-placed : goal.returns-clause-placed
returns-clause-placed c =
    let told = c.add.new.self.told.items in
    let fits : length told ≤ 16 = omega (arith, ap length c.as_slice.ensures.value, c.as_slice.ensures.fits) in
    let found = c.place_of.ensures ∙ ap (position (λ (i : InterfaceCounts). bytes_eq i.name.items c.args.name.now)) c.as_slice.ensures.value in
    rw c.unwrap_or-self.ensures (placed_at told c.args.name.now c.place_of.result found fits)
