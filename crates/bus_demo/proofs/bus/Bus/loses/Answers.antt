-- The number is sought in the list.
use Rattle.std.proofs.Common.{◌∙◌, nat_eq}
use Rattle.std.proofs.lemmas.Bool.Decides.{Decides-eqb}
use Rattle.std.proofs.lemmas.List.{get_or_default}
use Rattle.std.proofs.lemmas.List.Elements.{contains_decides}
use Rattle.bus_demo.proofs.bus.Bus.loses.Goals as goal

pub returns : goal.returns
returns c =
    let lose = c.args.self.now.lose.now in
    let number = c.args.self.now.frames in
    let decides = contains_decides nat_eq Decides-eqb lose number c.contains.result c.contains.ensures.cases in (
      (λ yes. let at = decides.0 yes in (at.0, at.1, at.2 number)),
      (λ found. decides.1 (found.0, found.1, (λ other. get_or_default lose found.0 other number found.1 ∙ found.2))),
    )
