-- Where the fields can be composed, they are.
use Rattle.std.proofs.Common.{sym, subst}
use Rattle.j39_frame.specs.Identifier.{CanCompose}
use Rattle.j39_c.proofs.fields.j39_id_compose.Goals as goal

pub returns-in_default-compose-clause-composed : goal.returns-in_default-compose-clause-composed
returns-in_default-compose-clause-composed c = λ can.
    let known = c.in_default-compose.ensures.known.1 (subst (CanCompose c.args.fields.now.priority) (sym c.in-Some.ensures.value) can.parts) in absurd (cc)
