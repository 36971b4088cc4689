-- What are no digits is no NAME.
use Rattle.j39_cli.proofs.DigitLemmas.{sixteen_digits}
use Rattle.j39_cli.proofs.conversions.named_of.Goals as goal

pub returns-in-None : goal.returns-in-None
returns-in-None c = λ named. c.in-None.ensures (named.0.0, sixteen_digits c.args.name.now named.0.0 named.0.1)
