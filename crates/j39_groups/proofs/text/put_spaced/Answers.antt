-- The parts joined are the text.
use Rattle.std.proofs.Common.{sym}
use Rattle.std.specs.Prelude.{codes}
use Rattle.j39_io.proofs.PutsLemmas.{puts_as}
use Rattle.j39_groups.proofs.TextLemmas.{spaced_joined}
use Rattle.j39_groups.proofs.text.put_spaced.Goals as goal

pub returns : goal.returns
returns g c = puts_as _ _ _ _ (sym (spaced_joined c.args.text.now (codes " ") c.args.unit.now)) c.put_parts.ensures
