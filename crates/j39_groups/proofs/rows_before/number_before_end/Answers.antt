-- The sign, the magnitude and the end.
use Rattle.std.proofs.Common.{subst}
use Rattle.std.specs.Fmt.{sign_text}
use Rattle.j39_io.specs.Backwards.{WritesBefore}
use Rattle.j39_io.proofs.BackwardsLemmas.{before_then}
use Rattle.j39_groups.specs.Ready.{short_text}
use Rattle.j39_groups.specs.ValueText.{magnitude_text}
use Rattle.j39_groups.proofs.ReadyLemmas.{three}
use Rattle.j39_groups.proofs.rows_before.number_before_end.Goals as goal

pub returns-clause-written : goal.returns-clause-written
returns-clause-written c =
    subst (WritesBefore c.args.out.now c.sign_before.new.out c.args.end c.sign_before.result)
    (three (sign_text c.args.is_negative) (magnitude_text c.args.ending.now.places c.args.magnitude) (short_text c.args.ending.now.text))
    (before_then _ _ _ _ _ _ _ _ (before_then _ _ _ _ _ _ _ _ c.short_before-unit.ensures.written c.magnitude_before-digits.ensures.written) c.sign_before.ensures.written)
