use Rattle.std.proofs.Common.{◌∙◌, ap, map, Ok}
use Rattle.std.specs.List.{range_with_len}
use Rattle.j39_log.specs.Lanes.{pair_at}
use Rattle.j39_log.proofs.LaneLemmas.{decoded_16}
use Rattle.j39_log.proofs.fast.form.values_of.Goals as goal

pub returns-clause-digits : goal.returns-clause-digits
returns-clause-digits c = λ small.
    decoded_16 c.args.digits.now c.hex_values.result c.told-digits c.fits-digits c.hex_values.ensures small
    ∙ ap (λ v. Ok (map (pair_at 16 v) (range_with_len 0 8))) c.hex_values.ensures
