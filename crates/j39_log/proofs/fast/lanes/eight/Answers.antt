use Rattle.std.proofs.Common.{◌∙◌, ap, sym, Ok}
use Rattle.std.proofs.lemmas.Bool.{OnTrue_at}
use Rattle.j39_log.proofs.LaneLemmas.{decoded_16}
use Rattle.j39_log.proofs.fast.lanes.eight.Goals as goal

pub returns : goal.returns
returns c =
    decoded_16 c.args.digits.now c.hex_values-value.result c.told-digits c.fits-digits c.hex_values-value.ensures (OnTrue_at c.if-not-are_below.false c.are_below.ensures.so) ∙ ap Ok (sym c.pairs.ensures)
