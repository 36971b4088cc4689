-- No bit of any of the four is set.
use Rattle.std.proofs.Common.{◌∙◌, sym}
use Rattle.j39_reports.proofs.JsonLemmas.{none_marked}
use Rattle.j39_reports.proofs.QuoteLemmas.{no_bit}
use Rattle.j39_reports.proofs.json.marked_bits.Goals as goal

pub returns : goal.returns
returns c = λ none.
    let zero = no_bit c.bits_below-below.result c.bits_above-above.result c.bits_of-quotes.result c.bits_of-backslashes.result none in
    none_marked c.args.block.now (sym c.bits_below-below.ensures ∙ zero.0) (sym c.bits_above-above.ensures ∙ zero.1)
    (sym c.bits_of-quotes.ensures ∙ zero.2) (sym c.bits_of-backslashes.ensures ∙ zero.3)
