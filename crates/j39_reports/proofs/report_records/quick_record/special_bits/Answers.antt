-- No bit of any of the four is set.
use Rattle.std.proofs.Common.{◌∙◌, sym}
use Rattle.j39_reports.proofs.QuoteLemmas.{no_bit, none_special}
use Rattle.j39_reports.proofs.report_records.quick_record.special_bits.Goals as goal

pub returns : goal.returns
returns c = λ none.
    let zero = no_bit c.bits_of-commas.result c.bits_of-quotes.result c.bits_of-carriage_returns.result c.bits_of-newlines.result none in
    none_special c.args.block.now (sym c.bits_of-commas.ensures ∙ zero.0) (sym c.bits_of-quotes.ensures ∙ zero.1)
    (sym c.bits_of-carriage_returns.ensures ∙ zero.2) (sym c.bits_of-newlines.ensures ∙ zero.3)
