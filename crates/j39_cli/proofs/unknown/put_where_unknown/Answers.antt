-- The line of a parameter that no row has.
use Rattle.j39_cli.proofs.Common.{◌∙◌, ap, codes, sym, cond-false, puts_as}
use Rattle.j39_cli.specs.Refusal.{error_line}
use Rattle.j39_cli.proofs.unknown.put_where_unknown.Goals as goal

pub returns-else-has_row : goal.returns-else-has_row
returns-else-has_row g c =
    puts_as _ _ _ _ (ap (error_line (codes "no row has SPN ")) (c.as_slice.ensures.value ∙ c.decimal_of.ensures)
    ∙ sym (cond-false _ _ _ (sym c.has_row.ensures ∙ c.if-has_row.false))) c.put_line.ensures
