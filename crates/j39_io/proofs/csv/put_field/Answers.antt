-- The front and the rest, as they are or in quotes.
use Rattle.std.proofs.Common.{◌≡◌, ◌++◌, ◌∙◌, ap, ap₂, codes, sym}
use Rattle.std.specs.List.{flat_map, list_any}
use Rattle.j39_io.proofs.PutsLemmas.{puts_as, puts_first, puts_then}
use Rattle.j39_io.specs.Records.{is_special, quoted_byte}
use Rattle.j39_io.proofs.CsvLemmas.{plain_field, quoted_field}
use Rattle.j39_io.proofs.csv.put_field.Goals as goal

pub returns-in_err-put_all : goal.returns-in_err-put_all
returns-in_err-put_all g c =
    let rest = c.without_formula.ensures.rest in
    let is = ap₂ (λ a b. a ++ b) c.without_formula.ensures.front rest
    ∙ plain_field c.args.field.now (ap (list_any is_special) (sym rest) ∙ sym c.has_special.ensures ∙ c.if-has_special.false) in
    puts_as _ _ _ _ is (puts_first c.without_formula.result.0.now c.without_formula.result.1.now _ _ _ c.from_residual.ensures.0 c.in_err-put_all.ensures.puts)

pub returns-then-has_special : goal.returns-then-has_special
returns-then-has_special g c =
    let rest = c.without_formula.ensures.rest in
    let is = ap₂ (λ a b. codes "\"" ++ (a ++ (flat_map quoted_byte b ++ codes "\""))) c.without_formula.ensures.front rest
    ∙ quoted_field c.args.field.now (ap (list_any is_special) (sym rest) ∙ sym c.has_special.ensures ∙ c.if-has_special.true) in
    puts_as _ _ _ _ is c.put_quoted.ensures

pub returns-in_ok-put_all : goal.returns-in_ok-put_all
returns-in_ok-put_all g c =
    let rest = c.without_formula.ensures.rest in
    let is = ap₂ (λ a b. a ++ b) c.without_formula.ensures.front rest
    ∙ plain_field c.args.field.now (ap (list_any is_special) (sym rest) ∙ sym c.has_special.ensures ∙ c.if-has_special.false) in
    puts_as _ _ _ _ is (puts_then c.without_formula.result.0.now c.without_formula.result.1.now _ _ _ _ _ c.in_ok-put_all.ensures.puts c.put_all-else-has_special.ensures.puts)
