-- A quote, the front, the bytes and a quote, one after another.
use Rattle.std.proofs.Common.{◌++◌, ap₂, codes, List, ℕ}
use Rattle.std.specs.List.{flat_map}
use Rattle.j39_io.proofs.PutsLemmas.{puts_as, puts_first, puts_then}
use Rattle.j39_groups.specs.ValueText.{byte_text}
use Rattle.j39_groups.proofs.bare.put_text.Goals as goal

-- what is written, of a front and what is behind it
abbrev all_of : List ℕ → List ℕ → List ℕ
all_of front rest = codes "\"" ++ (front ++ (flat_map byte_text rest ++ codes "\""))

pub returns-in_err-put_all : goal.returns-in_err-put_all
returns-in_err-put_all g c =
    let front = c.without_formula.result.0.now in let rest = flat_map byte_text c.without_formula.result.1.now in
    puts_as _ _ _ _ (ap₂ all_of c.without_formula.ensures.front c.without_formula.ensures.rest)
    (puts_first (codes "\"") (front ++ (rest ++ codes "\"")) _ _ _ c.from_residual.ensures.0 c.in_err-put_all.ensures.puts)

pub returns-in_err-put_all-2 : goal.returns-in_err-put_all-2
returns-in_err-put_all-2 g c =
    let front = c.without_formula.result.0.now in let rest = flat_map byte_text c.without_formula.result.1.now in
    puts_as _ _ _ _ (ap₂ all_of c.without_formula.ensures.front c.without_formula.ensures.rest)
    (puts_then (codes "\"") (front ++ (rest ++ codes "\"")) _ _ _ _ _ c.in_ok-put_all.ensures.puts
    (puts_first front (rest ++ codes "\"") _ _ _ c.from_residual-in_err-put_all-2.ensures.0 c.in_err-put_all-2.ensures.puts))

pub returns-in_err-put_escaped : goal.returns-in_err-put_escaped
returns-in_err-put_escaped g c =
    let front = c.without_formula.result.0.now in let rest = flat_map byte_text c.without_formula.result.1.now in
    puts_as _ _ _ _ (ap₂ all_of c.without_formula.ensures.front c.without_formula.ensures.rest)
    (puts_then (codes "\"") (front ++ (rest ++ codes "\"")) _ _ _ _ _ c.in_ok-put_all.ensures.puts
    (puts_then front (rest ++ codes "\"") _ _ _ _ _ c.in_ok-put_all-2.ensures.puts
    (puts_first rest (codes "\"") _ _ _ c.from_residual-in_err-put_escaped.ensures.0 c.in_err-put_escaped.ensures)))

pub returns : goal.returns
returns g c =
    let front = c.without_formula.result.0.now in let rest = flat_map byte_text c.without_formula.result.1.now in
    puts_as _ _ _ _ (ap₂ all_of c.without_formula.ensures.front c.without_formula.ensures.rest)
    (puts_then (codes "\"") (front ++ (rest ++ codes "\"")) _ _ _ _ _ c.in_ok-put_all.ensures.puts
    (puts_then front (rest ++ codes "\"") _ _ _ _ _ c.in_ok-put_all-2.ensures.puts
    (puts_then rest (codes "\"") _ _ _ _ _ c.in_ok-put_escaped.ensures c.put_all-3.ensures.puts)))
