-- A number of 32 bits has ten digits at most.
use Rattle.std.proofs.Common.{◌≡◌, ℕ, List, ◌≤◌, ◌∷◌, ◌++◌, [], arith, rules, length}
use Rattle.j39_io.proofs.PutsLemmas.{puts_as, puts_first, puts_more, puts_then}
use Rattle.j39_groups.specs.Models.{value_of}
use Rattle.j39_groups.specs.ValueText.{value_text}
use Rattle.std.specs.Fmt.{decimal}
use Rattle.std.proofs.lemmas.Fmt.{length-decimal-le}
use Rattle.j39_groups.proofs.lines.put_reading.Goals as goal

pub push_number-requires : goal.push_number-requires
push_number-requires g c =
    let short : length (decimal c.from.result) ≤ 10 = length-decimal-le 10 c.from.result (omega arith) (omega arith) (omega arith) in
    search rules

pub push-requires : goal.push-requires
push-requires g c =
    let short : length (decimal c.from.result) ≤ 10 = length-decimal-le 10 c.from.result (omega arith) (omega arith) (omega arith) in
    search rules

-- what stands before the value
abbrev columns : List ℕ → ℕ → List ℕ
columns head spn = (head ++ decimal spn) ++ (32 ∷ [])

pub returns-in_err-put_all : goal.returns-in_err-put_all
returns-in_err-put_all g c =
    let value = value_text (value_of c.args.reading.now.value) in
    let line : c.as_slice.result.now ≡ columns c.args.head.now c.args.reading.now.spn = search rules in
    puts_first _ (10 ∷ []) _ _ _ c.from_residual.ensures.0 (puts_more _ value _ _ (puts_as _ _ _ _ line c.in_err-put_all.ensures.puts))

pub returns-in_err-put_value : goal.returns-in_err-put_value
returns-in_err-put_value g c =
    let line : c.as_slice.result.now ≡ columns c.args.head.now c.args.reading.now.spn = search rules in
    puts_first _ (10 ∷ []) _ _ _ c.from_residual-in_err-put_value.ensures.0
    (puts_then (columns c.args.head.now c.args.reading.now.spn) _ _ _ _ _ _ (puts_as _ _ _ _ line c.in_ok-put_all.ensures.puts) c.in_err-put_value.ensures)

pub returns : goal.returns
returns g c =
    let line : c.as_slice.result.now ≡ columns c.args.head.now c.args.reading.now.spn = search rules in
    puts_then _ (10 ∷ []) _ _ _ _ _ (puts_then _ _ _ _ _ _ _ (puts_as _ _ _ _ line c.in_ok-put_all.ensures.puts) c.in_ok-put_value.ensures)
    c.put_all-2.ensures.puts
