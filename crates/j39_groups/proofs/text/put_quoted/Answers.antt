-- The quote, the bytes and the quote, one after another.
use Rattle.std.proofs.Common.{◌∷◌, ◌++◌, []}
use Rattle.std.specs.List.{flat_map}
use Rattle.j39_io.proofs.PutsLemmas.{puts_first, puts_then}
use Rattle.j39_groups.specs.ValueText.{byte_text}
use Rattle.j39_groups.proofs.text.put_quoted.Goals as goal

pub returns-in_err-put_all : goal.returns-in_err-put_all
returns-in_err-put_all g c =
    puts_first (34 ∷ []) (flat_map byte_text c.args.text.now ++ (34 ∷ [])) _ _ _ c.from_residual.ensures.0 c.in_err-put_all.ensures.puts

pub returns-in_err-put_escaped : goal.returns-in_err-put_escaped
returns-in_err-put_escaped g c =
    puts_then (34 ∷ []) (flat_map byte_text c.args.text.now ++ (34 ∷ [])) _ _ _ _ _ c.in_ok-put_all.ensures.puts
    (puts_first (flat_map byte_text c.args.text.now) (34 ∷ []) _ _ _ c.from_residual-in_err-put_escaped.ensures.0 c.in_err-put_escaped.ensures)

pub returns : goal.returns
returns g c =
    puts_then (34 ∷ []) (flat_map byte_text c.args.text.now ++ (34 ∷ [])) _ _ _ _ _ c.in_ok-put_all.ensures.puts
    (puts_then (flat_map byte_text c.args.text.now) (34 ∷ []) _ _ _ _ _ c.in_ok-put_escaped.ensures c.put_all-2.ensures.puts)
