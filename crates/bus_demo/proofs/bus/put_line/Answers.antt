-- The line, and its end.
use Rattle.std.proofs.Common.{◌∷◌, ◌∙◌, []}
use Rattle.j39_io.specs.Chars.{newline}
use Rattle.j39_io.proofs.PutsLemmas.{puts_as, puts_first, puts_then}
use Rattle.bus_demo.proofs.bus.put_line.Goals as goal

pub returns-in_err-put_all : goal.returns-in_err-put_all
returns-in_err-put_all g c =
    puts_first _ (newline ∷ []) _ _ _ c.from_residual.ensures.0 (puts_as _ _ _ _ (c.as_slice.ensures.value ∙ c.line_of.ensures.text) c.in_err-put_all.ensures.puts)

pub returns : goal.returns
returns g c =
    puts_then _ (newline ∷ []) _ _ _ _ _ (puts_as _ _ _ _ (c.as_slice.ensures.value ∙ c.line_of.ensures.text) c.in_ok-put_all.ensures.puts) c.put_all-2.ensures.puts
